use Rattle.std.proofs.Common.{◌∙◌}
use Rattle.candidates.proofs.FormParts.{in_form_by_policies}
use Rattle.candidates.proofs.Gathered.{writes_gathered}
use Rattle.candidates.proofs.gathering.gathered.Goals as goal

pub returns-in-None : goal.returns-in-None
returns-in-None c =
    in_form_by_policies c.args.tx.now c.requires ∙ (rw c.in-None.is at c.in_ok-single_writes.ensures)

pub returns-in-Some : goal.returns-in-Some
returns-in-Some c =
    let found = rw c.in-Some.is at c.in_ok-single_writes.ensures in
    let moved = rw found.1 at c.in_order.ensures.moved in
    record {
      in_form = in_form_by_policies c.args.tx.now c.requires ∙ found.0;
      writes = rw c.joined.ensures (writes_gathered c.args.tx.now c.in_order.result.items c.requires moved c.in_order.ensures.sorted);
    }
