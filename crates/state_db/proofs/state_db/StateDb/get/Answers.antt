use Rattle.std.proofs.Common.{ap, sym, ◌∙◌}
use Rattle.std.specs.FinMap.{get, find, get-from_sorted}
use Rattle.rules.specs.State.{StateKey, key_cmp}
use Rattle.state_db.specs.Pages.{PagedState, joined}
use Rattle.state_db.proofs.Tests.{told}
use Rattle.state_db.proofs.state_db.StateDb.get.Goals as goal

pub returns : goal.returns
returns c =
    let k : StateKey = (c.args.namespace.now, c.args.key.now) in
    let es = joined c.self.inside.pages.items in
    c.row_of.ensures
    ∙ (λ i. find key_cmp (c.new-wanted.ensures i) (joined (c.as_slice-2.ensures.value i)))
    ∙ (λ i. find key_cmp (c.args.namespace.now, c.as_slice.ensures.value i) es)
    ∙ sym (get-from_sorted key_cmp es k (told _ c.self.invariant.0.0))
    ∙ ap (λ (s : PagedState). get s.state k) c.self.view_is
