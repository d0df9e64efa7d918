use Rattle.std.proofs.Common.{◌≡◌, ◌++◌, Some, sym, ap, subst, ◌∙◌}
use Rattle.std.specs.Prelude.{option_to_list, is_some}
use Rattle.std.specs.FinMap.{get}
use Rattle.rules.specs.Candidate.{is_used}
use Rattle.txid_index.specs.SameIds.{HaveSameIds}
use Rattle.txid_index.proofs.Marking.{or_first, or_second, used_there, same_with}
use Rattle.txid_index.proofs.marks.mark.Goals as goal

pub returns-then-is_used-clause-used : goal.returns-then-is_used-clause-used
returns-then-is_used-clause-used c =
    or_first c.is_some-is_used.result _ c.if-is_used.true
    ∙ used_there c.args.before.now.uses c.args.earlier.now.keys c.new.result c.is_some-is_used.result c.in_ok-is_new.is_new
    (c.is_some-is_used.ensures ∙ ap is_some (c.first_use.ensures ∙ ap (get c.args.before.now.uses) (sym c.new.ensures))) c.in_ok-is_new.ensures.added
    ∙ ap (is_used c.args.before.now.uses c.args.earlier.now.keys) (ap Some c.new.ensures ∙ sym c.in-Some.is)

pub returns-then-is_used-clause-earlier : goal.returns-then-is_used-clause-earlier
returns-then-is_used-clause-earlier c =
    subst (λ id. HaveSameIds (c.args.earlier.now.keys ++ option_to_list id) c.insert.new.self.keys) (ap Some c.new.ensures ∙ sym c.in-Some.is)
    (same_with c.args.earlier.now.keys c.insert.new.self.keys c.new.result c.in_ok-is_new.ensures.updates.0)

pub returns-else-is_used-clause-used : goal.returns-else-is_used-clause-used
returns-else-is_used-clause-used c =
    or_second c.is_some-is_used.result _ c.if-is_used.false
    ∙ used_there c.args.before.now.uses c.args.earlier.now.keys c.new.result c.is_some-is_used.result c.in_ok-is_new.is_new
    (c.is_some-is_used.ensures ∙ ap is_some (c.first_use.ensures ∙ ap (get c.args.before.now.uses) (sym c.new.ensures))) c.in_ok-is_new.ensures.added
    ∙ ap (is_used c.args.before.now.uses c.args.earlier.now.keys) (ap Some c.new.ensures ∙ sym c.in-Some.is)

pub returns-else-is_used-clause-earlier : goal.returns-else-is_used-clause-earlier
returns-else-is_used-clause-earlier c =
    subst (λ id. HaveSameIds (c.args.earlier.now.keys ++ option_to_list id) c.insert.new.self.keys) (ap Some c.new.ensures ∙ sym c.in-Some.is)
    (same_with c.args.earlier.now.keys c.insert.new.self.keys c.new.result c.in_ok-is_new.ensures.updates.0)
