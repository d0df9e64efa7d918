use Rattle.std.proofs.Common.{◌≡◌, ◌++◌, List, length, subst, sym, ap, ◌∙◌, arith}
use Rattle.std.proofs.lemmas.List.Elements.{filter_map-append}
use Rattle.conflicts.specs.declared.conflict.Conflict.{Conflict}
use Rattle.conflicts.specs.Conflict.{conflict_of, conflicts_of}
use Rattle.conflicts.specs.Tally.{CountsKeys}
use Rattle.conflicts.proofs.Counting.{few}
use Rattle.conflicts.proofs.key_table.count_keys.Goals as goal

pub count_all-requires-clause-small : goal.count_all-requires-clause-small
count_all-requires-clause-small c =
    let e : c.as_slice-all.result.now ≡ conflicts_of c.args.reasons.now = c.as_slice-all.ensures.value ∙ c.in_ok-conflicts.ensures in
    omega (arith, ap length e, few conflict_of c.args.reasons.now)

pub returns-clause-ok : goal.returns-clause-ok
returns-clause-ok c = λ before h.
    let e : c.as_slice-all.result.now ≡ conflicts_of c.args.reasons.now = c.as_slice-all.ensures.value ∙ c.in_ok-conflicts.ensures in
    subst (λ (xs : List Conflict). CountsKeys xs c.count_all.new.lines.entries)
    (ap (λ l. conflicts_of before ++ l) e ∙ sym (filter_map-append conflict_of before c.args.reasons.now))
    (c.count_all.ensures.counts (conflicts_of before) (λ k. c.give_lines.ensures.counts k ∙ h k))

pub returns-clause-within : goal.returns-clause-within
returns-clause-within c = λ k.
    let e : c.as_slice-all.result.now ≡ conflicts_of c.args.reasons.now = c.as_slice-all.ensures.value ∙ c.in_ok-conflicts.ensures in
    let most = c.count_all.ensures.within k in
    (omega (arith, ap length e, few conflict_of c.args.reasons.now, most.0), omega (arith, ap length e, few conflict_of c.args.reasons.now, most.1))
