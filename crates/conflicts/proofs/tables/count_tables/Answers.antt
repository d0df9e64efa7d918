use Rattle.std.proofs.Common.{◌≡◌, ◌≤◌, ◌++◌, List, length, subst, sym, ap, ◌∙◌, arith}
use Rattle.std.specs.Prelude.{IsTrue}
use Rattle.std.specs.List.{All}
use Rattle.std.proofs.lemmas.List.Elements.{filter_map-append}
use Rattle.conflicts.specs.declared.conflict.Conflict.{Conflict}
use Rattle.conflicts.specs.declared.key_counts.KeyCounts.{KeyCounts}
use Rattle.conflicts.specs.KeyCounts.{total_of}
use Rattle.conflicts.specs.Lack.{lack_of, lacks_of}
use Rattle.conflicts.specs.Tally.{CountsKeys, has_line}
use Rattle.conflicts.proofs.Counting.{few}
use Rattle.conflicts.proofs.tables.count_tables.Goals as goal

pub count_all-requires-clause-lines : goal.count_all-requires-clause-lines
count_all-requires-clause-lines c =
    subst (λ (xs : List Conflict). All (λ d. IsTrue (has_line c.found_lacks.new.lacks.entries d.key)) xs) (sym c.as_slice-all.ensures.value) c.in_ok-found.ensures.lines

pub count_all-requires-clause-within : goal.count_all-requires-clause-within
count_all-requires-clause-within c = λ k.
    subst (λ (n : KeyCounts). (total_of n ≤ c.args.total) × (n.in_block ≤ c.args.total)) (sym (c.found_lacks.ensures.counts k)) (c.requires.lacks_within k)

pub count_all-requires-clause-small : goal.count_all-requires-clause-small
count_all-requires-clause-small c =
    let e : c.as_slice-all.result.now ≡ lacks_of c.args.reasons.now = c.as_slice-all.ensures.value ∙ c.in_ok-found.ensures.found in
    omega (arith, ap length e, few lack_of c.args.reasons.now)

pub returns-clause-lacks : goal.returns-clause-lacks
returns-clause-lacks c = λ before h.
    let e : c.as_slice-all.result.now ≡ lacks_of c.args.reasons.now = c.as_slice-all.ensures.value ∙ c.in_ok-found.ensures.found in
    subst (λ (xs : List Conflict). CountsKeys xs c.count_all.new.lines.entries)
    (ap (λ l. lacks_of before ++ l) e ∙ sym (filter_map-append lack_of before c.args.reasons.now))
    (c.count_all.ensures.counts (lacks_of before) (λ k. c.found_lacks.ensures.counts k ∙ h k))

pub returns-clause-lacks_most : goal.returns-clause-lacks_most
returns-clause-lacks_most c = λ k.
    let e : c.as_slice-all.result.now ≡ lacks_of c.args.reasons.now = c.as_slice-all.ensures.value ∙ c.in_ok-found.ensures.found in
    let most = c.count_all.ensures.within k in
    (omega (arith, ap length e, few lack_of c.args.reasons.now, most.0), omega (arith, ap length e, few lack_of c.args.reasons.now, most.1))
