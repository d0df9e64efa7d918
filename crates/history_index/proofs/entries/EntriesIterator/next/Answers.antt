use Rattle.std.proofs.Common.{◌≡◌, ℕ, ◌-◌, ◌≤◌, List, [], ◌∷◌, length, get_or, take, sym, ap, ◌∙◌, arith}
use Rattle.history_index.specs.Places.{last_with}
use Rattle.rules.specs.declared.delta.NewEntry.{NewEntry}
use Rattle.rules.specs.State.{StateKey}
use Rattle.history_index.specs.Lists.{all_entries, no_entry, hashes_of, entries_before, IsPlace}
use Rattle.history_index.proofs.Chains.{Leads, found, no_entries}
use Rattle.history_index.proofs.entries.EntriesIterator.next.Goals as goal

-- what the entry at a place leads to
read : (all : List NewEntry) (k : StateKey) (hashes : List ℕ) (place older : ℕ) → hashes ≡ hashes_of all → place ≤ length all → ¬ (place ≡ 0) → IsPlace k all place
    → older ≡ last_with (get_or hashes (place - 1) 0) (take (place - 1) hashes) → Leads k all place older ((get_or all (place - 1) no_entry).entry ∷ [])
read all k hashes place older same bound some own is =
    found all k place older bound (omega arith) (is ∙ ap (λ hs. last_with (get_or hs (place - 1) 0) (take (place - 1) hs)) same) (own (place - 1) (omega arith))

pub returns-then-place-eq0-clause-steps : goal.returns-then-place-eq0-clause-steps
returns-then-place-eq0-clause-steps c =
    let all = all_entries c.self.inside.lists.now in
    let k : StateKey = (c.self.inside.namespace, c.self.inside.key) in (
      sym c.self.view_is ∙ sym c.newest_of-place.ensures.entries ∙ ap (entries_before all k) c.if-place-eq0.true ∙ no_entries all k,
      no_entries all k,
    )

pub invariant_of-self-2 : goal.invariant_of-self-2
invariant_of-self-2 c = (
  c.self.invariant.0,
  c.self.invariant.1,
  (read (all_entries c.self.inside.lists.now) (c.self.inside.namespace, c.self.inside.key) c.self.inside.index.now.hashes c.newest_of-place.result c.before-self-inside.result c.self.invariant.1
      (omega (arith, c.newest_of-place.ensures.bound, c.self.invariant.2.0)) c.if-place-eq0.false c.newest_of-place.ensures.place c.before-self-inside.ensures).chain,
)

pub returns-clause-steps : goal.returns-clause-steps
returns-clause-steps c =
    let all = all_entries c.self.inside.lists.now in
    let k : StateKey = (c.self.inside.namespace, c.self.inside.key) in
    sym c.self.view_is ∙ sym c.newest_of-place.ensures.entries
    ∙ (read all k c.self.inside.index.now.hashes c.newest_of-place.result c.before-self-inside.result c.self.invariant.1
    (omega (arith, c.newest_of-place.ensures.bound, c.self.invariant.2.0)) c.if-place-eq0.false c.newest_of-place.ensures.place c.before-self-inside.ensures).rest
    ∙ ap (λ (e : NewEntry). e.entry ∷ entries_before all k c.before-self-inside.result) (sym c.entry_at.ensures)

pub returns-clause-goes : goal.returns-clause-goes
returns-clause-goes c =
    let all = all_entries c.self.inside.lists.now in
    let k : StateKey = (c.self.inside.namespace, c.self.inside.key) in
    let first = sym c.self.view_is ∙ sym c.newest_of-place.ensures.entries
    ∙ (read all k c.self.inside.index.now.hashes c.newest_of-place.result c.before-self-inside.result c.self.invariant.1
    (omega (arith, c.newest_of-place.ensures.bound, c.self.invariant.2.0)) c.if-place-eq0.false c.newest_of-place.ensures.place c.before-self-inside.ensures).rest in
    record { on = λ _. (tt, tt, omega (arith, ap length first)); keeps = tt; rests = λ _. tt }
