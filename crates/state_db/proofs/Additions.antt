-- A batch of one change more.
use Rattle.std.proofs.Common.{◌≡◌, ℕ, ◌+◌, ◌<◌, List, [], length, take, get_or, Option, sym, ap, ◌∙◌}
use Rattle.std.proofs.lemmas.List.{map_more, nil_from_length}
use Rattle.std.specs.FinMap.{empty, entries, len-entries, len-empty}
use Rattle.rules.specs.declared.delta.Change.{Change}
use Rattle.rules.specs.declared.row.Row.{Row}
use Rattle.rules.specs.State.{State, key_cmp, set_at, with_changes}
use Rattle.rules.specs.Delta.{change_of, changes_in}
use Rattle.state_db.specs.Batch.{changed}
use Rattle.rules.proofs.Changes.{with_changes-push}

pub changes_more : (changes : List Change) (i : ℕ) (c : Change) (s old new : State) → i < length changes → c ≡ get_or changes i c
    → new ≡ set_at old (change_of c).0 (change_of c).1 → old ≡ with_changes s (changes_in (take i changes))
    → new ≡ with_changes s (changes_in (take (i + 1) changes))
changes_more changes i c s old new lt is made so_far =
    made
    ∙ (λ j. set_at (so_far j) (change_of (is j)).0 (change_of (is j)).1)
    ∙ sym (with_changes-push s (changes_in (take i changes)) (change_of (get_or changes i c)))
    ∙ ap (with_changes s) (sym (map_more change_of changes i c lt))

pub no_changes : (s : State) → changed s empty ≡ with_changes s []
no_changes s = ap (with_changes s) (nil_from_length (entries {X = Option Row} {R = key_cmp} empty) (sym (len-entries empty) ∙ len-empty key_cmp (Option Row)))
