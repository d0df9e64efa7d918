-- The rows that differ between two states.
use Rattle.std.specs.Prelude.{ℕ, List, [], map, Bool, true, false, not, ◌&&◌, Option, Some, None}
use Rattle.std.specs.List.{filter}
use Rattle.std.specs.Str.{bytes_eq}
use Rattle.std.specs.FinMap.{get, entries}
use Rattle.transaction.specs.Same.{is_same_version}
use Rattle.policy.specs.Tree.{Tree}
use Rattle.policy.specs.Text.{text_of}
use Rattle.rules.specs.declared.row.Row.{Row}
use Rattle.rules.specs.State.{State, ChangeOf, with_changes}

-- the canonical text of a policy, and no text where there is none
abbrev pub policy_text : Option Tree → List ℕ
policy_text None = []
policy_text (Some policy) = text_of policy

-- one version, one value, and one policy by its text
abbrev pub is_same_row : Row → Row → Bool
is_same_row a b = is_same_version a.version b.version && bytes_eq a.value b.value && bytes_eq (policy_text a.policy) (policy_text b.policy)

-- the same row before and after, or none before and after
abbrev pub is_unchanged : Option Row → Option Row → Bool
is_unchanged None None = true
is_unchanged (Some before) (Some after) = is_same_row before after
is_unchanged _ _ = false

-- the keys that have a row before or after; which row doesn't matter
abbrev pub before_or_after : State → State → State
before_or_after before after = with_changes before (map (λ e. (e.0, Some e.1)) (entries after))

-- Of these keys, in order, those whose row isn't the same before and after, each with the row after, or none.
unfoldable pub differing : State → State → List (ChangeOf Row)
differing before after =
    filter (λ c. not (is_unchanged (get before c.0) c.1)) (map (λ e. (e.0, get after e.0)) (entries (before_or_after before after)))
