use Rattle.std.proofs.Common.{◌≡◌, ℕ, ◌<◌, true, false, List, Bool, Option, Some, None, subst}
use Rattle.std.specs.Prelude.{MatchOption}
use Rattle.task_desk.specs.Bits.{is_set, members, HasWords, IsLeast, IsEmpty}
use Rattle.task_desk.proofs.Members.{least-member, no-member}
use Rattle.task_desk.proofs.bit_set.BitSet.first.Goals as goal

found : (words : List ℕ) (count : ℕ) (o : Option ℕ) → HasWords words count
    → MatchOption o ((k : ℕ) → is_set words k ≡ false) (λ k. (is_set words k ≡ true) × ((j : ℕ) → j < k → is_set words j ≡ false))
    → MatchOption o (IsEmpty (members words count)) (λ k. IsLeast (members words count) k)
found words count None has none = no-member words count has none
found words count (Some k) has first = least-member words count k has first

pub returns : goal.returns
returns c =
    subst (λ (ms : List Bool). MatchOption c.first_in.result (IsEmpty ms) (λ k. IsLeast ms k)) c.self.view_is
    (found c.self.inside.words.items c.self.inside.count c.first_in.result c.self.invariant
    (subst (λ (words : List ℕ). MatchOption c.first_in.result ((k : ℕ) → is_set words k ≡ false) (λ k. (is_set words k ≡ true) × ((j : ℕ) → j < k → is_set words j ≡ false))) c.as_slice.ensures.value c.first_in.ensures))
