use Rattle.std.proofs.Common.{◌≡◌, ℕ, ◌*◌, ◌/◌, ◌<◌, length, List, Bool, true, false, ap, subst, arith}
use Rattle.std.specs.Prelude.{MatchOption}
use Rattle.task_desk.specs.Bits.{is_set, members, HasWords}
use Rattle.task_desk.specs.Groups.{NoneIn, IsFirstIn}
use Rattle.task_desk.proofs.Members.{members-length, word-members}
use Rattle.task_desk.proofs.bit_set.BitSet.first_of.Goals as goal

-- there is a word for the group
has_word : (words : List ℕ) (count group : ℕ) (now : List Bool) → HasWords words count → members words count ≡ now → 64 * group < length now → group < length words
has_word words count group now has is lt = let enough = has.enough in omega (arith, enough, lt, members-length words count, ap (λ (ms : List Bool). length ms) is)

pub first_in_word-requires-clause-word : goal.first_in_word-requires-clause-word
first_in_word-requires-clause-word c =
    let lt = has_word c.self.inside.words.items c.self.inside.count c.args.group c.args.self.now c.self.invariant c.self.view_is c.requires in
    omega (arith, lt, ap (λ (ws : List ℕ). length ws) c.as_slice.ensures.value)

pub returns : goal.returns
returns c =
    subst (λ (ms : List Bool). MatchOption c.first_in_word.result (NoneIn ms c.args.group) (λ k. IsFirstIn ms c.args.group k)) c.self.view_is
    (word-members c.self.inside.words.items c.self.inside.count c.args.group c.first_in_word.result c.self.invariant
    (subst (λ (words : List ℕ). MatchOption c.first_in_word.result ((k : ℕ) → k / 64 ≡ c.args.group → is_set words k ≡ false) (λ k. (k / 64 ≡ c.args.group) × (is_set words k ≡ true) × ((j : ℕ) → j < k → j / 64 ≡ c.args.group → is_set words j ≡ false)))
    c.as_slice.ensures.value c.first_in_word.ensures))
