-- The bound of definitions, as lines are read.
use Rattle.std.proofs.Common.{◌≡◌, ℕ, ◌+◌, ◌≤◌, ◌<◌, List, Bool, true, false, cond, subst, sym, arith}
use Rattle.std.specs.FinMap.{empty, insert, len, contains_key, len-empty, len-insert}
use Rattle.std.proofs.lemmas.Cmp.{nat_list_cmp_total}
use Rattle.policy.specs.Tree.{Tree}
use Rattle.values.specs.Order.{bytes_cmp}
use Rattle.policy.specs.Policies.{Policies}
use Rattle.channel.specs.Configuration.{AreFew}

pub few_at_first : (definitions : Policies) → definitions ≡ empty → AreFew definitions
few_at_first definitions is = subst AreFew (sym is) (omega (arith, len-empty bytes_cmp Tree))

one_more : (b : Bool) (n : ℕ) → n < 256 → cond b n (n + 1) ≤ 256
one_more true n below = omega arith
one_more false n below = omega arith

pub few_with_one : (old new : Policies) (name : List ℕ) (t : Tree) → len old < 256 → new ≡ insert old name t → AreFew new
few_with_one old new name t below is =
    subst AreFew (sym is) (subst (λ (n : ℕ). n ≤ 256) (sym (len-insert nat_list_cmp_total old name t)) (one_more (contains_key old name) (len old) below))
