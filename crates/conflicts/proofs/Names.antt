-- That a principal's text may be used as a key.
use Rattle.std.proofs.Common.{◌≡◌, ◌≤◌, ℕ, ◌+◌, Bool, true, ◌&&◌, leb, List, ◌∷◌, length, arith}
use Rattle.std.specs.Prelude.{IsTrue}
use Rattle.std.specs.List.{list_all}
use Rattle.std.proofs.lemmas.Bool.Decides.{nat_tests}
use Rattle.std.proofs.lemmas.List.{length-append}
use Rattle.policy.specs.Token.{role_name, named}
use Rattle.policy.specs.declared.tree.PolicyRole.{PolicyRole}
use Rattle.policy.specs.declared.tree.PolicyRole.TheVariants.{Member, Admin, Client, Peer, Orderer}
use Rattle.values.specs.Key.{is_key}
use Rattle.values.specs.Name.{is_name, is_name_byte}

short : (role : PolicyRole) → length (role_name role) ≤ 7
short Member = omega arith
short Admin = omega arith
short Client = omega arith
short Peer = omega arith
short Orderer = omega arith

within : (n m all : ℕ) (b : Bool) → (leb 1 n && leb n 64 && b) ≡ true → m ≤ 7 → all ≡ n + (m + 1) → (leb 1 all && leb all 1024) ≡ true
within n m all b name role e = grind (arith, nat_tests)

pub name_is_key : (org : List ℕ) (role : PolicyRole) → IsTrue (is_name org) → IsTrue (is_key (named org role))
name_is_key org role h =
    within (length org) (length (role_name role)) (length (named org role)) (list_all is_name_byte org) h (short role)
    (omega (arith, length-append org (46 ∷ role_name role)))
