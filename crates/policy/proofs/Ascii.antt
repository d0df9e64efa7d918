-- A name is ASCII, and so a text.
use Rattle.std.proofs.Common.{◌≡◌, ℕ, ◌<◌, Bool, true, false, List, [], ◌∷◌, refl, arith}
use Rattle.std.specs.Prelude.{◌&&◌, nat_le, length}
use Rattle.std.specs.List.{list_all, AllByRecursion}
use Rattle.std.specs.Str.{IsUtf8}
use Rattle.std.proofs.lemmas.Bool.Decides.{nat_tests}
use Rattle.std.proofs.lemmas.List.Elements.{All-from_recursion}
use Rattle.std.proofs.lemmas.Str.Ascii.{IsAscii-from_all}
use Rattle.std.proofs.lemmas.Str.{IsUtf8-from_ascii}
use Rattle.values.specs.Name.{is_name, is_name_byte}

pub both_true : (a b : Bool) → (a && b) ≡ true → (a ≡ true) × (b ≡ true)
both_true true b e = (refl, e)
both_true false b e = absurd cc

-- the three parts of the test of a name
pub name_parts : (name : List ℕ) → is_name name ≡ true
    → (nat_le 1 (length name) ≡ true) × (nat_le (length name) 64 ≡ true) × (list_all is_name_byte name ≡ true)
name_parts name e =
    let p = both_true (nat_le 1 (length name) && nat_le (length name) 64) (list_all is_name_byte name) e in
    let q = both_true (nat_le 1 (length name)) (nat_le (length name) 64) p.0 in
    (q.0, q.1, p.1)

byte_is_ascii : (b : ℕ) → is_name_byte b ≡ true → b < 128
byte_is_ascii b e = grind (arith, nat_tests)

bytes_are_ascii : (xs : List ℕ) → list_all is_name_byte xs ≡ true → AllByRecursion (λ b. b < 128) xs
bytes_are_ascii [] e = tt
bytes_are_ascii (x ∷ xs) e =
    let p = both_true (is_name_byte x) (list_all is_name_byte xs) e in (byte_is_ascii x p.0, bytes_are_ascii xs p.1)

pub name_is_text : (name : List ℕ) → is_name name ≡ true → IsUtf8 name
name_is_text name e =
    IsUtf8-from_ascii name (IsAscii-from_all name (All-from_recursion (λ b. b < 128) name (bytes_are_ascii name (name_parts name e).2)))
