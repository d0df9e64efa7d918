-- Hashes of the items at the places of a list, with room for more.
use Rattle.std.specs.Prelude.{ℕ, List, refl}
use Rattle.std.specs.Coded.{Coded, code_by, coded×, coded_ℕ, coded_list}

pub record Hashed : Type 0 where
  -- from the first place on
  pub hashes : List ℕ
  -- how many can be added without memory
  pub room : ℕ

abbrev pub hashed_code : Coded Hashed
hashed_code = code_by (List ℕ × ℕ) (coded× (coded_list coded_ℕ) coded_ℕ) (λ h. (h.hashes, h.room)) (λ p. record { hashes = p.0; room = p.1 }) (λ _. refl)
