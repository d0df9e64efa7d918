-- First uses, with room for more of them.
use Rattle.std.specs.Prelude.{ℕ, refl}
use Rattle.std.specs.Coded.{Coded, code_by, coded×, coded_ℕ}
use Rattle.rules.specs.FirstUses.{FirstUses}
use Rattle.rules.specs.Code.{first_uses_code}

pub record Ids : Type 0 where
  pub uses : FirstUses
  -- how many new ids can be added without memory
  pub room : ℕ

abbrev pub ids_code : Coded Ids
ids_code = code_by (FirstUses × ℕ) (coded× first_uses_code coded_ℕ) (λ i. (i.uses, i.room)) (λ p. record { uses = p.0; room = p.1 }) (λ _. refl)
