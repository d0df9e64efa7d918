-- A history, with room for more entries.
use Rattle.std.specs.Prelude.{ℕ, refl}
use Rattle.std.specs.Coded.{Coded, code_by, coded×, coded_ℕ}
use Rattle.rules.specs.History.{History}
use Rattle.rules.specs.Code.{history_code}

pub record Index : Type 0 where
  pub history : History
  -- how many entries can be added without memory
  pub room : ℕ

abbrev pub index_code : Coded Index
index_code = code_by (History × ℕ) (coded× history_code coded_ℕ) (λ i. (i.history, i.room)) (λ p. record { history = p.0; room = p.1 }) (λ _. refl)
