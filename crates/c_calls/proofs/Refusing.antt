-- A code that says why is none of success.
use Rattle.std.proofs.Common.{◌≡◌, ℕ, List, inl, inr}
use Rattle.c_calls.specs.declared.codes.TheConstants.{OK}
use Rattle.c_calls.specs.Opened.{IsNoChannel, IsNoBook, IsNotOpened}

of_channel : (text : List ℕ) (code : ℕ) → IsNoChannel text code → code ≡ OK → ⊥
of_channel text code (inl e) ok = cc
of_channel text code (inr (inl e)) ok = let f = e.0 in cc
of_channel text code (inr (inr e)) ok = let f = e.0 in cc

of_book : (text : List ℕ) (code : ℕ) → IsNoBook text code → code ≡ OK → ⊥
of_book text code (inl e) ok = cc
of_book text code (inr (inl e)) ok = let f = e.0 in cc
of_book text code (inr (inr e)) ok = let f = e.0 in cc

pub not_opened : (channel keys : List ℕ) (code : ℕ) → IsNotOpened channel keys code → code ≡ OK → ⊥
not_opened channel keys code (inl e) = of_channel channel code e
not_opened channel keys code (inr e) = of_book keys code e
