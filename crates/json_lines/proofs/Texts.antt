-- What the standard library's reader tells of bytes.
use Rattle.std.proofs.Common.{◌≡◌, ℕ, Bool, true, false, List, Result, Ok, Err, sym, refl}
use Rattle.std.specs.Prelude.{MatchResult, is_ok, IsUtf8}
use Rattle.std.specs.Str.{is_utf8}
use Rattle.std.proofs.lemmas.Str.{IsUtf8-from_is_utf8, is_utf8-from_IsUtf8}

no_text : (text : Bool) (bytes : List ℕ) → is_utf8 bytes ≡ text → ¬ (IsUtf8 bytes) → text ≡ false
no_text true bytes e not = absurd (not (IsUtf8-from_is_utf8 bytes e))
no_text false bytes e not = refl

pub told : {A E : Type 0} (bytes : List ℕ) (P : A → Type 0) (Q : E → Type 0) (read : Result A E)
    → MatchResult read (λ s. P s × IsUtf8 bytes) (λ e. ¬ (IsUtf8 bytes) × Q e) → is_ok read ≡ is_utf8 bytes
told bytes P Q (Ok s) is = sym (is_utf8-from_IsUtf8 bytes is.1)
told bytes P Q (Err e) is = sym (no_text (is_utf8 bytes) bytes refl is.0)
