-- The signatures that verdicts accept, as a set. What a table's private parts hold: who reads what a verdict means needs none of it.
use Rattle.std.specs.Prelude.{◌≡◌, ℕ, List, Bool, ◌&&◌, ◌==◌}
use Rattle.std.specs.List.{list_any}
use Rattle.std.specs.Str.{bytes_eq}
use Rattle.transaction.specs.Grammar.{role_byte}
use Rattle.transaction.specs.declared.identity.Identity.{Identity}
use Rattle.verdicts.specs.declared.verdict.Verdict.{Verdict}
use Rattle.verdicts.specs.declared.signed.Signed.{Signed}
use Rattle.verdicts.specs.Said.{accepted_by}

-- whether it is this identity's signature of this message
abbrev pub is_this : Signed → Identity → List ℕ → List ℕ → Bool
is_this s identity message signature =
    bytes_eq signature s.signature.now
    && ((role_byte identity.role == s.role) && (bytes_eq identity.org s.org.now && (bytes_eq identity.label s.label.now && bytes_eq message s.message.now)))

abbrev pub is_in : List Signed → Identity → List ℕ → List ℕ → Bool
is_in signed identity message signature = list_any (λ s. is_this s identity message signature) signed

-- among the signed ones are those that the verdicts accept, and no other
abbrev pub AnswerAlike : List Signed → List ℕ → List Verdict → Type 0
AnswerAlike signed pool verdicts = (identity : Identity) (message signature : List ℕ) → is_in signed identity message signature ≡ accepted_by pool verdicts identity message signature
