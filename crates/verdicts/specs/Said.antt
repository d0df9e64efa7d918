-- What verdicts say of a signature.
use Rattle.std.specs.Prelude.{ℕ, ◌-◌, List, [], Bool, ◌&&◌, ◌==◌, take, drop, length, nat_le, cond}
use Rattle.std.specs.List.{list_any}
use Rattle.std.specs.Str.{bytes_eq}
use Rattle.transaction.specs.Grammar.{role_byte}
use Rattle.transaction.specs.declared.identity.Identity.{Identity}
use Rattle.verdicts.specs.declared.verdict.Piece.{Piece}
use Rattle.verdicts.specs.declared.verdict.Verdict.{Verdict}

-- the bytes of a piece; one that isn't inside the pool has none
abbrev pub piece : List ℕ → Piece → List ℕ
piece pool p = cond (nat_le p.at (length pool) && nat_le p.len (length pool - p.at)) (take p.len (drop p.at pool)) []

-- whether a verdict is on this identity's signature of this message
abbrev pub is_on : List ℕ → Verdict → Identity → List ℕ → List ℕ → Bool
is_on pool v identity message signature =
    bytes_eq signature (piece pool v.signature)
    && ((role_byte identity.role == v.role) && (bytes_eq identity.org (piece pool v.org) && (bytes_eq identity.label (piece pool v.label) && bytes_eq message (piece pool v.message))))

-- whether it accepts this
abbrev pub says : List ℕ → Verdict → Identity → List ℕ → List ℕ → Bool
says pool v identity message signature = v.accepted && is_on pool v identity message signature

-- a signature is accepted if a verdict on it accepts it
abbrev pub accepted_by : List ℕ → List Verdict → Identity → List ℕ → List ℕ → Bool
accepted_by pool verdicts identity message signature = list_any (λ v. says pool v identity message signature) verdicts
