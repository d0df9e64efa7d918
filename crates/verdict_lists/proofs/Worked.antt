-- Worked rows of a list of verdicts: each computes, and a wrong expectation is refused.
use Rattle.std.proofs.Common.{◌≡◌, ℕ, Bool, true, false, List, [], ◌∷◌, ◌==◌, refl}
use Rattle.transaction.specs.declared.identity.Role.TheVariants.{Client, Peer}
use Rattle.transaction.specs.Grammar.{role_byte}
use Rattle.signature_requests.specs.declared.request.Request.{Request}
use Rattle.verdicts.specs.declared.verdict.Piece.{Piece}
use Rattle.verdicts.specs.declared.verdict.Verdict.{Verdict}
use Rattle.verdict_lists.specs.Listed.{pool_of, verdicts_of, refused}

-- a client's signature 9, and a peer's of two bytes
abbrev first : Request
first = record { identity = record { org = 65 ∷ 66 ∷ []; role = Client; label = 97 ∷ [] }; message = 1 ∷ 2 ∷ 3 ∷ []; signature = 9 ∷ [] }

abbrev second : Request
second = record { identity = record { org = 67 ∷ []; role = Peer; label = [] }; message = 4 ∷ []; signature = 8 ∷ 7 ∷ [] }

abbrev p : ℕ → ℕ → Piece
p at len = record { at = at; len = len }

one_after_the_other : pool_of (first ∷ second ∷ []) ≡ 65 ∷ 66 ∷ 97 ∷ 1 ∷ 2 ∷ 3 ∷ 9 ∷ 67 ∷ 4 ∷ 8 ∷ 7 ∷ []
one_after_the_other = refl

-- the second's bytes begin at 7, and it has no label
places : verdicts_of refused (first ∷ second ∷ []) ≡
    (record { org = p 0 2; label = p 2 1; message = p 3 3; signature = p 6 1; role = 1; accepted = false })
    ∷ (record { org = p 7 1; label = p 8 0; message = p 8 1; signature = p 9 2; role = 2; accepted = false }) ∷ []
places = refl

abbrev accepted_of : List Verdict → List Bool
accepted_of [] = []
accepted_of (v ∷ verdicts) = v.accepted ∷ accepted_of verdicts

-- a verifier that accepts clients alone
abbrev clients : Request → Bool
clients r = role_byte r.identity.role == 1

each_is_answered : accepted_of (verdicts_of clients (first ∷ second ∷ first ∷ [])) ≡ true ∷ false ∷ true ∷ []
each_is_answered = refl

nothing_to_ask : verdicts_of clients [] ≡ []
nothing_to_ask = refl
