-- Worked rows of what verdicts say: each computes, and a wrong expectation is refused.
use Rattle.std.proofs.Common.{◌≡◌, ℕ, Bool, true, false, List, [], ◌∷◌, refl}
use Rattle.transaction.specs.declared.identity.Identity.{Identity}
use Rattle.transaction.specs.declared.identity.Role.{Role}
use Rattle.transaction.specs.declared.identity.Role.TheVariants.{Client, Peer}
use Rattle.verdicts.specs.declared.verdict.Piece.{Piece}
use Rattle.verdicts.specs.declared.verdict.Verdict.{Verdict}
use Rattle.verdicts.specs.Said.{piece, accepted_by}
use Rattle.verdicts.specs.Tags.{tag_of}

-- an organization 65 66, a label 97, a message 1 2, a signature 9
abbrev pool : List ℕ
pool = 65 ∷ 66 ∷ 97 ∷ 1 ∷ 2 ∷ 9 ∷ []

abbrev p : ℕ → ℕ → Piece
p at len = record { at = at; len = len }

inside : piece pool (p 2 3) ≡ 97 ∷ 1 ∷ 2 ∷ []
inside = refl

to_the_end : piece pool (p 3 3) ≡ 1 ∷ 2 ∷ 9 ∷ []
to_the_end = refl

past_the_end : piece pool (p 3 4) ≡ []
past_the_end = refl

empty_at_the_end : piece pool (p 6 0) ≡ []
empty_at_the_end = refl

behind_the_end : piece pool (p 7 0) ≡ []
behind_the_end = refl

-- of a peer, or of whom a number names
abbrev verdict : ℕ → Bool → Verdict
verdict role accepted = record { org = p 0 2; label = p 2 1; message = p 3 2; signature = p 5 1; role = role; accepted = accepted }

abbrev who : Role → Identity
who role = record { org = 65 ∷ 66 ∷ []; role = role; label = 97 ∷ [] }

abbrev message : List ℕ
message = 1 ∷ 2 ∷ []

abbrev signature : List ℕ
signature = 9 ∷ []

it_accepts : accepted_by pool (verdict 2 true ∷ []) (who Peer) message signature ≡ true
it_accepts = refl

it_refuses : accepted_by pool (verdict 2 false ∷ []) (who Peer) message signature ≡ false
it_refuses = refl

one_of_two_accepts : accepted_by pool (verdict 2 false ∷ verdict 2 true ∷ []) (who Peer) message signature ≡ true
one_of_two_accepts = refl

nothing_was_said : accepted_by pool [] (who Peer) message signature ≡ false
nothing_was_said = refl

another_role : accepted_by pool (verdict 2 true ∷ []) (who Client) message signature ≡ false
another_role = refl

no_role : accepted_by pool (verdict 4 true ∷ []) (who Peer) message signature ≡ false
no_role = refl

another_organization : accepted_by pool (verdict 2 true ∷ []) (record { org = 65 ∷ []; role = Peer; label = 97 ∷ [] }) message signature ≡ false
another_organization = refl

another_label : accepted_by pool (verdict 2 true ∷ []) (record { org = 65 ∷ 66 ∷ []; role = Peer; label = [] }) message signature ≡ false
another_label = refl

another_message : accepted_by pool (verdict 2 true ∷ []) (who Peer) (1 ∷ 2 ∷ 9 ∷ []) signature ≡ false
another_message = refl

another_signature : accepted_by pool (verdict 2 true ∷ []) (who Peer) message [] ≡ false
another_signature = refl

last_four : tag_of (7 ∷ 1 ∷ 2 ∷ 3 ∷ 4 ∷ []) ≡ 16909060
last_four = refl

three : tag_of (1 ∷ 2 ∷ 3 ∷ []) ≡ 0
three = refl
