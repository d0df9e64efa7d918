-- Who was told the answers to a list of requests agrees on it with who gave them.
use Rattle.std.proofs.Common.{◌≡◌, ℕ, Bool, true, false, cond, List, [], ◌∷◌, map, refl, sym, ap, ◌∙◌}
use Rattle.std.specs.Prelude.{◌&&◌, ◌||◌, ◌==◌}
use Rattle.std.specs.Str.{bytes_eq}
use Rattle.std.specs.List.{list_any}
use Rattle.std.specs.Cmp.Lexicographic.{bytes_decides}
use Rattle.transaction.specs.declared.identity.Role.{Role}
use Rattle.transaction.specs.declared.identity.Role.TheVariants.{Admin, Client, Peer, Orderer}
use Rattle.transaction.specs.Grammar.{role_byte}
use Rattle.transaction.specs.Same.{is_same_identity}
use Rattle.policy_eval.specs.Accepts.{Accepts}
use Rattle.policy_eval.proofs.Once.{same_is}
use Rattle.signature_requests.specs.declared.request.Request.{Request}
use Rattle.signature_requests.specs.Agreement.{answer_to, AgreeOn}
use Rattle.signature_requests.specs.Told.{is_same_request, told_to, told}

-- ---- requests that ask the same are equal

both : (a b : Bool) → (a && b) ≡ true → (a ≡ true) × (b ≡ true)
both true b e = (refl, e)
both false b e = absurd cc

one_request : (a b : Request) → is_same_request a b ≡ true → a ≡ b
one_request a b e =
    let front = both (is_same_identity a.identity b.identity && bytes_eq a.message b.message) (bytes_eq a.signature b.signature) e in
    let parts = both (is_same_identity a.identity b.identity) (bytes_eq a.message b.message) front.0 in
    let identity : a.identity ≡ b.identity = same_is a.identity b.identity parts.0 in
    let message : a.message ≡ b.message = (bytes_decides a.message b.message).0 parts.1 in
    let signature : a.signature ≡ b.signature = (bytes_decides a.signature b.signature).0 front.1 in
    λ i. record { identity = identity i; message = message i; signature = signature i }

same_bytes : (x : List ℕ) → bytes_eq x x ≡ true
same_bytes x = (bytes_decides x x).1 refl

own_role : (r : Role) → (role_byte r == role_byte r) ≡ true
own_role Admin = refl
own_role Client = refl
own_role Peer = refl
own_role Orderer = refl

all_true : (a b : Bool) → a ≡ true → b ≡ true → (a && b) ≡ true
all_true a b p q = (λ i. p i && b) ∙ q

asks_itself : (a : Request) → is_same_request a a ≡ true
asks_itself a =
    let i = a.identity in
    let role = all_true (bytes_eq i.org i.org) (role_byte i.role == role_byte i.role) (same_bytes i.org) (own_role i.role) in
    let identity = all_true (bytes_eq i.org i.org && (role_byte i.role == role_byte i.role)) (bytes_eq i.label i.label) role (same_bytes i.label) in
    let front = all_true (is_same_identity i i) (bytes_eq a.message a.message) identity (same_bytes a.message) in
    all_true (is_same_identity i i && bytes_eq a.message a.message) (bytes_eq a.signature a.signature) front (same_bytes a.signature)

module _ (accepts : Accepts) where
  abbrev answers : List Request → List Bool
  answers requests = map (answer_to accepts) requests

  -- the same is asked somewhere in a list
  abbrev is_among : List Request → Request → Bool
  is_among requests asked = list_any (λ r. is_same_request r asked) requests

  told-among : (requests : List Request) (asked : Request) → is_among requests asked ≡ true → told_to requests (answers requests) asked ≡ answer_to accepts asked
  told-among [] asked e = absurd cc
  told-among (r ∷ requests) asked e = by (is_same_request r asked) refl (told-among requests asked)
    where
      by : (b : Bool) → is_same_request r asked ≡ b → (is_among requests asked ≡ true → told_to requests (answers requests) asked ≡ answer_to accepts asked)
          → told_to (r ∷ requests) (answers (r ∷ requests)) asked ≡ answer_to accepts asked
      by true same rest =
          ap (λ (c : Bool). cond c (answer_to accepts r) (told_to requests (answers requests) asked)) same ∙ ap (answer_to accepts) (one_request r asked same)
      by false other rest =
          ap (λ (c : Bool). cond c (answer_to accepts r) (told_to requests (answers requests) asked)) other
          ∙ rest (ap (λ (c : Bool). c || is_among requests asked) (sym other) ∙ e)

  -- those behind a front are among all
  agree-behind_front : (all requests : List Request) → ((asked : Request) → is_among requests asked ≡ true → is_among all asked ≡ true)
      → AgreeOn (told all (answers all)) accepts requests
  agree-behind_front all [] among = tt
  agree-behind_front all (r ∷ requests) among = (
    told-among all r (among r (ap (λ (c : Bool). c || is_among requests r) (asks_itself r))),
    agree-behind_front all requests (λ asked e. among asked (later (is_same_request r asked) (is_among requests asked) e)),
  )
    where
      later : (a b : Bool) → b ≡ true → (a || b) ≡ true
      later true b e = refl
      later false b e = e

  pub told-agrees : (requests : List Request) → AgreeOn (told requests (answers requests)) accepts requests
  told-agrees requests = agree-behind_front requests requests (λ asked e. e)
