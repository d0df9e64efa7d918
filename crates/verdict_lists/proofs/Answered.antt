-- Verdicts that a verifier has answered answer as it does.
use Rattle.std.proofs.Common.{◌≡◌, ℕ, ◌==◌, Bool, true, false, ◌||◌, List, [], ◌∷◌, refl, sym, ap, ◌∙◌}
use Rattle.std.specs.Prelude.{◌&&◌}
use Rattle.std.specs.List.{list_any}
use Rattle.std.specs.Str.{bytes_eq}
use Rattle.std.specs.Cmp.Lexicographic.{bytes_decides}
use Rattle.transaction.specs.declared.identity.Identity.{Identity}
use Rattle.transaction.specs.declared.identity.Role.{Role}
use Rattle.transaction.specs.declared.identity.Role.TheVariants.{Admin, Client, Peer, Orderer}
use Rattle.transaction.specs.Grammar.{role_byte}
use Rattle.policy_eval.proofs.Once.{same_is}
use Rattle.policy_eval.specs.Accepts.{Accepts}
use Rattle.signature_requests.specs.declared.request.Request.{Request}
use Rattle.signature_requests.specs.Agreement.{answer_to, AgreeOn}
use Rattle.verdicts.specs.declared.verdict.Verdict.{Verdict}
use Rattle.verdicts.specs.Said.{accepted_by}
use Rattle.verdict_lists.specs.Listed.{pool_of, verdicts_of}
use Rattle.verdict_lists.proofs.Places.{asks, said}

-- ---- requests that ask the same are equal

halves : (a b : Bool) → (a && b) ≡ true → (a ≡ true) × (b ≡ true)
halves true b e = (refl, e)
halves false b e = absurd cc

same_role : (a b : Role) → (role_byte a == role_byte b) ≡ true → a ≡ b
same_role a b e =
    let with_role : Role → Identity = λ r. record { org = []; role = r; label = [] } in
    ap (λ (i : Identity). i.role) (same_is (with_role a) (with_role b) (ap (λ (x : Bool). x && true) e))

own_role : (r : Role) → (role_byte r == role_byte r) ≡ true
own_role Admin = refl
own_role Client = refl
own_role Peer = refl
own_role Orderer = refl

one_request : (r asked : Request) → asks r asked ≡ true → r ≡ asked
one_request r asked e =
    let org : Bool = bytes_eq asked.identity.org r.identity.org in
    let label : Bool = bytes_eq asked.identity.label r.identity.label in
    let message : Bool = bytes_eq asked.message r.message in
    let role : Bool = role_byte asked.identity.role == role_byte r.identity.role in
    let a = halves (bytes_eq asked.signature r.signature) (role && (org && (label && message))) e in
    let b = halves role (org && (label && message)) a.1 in
    let c = halves org (label && message) b.1 in
    let d = halves label message c.1 in
    let is_signature : asked.signature ≡ r.signature = (bytes_decides asked.signature r.signature).0 a.0 in
    let is_role : asked.identity.role ≡ r.identity.role = same_role asked.identity.role r.identity.role b.0 in
    let is_org : asked.identity.org ≡ r.identity.org = (bytes_decides asked.identity.org r.identity.org).0 c.0 in
    let is_label : asked.identity.label ≡ r.identity.label = (bytes_decides asked.identity.label r.identity.label).0 d.0 in
    let is_message : asked.message ≡ r.message = (bytes_decides asked.message r.message).0 d.1 in
    sym (λ i. record { identity = record { org = is_org i; role = is_role i; label = is_label i }; message = is_message i; signature = is_signature i })

same_bytes : (x : List ℕ) → bytes_eq x x ≡ true
same_bytes x = (bytes_decides x x).1 refl

asks_itself : (r : Request) → asks r r ≡ true
asks_itself r =
    let i = r.identity in
    (λ j. same_bytes r.signature j && ((role_byte i.role == role_byte i.role) && (bytes_eq i.org i.org && (bytes_eq i.label i.label && bytes_eq r.message r.message))))
    ∙ (λ j. own_role i.role j && (bytes_eq i.org i.org && (bytes_eq i.label i.label && bytes_eq r.message r.message)))
    ∙ (λ j. same_bytes i.org j && (bytes_eq i.label i.label && bytes_eq r.message r.message))
    ∙ (λ j. same_bytes i.label j && bytes_eq r.message r.message)
    ∙ same_bytes r.message

-- ---- what is said of one that is among them

module _ (answer : Request → Bool) (asked : Request) where
  abbrev is_said : List Request → Bool
  is_said requests = list_any (λ r. answer r && asks r asked) requests

  abbrev is_among : List Request → Bool
  is_among requests = list_any (λ r. asks r asked) requests

  no_and : (a : Bool) → (a && false) ≡ false
  no_and true = refl
  no_and false = refl

  -- no two answers to what is asked
  one_answer : (r : Request) → asks r asked ≡ true → (answer r && asks r asked) ≡ answer asked
  one_answer r e = (λ i. answer r && e i) ∙ and_true (answer r) ∙ ap answer (one_request r asked e)
    where
      and_true : (a : Bool) → (a && true) ≡ a
      and_true true = refl
      and_true false = refl

  none_said : (requests : List Request) → answer asked ≡ false → is_said requests ≡ false
  none_said [] no_answer = refl
  none_said (r ∷ requests) no_answer = (λ i. by (asks r asked) refl i || is_said requests) ∙ none_said requests no_answer
    where
      by : (b : Bool) → asks r asked ≡ b → (answer r && asks r asked) ≡ false
      by true e = one_answer r e ∙ no_answer
      by false e = (λ i. answer r && e i) ∙ no_and (answer r)

  some_said : (requests : List Request) → answer asked ≡ true → is_among requests ≡ true → is_said requests ≡ true
  some_said [] yes_answer among = absurd cc
  some_said (r ∷ requests) yes_answer among = by (asks r asked) refl (some_said requests yes_answer)
    where
      by : (b : Bool) → asks r asked ≡ b → (is_among requests ≡ true → is_said requests ≡ true) → is_said (r ∷ requests) ≡ true
      by true e rest = λ i. (one_answer r e ∙ yes_answer) i || is_said requests
      by false e rest =
          (λ i. ((λ j. answer r && e j) ∙ no_and (answer r)) i || is_said requests) ∙ rest ((λ i. sym e i || is_among requests) ∙ among)

  pub found : (requests : List Request) → is_among requests ≡ true → is_said requests ≡ answer asked
  found requests among = by (answer asked) refl
    where
      by : (b : Bool) → answer asked ≡ b → is_said requests ≡ answer asked
      by true e = some_said requests e among ∙ sym e
      by false e = none_said requests e ∙ sym e

-- ---- all requests

module _ (accepts : Accepts) (all : List Request) where
  abbrev pool : List ℕ
  pool = pool_of all

  abbrev verdicts : List Verdict
  verdicts = verdicts_of (answer_to accepts) all

  agree-behind_front : (requests : List Request) → ((asked : Request) → is_among (answer_to accepts) asked requests ≡ true → is_among (answer_to accepts) asked all ≡ true)
      → AgreeOn (accepted_by pool verdicts) accepts requests
  agree-behind_front [] among = tt
  agree-behind_front (r ∷ requests) among = (
    said (answer_to accepts) r pool [] 0 all refl refl ∙ found (answer_to accepts) r all (among r (λ i. asks_itself r i || is_among (answer_to accepts) r requests)),
    agree-behind_front requests (λ asked e. among asked (later (asks r asked) (is_among (answer_to accepts) asked requests) e)),
  )
    where
      later : (a b : Bool) → b ≡ true → (a || b) ≡ true
      later true b e = refl
      later false b e = e

  pub verdicts-agree : AgreeOn (accepted_by pool verdicts) accepts all
  verdicts-agree = agree-behind_front all (λ asked e. e)
