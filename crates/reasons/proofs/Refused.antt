-- Endorsers are refused exactly where none of their signatures is accepted.
use Rattle.std.proofs.Common.{◌≡◌, zero, suc, List, [], ◌∷◌, map, Bool, true, false, cond, refl, sym, ap, subst, ◌∙◌, arith}
use Rattle.std.specs.Prelude.{◌↔◌, ◌||◌, ◌==◌, not, filter}
use Rattle.std.specs.List.{list_any, Contains}
use Rattle.std.proofs.lemmas.Bool.{false≢true}
use Rattle.std.proofs.lemmas.Slice.Eq.{bytes_eq-Decides}
use Rattle.transaction.specs.declared.identity.Identity.{Identity}
use Rattle.transaction.specs.declared.identity.Role.{Role}
use Rattle.transaction.specs.declared.identity.Role.TheVariants.{Admin, Client, Peer, Orderer}
use Rattle.transaction.specs.declared.transaction.Endorsement.{Endorsement}
use Rattle.transaction.specs.declared.transaction.Tx.{Tx}
use Rattle.transaction.specs.Grammar.{role_byte}
use Rattle.transaction.specs.Same.{is_same_identity}
use Rattle.policy_eval.specs.Accepts.{Accepts}
use Rattle.policy_eval.specs.Signers.{each_once, signers_of, HasSigned}
use Rattle.policy_eval.proofs.Once.{same_is}
use Rattle.reasons.specs.Shortfall.{refused_of}
use Rattle.reasons.proofs.Lists.{not_true}

same_role_byte : (r : Role) → (role_byte r == role_byte r) ≡ true
same_role_byte Admin = refl
same_role_byte Client = refl
same_role_byte Peer = refl
same_role_byte Orderer = refl

same_self : (i : Identity) → is_same_identity i i ≡ true
same_self i = rw ((bytes_eq-Decides i.org i.org).1 refl, same_role_byte i.role, (bytes_eq-Decides i.label i.label).1 refl) refl

abbrev is_among : List Identity → Identity → Bool
is_among signers i = list_any (λ s. is_same_identity s i) signers

among : (signers : List Identity) (i : Identity) → Contains signers i → is_among signers i ≡ true
among [] i c = absurd (omega (arith, c.1))
among (s ∷ signers) i (zero, within, e) = ap (λ (b : Bool). b || is_among signers i) (ap (λ (x : Identity). is_same_identity x i) e ∙ same_self i)
among (s ∷ signers) i (suc k, within, e) = or_right (is_same_identity s i) (is_among signers i) (among signers i (k, omega (arith, within), e))
  where
    or_right : (a b : Bool) → b ≡ true → (a || b) ≡ true
    or_right true b h = refl
    or_right false b h = h

from_among : (signers : List Identity) (i : Identity) → is_among signers i ≡ true → Contains signers i
from_among [] i e = absurd cc
from_among (s ∷ signers) i e = by (is_same_identity s i) refl e (λ h. from_among signers i h)
  where
    by : (b : Bool) → is_same_identity s i ≡ b → (b || is_among signers i) ≡ true → (is_among signers i ≡ true → Contains signers i) → Contains (s ∷ signers) i
    by true is h others = (0, omega arith, same_is s i is)
    by false is h others = let c = others h in (suc c.0, omega (arith, c.1), c.2)

-- Whoever isn't among the signers is accepted by this verifier.
abbrev others : List Identity → Accepts
others signers i message signature = not (is_among signers i)

-- a transaction with these endorsements, which says nothing
abbrev with_endorsements : List Endorsement → Tx
with_endorsements es = record {
  channel = [];
  id = [];
  creator = record { org = []; role = Admin; label = [] };
  nonce = [];
  chaincode = [];
  namespaces = [];
  endorsements = es;
  signature = [];
}

filter-endorsers : (p : Identity → Bool) (es : List Endorsement) → filter p (map (λ e. e.endorser) es) ≡ map (λ e. e.endorser) (filter (λ e. p e.endorser) es)
filter-endorsers p [] = refl
filter-endorsers p (e ∷ es) = by (p e.endorser) (filter-endorsers p es)
  where
    by : (b : Bool) → filter p (map (λ e. e.endorser) es) ≡ map (λ e. e.endorser) (filter (λ e. p e.endorser) es)
        → cond b (e.endorser ∷ filter p (map (λ e. e.endorser) es)) (filter p (map (λ e. e.endorser) es)) ≡ map (λ e. e.endorser) (cond b (e ∷ filter (λ e. p e.endorser) es) (filter (λ e. p e.endorser) es))
    by true h = ap (λ (l : List Identity). e.endorser ∷ l) h
    by false h = h

refused_is : (es : List Endorsement) (signers : List Identity) → refused_of es signers ≡ signers_of (others signers) (with_endorsements es)
refused_is es signers = ap each_once (filter-endorsers (λ i. not (is_among signers i)) es)

abbrev pub SignedLaw : Type 0
SignedLaw = (accepts : Accepts) (tx : Tx) (identity : Identity) → Contains (signers_of accepts tx) identity ↔ HasSigned accepts tx identity

abbrev pub HasEndorsed : List Endorsement → Identity → Type 0
HasEndorsed es identity = (e : Endorsement) × Contains es e × (e.endorser ≡ identity)

module _ (law : SignedLaw) (es : List Endorsement) (signers : List Identity) (i : Identity) (Signed : Type 0) (known : Contains signers i ↔ Signed) where
  pub refused_endorser : Contains (refused_of es signers) i → HasEndorsed es i × (Signed → ⊥)
  refused_endorser c =
      let h = (law (others signers) (with_endorsements es) i).0 (subst (λ (l : List Identity). Contains l i) (refused_is es signers) c) in
      let no : is_among signers i ≡ false = ap (is_among signers) (sym h.2) ∙ not_true (is_among signers h.0.endorser) h.3 in (
        (h.0, h.1, h.2),
        (λ signed. false≢true (sym no ∙ among signers i (known.1 signed))),
      )

  pub endorser_refused : HasEndorsed es i → (Signed → ⊥) → Contains (refused_of es signers) i
  endorser_refused h none = by (is_among signers i) refl
    where
      by : (b : Bool) → is_among signers i ≡ b → Contains (refused_of es signers) i
      by true e = absurd (none (known.0 (from_among signers i e)))
      by false e =
          let other : not (is_among signers h.0.endorser) ≡ true = ap not (ap (is_among signers) h.2 ∙ e) in
          subst (λ (l : List Identity). Contains l i) (sym (refused_is es signers)) ((law (others signers) (with_endorsements es) i).1 (h.0, h.1, h.2, other))
