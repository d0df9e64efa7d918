-- Each identity at its first place, one identity after another.
use Rattle.std.proofs.Common.{◌≡◌, ℕ, ◌+◌, ◌<◌, length, take, get_or, map, List, [], ◌∷◌, ◌++◌, Bool, true, false, cond, refl, sym, ap, ◌∙◌, add-one}
use Rattle.std.specs.Prelude.{not, filter, ◌||◌, ◌&&◌, ◌==◌}
use Rattle.std.specs.List.{list_any}
use Rattle.std.specs.Str.{bytes_eq}
use Rattle.std.proofs.lemmas.Slice.Eq.{bytes_eq-Decides}
use Rattle.transaction.specs.declared.identity.Identity.{Identity}
use Rattle.transaction.specs.declared.identity.Role.{Role}
use Rattle.transaction.specs.declared.identity.Role.TheVariants.{Admin, Client, Peer, Orderer}
use Rattle.transaction.specs.Grammar.{role_byte, identity_bytes}
use Rattle.transaction.specs.Same.{is_same_identity}
use Rattle.policy_eval.specs.Signers.{each_once}
use Rattle.policy_eval.specs.Over.{is_accepted_over, signers_over}
use Rattle.policy_eval.specs.Accepts.{Accepts}
use Rattle.transaction.specs.declared.transaction.Endorsement.{Endorsement}
use Rattle.std.proofs.lemmas.List.Elements.{filter-append}
use Rattle.std.proofs.lemmas.List.{append-nil, map-append}
use Rattle.std.proofs.Math.Seq.{take-suc}

-- ---- identities that are the same are equal

both : (a b : Bool) → (a && b) ≡ true → (a ≡ true) × (b ≡ true)
both true b e = (refl, e)
both false b e = absurd cc

same_role : (a b : Role) → (role_byte a == role_byte b) ≡ true → a ≡ b
same_role Admin Admin e = refl
same_role Client Client e = refl
same_role Peer Peer e = refl
same_role Orderer Orderer e = refl
same_role Admin Client e = absurd cc
same_role Admin Peer e = absurd cc
same_role Admin Orderer e = absurd cc
same_role Client Admin e = absurd cc
same_role Client Peer e = absurd cc
same_role Client Orderer e = absurd cc
same_role Peer Admin e = absurd cc
same_role Peer Client e = absurd cc
same_role Peer Orderer e = absurd cc
same_role Orderer Admin e = absurd cc
same_role Orderer Client e = absurd cc
same_role Orderer Peer e = absurd cc

pub same_is : (a b : Identity) → is_same_identity a b ≡ true → a ≡ b
same_is a b e =
    let front = both (bytes_eq a.org b.org && (role_byte a.role == role_byte b.role)) (bytes_eq a.label b.label) e in
    let parts = both (bytes_eq a.org b.org) (role_byte a.role == role_byte b.role) front.0 in
    let org : a.org ≡ b.org = (bytes_eq-Decides a.org b.org).0 parts.0 in
    let role : a.role ≡ b.role = same_role a.role b.role parts.1 in
    let label : a.label ≡ b.label = (bytes_eq-Decides a.label b.label).0 front.1 in
    λ i. record { org = org i; role = role i; label = label i }

-- ---- one identity more

-- the identity at the end, unless it is there
abbrev pub with_identity : List Identity → Identity → List Identity
with_identity signers x = cond (list_any (λ signer. is_same_identity signer x) signers) signers (signers ++ x ∷ [])

abbrev pub differs : Identity → Identity → Bool
differs i other = not (is_same_identity i other)

-- what is left beside an identity has each other one that was there
still_there : (i x s : Identity) (others : List Identity) (there : Bool) → is_same_identity i x ≡ false → list_any (λ signer. is_same_identity signer x) others ≡ there
    → (b : Bool) → is_same_identity i s ≡ b
    → list_any (λ signer. is_same_identity signer x) (cond (not b) (s ∷ others) others) ≡ (is_same_identity s x || there)
still_there i x s others there e rest true t =
    let other : is_same_identity s x ≡ false = ap (λ a. is_same_identity a x) (sym (same_is i s t)) ∙ e in
    rw other rest
still_there i x s others there e rest false t = ap (λ b. is_same_identity s x || b) rest

any_kept : (i x : Identity) → is_same_identity i x ≡ false → (signers : List Identity)
    → list_any (λ signer. is_same_identity signer x) (filter (differs i) signers) ≡ list_any (λ signer. is_same_identity signer x) signers
any_kept i x e [] = refl
any_kept i x e (s ∷ signers) = still_there i x s (filter (differs i) signers) (list_any (λ signer. is_same_identity signer x) signers) e (any_kept i x e signers) (is_same_identity i s) refl

-- leaving one identity out, and then taking one more
more_beside : (i x : Identity) (signers : List Identity) → i ∷ filter (differs i) (with_identity signers x) ≡ with_identity (i ∷ filter (differs i) signers) x
more_beside i x signers = by (is_same_identity i x) (list_any (λ signer. is_same_identity signer x) signers) refl refl
  where
    others : List Identity
    others = filter (differs i) signers

    by : (b c : Bool) → is_same_identity i x ≡ b → list_any (λ signer. is_same_identity signer x) signers ≡ c
        → i ∷ filter (differs i) (cond c signers (signers ++ x ∷ [])) ≡ cond (is_same_identity i x || list_any (λ signer. is_same_identity signer x) others) (i ∷ others) (i ∷ (others ++ x ∷ []))
    by true true same there = rw same refl
    by true false same there = rw (same, filter-append (differs i) signers (x ∷ []), same) (ap (λ l. i ∷ l) (append-nil others))
    by false true same there = rw (same, any_kept i x same signers, there) refl
    by false false same there = rw (same, any_kept i x same signers, there, filter-append (differs i) signers (x ∷ []), same) refl

pub once_more : (is : List Identity) (x : Identity) → each_once (is ++ x ∷ []) ≡ with_identity (each_once is) x
once_more [] x = refl
once_more (i ∷ is) x = ap (λ signers. i ∷ filter (differs i) signers) (once_more is x) ∙ more_beside i x (each_once is)

-- ---- one endorsement more

signed_more : (accepts : Accepts) (body : List ℕ) (es : List Endorsement) (e : Endorsement)
    → signers_over accepts body (es ++ e ∷ []) ≡ cond (is_accepted_over accepts body e) (with_identity (signers_over accepts body es) e.endorser) (signers_over accepts body es)
signed_more accepts body es e = ap (λ l. each_once (map (λ e. e.endorser) l)) (filter-append (is_accepted_over accepts body) es (e ∷ [])) ∙ by (is_accepted_over accepts body e) refl
  where
    by : (b : Bool) → is_accepted_over accepts body e ≡ b
        → each_once (map (λ e. e.endorser) (filter (is_accepted_over accepts body) es ++ cond b (e ∷ []) [])) ≡ cond b (with_identity (signers_over accepts body es) e.endorser) (signers_over accepts body es)
    by true t = ap each_once (map-append (λ e. e.endorser) (filter (is_accepted_over accepts body) es) (e ∷ [])) ∙ once_more (map (λ e. e.endorser) (filter (is_accepted_over accepts body) es)) e.endorser
    by false t = ap (λ l. each_once (map (λ e. e.endorser) l)) (append-nil (filter (is_accepted_over accepts body) es))

signed_step : (accepts : Accepts) (body : List ℕ) (es : List Endorsement) (i : ℕ) (e : Endorsement) (signers : List Identity) → i < length es → e ≡ get_or es i e
    → signers ≡ signers_over accepts body (take i es)
    → signers_over accepts body (take (i + 1) es) ≡ cond (is_accepted_over accepts body e) (with_identity signers e.endorser) signers
signed_step accepts body es i e signers h is so_far =
    ap (signers_over accepts body) (rw add-one (take-suc es i e h) ∙ ap (λ x. take i es ++ x ∷ []) (sym is))
    ∙ signed_more accepts body (take i es) e
    ∙ ap (λ l. cond (is_accepted_over accepts body e) (with_identity l e.endorser) l) (sym so_far)

-- the signers after an endorsement whose endorser is a signer already, is a new one, or isn't accepted
pub signed_already : (accepts : Accepts) (body : List ℕ) (es : List Endorsement) (i : ℕ) (e : Endorsement) (signers : List Identity) → i < length es → e ≡ get_or es i e
    → signers ≡ signers_over accepts body (take i es) → list_any (λ signer. is_same_identity signer e.endorser) signers ≡ true
    → signers ≡ signers_over accepts body (take (i + 1) es)
signed_already accepts body es i e signers h is so_far there = sym (signed_step accepts body es i e signers h is so_far ∙ rw there (by (is_accepted_over accepts body e)))
  where
    by : (b : Bool) → cond b signers signers ≡ signers
    by true = refl
    by false = refl

pub signed_newly : (accepts : Accepts) (body : List ℕ) (es : List Endorsement) (i : ℕ) (e : Endorsement) (copied : Identity) (signers after : List Identity) → i < length es → e ≡ get_or es i e
    → signers ≡ signers_over accepts body (take i es) → list_any (λ signer. is_same_identity signer e.endorser) signers ≡ false → is_accepted_over accepts body e ≡ true
    → copied ≡ e.endorser → after ≡ signers ++ copied ∷ [] → after ≡ signers_over accepts body (take (i + 1) es)
signed_newly accepts body es i e copied signers after h is so_far there accepted same pushed =
    pushed ∙ ap (λ x. signers ++ x ∷ []) same ∙ sym (signed_step accepts body es i e signers h is so_far ∙ rw (accepted, there) refl)

pub not_signed : (accepts : Accepts) (body : List ℕ) (es : List Endorsement) (i : ℕ) (e : Endorsement) (signers : List Identity) → i < length es → e ≡ get_or es i e
    → signers ≡ signers_over accepts body (take i es) → is_accepted_over accepts body e ≡ false
    → signers ≡ signers_over accepts body (take (i + 1) es)
not_signed accepts body es i e signers h is so_far refused = sym (signed_step accepts body es i e signers h is so_far ∙ rw refused refl)

-- what the verifier answers of a message that begins with the body
pub accepted_is : (accepts : Accepts) (body : List ℕ) (e : Endorsement) (front : List ℕ) (signed : Bool) → front ≡ body
    → signed ≡ accepts e.endorser (front ++ identity_bytes e.endorser) e.signature → is_accepted_over accepts body e ≡ signed
accepted_is accepts body e front signed same answer =
    ap (λ l. accepts e.endorser (l ++ identity_bytes e.endorser) e.signature) (sym same) ∙ sym answer

pub found_is : (signers seen : List Identity) (x : Identity) (there : Bool) → there ≡ list_any (λ signer. is_same_identity signer x) seen → seen ≡ signers
    → list_any (λ signer. is_same_identity signer x) signers ≡ there
found_is signers seen x there found same = ap (list_any (λ signer. is_same_identity signer x)) (sym same) ∙ sym found
