-- Endorsers that aren't signers, one endorsement after another.
use Rattle.std.proofs.Common.{◌≡◌, ℕ, ◌+◌, ◌<◌, length, take, get_or, map, List, [], ◌∷◌, ◌++◌, Bool, true, false, cond, sym, ap, ◌∙◌, add-one}
use Rattle.std.specs.Prelude.{not, filter}
use Rattle.std.specs.List.{list_any}
use Rattle.std.proofs.lemmas.List.Elements.{filter-append}
use Rattle.std.proofs.lemmas.List.{append-nil, map-append}
use Rattle.std.proofs.Math.Seq.{take-suc}
use Rattle.transaction.specs.declared.identity.Identity.{Identity}
use Rattle.transaction.specs.declared.transaction.Endorsement.{Endorsement}
use Rattle.transaction.specs.Same.{is_same_identity}
use Rattle.policy_eval.specs.Signers.{each_once}
use Rattle.policy_eval.proofs.Once.{with_identity, once_more}
use Rattle.reasons.specs.Shortfall.{refused_of}

abbrev among : List Identity → Identity → Bool
among others x = list_any (λ other. is_same_identity other x) others

module _ (signers : List Identity) (es : List Endorsement) (i : ℕ) (e : Endorsement) (h : i < length es) (is : e ≡ get_or es i e) (refused : List Identity) (so_far : refused ≡ refused_of (take i es) signers) where
  abbrev front : List Identity
  front = map (λ x. x.endorser) (take i es)

  abbrev unsigned : Identity → Bool
  unsigned x = not (among signers x)

  shown : refused_of (take (i + 1) es) signers ≡ each_once (filter unsigned (front ++ e.endorser ∷ []))
  shown =
      ap (λ (l : List Endorsement). refused_of l signers) (rw add-one (take-suc es i e h) ∙ ap (λ (x : Endorsement). take i es ++ x ∷ []) (sym is))
      ∙ ap (λ (l : List Identity). each_once (filter unsigned l)) (map-append (λ x. x.endorser) (take i es) (e ∷ []))

  pub signed_too : among signers e.endorser ≡ true → refused ≡ refused_of (take (i + 1) es) signers
  signed_too signed =
      so_far
      ∙ sym (shown
      ∙ ap each_once (filter-append unsigned front (e.endorser ∷ []) ∙ ap (λ (b : Bool). filter unsigned front ++ cond (not b) (e.endorser ∷ []) []) signed ∙ append-nil (filter unsigned front)))

  once : among signers e.endorser ≡ false → refused_of (take (i + 1) es) signers ≡ with_identity refused e.endorser
  once apart =
      shown
      ∙ ap each_once (filter-append unsigned front (e.endorser ∷ []) ∙ ap (λ (b : Bool). filter unsigned front ++ cond (not b) (e.endorser ∷ []) []) apart)
      ∙ once_more (filter unsigned front) e.endorser
      ∙ ap (λ (l : List Identity). with_identity l e.endorser) (sym so_far)

  pub refused_already : among signers e.endorser ≡ false → among refused e.endorser ≡ true → refused ≡ refused_of (take (i + 1) es) signers
  refused_already apart there = sym (once apart ∙ ap (λ (b : Bool). cond b refused (refused ++ e.endorser ∷ [])) there)

  pub refused_newly : among signers e.endorser ≡ false → among refused e.endorser ≡ false → (copied : Identity) → copied ≡ e.endorser → (after : List Identity) → after ≡ refused ++ copied ∷ []
      → after ≡ refused_of (take (i + 1) es) signers
  refused_newly apart new copied same after pushed =
      pushed ∙ ap (λ (x : Identity). refused ++ x ∷ []) same ∙ sym (once apart ∙ ap (λ (b : Bool). cond b refused (refused ++ e.endorser ∷ [])) new)
