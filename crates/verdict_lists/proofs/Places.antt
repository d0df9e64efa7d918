-- A listed verdict is on its request.
use Rattle.std.proofs.Common.{◌≡◌, ℕ, ◌+◌, ◌==◌, Bool, ◌||◌, List, [], ◌∷◌, ◌++◌, length, refl, sym, ap, ◌∙◌}
use Rattle.std.specs.Prelude.{◌&&◌}
use Rattle.std.specs.List.{list_any}
use Rattle.std.specs.Str.{bytes_eq}
use Rattle.std.proofs.lemmas.List.{length-append, append_assoc}
use Rattle.transaction.specs.Grammar.{role_byte}
use Rattle.signature_requests.specs.declared.request.Request.{Request}
use Rattle.verdicts.specs.declared.verdict.Verdict.{Verdict}
use Rattle.verdicts.specs.Said.{piece, is_on, says}
use Rattle.verdicts.proofs.Pieces.{cut}
use Rattle.verdict_lists.specs.Listed.{pooled_bytes, pool_of, verdict_at, verdicts_from}

-- whether a request asks what is asked
abbrev pub asks : Request → Request → Bool
asks r asked =
    bytes_eq asked.signature r.signature
    && ((role_byte asked.identity.role == role_byte r.identity.role)
    && (bytes_eq asked.identity.org r.identity.org && (bytes_eq asked.identity.label r.identity.label && bytes_eq asked.message r.message)))

-- the four pieces of a request
module _ (pool front rest : List ℕ) (n : ℕ) (r : Request) (b : Bool) (whole : pool ≡ front ++ (pooled_bytes r ++ rest)) (at : n ≡ length front) where
  abbrev org : List ℕ
  org = r.identity.org

  abbrev label : List ℕ
  label = r.identity.label

  abbrev v : Verdict
  v = verdict_at n r b

  whole-org : pool ≡ front ++ (org ++ (label ++ (r.message ++ (r.signature ++ rest))))
  whole-org = whole ∙ simp append_assoc

  whole-label : pool ≡ (front ++ org) ++ (label ++ (r.message ++ (r.signature ++ rest)))
  whole-label = whole ∙ simp append_assoc

  whole-message : pool ≡ ((front ++ org) ++ label) ++ (r.message ++ (r.signature ++ rest))
  whole-message = whole ∙ simp append_assoc

  whole-signature : pool ≡ (((front ++ org) ++ label) ++ r.message) ++ (r.signature ++ rest)
  whole-signature = whole ∙ simp append_assoc

  at-label : n + length org ≡ length (front ++ org)
  at-label = ap (λ m. m + length org) at ∙ sym (length-append front org)

  at-message : n + length org + length label ≡ length ((front ++ org) ++ label)
  at-message = ap (λ m. m + length label) at-label ∙ sym (length-append (front ++ org) label)

  at-signature : n + length org + length label + length r.message ≡ length (((front ++ org) ++ label) ++ r.message)
  at-signature = ap (λ m. m + length r.message) at-message ∙ sym (length-append ((front ++ org) ++ label) r.message)

  is_org : piece pool v.org ≡ org
  is_org = cut pool front org (label ++ (r.message ++ (r.signature ++ rest))) n whole-org at

  is_label : piece pool v.label ≡ label
  is_label = cut pool (front ++ org) label (r.message ++ (r.signature ++ rest)) (n + length org) whole-label at-label

  is_message : piece pool v.message ≡ r.message
  is_message = cut pool ((front ++ org) ++ label) r.message (r.signature ++ rest) (n + length org + length label) whole-message at-message

  is_signature : piece pool v.signature ≡ r.signature
  is_signature = cut pool (((front ++ org) ++ label) ++ r.message) r.signature rest (n + length org + length label + length r.message) whole-signature at-signature

  pub on_its_request : (asked : Request) → is_on pool v asked.identity asked.message asked.signature ≡ asks r asked
  on_its_request asked =
      λ i. bytes_eq asked.signature (is_signature i)
      && ((role_byte asked.identity.role == role_byte r.identity.role)
      && (bytes_eq asked.identity.org (is_org i) && (bytes_eq asked.identity.label (is_label i) && bytes_eq asked.message (is_message i))))

-- all that listed verdicts say
pub said : (answer : Request → Bool) (asked : Request) (pool front : List ℕ) (n : ℕ) (requests : List Request) → pool ≡ front ++ pool_of requests → n ≡ length front
    → list_any (λ v. says pool v asked.identity asked.message asked.signature) (verdicts_from answer n requests) ≡ list_any (λ r. answer r && asks r asked) requests
said answer asked pool front n [] whole at = refl
said answer asked pool front n (r ∷ requests) whole at =
    let first = on_its_request pool front (pool_of requests) n r (answer r) whole at asked in
    let next : n + length (pooled_bytes r) ≡ length (front ++ pooled_bytes r) = ap (λ m. m + length (pooled_bytes r)) at ∙ sym (length-append front (pooled_bytes r)) in
    let others = said answer asked pool (front ++ pooled_bytes r) (n + length (pooled_bytes r)) requests (whole ∙ sym (append_assoc front (pooled_bytes r) (pool_of requests))) next in
    λ i. (answer r && first i) || others i
