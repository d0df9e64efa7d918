-- The pieces of a record are the bytes that its reason names.
use Rattle.std.proofs.Common.{◌≡◌, ℕ, suc, ◌+◌, List, [], ◌∷◌, ◌++◌, length, map, take, drop, refl, sym, ap, ◌∙◌}
use Rattle.std.specs.List.{flat_map}
use Rattle.std.proofs.lemmas.List.{length-append, append_assoc}
use Rattle.std.proofs.Math.Seq.{drop-append_seam, take-append_seam}
use Rattle.transaction.specs.Grammar.{role_byte}
use Rattle.transaction.specs.declared.identity.Identity.{Identity}
use Rattle.verdicts.specs.Said.{piece}
use Rattle.verdicts.proofs.Pieces.{cut}
use Rattle.reason_lists.specs.Pooled.{identity_bytes, identities_from}
use Rattle.reason_lists.specs.Reading.{parts_read, parts_of}

pub further : {X : Type 0} (front x : List X) (n : ℕ) → n ≡ length front → n + length x ≡ length (front ++ x)
further front x n at = ap (λ k. k + length x) at ∙ sym (length-append front x)

-- ---- seven pieces in a row, of which the first four count as one for those behind

module _ (pool front rest a b c d e f g : List ℕ) (n : ℕ) (whole : pool ≡ front ++ (((a ++ (b ++ (c ++ d))) ++ (e ++ (f ++ g))) ++ rest)) (at : n ≡ length front) where
  abbrev four : List ℕ
  four = a ++ (b ++ (c ++ d))

  pub first : piece pool (record { at = n; len = length a }) ≡ a
  first = cut pool front a (b ++ (c ++ (d ++ (e ++ (f ++ (g ++ rest)))))) n (whole ∙ simp append_assoc) at

  pub second : piece pool (record { at = n + length a; len = length b }) ≡ b
  second = cut pool (front ++ a) b (c ++ (d ++ (e ++ (f ++ (g ++ rest))))) (n + length a) (whole ∙ simp append_assoc) (further front a n at)

  pub third : piece pool (record { at = n + length a + length b; len = length c }) ≡ c
  third =
      cut pool ((front ++ a) ++ b) c (d ++ (e ++ (f ++ (g ++ rest)))) (n + length a + length b) (whole ∙ simp append_assoc)
      (further (front ++ a) b (n + length a) (further front a n at))

  pub fourth : piece pool (record { at = n + length a + length b + length c; len = length d }) ≡ d
  fourth =
      cut pool (((front ++ a) ++ b) ++ c) d (e ++ (f ++ (g ++ rest))) (n + length a + length b + length c) (whole ∙ simp append_assoc)
      (further ((front ++ a) ++ b) c (n + length a + length b) (further (front ++ a) b (n + length a) (further front a n at)))

  pub fifth : piece pool (record { at = n + length four; len = length e }) ≡ e
  fifth = cut pool (front ++ four) e (f ++ (g ++ rest)) (n + length four) (whole ∙ simp append_assoc) (further front four n at)

  pub sixth : piece pool (record { at = n + length four + length e; len = length f }) ≡ f
  sixth =
      cut pool ((front ++ four) ++ e) f (g ++ rest) (n + length four + length e) (whole ∙ simp append_assoc)
      (further (front ++ four) e (n + length four) (further front four n at))

  pub seventh : piece pool (record { at = n + length four + length e + length f; len = length g }) ≡ g
  seventh =
      cut pool (((front ++ four) ++ e) ++ f) g rest (n + length four + length e + length f) (whole ∙ simp append_assoc)
      (further ((front ++ four) ++ e) f (n + length four + length e) (further (front ++ four) e (n + length four) (further front four n at)))

-- ---- identities

pub parts-identities : (pool front rest : List ℕ) (n : ℕ) (identities : List Identity) → pool ≡ front ++ (flat_map identity_bytes identities ++ rest) → n ≡ length front
    → map (parts_read pool) (identities_from n identities) ≡ map parts_of identities
parts-identities pool front rest n [] whole at = refl
parts-identities pool front rest n (i ∷ identities) whole at =
    let left : List ℕ = flat_map identity_bytes identities ++ rest in
    let org : piece pool (record { at = n; len = length i.org }) ≡ i.org = cut pool front i.org (i.label ++ left) n (whole ∙ simp append_assoc) at in
    let label : piece pool (record { at = n + length i.org; len = length i.label }) ≡ i.label =
    cut pool (front ++ i.org) i.label left (n + length i.org) (whole ∙ simp append_assoc) (further front i.org n at) in
    let others = parts-identities pool (front ++ identity_bytes i) rest (n + length (identity_bytes i)) identities (whole ∙ simp append_assoc) (further front (identity_bytes i) n at) in
    λ k. (org k, role_byte i.role, label k) ∷ others k

pub length-identities : (n : ℕ) (identities : List Identity) → length identities ≡ length (identities_from n identities)
length-identities n [] = refl
length-identities n (i ∷ identities) = ap suc (length-identities (n + length (identity_bytes i)) identities)

-- what stands between two lists
pub between : {X : Type 0} (all front x rest : List X) (m k : ℕ) → all ≡ front ++ (x ++ rest) → m ≡ length front → k ≡ length x → take k (drop m all) ≡ x
between all front x rest m k whole at size =
    (λ i. take (size i) (drop (at i) (whole i))) ∙ ap (take (length x)) (drop-append_seam front (x ++ rest)) ∙ take-append_seam x rest
