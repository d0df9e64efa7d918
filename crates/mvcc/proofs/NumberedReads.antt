-- The reads of namespaces, numbered one after the other.
use Rattle.std.proofs.Common.{◌≡◌, ℕ, zero, suc, ◌+◌, ◌<◌, ◌≤◌, List, [], ◌∷◌, ◌++◌, ◌-◌, length, drop, map, Some, refl, sym, ap, ◌∙◌, arith, length-append}
use Rattle.std.specs.Prelude.{flat_map, option_map, ◌^◌}
use Rattle.std.specs.List.{slice_get}
use Rattle.std.proofs.Math.Seq.{drop-nil, drop-append_seam}
use Rattle.std.proofs.lemmas.List.{length-drop, length-map}
use Rattle.std.proofs.lemmas.List.Concat.{flat_map-cons}
use Rattle.transaction.specs.declared.transaction.Read.{Read}
use Rattle.transaction.specs.declared.transaction.NsSet.{NsSet}
use Rattle.rules.specs.State.{StateKey}
use Rattle.mvcc.specs.ReadPlaces.{keys_read, AreReadsFrom}

-- all reads but the first ones are those of the namespaces from this place on
pub record AreNext (keys : List StateKey) (first : ℕ) (sets : List NsSet) : Type 0 where
  pub within : first ≤ length keys
  pub are : drop first keys ≡ flat_map keys_read sets

at_place : (n m : ℕ) (keys : List StateKey) → slice_get keys (m + n) ≡ slice_get (drop m keys) n
at_place n zero keys = let e : zero + n ≡ n = omega arith in ap (slice_get keys) e
at_place n (suc m) [] = refl
at_place n (suc m) (k ∷ keys) = let e : suc m + n ≡ suc (m + n) = omega arith in ap (slice_get (k ∷ keys)) e ∙ at_place n m keys

behind_place : (n m : ℕ) (keys : List StateKey) → drop (m + n) keys ≡ drop n (drop m keys)
behind_place n zero keys = let e : zero + n ≡ n = omega arith in ap (λ (p : ℕ). drop p keys) e
behind_place n (suc m) [] = drop-nil (suc m + n) ∙ sym (drop-nil n)
behind_place n (suc m) (k ∷ keys) = let e : suc m + n ≡ suc (m + n) = omega arith in ap (λ (p : ℕ). drop p (k ∷ keys)) e ∙ behind_place n m keys

in_front : (namespace : List ℕ) (reads : List Read) (rest : List StateKey) (n : ℕ) (r : Read) → slice_get reads n ≡ Some r → slice_get (map (λ x. (namespace, x.key)) reads ++ rest) n ≡ Some (namespace, r.key)
in_front namespace [] rest n r e = absurd cc
in_front namespace (x ∷ reads) rest zero r e = ap (option_map (λ (y : Read). (namespace, y.key))) e
in_front namespace (x ∷ reads) rest (suc n) r e = in_front namespace reads rest n r e

module _ (keys : List StateKey) (first : ℕ) (sets rest : List NsSet) (s : NsSet) (is : sets ≡ s ∷ rest) (next : AreNext keys first sets) where
  split : drop first keys ≡ keys_read s ++ flat_map keys_read rest
  split = next.are ∙ ap (flat_map keys_read) is ∙ flat_map-cons keys_read s rest

  pub reads_from : length keys < 2 ^ 64 → AreReadsFrom keys first s.name s.reads
  reads_from few = record { countable = few; each = λ n r e. at_place n first keys ∙ ap (λ (ks : List StateKey). slice_get ks n) split ∙ in_front s.name s.reads (flat_map keys_read rest) n r e }

  own : length (keys_read s) ≡ length s.reads
  own = length-map s.reads (λ r. (s.name, r.key))

  pub fits : first + length s.reads ≤ length keys
  fits =
      let behind : length keys - first ≡ length (keys_read s) + length (flat_map keys_read rest) = sym (length-drop first keys) ∙ ap (λ (ks : List StateKey). length ks) split ∙ length-append (keys_read s) (flat_map keys_read rest) in
      omega (arith, own, behind, next.within)

  pub next_after : AreNext keys (first + length s.reads) rest
  next_after = record {
    within = fits;
    are = behind_place (length s.reads) first keys ∙ ap (λ (ks : List StateKey). drop (length s.reads) ks) split ∙ ap (λ (n : ℕ). drop n (keys_read s ++ flat_map keys_read rest)) (sym own) ∙ drop-append_seam (keys_read s) (flat_map keys_read rest);
  }
