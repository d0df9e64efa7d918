-- The places of a bucket, one after the other.
use Rattle.std.proofs.Common.{◌≡◌, ℕ, suc, ◌-◌, ◌<◌, ◌≤◌, cond, List, length, take, get_or, sym, ap, subst, ◌∙◌, arith}
use Rattle.std.specs.Prelude.{◌==◌}
use Rattle.std.proofs.Math.ListN.{get_or-map}
use Rattle.std.proofs.lemmas.Bool.{eqb-true, eq-eqb, ne_eqb}
use Rattle.std.proofs.lemmas.List.{length-map, get_or_read, take_all}
use Rattle.history_index.specs.declared.links.Link.{Link}
use Rattle.history_index.specs.Places.{last_with}
use Rattle.history_index.specs.Buckets.{bucket_of, last_in, hashes_of, no_link, AreLinked, IsChain, KeepsLast, LeadBack}
use Rattle.history_index.proofs.Places.{before-bound, before-still, before-step, before-hit, before-narrow}

pub chained : (n b : ℕ) (hashes : List ℕ) (m : ℕ) → m ≤ length hashes → IsChain n b hashes (last_in n b (take m hashes))
chained n b hashes m h =
    let bound : last_in n b (take m hashes) ≤ m = before-bound (λ x. bucket_of n x == b) hashes m h in
    (omega (arith, bound, h), before-still (λ x. bucket_of n x == b) hashes m h)

-- those before the last place of the bucket are all that have the hash
pub jumped : (n hash : ℕ) (hashes : List ℕ) (m : ℕ) → m ≤ length hashes → last_with hash (take (last_in n (bucket_of n hash) (take m hashes)) hashes) ≡ last_with hash (take m hashes)
jumped n hash hashes m h =
    before-narrow (λ x. bucket_of n x == bucket_of n hash) hashes (λ x. x == hash)
    (λ x e. eq-eqb (bucket_of n x) (bucket_of n hash) (ap (bucket_of n) (eqb-true x hash e))) m h

abbrev pub link_at : List Link → ℕ → Link
link_at links i = get_or links i no_link

pub hash_at : (links : List Link) (i : ℕ) → get_or (hashes_of links) i 0 ≡ (link_at links i).hash
hash_at links i = get_or-map (λ (l : Link). l.hash) links i no_link

-- a place leads back to an earlier one of its bucket
pub linked_back : (n : ℕ) (links : List Link) → AreLinked n links → LeadBack links
linked_back n links linked i lt =
    let same : (link_at links i).older ≡ last_in n (bucket_of n (link_at links i).hash) (take i (hashes_of links)) = linked i lt in
    let bound : last_in n (bucket_of n (link_at links i).hash) (take i (hashes_of links)) ≤ i =
    before-bound (λ x. bucket_of n x == bucket_of n (link_at links i).hash) (hashes_of links) i (omega (arith, lt, length-map links (λ (l : Link). l.hash))) in
    omega (arith, same, bound)

-- ---- on the way to a hash

module _ (hash : ℕ) (links : List Link) where
  abbrev hashes : List ℕ
  hashes = hashes_of links

  abbrev before : ℕ → ℕ
  before place = last_with hash (take place hashes)

  at : (p : ℕ) → p < length links → before (suc p) ≡ cond ((link_at links p).hash == hash) (suc p) (before p)
  at p lt = before-step (λ x. x == hash) hashes p 0 (omega (arith, lt, length-map links (λ (l : Link). l.hash))) ∙ ap (λ h. cond (h == hash) (suc p) (before p)) (hash_at links p)

  same_bucket : (n p : ℕ) → p < length links → IsChain n (bucket_of n hash) hashes (suc p) → bucket_of n (link_at links p).hash ≡ bucket_of n hash
  same_bucket n p lt chain =
      ap (bucket_of n) (sym (hash_at links p))
      ∙ eqb-true (bucket_of n (get_or hashes p 0)) (bucket_of n hash)
      (before-hit (λ x. bucket_of n x == bucket_of n hash) hashes p 0 (omega (arith, lt, length-map links (λ (l : Link). l.hash))) chain.1)

  -- what a place leads to
  abbrev pub LeadsTo : ℕ → ℕ → ℕ → Type 0
  LeadsTo n place older = IsChain n (bucket_of n hash) hashes older × (before older ≡ before place)

  -- a place of another hash is skipped
  passed : (n p : ℕ) → AreLinked n links → p < length links → IsChain n (bucket_of n hash) hashes (suc p) → ¬ ((link_at links p).hash ≡ hash) → LeadsTo n (suc p) (link_at links p).older
  passed n p linked lt chain differs =
      let older : (link_at links p).older ≡ last_in n (bucket_of n hash) (take p hashes) = linked p lt ∙ ap (λ b. last_in n b (take p hashes)) (same_bucket n p lt chain) in
      let le : p ≤ length hashes = omega (arith, lt, length-map links (λ (l : Link). l.hash)) in (
        subst (IsChain n (bucket_of n hash) hashes) (sym older) (chained n (bucket_of n hash) hashes p le),
        ap before older ∙ jumped n hash hashes p le ∙ sym (at p lt ∙ ap (λ b. cond b (suc p) (before p)) (ne_eqb (link_at links p).hash hash differs)),
      )

  pub passed_over : (n place : ℕ) → AreLinked n links → place ≤ length links → IsChain n (bucket_of n hash) hashes place → 0 < place → ¬ ((link_at links (place - 1)).hash ≡ hash)
      → LeadsTo n place (link_at links (place - 1)).older
  passed_over n place linked bound chain some differs =
      let e : suc (place - 1) ≡ place = omega arith in
      subst (λ m. LeadsTo n m (link_at links (place - 1)).older) e (passed n (place - 1) linked (omega arith) (subst (IsChain n (bucket_of n hash) hashes) (sym e) chain) differs)

  -- one of the hash is the last
  pub found : (place : ℕ) → place ≤ length links → 0 < place → (link_at links (place - 1)).hash ≡ hash → place ≡ before place
  found place bound some same =
      let e : suc (place - 1) ≡ place = omega arith in
      subst (λ m. m ≡ before m) e
      (sym (at (place - 1) (omega arith) ∙ ap (λ b. cond b (suc (place - 1)) (before (place - 1))) (eq-eqb (link_at links (place - 1)).hash hash same)))

-- ---- where a walk begins

module _ (n : ℕ) (links lent : List Link) (linked : AreLinked n links) (same : lent ≡ links) where
  pub lent_back : LeadBack lent
  lent_back = subst LeadBack (sym same) (linked_back n links linked)

  -- what a walk from this place returns
  abbrev pub AnswersFrom : ℕ → ℕ → ℕ → Type 0
  AnswersFrom hash from result = (m : ℕ) → AreLinked m lent → IsChain m (bucket_of m hash) (hashes_of lent) from → result ≡ last_with hash (take from (hashes_of lent))

  answer : (hash i from result : ℕ) → i ≤ length links → from ≡ last_in n (bucket_of n hash) (take i (hashes_of links)) → AnswersFrom hash from result → result ≡ last_with hash (take i (hashes_of links))
  answer hash i from result le is walk =
      let within : i ≤ length (hashes_of links) = omega (arith, le, length-map links (λ (l : Link). l.hash)) in
      walk n (subst (AreLinked n) (sym same) linked)
      (subst (λ ls. IsChain n (bucket_of n hash) (hashes_of ls) from) (sym same)
      (subst (IsChain n (bucket_of n hash) (hashes_of links)) (sym is) (chained n (bucket_of n hash) (hashes_of links) i within)))
      ∙ (λ j. last_with hash (take (is j) (hashes_of (same j))))
      ∙ jumped n hash (hashes_of links) i within

  bounded : (bucket i from : ℕ) → i ≤ length links → from ≡ last_in n bucket (take i (hashes_of links)) → from ≤ length lent
  bounded bucket i from le is =
      let within : i ≤ length (hashes_of links) = omega (arith, le, length-map links (λ (l : Link). l.hash)) in
      let chain : IsChain n bucket (hashes_of links) from = subst (IsChain n bucket (hashes_of links)) (sym is) (chained n bucket (hashes_of links) i within) in
      omega (arith, chain.0, length-map links (λ (l : Link). l.hash), ap length same)

  -- before a place
  module _ (i : ℕ) (l : Link) (lt : i < length links) (is : l ≡ get_or links i l) where
    at_it : l ≡ link_at links i
    at_it = get_or_read links i l lt is no_link

    older_is : l.older ≡ last_in n (bucket_of n l.hash) (take i (hashes_of links))
    older_is = subst (λ (x : Link). x.older ≡ last_in n (bucket_of n x.hash) (take i (hashes_of links))) (sym at_it) (linked i lt)

    pub older_bound : l.older ≤ length lent
    older_bound = bounded (bucket_of n l.hash) i l.older (omega arith) older_is

    pub before_it : (result : ℕ) → AnswersFrom l.hash l.older result → result ≡ last_with (get_or (hashes_of links) i 0) (take i (hashes_of links))
    before_it result walk =
        answer l.hash i l.older result (omega arith) older_is walk
        ∙ ap (λ h. last_with h (take i (hashes_of links))) (ap (λ (x : Link). x.hash) at_it ∙ sym (hash_at links i))

  -- of a bucket
  module _ (buckets : List ℕ) (hash bucket place : ℕ) (keeps : KeepsLast buckets (hashes_of links)) (count : length buckets ≡ n) (own : bucket ≡ bucket_of n hash) (lt : bucket < n)
      (is : place ≡ get_or buckets bucket place) where
    place_is : place ≡ last_in n (bucket_of n hash) (take (length links) (hashes_of links))
    place_is =
        get_or_read buckets bucket place (omega arith) is 0
        ∙ keeps bucket (omega arith)
        ∙ (λ j. last_in (count j) (own j) (sym (take_all (length links) (hashes_of links) (omega (arith, length-map links (λ (l : Link). l.hash)))) j))

    pub place_bound : place ≤ length lent
    place_bound = bounded (bucket_of n hash) (length links) place (omega arith) place_is

    pub last_of_all : (result : ℕ) → AnswersFrom hash place result → result ≡ last_with hash (hashes_of links)
    last_of_all result walk =
        answer hash (length links) place result (omega arith) place_is walk
        ∙ ap (last_with hash) (take_all (length links) (hashes_of links) (omega (arith, length-map links (λ (l : Link). l.hash))))
