-- A list of uses more.
use Rattle.std.proofs.Common.{◌≡◌, ℕ, ◌+◌, ◌<◌, Bool, true, false, cond, List, [], ◌∷◌, ◌++◌, length, take, get_or, Option, Some, None, refl, sym, ap, subst, ◌∙◌, arith}
use Rattle.std.specs.FinMap.{get, empty, get-empty}
use Rattle.std.specs.Str.{bytes_eq}
use Rattle.std.proofs.Math.ListN.{get_or-append}
use Rattle.std.proofs.lemmas.List.{length-append, append_assoc, append-nil, get_or_push, get_or_read, map_more}
use Rattle.values.specs.Order.{bytes_cmp}
use Rattle.rules.specs.declared.delta.NewUse.{NewUse}
use Rattle.rules.specs.declared.first_use.FirstUse.{FirstUse}
use Rattle.rules.specs.FirstUses.{FirstUses, with_uses}
use Rattle.rules.specs.Delta.{uses_in}
use Rattle.rules.proofs.IdUses.{with_uses-append, with_uses-none}
use Rattle.txid_index.specs.declared.lists.UsePlace.{UsePlace}
use Rattle.txid_index.specs.Hash.{id_hash}
use Rattle.txid_index.specs.Lists.{no_use, use_in, IsThere, AreThere, IsAt, IsListAt, listed, uses_of}
use Rattle.txid_index.specs.Found.{first_at, other_of, found_from, IsIndex}
use Rattle.txid_index.proofs.Finding.{Places, Others}

-- ---- what stands in lists that are there stands there still

stands : (lists more : List (List NewUse)) (p : UsePlace) → IsThere lists p → use_in (lists ++ more) p ≡ use_in lists p
stands lists more p there = ap (λ us. get_or us p.index no_use) (get_or-append lists more [] p.list there.0)

pub there_more : (lists more : List (List NewUse)) (firsts : Places) → AreThere lists firsts → AreThere (lists ++ more) firsts
there_more lists more firsts are hash p e =
    let t = are hash p e in
    let first : p.list < length lists = t.0 in
    (omega (arith, first, length-append lists more), subst (λ us. p.index < length us) (sym (get_or-append lists more [] p.list first)) t.1)

pub index_more : (lists more : List (List NewUse)) (firsts : Places) (others : Others) (uses : FirstUses) → AreThere lists firsts → IsIndex lists firsts others uses → IsIndex (lists ++ more) firsts others uses
index_more lists more firsts others uses are index = record { finds = λ id. by id (first_at firsts (id_hash id)) refl ∙ index.finds id; behind = index.behind }
  where
    by : (id : List ℕ) (o : Option UsePlace) → first_at firsts (id_hash id) ≡ o → found_from (lists ++ more) others id o ≡ found_from lists others id o
    by id None e = refl
    by id (Some p) e = ap (λ (u : NewUse). cond (bytes_eq u.id id) (Some u.first_use) (other_of others id)) (stands lists more p (are (id_hash id) p e))

-- the last list, as it is read
module _ (lists all : List (List NewUse)) (us list : List NewUse) (n : ℕ) (many : length lists ≡ n) (is : all ≡ lists ++ us ∷ []) (read : list ≡ get_or all n list) where
  within : n < length all
  within = omega (arith, many, ap length is, length-append lists (us ∷ []))

  pub last_is : list ≡ us
  last_is = get_or_read all n list within read [] ∙ ap (λ (ls : List (List NewUse)). get_or ls n []) is ∙ get_or_push lists us [] n many

  pub is_last : IsListAt all n list
  is_last = (within, sym (get_or_read all n list within read []))

-- a use of a list stands there
pub is_at : (lists : List (List NewUse)) (us : List NewUse) (list index : ℕ) (u : NewUse) → IsListAt lists list us → index < length us → u ≡ get_or us index u
    → IsAt lists (record { list = list; index = index }) u
is_at lists us list index u at lt is = (
  (at.0, subst (λ (l : List NewUse). index < length l) (sym at.1) lt),
  ap (λ (l : List NewUse). get_or l index no_use) at.1 ∙ sym (get_or_read us index u lt is no_use),
)

-- ---- and they make its uses

pub one_more : (before : FirstUses) (us : List NewUse) (i : ℕ) (d : NewUse) → i < length us
    → with_uses (with_uses before (uses_in (take i us))) (((get_or us i d).id, (get_or us i d).first_use) ∷ []) ≡ with_uses before (uses_in (take (i + 1) us))
one_more before us i d lt =
    sym (with_uses-append before (uses_in (take i us)) (uses_in (get_or us i d ∷ [])))
    ∙ ap (with_uses before) (sym (map_more (λ (x : NewUse). (x.id, x.first_use)) us i d lt))

listed_more : (lists : List (List NewUse)) (us : List NewUse) → listed (lists ++ us ∷ []) ≡ listed lists ++ uses_in us
listed_more [] us = append-nil (uses_in us)
listed_more (l ∷ lists) us = ap (λ rest. uses_in l ++ rest) (listed_more lists us) ∙ sym (append_assoc (uses_in l) (listed lists) (uses_in us))

pub uses_more : (lists : List (List NewUse)) (us : List NewUse) → uses_of (lists ++ us ∷ []) ≡ with_uses (uses_of lists) (uses_in us)
uses_more lists us = ap (with_uses empty) (listed_more lists us) ∙ with_uses-append empty (listed lists) (uses_in us)

-- ---- kept in any way that answers alike

pub index_alike : (lists same : List (List NewUse)) (firsts next : Places) (others more : Others) → IsIndex lists firsts others (uses_of lists) → same ≡ lists
    → ((hash : ℕ) → first_at next hash ≡ first_at firsts hash) → ((id : List ℕ) → other_of more id ≡ other_of others id) → IsIndex same next more (uses_of same)
index_alike lists same firsts next others more index e at of = subst (λ ls. IsIndex ls next more (uses_of ls)) (sym e) (record {
  finds = λ id. by id (first_at firsts (id_hash id)) (at (id_hash id)) ∙ index.finds id;
  behind = λ id none. of id ∙ index.behind id (sym (at (id_hash id)) ∙ none);
})
  where
    by : (id : List ℕ) (o : Option UsePlace) → first_at next (id_hash id) ≡ first_at firsts (id_hash id) → found_from lists more id (first_at next (id_hash id)) ≡ found_from lists others id (first_at firsts (id_hash id))
    by id o e2 = ap (found_from lists more id) e2 ∙ from id (first_at firsts (id_hash id))
      where
        from : (id : List ℕ) (o : Option UsePlace) → found_from lists more id o ≡ found_from lists others id o
        from id None = refl
        from id (Some p) = ap (λ (x : Option FirstUse). cond (bytes_eq (use_in lists p).id id) (Some (use_in lists p).first_use) x) (of id)

pub there_alike : (lists same : List (List NewUse)) (firsts next : Places) → AreThere lists firsts → same ≡ lists → ((hash : ℕ) → first_at next hash ≡ first_at firsts hash) → AreThere same next
there_alike lists same firsts next are e at = subst (λ ls. AreThere ls next) (sym e) (λ hash p is. are hash p (sym (at hash) ∙ is))

-- ---- no lists

pub no_uses : uses_of [] ≡ empty
no_uses = with_uses-none empty

index_none : IsIndex [] [] [] (uses_of [])
index_none = record {
  finds = λ id. sym (ap (λ (m : FirstUses). get m id) no_uses ∙ get-empty {X = FirstUse} bytes_cmp id);
  behind = λ id none. refl;
}

there_none : AreThere [] []
there_none hash p e = absurd cc

pub nothing_kept : (lists : List (List NewUse)) (firsts : Places) (others : Others) → lists ≡ [] → ((hash : ℕ) → first_at firsts hash ≡ None) → ((id : List ℕ) → other_of others id ≡ None)
    → IsIndex lists firsts others (uses_of lists) × AreThere lists firsts
nothing_kept lists firsts others none no_first no_other = (index_alike [] lists [] firsts [] others index_none none no_first no_other, there_alike [] lists [] firsts there_none none no_first)
