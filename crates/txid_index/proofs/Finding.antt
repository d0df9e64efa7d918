-- Where the first use of an id is found, when a use more comes.
use Rattle.std.proofs.Common.{◌≡◌, ℕ, Bool, true, false, cond, not, List, [], ◌∷◌, Option, Some, None, refl, sym, ap, subst, ◌∙◌}
use Rattle.std.specs.Prelude.{◌==◌, if◌then◌else◌, unwrap_or}
use Rattle.std.specs.FinMap.{get}
use Rattle.std.specs.Option.{option_or}
use Rattle.std.specs.Str.{bytes_eq}
use Rattle.std.specs.Cmp.{eq_by_cmp_equiv}
use Rattle.std.specs.Cmp.Lexicographic.{nat_list_cmp_total, bytes_decides}
use Rattle.std.proofs.lemmas.Bool.{eqb-true, eq-eqb}
use Rattle.rules.specs.declared.delta.NewUse.{NewUse}
use Rattle.rules.specs.declared.first_use.FirstUse.{FirstUse}
use Rattle.rules.specs.FirstUses.{FirstUses, with_uses}
use Rattle.rules.proofs.IdUses.{get-with_uses}
use Rattle.rules.proofs.Keys.{bytes_ties}
use Rattle.txid_index.specs.declared.lists.UsePlace.{UsePlace}
use Rattle.txid_index.specs.Hash.{id_hash}
use Rattle.txid_index.specs.Lists.{use_in, IsThere, AreThere}
use Rattle.txid_index.specs.Found.{first_at, other_of, found_from, found, IsIndex, if_its, IsOneMore}

abbrev pub Places : Type 0
Places = List (ℕ × UsePlace)

abbrev pub Others : Type 0
Others = List (List ℕ × FirstUse)

pub turned : (k q : List ℕ) → bytes_eq k q ≡ bytes_eq q k
turned k q = sym (bytes_ties k q) ∙ (eq_by_cmp_equiv nat_list_cmp_total).symm k q ∙ bytes_ties q k

pub not_false : (b : Bool) → not b ≡ false → b ≡ true
not_false true e = refl
not_false false e = absurd cc

-- ---- what is found where an id has it, or may have it

or_none : (o : Option FirstUse) → o ≡ option_or o None
or_none None = refl
or_none (Some x) = refl

of_use : (uses : FirstUses) (u : NewUse) (q : List ℕ) → get (with_uses uses ((u.id, u.first_use) ∷ [])) q ≡ option_or (get uses q) (if_its u q)
of_use uses u q = get-with_uses uses ((u.id, u.first_use) ∷ []) q ∙ ap (λ (b : Bool). option_or (get uses q) (cond b (Some u.first_use) None)) (bytes_ties q u.id)

-- an index that finds one use more, where its id has none, is that of the uses with it
pub index_with : (lists : List (List NewUse)) (firsts next : Places) (others more : Others) (uses : FirstUses) (u : NewUse) → IsIndex lists firsts others uses
    → ((q : List ℕ) → found lists next more q ≡ option_or (found lists firsts others q) (if_its u q))
    → ((q : List ℕ) → first_at next (id_hash q) ≡ None → other_of more q ≡ None)
    → IsIndex lists next more (with_uses uses ((u.id, u.first_use) ∷ []))
index_with lists firsts next others more uses u index finds behind = record {
  finds = λ q. finds q ∙ ap (λ (o : Option FirstUse). option_or o (if_its u q)) (index.finds q) ∙ sym (of_use uses u q);
  behind = behind;
}

-- ---- ids and hashes

other_hash : (id q : List ℕ) → (id_hash id == id_hash q) ≡ false → bytes_eq q id ≡ false
other_hash id q e = by (bytes_eq q id) refl
  where
    by : (b : Bool) → bytes_eq q id ≡ b → b ≡ false
    by false s = refl
    by true s = let same : (id_hash id == id_hash q) ≡ true = eq-eqb (id_hash id) (id_hash q) (ap id_hash (sym ((bytes_decides q id).0 s))) in absurd cc

not_this : (firsts : Places) (id q : List ℕ) (first : UsePlace) → first_at firsts (id_hash id) ≡ Some first → first_at firsts (id_hash q) ≡ None → bytes_eq q id ≡ false
not_this firsts id q first at none = by (bytes_eq q id) refl
  where
    by : (b : Bool) → bytes_eq q id ≡ b → b ≡ false
    by false s = refl
    by true s = let here : None ≡ Some first = sym none ∙ ap (λ k. first_at firsts (id_hash k)) ((bytes_decides q id).0 s) ∙ at in absurd cc

-- ---- the first id with its hash

module _ (lists : List (List NewUse)) (firsts next : Places) (place : UsePlace) (hash : ℕ) (kept : (q : ℕ) → first_at next q ≡ (if hash == q then Some place else first_at firsts q)) where
  pub there_with : AreThere lists firsts → IsThere lists place → AreThere lists next
  there_with are own q p e = by (hash == q) (sym (kept q) ∙ e)
    where
      by : (b : Bool) → cond b (Some place) (first_at firsts q) ≡ Some p → IsThere lists p
      by true is = subst (IsThere lists) (ap (λ (o : Option UsePlace). unwrap_or o place) is) own
      by false is = are q p is

  pub with_first : (others : Others) (uses : FirstUses) (u : NewUse) → IsIndex lists firsts others uses → use_in lists place ≡ u → hash ≡ id_hash u.id → first_at firsts hash ≡ None
      → IsIndex lists next others (with_uses uses ((u.id, u.first_use) ∷ []))
  with_first others uses u index here own none = index_with lists firsts next others others uses u index finds behind
    where
      finds : (q : List ℕ) → found lists next others q ≡ option_or (found lists firsts others q) (if_its u q)
      finds q = ap (found_from lists others q) (kept (id_hash q)) ∙ by (hash == id_hash q) refl
        where
          by : (b : Bool) → (hash == id_hash q) ≡ b → found_from lists others q (cond b (Some place) (first_at firsts (id_hash q))) ≡ option_or (found lists firsts others q) (if_its u q)
          by true e =
              let same : first_at firsts (id_hash q) ≡ None = ap (first_at firsts) (sym (eqb-true hash (id_hash q) e)) ∙ none in
              ap (λ (x : NewUse). cond (bytes_eq x.id q) (Some x.first_use) (other_of others q)) here
              ∙ (λ i. cond (turned u.id q i) (Some u.first_use) (index.behind q same i))
              ∙ ap (λ (o : Option UsePlace). option_or (found_from lists others q o) (if_its u q)) (sym same)
          by false e =
              or_none (found lists firsts others q)
              ∙ ap (λ (b : Bool). option_or (found lists firsts others q) (cond b (Some u.first_use) None)) (sym (other_hash u.id q (ap (λ h. h == id_hash q) (sym own) ∙ e)))

      behind : (q : List ℕ) → first_at next (id_hash q) ≡ None → other_of others q ≡ None
      behind q e = by (hash == id_hash q) (sym (kept (id_hash q)) ∙ e)
        where
          by : (b : Bool) → cond b (Some place) (first_at firsts (id_hash q)) ≡ None → other_of others q ≡ None
          by true is = absurd cc
          by false is = index.behind q is

-- ---- an id whose hash has a place

module _ (lists : List (List NewUse)) (firsts : Places) (others : Others) (uses : FirstUses) (u : NewUse) (first : UsePlace) (index : IsIndex lists firsts others uses)
    (at : first_at firsts (id_hash u.id) ≡ Some first) where
  -- the place of a use of it
  pub with_none : bytes_eq (use_in lists first).id u.id ≡ true → IsIndex lists firsts others (with_uses uses ((u.id, u.first_use) ∷ []))
  with_none same = index_with lists firsts firsts others others uses u index (λ q. by q (bytes_eq q u.id) refl) index.behind
    where
      there : found lists firsts others u.id ≡ Some (use_in lists first).first_use
      there = ap (found_from lists others u.id) at ∙ ap (λ (b : Bool). cond b (Some (use_in lists first).first_use) (other_of others u.id)) same

      by : (q : List ℕ) (b : Bool) → bytes_eq q u.id ≡ b → found lists firsts others q ≡ option_or (found lists firsts others q) (cond b (Some u.first_use) None)
      by q false e = or_none (found lists firsts others q)
      by q true e =
          let has : found lists firsts others q ≡ Some (use_in lists first).first_use = ap (found lists firsts others) ((bytes_decides q u.id).0 e) ∙ there in
          has ∙ ap (λ (o : Option FirstUse). option_or o (Some u.first_use)) (sym has)

  -- the place of another
  pub with_other : (more : Others) → IsOneMore others u more → IsIndex lists firsts more (with_uses uses ((u.id, u.first_use) ∷ []))
  with_other more one = index_with lists firsts firsts others more uses u index (λ q. by q (first_at firsts (id_hash q)) refl) behind
    where
      by : (q : List ℕ) (o : Option UsePlace) → first_at firsts (id_hash q) ≡ o → found_from lists more q o ≡ option_or (found_from lists others q o) (if_its u q)
      by q None e = ap (λ (b : Bool). cond b (Some u.first_use) None) (sym (not_this firsts u.id q first at e))
      by q (Some p) e = on (bytes_eq (use_in lists p).id q)
        where
          on : (b : Bool) → cond b (Some (use_in lists p).first_use) (other_of more q) ≡ option_or (cond b (Some (use_in lists p).first_use) (other_of others q)) (if_its u q)
          on true = refl
          on false = one q

      behind : (q : List ℕ) → first_at firsts (id_hash q) ≡ None → other_of more q ≡ None
      behind q none =
          one q
          ∙ ap (λ (o : Option FirstUse). option_or o (if_its u q)) (index.behind q none)
          ∙ ap (λ (b : Bool). cond b (Some u.first_use) None) (not_this firsts u.id q first at none)
