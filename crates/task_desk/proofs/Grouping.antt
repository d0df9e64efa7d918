-- A set in groups, and which groups have a member.
use Rattle.std.proofs.Common.{◌≡◌, ◌≢◌, ◌⊎◌, inl, inr, ℕ, ◌+◌, ◌*◌, ◌/◌, ◌<◌, ◌≤◌, eqb, leb, Bool, true, false, List, length, set, Option, Some, None, refl, sym, ap, ◌∙◌, arith}
use Rattle.std.specs.Prelude.{replicate, is_some, MatchOption}
use Rattle.std.proofs.Math.ListN.{get_or-eq_default}
use Rattle.std.proofs.lemmas.Bool.Decides.{eqb_tells, leb_tells}
use Rattle.std.proofs.lemmas.List.{get_or-set_same, get_or-set_other, get_or-replicate, length-replicate, length-set}
use Rattle.task_desk.specs.Bits.{IsLeast, IsEmpty}
use Rattle.task_desk.specs.Groups.{is_member, NoneIn, IsFirstIn, IsIndexed}

pub true_false : (b : Bool) → b ≡ true → b ≡ false → {A : Type 0} → A
true_false b yes_b not_b = absurd (let wrong : true ≡ false = sym yes_b ∙ not_b in cc)

-- a member is below the length
pub member-below : (members : List Bool) (k : ℕ) → is_member members k ≡ true → k < length members
member-below members k is = by (leb_tells (length members) k)
  where
    by : ((leb (length members) k ≡ true) × (length members ≤ k)) ⊎ ((leb (length members) k ≡ false) × (k < length members)) → k < length members
    by (inl d) = true_false (is_member members k) is (get_or-eq_default members false d.1)
    by (inr d) = d.1

-- ---- an empty set

no-members : (n k : ℕ) → is_member (replicate n false) k ≡ false
no-members n k = by (leb_tells n k)
  where
    by : ((leb n k ≡ true) × (n ≤ k)) ⊎ ((leb n k ≡ false) × (k < n)) → is_member (replicate n false) k ≡ false
    by (inl d) = get_or-eq_default (replicate n false) false (let le = d.1 in omega (arith, le, length-replicate {A = Bool} n false))
    by (inr d) = get_or-replicate n k false false d.1

pub none-member : (members : List Bool) (n k : ℕ) → members ≡ replicate n false → is_member members k ≡ false
none-member members n k is = ap (λ (ms : List Bool). is_member ms k) is ∙ no-members n k

pub empty-indexed : (members filled : List Bool) (count n : ℕ) → members ≡ replicate count false → filled ≡ replicate n false → count ≤ 8192 → count ≤ 64 * n → 64 * n < count + 64 → IsIndexed members filled
empty-indexed members filled count n is_members is_filled small enough no_more = record {
  small = omega (arith, long);
  enough = omega (arith, long, wide);
  no_more = omega (arith, long, wide);
  none = λ group not_filled k place. none-member members count k is_members;
  some = λ group is. true_false (is_member filled group) is (none-member filled n group is_filled);
}
  where
    long : length members ≡ count
    long = ap (λ (ms : List Bool). length ms) is_members ∙ length-replicate {A = Bool} count false

    wide : length filled ≡ n
    wide = ap (λ (ms : List Bool). length ms) is_filled ∙ length-replicate {A = Bool} n false

-- ---- one task is put in or taken out

-- what a look at its group then says
pub set-indexed : (members filled : List Bool) (t : ℕ) (m : Bool) (o : Option ℕ) → IsIndexed members filled → t < length members
    → MatchOption o (NoneIn (set members t m) (t / 64)) (λ k. IsFirstIn (set members t m) (t / 64) k)
    → IsIndexed (set members t m) (set filled (t / 64) (is_some o))
set-indexed members filled t m o indexed lt look = record {
  small = let small = indexed.small in omega (arith, length-set members t m);
  enough = let enough = indexed.enough in omega (arith, length-set members t m, length-set filled (t / 64) (is_some o));
  no_more = let no_more = indexed.no_more in omega (arith, length-set members t m, length-set filled (t / 64) (is_some o));
  none = λ group not_filled. none group not_filled (eqb_tells group (t / 64)) o refl look;
  some = λ group is. some group is (eqb_tells group (t / 64)) o refl look;
}
  where
    inside : t / 64 < length filled
    inside = let enough = indexed.enough in omega (arith, enough, lt)

    filled' : List Bool
    filled' = set filled (t / 64) (is_some o)

    here : (group : ℕ) → group ≡ t / 64 → is_member filled' group ≡ is_some o
    here group same = ap (is_member filled') same ∙ get_or-set_same filled (t / 64) (is_some o) false inside

    there : (group : ℕ) → group ≢ t / 64 → is_member filled' group ≡ is_member filled group
    there group apart = get_or-set_other filled (t / 64) group (is_some o) false apart

    other : (group k : ℕ) → group ≢ t / 64 → k / 64 ≡ group → is_member (set members t m) k ≡ is_member members k
    other group k apart place = get_or-set_other members t k m false (λ e. apart (sym place ∙ ap (λ (n : ℕ). n / 64) e))

    none : (group : ℕ) → is_member filled' group ≡ false → ((eqb group (t / 64) ≡ true) × (group ≡ t / 64)) ⊎ ((eqb group (t / 64) ≡ false) × (group ≢ t / 64)) → (p : Option ℕ) → o ≡ p
        → MatchOption p (NoneIn (set members t m) (t / 64)) (λ k. IsFirstIn (set members t m) (t / 64) k) → NoneIn (set members t m) group
    none group not_filled (inl d) None is look = λ k place. look k (place ∙ d.1)
    none group not_filled (inl d) (Some k) is look = true_false (is_some o) (ap is_some is) (sym (here group d.1) ∙ not_filled)
    none group not_filled (inr d) p is look = λ k place. other group k d.1 place ∙ indexed.none group (sym (there group d.1) ∙ not_filled) k place

    some : (group : ℕ) → is_member filled' group ≡ true → ((eqb group (t / 64) ≡ true) × (group ≡ t / 64)) ⊎ ((eqb group (t / 64) ≡ false) × (group ≢ t / 64)) → (p : Option ℕ) → o ≡ p
        → MatchOption p (NoneIn (set members t m) (t / 64)) (λ k. IsFirstIn (set members t m) (t / 64) k) → (k : ℕ) × (k / 64 ≡ group) × (is_member (set members t m) k ≡ true)
    some group is_filled (inl d) None is look = true_false (is_some o) (sym (here group d.1) ∙ is_filled) (ap is_some is)
    some group is_filled (inl d) (Some k) is look = (k, look.place ∙ sym d.1, look.member)
    some group is_filled (inr d) p is look =
        let one = indexed.some group (sym (there group d.1) ∙ is_filled) in
        (one.0, one.1, other group one.0 d.1 one.1 ∙ one.2)

-- ---- the least

pub no_group : (members filled : List Bool) → IsIndexed members filled → IsEmpty filled → IsEmpty members
no_group members filled indexed none k = indexed.none (k / 64) (none (k / 64)) k refl

pub least_of_group : (members filled : List Bool) (group : ℕ) (o : Option ℕ) → IsIndexed members filled → IsLeast filled group
    → MatchOption o (NoneIn members group) (λ k. IsFirstIn members group k) → MatchOption o (IsEmpty members) (λ k. IsLeast members k)
least_of_group members filled group None indexed first none =
    let one = indexed.some group first.member in true_false (is_member members one.0) one.2 (none one.0 one.1)
least_of_group members filled group (Some k) indexed first is = record { member = is.member; least = λ j lt. by j lt (eqb_tells (j / 64) group) }
  where
    by : (j : ℕ) → j < k → ((eqb (j / 64) group ≡ true) × (j / 64 ≡ group)) ⊎ ((eqb (j / 64) group ≡ false) × (j / 64 ≢ group)) → is_member members j ≡ false
    by j lt (inl d) = is.least j lt d.1
    by j lt (inr d) =
        let place = is.place in
        let before : j / 64 < group = (let apart = d.1 in omega (arith, lt, place, apart)) in
        indexed.none (j / 64) (first.least (j / 64) before) j refl
