-- A transaction's body is read as what it begins with, and then the rest.
use Rattle.std.proofs.Common.{◌≡◌, ℕ, List, Some, None, refl, ap, ◌∙◌}
use Rattle.transaction.specs.declared.transaction.NsSet.{NsSet}
use Rattle.transaction.specs.Limits.{id_bytes}
use Rattle.transaction.specs.Combined.{◌>>=◌, Read, Reader, bytes_at, counted_at, pair_at, listed_at}
use Rattle.transaction.specs.Reading.{Body, name_at, identity_at, namespace_at, body_at}
use Rattle.transaction.specs.Openings.{Opening, opening_at}

-- what was read, seen as a value
abbrev pub seen_as : {A B : Type 0} → (A → B) → A × List ℕ → Read B
seen_as f x = Some (f x.0, x.1)

-- one field, then another, both seen as a value
abbrev pub with_behind : {A B C : Type 0} → (A → B → C) → Reader A → Reader B → Reader C
with_behind {A = A} {B = B} {C = C} f read_a read_b bytes = read_a bytes >>= λ a. read_b a.1 >>= seen_as {A = B} {B = C} (f a.0)

-- a field in front of what is read so
one_more : {A B C D : Type 0} (f : B → C → D) (a : Reader A) (b : Reader B) (c : Reader C) (d : Reader D) → ((bytes : List ℕ) → d bytes ≡ with_behind f b c bytes)
    → (bytes : List ℕ) → pair_at a d bytes ≡ with_behind (λ x z. (x.0, f x.1 z)) (pair_at a b) c bytes
one_more {A = A} {B = B} {C = C} {D = D} f a b c d same bytes = from_a (a bytes)
  where
    in_front : A → D → A × D
    in_front x r = (x, r)

    pair : A → B → A × B
    pair x y = (x, y)

    last : A × B → C → A × D
    last p z = (p.0, f p.1 z)

    from_c : (x : A) (y : B) (r : Read C) → ((r >>= seen_as {A = C} {B = D} (f y)) >>= seen_as {A = D} {B = A × D} (in_front x)) ≡ (r >>= seen_as {A = C} {B = A × D} (last (x, y)))
    from_c x y None = refl
    from_c x y (Some z) = refl

    from_b : (x : A) (r : Read B)
        → ((r >>= λ y. c y.1 >>= seen_as {A = C} {B = D} (f y.0)) >>= seen_as {A = D} {B = A × D} (in_front x)) ≡ ((r >>= seen_as {A = B} {B = A × B} (pair x)) >>= λ p. c p.1 >>= seen_as {A = C} {B = A × D} (last p.0))
    from_b x None = refl
    from_b x (Some y) = from_c x y.0 (c y.1)

    from_a : (r : Read A)
        → (r >>= λ x. d x.1 >>= seen_as {A = D} {B = A × D} (in_front x.0)) ≡ ((r >>= λ x. b x.1 >>= seen_as {A = B} {B = A × B} (pair x.0)) >>= λ p. c p.1 >>= seen_as {A = C} {B = A × D} (last p.0))
    from_a None = refl
    from_a (Some x) = ap (λ (r : Read D). r >>= seen_as {A = D} {B = A × D} (in_front x.0)) (same x.1) ∙ from_b x.0 (b x.1)

abbrev pub body_from : Opening → List ℕ × List NsSet → Body
body_from o p = (o.0, (o.1.0, (o.1.1.0, (o.1.1.1, p))))

pub body_opens : (bytes : List ℕ) → body_at bytes ≡ with_behind body_from opening_at (pair_at name_at (listed_at 2 namespace_at)) bytes
unfolding body_at opening_at
body_opens bytes =
    let behind : Reader (List ℕ × List NsSet) = pair_at name_at (listed_at 2 namespace_at) in
    one_more (λ o p. (o.0, (o.1.0, (o.1.1, p)))) name_at (pair_at (bytes_at id_bytes) (pair_at identity_at (counted_at 1))) behind (pair_at (bytes_at id_bytes) (pair_at identity_at (pair_at (counted_at 1) behind)))
    (one_more (λ o p. (o.0, (o.1, p))) (bytes_at id_bytes) (pair_at identity_at (counted_at 1)) behind (pair_at identity_at (pair_at (counted_at 1) behind))
    (one_more (λ n p. (n, p)) identity_at (counted_at 1) behind (pair_at (counted_at 1) behind) (λ bytes. refl)))
    bytes
