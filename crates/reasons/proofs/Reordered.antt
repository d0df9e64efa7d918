-- What asks members of any role last has the members of each gate in another order.
use Rattle.std.proofs.Common.{◌≡◌, inl, inr, Bool, true, false, cond, refl}
use Rattle.policy.specs.Tree.{Tree, Trees, principal, gate, none, more}
use Rattle.reasons.specs.Shortfall.{is_wide, wide_of, wide_last, others_before}
use Rattle.reasons.specs.Reordered.{IsPutAmong, IsReordered, AreReordered, AreWide, AsksWideLast, AskWideLast}

put_behind : (m : Tree) (wide ms : Trees) → IsPutAmong m (others_before wide ms) (others_before (more m wide) ms)
put_behind m wide none = inl (refl, refl)
put_behind m wide (more x xs) = by (is_wide x) (put_behind m wide xs)
  where
    by : (b : Bool) → IsPutAmong m (others_before wide xs) (others_before (more m wide) xs)
        → IsPutAmong m (cond b (others_before wide xs) (more (wide_last x) (others_before wide xs))) (cond b (others_before (more m wide) xs) (more (wide_last x) (others_before (more m wide) xs)))
    by true h = h
    by false h = inr (others_before wide xs, refl, h)

wide_same : (m : Tree) → is_wide m ≡ true → IsReordered m m
wide_same (principal org role) e = refl
wide_same (gate n members) e = absurd cc

one_reordered : (m : Tree) (ms : Trees) (b : Bool) → is_wide m ≡ b → IsReordered m (wide_last m) → AreReordered ms (others_before (wide_of ms) ms)
    → AreReordered (more m ms) (cond b (others_before (cond b (more m (wide_of ms)) (wide_of ms)) ms) (more (wide_last m) (others_before (cond b (more m (wide_of ms)) (wide_of ms)) ms)))
one_reordered m ms true e own rest = (m, others_before (wide_of ms) ms, wide_same m e, rest, put_behind m (wide_of ms) ms)
one_reordered m ms false e own rest = (wide_last m, others_before (wide_of ms) ms, own, rest, inl (refl, refl))

mutual
  pub reordered : (t : Tree) → IsReordered t (wide_last t)
  reordered (principal org role) = refl
  reordered (gate n members) = (others_before (wide_of members) members, refl, members_reordered members)

  members_reordered : (ms : Trees) → AreReordered ms (others_before (wide_of ms) ms)
  members_reordered none = refl
  members_reordered (more m ms) = one_reordered m ms (is_wide m) refl (reordered m) (members_reordered ms)

-- ---- they are asked last

all_wide : (ms : Trees) → AreWide (wide_of ms)
all_wide none = tt
all_wide (more m ms) = by (is_wide m) refl (all_wide ms)
  where
    by : (b : Bool) → is_wide m ≡ b → AreWide (wide_of ms) → AreWide (cond b (more m (wide_of ms)) (wide_of ms))
    by true e h = (e, h)
    by false e h = h

wide_asks : (t : Tree) → is_wide t ≡ true → AsksWideLast t
wide_asks (principal org role) e = tt
wide_asks (gate n members) e = absurd cc

wide_ask : (ts : Trees) → AreWide ts → AskWideLast ts
wide_ask none h = tt
wide_ask (more t ts) h = (wide_asks t h.0, (λ e. h.1), wide_ask ts h.1)

-- a member that isn't wide is none once its own members are in order
still_narrow : (t : Tree) → is_wide t ≡ false → is_wide (wide_last t) ≡ false
still_narrow (principal org role) e = e
still_narrow (gate n members) e = refl

one_asks : (m : Tree) (wide ms : Trees) (b : Bool) → is_wide m ≡ b → AsksWideLast (wide_last m) → AskWideLast (others_before wide ms)
    → AskWideLast (cond b (others_before wide ms) (more (wide_last m) (others_before wide ms)))
one_asks m wide ms true e own rest = rest
one_asks m wide ms false e own rest = (own, (λ wide_now. absurd (both (is_wide (wide_last m)) (still_narrow m e) wide_now)), rest)
  where
    both : (b : Bool) → b ≡ false → b ≡ true → ⊥
    both true e h = absurd cc
    both false e h = absurd cc

mutual
  pub asks_last : (t : Tree) → AsksWideLast (wide_last t)
  asks_last (principal org role) = tt
  asks_last (gate n members) = members_ask (wide_of members) members (all_wide members)

  members_ask : (wide ms : Trees) → AreWide wide → AskWideLast (others_before wide ms)
  members_ask wide none h = wide_ask wide h
  members_ask wide (more m ms) h = one_asks m wide ms (is_wide m) refl (asks_last m) (members_ask wide ms h)
