-- What a handle has seen, and what the committer has shown.
use Rattle.std.proofs.Common.{◌≡◌, ℕ, ◌+◌, ◌≤◌, ◌⊎◌, inl, inr, Bool, true, false, List, [], ◌∷◌, ◌++◌, length, Some, Ok, sym, ap, subst, ◌∙◌, arith, append-nil, length-append}
use Rattle.std.specs.Prelude.{slice_get, MatchBool}
use mathlib.Core.List.{IsPrefix}
use Rattle.policy_eval.specs.Accepts.{Accepts}
use Rattle.rules.specs.declared.delta.Delta.{Delta}
use Rattle.rules.specs.Answers.{Reply, reply}
use Rattle.rules.specs.World.{World, empty_world, height_of}
use Rattle.query.specs.declared.receipt.Receipt.{Receipt}
use Rattle.query.specs.Published.{Watch, GoesOn, Learns, applied_all, watched_world}
use Rattle.commit.specs.Committing as committing
use Rattle.commit.specs.Committing.{Committing}
use Rattle.theorem.specs.Promise.{Shown, ledger_at, Queries, CatchesUp}
use Rattle.theorem.specs.ShownBy.{ledgers_of, shown_by, known_by, IsHandleOf}
use Rattle.theorem.proofs.Ledgers.{ledger_there, height_after, height_shown, receipt_height, receipt_list}

longer : (xs ys : List Delta) → IsPrefix xs ys → length xs ≤ length ys
longer xs ys p = let long : length xs + length p.0 ≡ length ys = sym (length-append xs p.0) ∙ ap length p.1 in omega (arith, long)

-- a beginning that isn't shorter is all
begins_back : (xs ys : List Delta) → IsPrefix xs ys → length ys ≤ length xs → IsPrefix ys xs
begins_back xs ys (rest, whole) no_longer =
    let long : length xs + length rest ≡ length ys = sym (length-append xs rest) ∙ ap length whole in
    by rest (omega (arith, long, no_longer)) whole
  where
    by : (rest : List Delta) → length rest ≡ 0 → (xs ++ rest) ≡ ys → IsPrefix ys xs
    by [] none whole = ([], append-nil ys ∙ (sym whole ∙ append-nil xs))
    by (d ∷ ds) none whole = absurd (omega (arith, none))

knows_more : (old new : Watch) → new.base ≡ old.base → length old.list ≤ length new.list → known_by old ≤ known_by new
knows_more old new same more =
    let bases : height_of new.base ≡ height_of old.base = ap height_of same in
    omega (arith, height_after old.base old.list, height_after new.base new.list, bases, more)

pub query_knows : (old new : Watch) → GoesOn old new → known_by old ≤ known_by new
query_knows old new g = knows_more old new g.same_base (longer old.list new.list g.no_less)

pub receipt_learned : (accepts : Accepts) (before after : Committing) (bytes : List ℕ) (r : Receipt) (old new : Watch)
    → committing.Submits accepts before bytes (Ok r) after → old.base ≡ empty_world after.channel.definitions → Learns old r.front.list new
    → CatchesUp (known_by old) r.height (known_by new)
receipt_learned accepts before after bytes r old new h base l =
    let none : height_of new.base ≡ 0 = ap height_of (l.same_base ∙ base) in
    let told : length r.front.list ≤ length new.list = longer r.front.list new.list l.knows_told in
    let own : length r.front.list ≡ length after.list = ap length (receipt_list accepts before after bytes r h) in (
      knows_more old new l.same_base (longer old.list new.list l.no_less),
      omega (arith, receipt_height accepts before after bytes r h, height_shown after, own, told, none, height_after new.base new.list),
    )

-- what `knows` answers, of the receipt of the newest block
pub known_of : (accepts : Accepts) (before after : Committing) (bytes : List ℕ) (r : Receipt) (h : Watch) (answer : Bool)
    → committing.Submits accepts before bytes (Ok r) after → h.base ≡ empty_world after.channel.definitions → known_by h ≤ r.height
    → MatchBool answer (IsPrefix r.front.list h.list) (IsPrefix h.list r.front.list) → IsHandleOf after h
known_of accepts before after bytes r h answer submits base up_to knows = record {
  base = base;
  one_begins = by answer knows;
  up_to = omega (arith, up_to, receipt_height accepts before after bytes r submits);
}
  where
    own : r.front.list ≡ after.list
    own = receipt_list accepts before after bytes r submits

    by : (b : Bool) → MatchBool b (IsPrefix r.front.list h.list) (IsPrefix h.list r.front.list) → IsPrefix after.list h.list ⊎ IsPrefix h.list after.list
    by true p = inl (subst (λ (ds : List Delta). IsPrefix ds h.list) own p)
    by false p = inr (subst (λ (ds : List Delta). IsPrefix h.list ds) own p)

pub known_was_shown : (c : Committing) (h : Watch) → IsHandleOf c h → ledger_at (shown_by c) (known_by h) ≡ Some (watched_world h)
known_was_shown c h known =
    let w = empty_world c.channel.definitions in
    let none : height_of h.base ≡ 0 = ap height_of known.base in
    let own : known_by h ≡ length h.list = omega (arith, height_after h.base h.list, none) in
    let first = by known.one_begins (omega (arith, own, height_shown c, known.up_to)) in
    ap (ledger_at (shown_by c)) own
    ∙ ap (λ (ds : List Delta). slice_get (w ∷ ledgers_of w ds) (length h.list)) (sym first.1) ∙ ledger_there w h.list first.0
    ∙ ap (λ (v : World). Some (applied_all v h.list)) (sym known.base)
  where
    by : IsPrefix c.list h.list ⊎ IsPrefix h.list c.list → length h.list ≤ length c.list → IsPrefix h.list c.list
    by (inl p) no_longer = begins_back c.list h.list p no_longer
    by (inr p) no_longer = p

-- for any question
pub answer_of_shown : {A : Type 0} (question : World → A) (c : Committing) (old new : Watch) (r : Reply A)
    → GoesOn old new → IsHandleOf c new → r ≡ reply (watched_world new) (question (watched_world new)) → Queries (shown_by c) (known_by old) question r (known_by new)
answer_of_shown {A} question c old new r g known answer =
    let height : r.height ≡ known_by new = ap (λ (x : Reply A). x.height) answer in
    record {
      ledger = watched_world new;
      shown = ap (ledger_at (shown_by c)) height ∙ known_was_shown c new known;
      answer = answer;
      no_earlier = omega (arith, height, query_knows old new g);
      knows = sym height;
    }

-- two answers of one height are of one ledger
pub one_ledger : {A B : Type 0} (s : Shown) (a b c d : ℕ) (question : World → A) (other : World → B) (r : Reply A) (n : Reply B)
    (q : Queries s a question r b) (o : Queries s c other n d) → r.height ≡ n.height → q.ledger ≡ o.ledger
one_ledger {A} {B} s a b c d question other r n q o same = by q.ledger o.ledger (sym q.shown ∙ ap (ledger_at s) same ∙ o.shown)
  where
    by : (v w : World) → Some v ≡ Some w → v ≡ w
    by v w e = cc
