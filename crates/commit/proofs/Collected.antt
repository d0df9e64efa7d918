-- Where there is room for all answers, all of them are collected.
use Rattle.std.proofs.Common.{◌≡◌, ◌++◌, ◌∷◌, ◌+◌, ◌≤◌, ◌∙◌, ℕ, Bool, true, false, List, [], Result, length, sym, ap, subst, refl, arith, append_assoc}
use Rattle.std.specs.List.{FoldsTo}
use Rattle.std.specs.Global.{Vec}
use Rattle.std.specs.Vec.{vec_len, vec_capacity}
use Rattle.std.proofs.lemmas.List.{append-nil, length-append}
use Rattle.policy_eval.specs.Accepts.{Accepts}
use Rattle.query.specs.declared.receipt.Receipt.{Receipt}
use Rattle.commit.specs.declared.not_committed.NotCommitted.{NotCommitted}
use Rattle.commit.specs.Collecting.{IsCollected}
use Rattle.commit.specs.Committing.{Committing, Runs}
use Rattle.commit.specs.Telling.{Steps, RunsTelling}
use Rattle.commit.proofs.Runs.{one_each}

abbrev Answer : Type 0
Answer = Result Receipt NotCommitted

module _ {F : Type 0} (step : Steps F) (list : F → Vec Answer) (collects : (p : F) (answer : Answer) (asks : Bool) (q : F) → step p answer asks q → IsCollected (list p) answer asks (list q)) where
  record AreCollected (p : F) (answers : List Answer) (q : F) : Type 0 where
    pub items : (list q).items ≡ (list p).items ++ answers
    pub len : vec_len (list q) ≡ vec_len (list p) + length answers
    pub room : vec_capacity (list p) ≤ vec_capacity (list q)

  are_collected : (answers : List Answer) (p q : F) → FoldsTo (λ p answer q. step p answer true q) p answers q → AreCollected p answers q
  are_collected [] p q folds = subst (AreCollected p []) folds (record { items = sym (append-nil (list p).items); len = omega arith; room = omega arith })
  are_collected (answer ∷ answers) p q folds =
      let one = (collects p answer true folds.0 folds.1).more refl in
      let others = are_collected answers folds.0 q folds.2 in
      record {
        items = others.items ∙ (ap (λ (l : List Answer). l ++ answers) one.0 ∙ append_assoc (list p).items (answer ∷ []) answers);
        len = omega (arith, one.1, others.len);
        room = omega (arith, one.2, others.room);
      }

  pub all_collected : (accepts : Accepts) (old new : Committing) (blocks : List (List ℕ)) (f f' : F) (all : Bool) → (list f).items ≡ [] → vec_len (list f) ≡ 0 → length blocks ≤ vec_capacity (list f)
      → RunsTelling step accepts old blocks f all new f' → Runs accepts old blocks (list f').items new
  all_collected accepts old new blocks f f' true none len room told =
      let items : (list f').items ≡ told.answers = (are_collected told.answers f f' told.told).items ∙ ap (λ (l : List Answer). l ++ told.answers) none in
      subst (λ (l : List Answer). Runs accepts old blocks l new) (sym items) told.runs
  all_collected accepts old new blocks f f' false none len room told =
      let before = are_collected told.run.answers f told.asking told.run.told in
      let full = (collects told.asking told.answer false f' told.ends).full refl in
      let count = one_each accepts old told.mid told.before told.run.answers told.run.runs in
      absurd (omega (arith, before.len, before.room, full, count, len, room, ap length told.whole, length-append told.before (told.bytes ∷ told.behind)))
