-- The ledger after byte strings that were taken, and the process's status.
use Rattle.std.proofs.Common.{◌≡◌, ◌∷◌, ◌∙◌, ℕ, max, List, [], Result, Ok, Err, refl, ap, subst}
use Rattle.channel.specs.Configuration.{Configuration}
use Rattle.key_book.specs.Book.{accepts}
use Rattle.key_book.specs.Entry.{Entry}
use Rattle.policy_eval.specs.Accepts.{Accepts}
use Rattle.ledger.specs.Contents.{Contents}
use Rattle.rules.specs.declared.answer.Accepted.{Accepted}
use Rattle.rules.specs.declared.answer.Refused.{Refused}
use Rattle.rules.specs.Chain.{Chain}
use Rattle.rules.specs.World.{World, empty_world}
use Rattle.ledger_commands.specs.Asking.{AreTold, IsBehind, status_for, submissions}
use Rattle.ledger_commands.specs.Handing.{AreTaken, EndsWith, LedgerTakes}

abbrev pub Answer : Type 0
Answer = Result Accepted Refused

abbrev pub one_for : Answer → ℕ
one_for (Ok accepted) = 0
one_for (Err refused) = 1

abbrev pub worst_from : ℕ → List Answer → ℕ
worst_from before [] = before
worst_from before (answer ∷ answers) = worst_from (max before (one_for answer)) answers

pub is_one : (answer : Answer) (one : ℕ) → EndsWith answer one → one ≡ one_for answer
is_one (Ok accepted) one ends = ends
is_one (Err refused) one ends = ends.1

pub told_with : (answer : Answer) (answers : List Answer) (one : ℕ) → EndsWith answer one → AreTold answers → AreTold (answer ∷ answers)
told_with (Ok accepted) answers one ends told = told
told_with (Err refused) answers one ends told = (ends.0, told)

stays : (answers : List Answer) → worst_from 1 answers ≡ 1
stays [] = refl
stays (Ok accepted ∷ answers) = stays answers
stays (Err refused ∷ answers) = stays answers

pub worst : (answers : List Answer) → worst_from 0 answers ≡ status_for answers
worst [] = refl
worst (Ok accepted ∷ answers) = worst answers
worst (Err refused ∷ answers) = stays answers

record Chained (accepts : Accepts) (old : Contents) (before : ℕ) (blocks : List (List ℕ)) (status : ℕ) (new : Contents) : Type 0 where
  pub answers : List Answer
  pub chain : Chain old.channel old.world (submissions accepts blocks) answers new.world
  pub told : AreTold answers
  pub is_status : status ≡ worst_from before answers

chained : (accepts : Accepts) (old : Contents) (before : ℕ) (blocks : List (List ℕ)) (status : ℕ) (new : Contents) → AreTaken (LedgerTakes accepts) old before blocks status new → Chained accepts old before blocks status new
chained accepts old before [] status new taken = record { answers = []; chain = ap (λ (c : Contents). c.world) taken.0; told = tt; is_status = taken.1 }
chained accepts old before (bytes ∷ more) status new taken =
    let mid = taken.0 in
    let one = taken.1 in
    let takes = taken.2 in
    let rest = chained accepts mid (max before one) more status new taken.3 in
    record {
      answers = takes.0 ∷ rest.answers;
      chain = (mid.world, takes.1, subst (λ (c : Configuration). Chain c mid.world (submissions accepts more) rest.answers new.world) takes.2 rest.chain);
      told = told_with takes.0 rest.answers one takes.3 rest.told;
      is_status = rest.is_status ∙ ap (λ n. worst_from (max before n) rest.answers) (is_one takes.0 one takes.3);
    }

pub behind : (channel : Configuration) (keys : List Entry) (old : Contents) (blocks : List (List ℕ)) (status : ℕ) (new : Contents)
    → old.channel ≡ channel → old.world ≡ empty_world channel.definitions → AreTaken (LedgerTakes (accepts keys)) old 0 blocks status new → IsBehind channel keys blocks new.world status
behind channel keys old blocks status new at_channel at_world taken =
    let all = chained (accepts keys) old 0 blocks status new taken in
    record {
      answers = all.answers;
      chain = subst (λ (w : World). Chain channel w (submissions (accepts keys) blocks) all.answers new.world) at_world
          (subst (λ (c : Configuration). Chain c old.world (submissions (accepts keys) blocks) all.answers new.world) at_channel all.chain);
      told = all.told;
      is_status = all.is_status ∙ worst all.answers;
    }
