-- What is counted block by block is what is counted of all.
use Rattle.std.proofs.Common.{◌≡◌, ◌<◌, ◌≤◌, ℕ, max, Bool, true, false, List, [], ◌∷◌, ◌++◌, Option, Result, Ok, Err, refl, sym, ap, ◌∙◌, subst, append_assoc, arith}
use Rattle.std.specs.Prelude.{nat_lt}
use Rattle.std.specs.Io.KnownBytes.{Appends}
use Rattle.std.proofs.lemmas.Bool.{ltb-true, lt-ltb}
use Rattle.std.proofs.lemmas.List.{append-nil}
use Rattle.channel.specs.Configuration.{Configuration}
use Rattle.policy_eval.specs.Accepts.{Accepts}
use Rattle.rules.specs.declared.answer.Accepted.{Accepted}
use Rattle.rules.specs.declared.answer.Refused.{Refused}
use Rattle.rules.specs.Step.{Step}
use Rattle.rules.specs.World.{World, height_of}
use Rattle.reasons.specs.declared.reason.Reason.{Reason}
use Rattle.conflicts.specs.Tally.{Tally, Counts}
use Rattle.cli_values.specs.declared.format.Format.{Format}
use Rattle.cli_lines.specs.ConflictLines.{IsReport}
use Rattle.ledger.specs.Contents.{Contents}
use Rattle.ledger.specs.NextReasons.{AreNextReasons}
use Rattle.ledger_commands.specs.declared.conflict_counts.CountedLedger.{CountedLedger}
use Rattle.ledger_commands.specs.Counting.{NoneWhereEarly, AreCounted, ReasonsOfAll, CountedTakes, IsTold}
use Rattle.ledger_commands.specs.Asking.{AreTold}
use Rattle.ledger_commands.specs.Handing.{AreTaken, EndsWith}
use Rattle.ledger_commands.proofs.Behind.{worst_from, is_one, told_with, worst}

not_early : (n m : ℕ) (b : Bool) → nat_lt n m ≡ b → m ≤ n → nat_lt n m ≡ false
not_early n m true e h =
    let below : n < m = ltb-true n m e in
    absurd (omega (arith, below, h))
not_early n m false e h = e

pub nothing_more : (t : Tally) (before : List Reason) → Counts before t → Counts (before ++ []) t
nothing_more t before h = subst (λ (l : List Reason). Counts l t) (sym (append-nil before)) h

module _ (accepts : Accepts) where
  pub early : (channel : Configuration) (from : ℕ) (w : World) (bytes : List ℕ) (answer : Result Accepted Refused) → height_of w < from → AreCounted channel accepts from w bytes answer []
  early channel from w bytes (Ok a) lt = subst (λ b. NoneWhereEarly b (AreNextReasons channel accepts w bytes []) []) (sym (lt-ltb (height_of w) from lt)) refl
  early channel from w bytes (Err r) lt = refl

  pub late : (channel : Configuration) (from : ℕ) (w : World) (bytes : List ℕ) (accepted : Accepted) (reasons : List Reason) → from ≤ height_of w → AreNextReasons channel accepts w bytes reasons
      → AreCounted channel accepts from w bytes (Ok accepted) reasons
  late channel from w bytes accepted reasons le are = subst (λ b. NoneWhereEarly b (AreNextReasons channel accepts w bytes reasons) reasons) (sym (not_early (height_of w) from (nat_lt (height_of w) from) refl le)) are

  -- a block that isn't counted leaves the tally as it was
  pub early_takes : (old : CountedLedger) (bytes : List ℕ) (ledger : Contents) (answer : Result Accepted Refused) (status : ℕ) → height_of old.ledger.world < old.from
      → Step old.ledger.channel accepts old.ledger.world bytes answer ledger.world → ledger.channel ≡ old.ledger.channel → EndsWith answer status
      → CountedTakes accepts old bytes status (record { ledger = ledger; tally = old.tally; from = old.from })
  early_takes old bytes ledger answer status below step same ends = record {
    answer = answer;
    own = [];
    step = step;
    are_own = early old.ledger.channel old.from old.ledger.world bytes answer below;
    same_channel = same;
    same_from = refl;
    counted = λ before h. nothing_more old.tally before h;
    ends = ends;
  }

  -- what came of all strings, and of what the process ends with, if that was so much before
  record AllCounted (old : CountedLedger) (before : ℕ) (blocks : List (List ℕ)) (status : ℕ) (new : CountedLedger) : Type 0 where
    pub answers : List (Result Accepted Refused)
    pub reasons : List Reason
    pub of_all : ReasonsOfAll old.ledger.channel accepts old.from old.ledger.world blocks answers reasons
    pub told : AreTold answers
    pub is_status : status ≡ worst_from before answers
    pub counted : (so_far : List Reason) → Counts so_far old.tally → Counts (so_far ++ reasons) new.tally

  all_counted : (old : CountedLedger) (before : ℕ) (blocks : List (List ℕ)) (status : ℕ) (new : CountedLedger) → AreTaken (CountedTakes accepts) old before blocks status new → AllCounted old before blocks status new
  all_counted old before [] status new taken = record {
    answers = [];
    reasons = [];
    of_all = refl;
    told = tt;
    is_status = taken.1;
    counted = λ so_far h. nothing_more new.tally so_far (subst (λ (c : CountedLedger). Counts so_far c.tally) (sym taken.0) h);
  }
  all_counted old before (bytes ∷ more) status new taken =
      let mid = taken.0 in
      let one = taken.1 in
      let takes = taken.2 in
      let rest = all_counted mid (max before one) more status new taken.3 in
      let of_rest : ReasonsOfAll old.ledger.channel accepts old.from mid.ledger.world more rest.answers rest.reasons =
      subst (λ (channel : Configuration). ReasonsOfAll channel accepts old.from mid.ledger.world more rest.answers rest.reasons) takes.same_channel
      (subst (λ (from : ℕ). ReasonsOfAll mid.ledger.channel accepts from mid.ledger.world more rest.answers rest.reasons) takes.same_from rest.of_all) in
      record {
        answers = takes.answer ∷ rest.answers;
        reasons = takes.own ++ rest.reasons;
        of_all = (mid.ledger.world, takes.own, rest.reasons, takes.step, takes.are_own, of_rest, refl);
        told = told_with takes.answer rest.answers one takes.ends rest.told;
        is_status = rest.is_status ∙ ap (λ n. worst_from (max before n) rest.answers) (is_one takes.answer one takes.ends);
        counted = λ so_far h. subst (λ (l : List Reason). Counts l new.tally) (append_assoc so_far takes.own rest.reasons) (rest.counted (so_far ++ takes.own) (takes.counted so_far h));
      }

  pub told : (format : Format) (channel : Configuration) (w : World) (old : CountedLedger) (blocks : List (List ℕ)) (status : ℕ) (new : CountedLedger) (top : ℕ) (from to : Option (List ℕ))
      → old.ledger.channel ≡ channel → old.ledger.world ≡ w → Counts [] old.tally → AreTaken (CountedTakes accepts) old 0 blocks status new
      → ((reasons : List Reason) → Counts reasons new.tally → (text : List ℕ) × IsReport format reasons top text × Appends from to text)
      → IsTold format channel accepts old.from w blocks top from status to
  told format channel w old blocks status new top from to at_channel at_world none taken report =
      let all = all_counted old 0 blocks status new taken in
      let said = report all.reasons (all.counted [] none) in
      record {
        answers = all.answers;
        reasons = all.reasons;
        of_all = subst (λ (x : World). ReasonsOfAll channel accepts old.from x blocks all.answers all.reasons) at_world
            (subst (λ (x : Configuration). ReasonsOfAll x accepts old.from old.ledger.world blocks all.answers all.reasons) at_channel all.of_all);
        told = all.told;
        is_status = all.is_status ∙ worst all.answers;
        text = said.0;
        report = said.1;
        written = said.2;
      }
