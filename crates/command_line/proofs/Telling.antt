-- Of all answers that were told one after the other.
use Rattle.std.proofs.Common.{◌≡◌, ◌++◌, ◌∷◌, ◌+◌, ◌<◌, ◌^◌, ◌∙◌, ℕ, suc, Bool, true, List, [], Option, Some, None, Result, length, ap, subst, refl, arith}
use Rattle.std.specs.Io.KnownBytes.{Appends}
use Rattle.std.specs.List.{FoldsTo}
use Rattle.cli_lines.proofs.Written.{nothing, then_whole}
use Rattle.policy_eval.specs.Accepts.{Accepts}
use Rattle.query.specs.declared.receipt.Receipt.{Receipt}
use Rattle.commit.specs.declared.not_committed.NotCommitted.{NotCommitted}
use Rattle.commit.specs.Committing.{Committing}
use Rattle.commit.specs.Telling.{Steps, RunsTelling}
use Rattle.commit.proofs.Runs.{one_each}
use Rattle.command_line.specs.declared.committing.Told.{Told}
use Rattle.command_line.specs.Handing.{AreHandedIn, IsTold, last_receipt, worst_of}
use Rattle.command_line.specs.Lines.{answer_lines, lines_behind}
use Rattle.command_line.proofs.Handing.{last_receipt-behind, worst_of-behind}

abbrev Answer : Type 0
Answer = Result Receipt NotCommitted

module _ {F : Type 0} (step : Steps F) (told : F → Told) (contents : F → Option (List ℕ)) (tells : (p : F) (answer : Answer) (q : F) → step p answer true q → IsTold (told p) (contents p) answer (told q) (contents q)) where
  record AllTold (p : F) (answers : List Answer) (q : F) : Type 0 where
    pub same : (told q).style ≡ (told p).style
    pub counted : (told q).done ≡ (told p).done + length answers
    pub is_last : (told q).committed.last ≡ last_receipt (told p).committed.last answers
    pub is_status : worst_of (told p).committed.status answers ≡ Some (told q).committed.status
    pub printed : Appends (contents p) (contents q) (lines_behind (told p).style (told p).done answers)

  all_told : (answers : List Answer) (p q : F) → (told p).done + length answers < 2 ^ 64 → FoldsTo (λ p answer q. step p answer true q) p answers q → AllTold p answers q
  all_told [] p q fits folds = subst (AllTold p []) folds (record { same = refl; counted = omega arith; is_last = refl; is_status = refl; printed = nothing (contents p) })
  all_told (answer ∷ answers) p q fits folds =
      let one = tells p answer folds.0 folds.1 in
      let first : (told p).done + 1 < 2 ^ 64 = omega (arith, fits) in
      let count : (told folds.0).done ≡ (told p).done + 1 = one.counted first in
      let others = all_told answers folds.0 q (omega (arith, fits, count)) folds.2 in
      let next : (told folds.0).done ≡ suc (told p).done = omega (arith, count) in
      record {
        same = others.same ∙ one.same;
        counted = omega (arith, others.counted, count);
        is_last = others.is_last ∙ (ap (λ (l : Option Receipt). last_receipt l answers) one.is_last ∙ last_receipt-behind (told p).committed.last (answer ∷ []) answers);
        is_status = worst_of-behind (told p).committed.status (told folds.0).committed.status answer answers (Some (told q).committed.status) one.is_status others.is_status;
        printed = then_whole (contents p) (contents folds.0) (contents q) (answer_lines (told p).style (suc (told p).done) answer) (lines_behind (told folds.0).style (told folds.0).done answers) (lines_behind (told p).style (told p).done (answer ∷ answers))
            (one.printed first) others.printed (λ i. answer_lines (told p).style (suc (told p).done) answer ++ lines_behind (one.same i) (next i) answers);
      }

  -- where nothing was told before
  pub are_handed_in : (accepts : Accepts) (old new : Committing) (blocks : List (List ℕ)) (f f' : F) → length blocks < 2 ^ 64 → (told f).done ≡ 0 → (told f).committed.last ≡ None → (told f).committed.status ≡ 0
      → RunsTelling step accepts old blocks f true new f' → AreHandedIn accepts (told f).style old (contents f) blocks (told f').committed new (contents f')
  are_handed_in accepts old new blocks f f' fits none_done none_last none_refused run =
      let count : length run.answers ≡ length blocks = one_each accepts old new blocks run.answers run.runs in
      let all = all_told run.answers f f' (omega (arith, fits, count, none_done)) run.told in
      record {
        answers = run.answers;
        runs = run.runs;
        is_last = all.is_last ∙ ap (λ (l : Option Receipt). last_receipt l run.answers) none_last;
        is_status = subst (λ n. worst_of n run.answers ≡ Some (told f').committed.status) none_refused all.is_status;
        printed = subst (λ n. Appends (contents f) (contents f') (lines_behind (told f).style n run.answers)) none_done all.printed;
      }

-- where it is said that all were told
pub when_all : {F : Type 0} (step : Steps F) (accepts : Accepts) (old new : Committing) (blocks : List (List ℕ)) (f f' : F) (all : Bool) → all ≡ true → RunsTelling step accepts old blocks f all new f'
    → RunsTelling step accepts old blocks f true new f'
when_all step accepts old new blocks f f' all is told = subst (λ (b : Bool). RunsTelling step accepts old blocks f b new f') is told
