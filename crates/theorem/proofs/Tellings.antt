-- Runs whose answers are passed to a function, over the ledgers that are shown.
use Rattle.std.proofs.Common.{ℕ, Bool, true, false, List}
use Rattle.policy_eval.specs.Accepts.{Accepts}
use Rattle.commit.specs.Committing.{Committing}
use Rattle.commit.specs.Telling as telling
use Rattle.commit.specs.Telling.{Steps}
use Rattle.theorem.specs.ShownBy.{shown_by, answered}
use Rattle.theorem.specs.Telling.{IsRun, RunsTelling}
use Rattle.theorem.proofs.Ledgers.{submit_shows, run_shows}

module _ {F : Type 0} (step : Steps F) (accepts : Accepts) where
  run_told : (old new : Committing) (blocks : List (List ℕ)) (f g : F) → telling.IsRun step accepts old blocks f new g → IsRun answered step accepts (shown_by old) blocks f (shown_by new) g
  run_told old new blocks f g h = record { arguments = h.answers; runs = run_shows accepts old new blocks h.answers h.runs; calls = h.told }

  pub tellings_show : (old new : Committing) (blocks : List (List ℕ)) (f g : F) (all : Bool)
      → telling.RunsTelling step accepts old blocks f all new g → RunsTelling answered step accepts (shown_by old) blocks f all (shown_by new) g
  tellings_show old new blocks f g true h = run_told old new blocks f g h
  tellings_show old new blocks f g false h = record {
    before = h.before;
    bytes = h.bytes;
    rest = h.behind;
    all = h.whole;
    mid = shown_by h.mid;
    g = h.asking;
    run = run_told old h.mid h.before f h.asking h.run;
    argument = h.answer;
    submits = submit_shows accepts h.mid new h.bytes h.answer h.submits;
    ends = h.ends;
  }
