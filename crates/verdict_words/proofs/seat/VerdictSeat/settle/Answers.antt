use Rattle.std.proofs.Common.{◌≡◌, ap, subst, ◌∙◌}
use Rattle.rules.specs.Job.{Job}
use Rattle.verdict_words.specs.declared.view.View.{View}
use Rattle.verdict_words.specs.Cells.{Within, verdict_word}
use Rattle.verdict_words.proofs.Sounding.{words_are_sound}
use Rattle.verdict_words.proofs.seat.VerdictSeat.settle.Goals as goal
use Rattle.verdict_words.proofs.seat.VerdictSeat.settle.Goals.{then-task-eq0, else-task-eq0}

pub returns-clause-sound : goal.returns-clause-sound
returns-clause-sound c =
    let seat : View = c.if-task-eq0.self in
    let same : seat.job ≡ c.args.job.now = elim c.if-task-eq0.branch [
      | then-task-eq0 w ↦ ap (λ (v : View). v.job) w.self-is ∙ w.settle_endorsement-decision.ensures.moves.job ∙ c.requires.job
      | else-task-eq0 w ↦ ap (λ (v : View). v.job) w.self-is ∙ w.settle_flag-decision.ensures.moves.job ∙ c.requires.job
    ] in
    words_are_sound c.args.job.now seat.known (subst (λ (j : Job). Within seat.known (verdict_word j)) same c.knows_the_fold.ensures)
