use Rattle.std.proofs.Common.{sym, subst}
use Rattle.rules.specs.Job.{Job}
use Rattle.verdict_words.specs.declared.view.View.{View}
use Rattle.verdict_words.specs.Cells.{Within, verdict_word}
use Rattle.verdict_words.proofs.seat.VerdictSeat.knows_the_fold.Goals as goal

pub returns : goal.returns
returns c =
    let sits = c.self.invariant.1 in
    subst (λ (v : View). Within v.known (verdict_word v.job)) c.self.view_is
    (subst (λ (j : Job). Within c.self.inside.own.me.0.known (verdict_word j)) (sym sits.job) sits.fold)
