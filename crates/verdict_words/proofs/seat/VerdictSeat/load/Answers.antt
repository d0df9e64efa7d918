use Rattle.std.proofs.Common.{arith, sym, ◌<◌, ◌≡◌, ◌∙◌, ◌*◌, ap, length}
use Rattle.rules.specs.Job.{Job}
use Rattle.verdict_words.specs.declared.view.View.{View}
use Rattle.verdict_words.proofs.Steps.{loads}
use Rattle.verdict_words.proofs.seat.VerdictSeat.load.Goals as goal

pub load-requires : goal.load-requires
load-requires c =
    let sits = c.self.invariant.1 in
    let size : length c.args.self.now.job.candidates ≡ length c.self.inside.steps.now.key.candidates = ap (λ (v : View). length v.job.candidates) (sym c.self.view_is) ∙ ap (λ (j : Job). length j.candidates) sits.job in
    let lt : c.args.task < 2 * length c.self.inside.steps.now.key.candidates = omega (arith, c.requires, size) in
    (c.self.invariant.0, omega (arith, sits.words, lt), loads c.self.inside.steps.now.key _ _ c.args.task c.self.inside.own.me lt)
