use Rattle.std.proofs.Common.{arith, sym, ◌<◌, ◌≡◌, ◌∙◌, ◌*◌, ap, subst, length}
use Rattle.rules.specs.Job.{Job}
use Rattle.verdict_words.specs.declared.view.View.{View}
use Rattle.verdict_words.specs.Cells.{Within, verdict_word}
use Rattle.verdict_words.proofs.Steps.{stores}
use Rattle.verdict_words.proofs.seat.VerdictSeat.store.Goals as goal

pub store-requires : goal.store-requires
store-requires c =
    let sits = c.self.invariant.1 in
    let size : length c.args.self.now.job.candidates ≡ length c.self.inside.steps.now.key.candidates = ap (λ (v : View). length v.job.candidates) (sym c.self.view_is) ∙ ap (λ (j : Job). length j.candidates) sits.job in
    let lt : c.args.task < 2 * length c.self.inside.steps.now.key.candidates = omega (arith, c.requires.task, size) in
    let mine = subst (λ (v : View). Within v.known (verdict_word v.job) → c.args.word ≡ verdict_word v.job c.args.task) (sym c.self.view_is) c.requires.fold in
    let fold = subst (λ (j : Job). Within c.self.inside.own.me.0.known (verdict_word j) → c.args.word ≡ verdict_word j c.args.task) sits.job mine in
    (c.self.invariant.0, omega (arith, sits.words, lt), stores c.self.inside.steps.now.key _ _ c.args.task c.args.word c.self.inside.own.me lt fold)
