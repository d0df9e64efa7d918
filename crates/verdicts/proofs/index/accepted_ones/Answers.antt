use Rattle.std.proofs.Common.{◌≡◌, take, ◌∙◌, ap, List, refl}
use Rattle.std.proofs.lemmas.List.{take_all}
use Rattle.verdicts.specs.declared.verdict.Verdict.{Verdict}
use Rattle.verdicts.specs.Said.{accepted_by}
use Rattle.verdicts.proofs.Putting.{step, no_verdict}
use Rattle.verdicts.proofs.index.accepted_ones.Goals as goal

pub loop-verdict-preserved : goal.loop-verdict-preserved
loop-verdict-preserved c =
    step c.args.pool.now _ c.args.verdicts.now c.loop-verdict.verdict-index c.loop-verdict.accepted.keys c.add.new.accepted.keys
    c.loop-verdict-test.true no_verdict refl c.in_ok-add.ensures c.loop-verdict.invariant

pub returns : goal.returns
returns c = λ identity message signature.
    let all : take c.loop-verdict.verdict-index c.args.verdicts.now ≡ c.args.verdicts.now = take_all c.loop-verdict.verdict-index c.args.verdicts.now c.loop-verdict-test.false in
    c.loop-verdict.invariant identity message signature ∙ ap (λ (vs : List Verdict). accepted_by c.args.pool.now vs identity message signature) all
