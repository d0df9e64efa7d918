use Rattle.std.proofs.Common.{length, sym, ap, ◌∙◌, arith}
use Rattle.std.specs.Str.Iter.{lines_rest}
use Rattle.text_lines.specs.Lines as spec
use Rattle.text_lines.proofs.LineSteps.{passes_over, gives, rest_is_shorter}
use Rattle.text_lines.proofs.lines.StatementsIterator.next.Goals as goal

pub returns-then-not-says_nothing-clause-steps : goal.returns-then-not-says_nothing-clause-steps
returns-then-not-says_nothing-clause-steps c =
    let step = c.in-Some.ensures.steps in
    gives c.loop-line.self-inside.taken (lines_rest c.loop-line.self-inside.lines) c.in-Some.line.now (lines_rest c.next.new.self) c.trimmed-bytes.result.now _
    step.0.0 step.0.2 (c.trimmed-bytes.ensures ∙ ap spec.trimmed c.as_bytes.ensures.value) c.loop-line.invariant.left
    (sym c.says_nothing.ensures ∙ c.if-not-says_nothing.true)

pub returns-then-not-says_nothing-clause-goes : goal.returns-then-not-says_nothing-clause-goes
returns-then-not-says_nothing-clause-goes c =
    let step = c.in-Some.ensures.steps in
    let first = gives c.loop-line.self-inside.taken (lines_rest c.loop-line.self-inside.lines) c.in-Some.line.now (lines_rest c.next.new.self) c.trimmed-bytes.result.now c.args.self.now
    step.0.0 step.0.2 (c.trimmed-bytes.ensures ∙ ap spec.trimmed c.as_bytes.ensures.value) c.loop-line.invariant.left
    (sym c.says_nothing.ensures ∙ c.if-not-says_nothing.true) in
    record { on = λ _. (tt, tt, omega (arith, ap length first)); keeps = tt; rests = λ _. tt }

pub loop-line-preserved : goal.loop-line-preserved
loop-line-preserved c =
    let step = c.in-Some.ensures.steps in
    record {
      left = passes_over c.loop-line.self-inside.taken (lines_rest c.loop-line.self-inside.lines) c.in-Some.line.now (lines_rest c.next.new.self) c.trimmed-bytes.result.now _
          step.0.0 step.0.2 (c.trimmed-bytes.ensures ∙ ap spec.trimmed c.as_bytes.ensures.value) c.loop-line.invariant.left
          (sym c.says_nothing.ensures ∙ c.if-not-says_nothing.false);
      fits = omega (arith, rest_is_shorter (lines_rest c.loop-line.self-inside.lines) c.in-Some.line.now (lines_rest c.next.new.self) step.0.0 step.0.2);
    }
