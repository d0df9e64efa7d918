use Rattle.std.proofs.Common.{sym, ap, ◌∙◌, ◌++◌, List, ℕ, option_map}
use Rattle.text_lines.specs.Words as spec
use Rattle.text_lines.proofs.WordSteps.{spelled-next}
use Rattle.text_lines.proofs.words.spelled.Goals as goal

pub loop-rest-preserved : goal.loop-rest-preserved
loop-rest-preserved c =
    let first = c.in-Some.ensures.value in
    ap (λ (items : List ℕ). option_map (λ more. items ++ more) (spec.spelled c.in-Some.after.now)) c.in_ok-push.ensures.items
    ∙ sym (spelled-next c.loop-rest.bytes.items c.loop-rest.rest.now c.in-Some.byte c.in-Some.after.now first) ∙ c.loop-rest.invariant
