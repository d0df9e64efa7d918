use Rattle.std.proofs.Common.{◌∙◌, ap, drop, reverse}
use Rattle.text_lines.specs.Lines as spec
use Rattle.text_lines.proofs.Ends.{take-from_end}
use Rattle.text_lines.proofs.parts.trimmed.Goals as goal

pub returns : goal.returns
returns c =
    let line = c.without_front_spaces-line.result.now in
    take-from_end line c.end_spaces.result
    ∙ ap (λ n. reverse (drop n (reverse line))) c.end_spaces.ensures.count
    ∙ ap (λ xs. reverse (spec.without_front_spaces (reverse xs))) c.without_front_spaces-line.ensures
