use Rattle.std.proofs.Common.{◌∙◌}
use Rattle.json_lines.proofs.Texts.{told}
use Rattle.json_lines.proofs.value.is_text.Goals as goal

pub returns : goal.returns
returns c = c.is_ok.ensures.value ∙ told c.args.bytes.now _ _ c.from_utf8.result c.from_utf8.ensures.cases
