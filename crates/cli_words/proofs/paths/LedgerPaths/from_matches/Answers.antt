use Rattle.std.proofs.Common.{◌≡◌, ◌∙◌}
use Rattle.std.specs.Prelude.{codes}
use Rattle.cli_words.specs.Items.{given}
use Rattle.cli_words.proofs.paths.LedgerPaths.from_matches.Goals as goal

pub returns : goal.returns
returns c items h = record {
  configuration = c.in-Some.ensures items h.configuration;
  blocks = c.in_ok-blocks.ensures ∙ h.blocks;
  quiet = c.is_given-quiet.ensures (given (codes "quiet") items) h.quiet;
  json = c.format_of-format.ensures items h.json;
}
