use Rattle.std.proofs.Common.{◌≡◌, drop}
use Rattle.std.specs.Prelude.{fold}
use Rattle.clap.specs.Words.{app_of}
use Rattle.cli_words.specs.Rules.{added_under}
use Rattle.cli_words.proofs.subcommand.with_subcommands.Given as goal

abbrev pub invariant-loop-subcommand : goal.invariant-loop-subcommand
invariant-loop-subcommand l =
    fold added_under (app_of l.command) (drop l.subcommand-index l.subcommands) ≡ fold added_under (app_of l.initial.command) l.subcommands
