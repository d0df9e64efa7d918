use Rattle.std.proofs.Common.{◌≡◌, drop}
use Rattle.std.specs.Prelude.{fold}
use Rattle.clap.specs.Words.{app_of}
use Rattle.clap.specs.declared.builder.command.Command.TheViews.{out-Command as fields_of}
use Rattle.cli_words.specs.Rules.{added_to}
use Rattle.cli_words.proofs.subcommand.with_arguments.Given as goal

abbrev pub invariant-loop-argument : goal.invariant-loop-argument
invariant-loop-argument l =
    (fold added_to (app_of l.command) (drop l.argument-index l.arguments) ≡ fold added_to (app_of l.initial.command) l.arguments)
    × ((fields_of l.command).has_globals ≡ (fields_of l.initial.command).has_globals)
