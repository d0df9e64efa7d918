-- What clap reads of an argument and of a subcommand of the code.
use Rattle.std.specs.Borrow.{Bor}
use Rattle.std.specs.Prelude.{map}
use Rattle.clap.specs.Simple.{new_shape}
use Rattle.clap.specs.Words.{App, Rule, Shape, Text, with_rule, with_subcommand}
use Rattle.cli_words.specs.Program.{defaulting, defaulting_number, flag_rule, long_number, number, one_operand}
use Rattle.cli_words.specs.Program.{operands_from, option_rule, required}
use Rattle.cli_words.specs.declared.arguments.Argument.{Argument}
use Rattle.cli_words.specs.declared.arguments.Form.{Form}
use Rattle.cli_words.specs.declared.arguments.Form.TheVariants as form
use Rattle.cli_words.specs.declared.subcommand.Subcommand.{Subcommand}

abbrev pub rule_by : Text → Form → Rule
rule_by name form.Required = required name
rule_by name form.Optional = option_rule name
rule_by name (form.Default value) = defaulting name value.now
rule_by name (form.Count default least most) = defaulting_number name default.now least most
rule_by name (form.OptionalCount least most) = number name least most
rule_by name (form.LongNumber value) = long_number name value.now
rule_by name form.Flag = flag_rule name
rule_by name form.Positional = one_operand name
rule_by name (form.Positionals least) = operands_from name least

abbrev pub rule_for : Argument → Rule
rule_for a = rule_by a.name.now a.form

-- a command with one argument more
abbrev pub added_to : App → Argument → App
added_to app a = with_rule app (rule_for a)

abbrev pub shape_for : Subcommand → Shape
shape_for s = record (new_shape s.name.now) { rules = map rule_for s.arguments.now }

-- a command with one subcommand more
abbrev pub added_under : App → Bor Subcommand → App
added_under app s = with_subcommand app (shape_for s.now)
