-- The options and operands of each subcommand, as clap reads them.
use Rattle.std.specs.Prelude.{ℕ, List, [], ◌∷◌, codes, Some, true, false, pos, nat_lt}
use Rattle.clap.specs.Lexer.{usize_max}
use Rattle.clap.specs.Simple.{new_shape}
use Rattle.clap.specs.Words.{App, Rule, Shape, Text, new_rule}
use Rattle.clap.specs.declared.builder.action.ArgAction.TheVariants.{Set, Append, SetTrue}
use Rattle.clap.specs.declared.builder.value_parser.ValueParser.TheVariants as parser

abbrev pub option_rule : Text → Rule
option_rule name = record (new_rule name) { long = Some name; action = Some Set; value_names = 1 }

abbrev pub flag_rule : Text → Rule
flag_rule name = record (new_rule name) { long = Some name; action = Some SetTrue }

abbrev pub positional_rule : Text → Rule
positional_rule name = record (new_rule name) { value_names = 1 }

abbrev pub required : Text → Rule
required name = record (option_rule name) { required = true }

abbrev pub defaulting : Text → Text → Rule
defaulting name value = record (option_rule name) { defaults = value ∷ [] }

abbrev pub number : Text → ℕ → ℕ → Rule
number name least most = record (option_rule name) { parser = Some (parser.Signed (pos least) (pos most)) }

abbrev pub defaulting_number : Text → Text → ℕ → ℕ → Rule
defaulting_number name value least most = record (number name least most) { defaults = value ∷ [] }

abbrev pub long_number : Text → Text → Rule
long_number name value = record (option_rule name) {
  parser = Some (parser.Unsigned 0 18446744073709551615);
  defaults = value ∷ [];
}

abbrev pub one_operand : Text → Rule
one_operand name = record (positional_rule name) { required = true }

abbrev pub operands_from : Text → ℕ → Rule
operands_from name least = record (positional_rule name) {
  required = nat_lt 0 least;
  range = Some (record { start_inclusive = least; end_inclusive = usize_max });
  action = Some Append;
}

-- ---- what each subcommand takes

abbrev pub named : Text → List Rule → Shape
named name rules = record (new_shape name) { rules = rules }

abbrev pub blocks_from : ℕ → Rule
blocks_from least = operands_from (codes "blocks") least

abbrev pub quiet_rule : Rule
quiet_rule = flag_rule (codes "quiet")

abbrev pub printing_rules : ℕ → List Rule
printing_rules least = quiet_rule ∷ flag_rule (codes "json") ∷ blocks_from least ∷ []

abbrev pub with_configuration : List Rule → List Rule
with_configuration rules = required (codes "channel") ∷ required (codes "keys") ∷ rules

abbrev pub keyed_rules : List Rule
keyed_rules = with_configuration (required (codes "ns") ∷ required (codes "key") ∷ printing_rules 0)

abbrev pub definition_rules : List Rule
definition_rules = with_configuration (required (codes "ns") ∷ printing_rules 0)

abbrev pub scan_rules : List Rule
scan_rules = with_configuration (required (codes "ns") ∷ defaulting (codes "start") (codes "%")
    ∷ defaulting (codes "end") (codes "%") ∷ defaulting_number (codes "limit") (codes "100") 1 65535 ∷ printing_rules 0)

abbrev pub run_rules : List Rule
run_rules = with_configuration (defaulting_number (codes "workers") (codes "1") 1 64
    ∷ defaulting_number (codes "readers") (codes "0") 0 32 ∷ flag_rule (codes "hashes") ∷ printing_rules 1)

abbrev pub conflicts_rules : List Rule
conflicts_rules = with_configuration (defaulting_number (codes "top") (codes "20") 0 65535
    ∷ long_number (codes "from") (codes "0") ∷ printing_rules 1)

abbrev pub explain_rules : List Rule
explain_rules = with_configuration (number (codes "tx") 0 4095 ∷ option_rule (codes "id") ∷ flag_rule (codes "ids")
    ∷ flag_rule (codes "dot") ∷ flag_rule (codes "all") ∷ printing_rules 1)

abbrev pub session_rules : List Rule
session_rules = with_configuration (defaulting_number (codes "workers") (codes "1") 1 64 ∷ printing_rules 0)

abbrev pub draft_rules : List Rule
draft_rules = with_configuration (option_rule (codes "after") ∷ defaulting_number (codes "format") (codes "1") 1 2
    ∷ one_operand (codes "script") ∷ one_operand (codes "out") ∷ [])

abbrev pub show_rules : List Rule
show_rules = option_rule (codes "channel") ∷ option_rule (codes "keys") ∷ quiet_rule ∷ blocks_from 1 ∷ []

-- in the order in which help lists them
abbrev pub subcommands : List Shape
subcommands = named (codes "draft") draft_rules ∷ named (codes "show") show_rules ∷ named (codes "run") run_rules
    ∷ named (codes "get") keyed_rules ∷ named (codes "scan") scan_rules ∷ named (codes "history") keyed_rules
    ∷ named (codes "definition") definition_rules
    ∷ named (codes "explain") explain_rules ∷ named (codes "conflicts") conflicts_rules
    ∷ named (codes "session") session_rules ∷ []

-- the program
abbrev pub program : App
program = record {
  top = record (new_shape (codes "fabcommit")) { is_leaf = false; has_version = true; subcommand_required = true };
  subs = subcommands;
}
