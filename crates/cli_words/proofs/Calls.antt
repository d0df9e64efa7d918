-- What the words of a call hold, if clap takes them.
use Rattle.std.proofs.Common.{◌≡◌, ◌∙◌, Bool, true, false, refl, sym, ap, ap₂, subst, ℕ, List, [], ◌∷◌, ◌++◌, Option, Some, None, Result, Ok, true≢false}
use Rattle.std.specs.Prelude.{codes, drop, find, unwrap_or}
use Rattle.std.specs.List.{AllByRecursion, list_all}
use Rattle.clap.specs.Faults.{built_fault, fault_of, is_simple_and_free, level_fault}
use Rattle.std.specs.Str.{IsUtf8}
use Rattle.clap.specs.Kinds.{FailsBy}
use Rattle.clap.specs.Simple.{App, HasMatchesOf, Shape, built, is_simple, label_of, subcommand_of, subcommand_rows_of}
use Rattle.clap.specs.Walk.{Row, Rule, Text, answers_to, is_empty, nothing_held, rows_after}
use Rattle.clap.specs.declared.error.Error.{Error}
use Rattle.clap.specs.declared.parser.matches.ArgMatches.{ArgMatches}
use Rattle.clap.specs.declared.builder.value_parser.ValueParser.TheVariants as parser
use Rattle.cli_words.specs.Items.{AsItems, Item}
use Rattle.cli_words.specs.Matched.{HoldKeyed, HoldNamespace, IsCall}
use Rattle.cli_words.specs.Program.{keyed_rules, program}
use Rattle.cli_words.proofs.Getters.{are_texts}
use Rattle.cli_words.proofs.Levels.{AreRead, Reads, flag_read, operands_read, reads_level, value_read}
use Rattle.cli_words.proofs.Tables.{AreKnown, Entry, Table, flag, help, options_of, rules, several, valued}
use Rattle.cli_words.proofs.Tops.{Enters, app_with, enters, top}
use Rattle.cli_words.proofs.Walks.{IsText}

pub program_simple : is_simple_and_free program ≡ true
program_simple = refl

abbrev subs : List Shape
subs = (built program).subs

no_aliases : list_all (λ (s : Shape). is_empty s.aliases) subs ≡ true
no_aliases = refl

built_is : built program ≡ app_with subs
built_is = refl

-- ---- the rows of a subcommand, by its table

-- the shape that a name finds takes what the table says
pub record IsTable (name : Text) (es : Table) : Type 0 where
  pub shape : Shape
  pub found : find (λ (s : Shape). answers_to name (label_of s)) subs ≡ Some shape
  pub is : shape.rules ≡ rules es
  pub again : shape.args_override_self ≡ false
  pub known : AreKnown (rules es)

holds : (words : List Text) (name : Text) (es : Table) (table : IsTable name es) (Has : List Item → List Row → Type 0)
    → ((items : List Item) (before after : List Row) → AreRead (rules es) (options_of es) items before after → Has items after)
    → AllByRecursion IsText words → (e : Enters subs no_aliases words) → e.name ≡ name
    → AsItems (options_of es) e.rest (λ items. Has items (rows_after e.shape.rules [] e.rest))
holds words name es table Has has texts e is =
    let same : e.shape ≡ table.shape = ap (λ o. unwrap_or o e.shape) (sym e.found ∙ ap (λ t. find (λ (s : Shape). answers_to t (label_of s)) subs) is ∙ table.found) in
    let left : AllByRecursion IsText (e.name ∷ e.rest) = subst (AllByRecursion IsText) e.is texts in
    let fine : level_fault table.shape [] nothing_held e.rest false [] ≡ [] = subst (λ (s : Shape). level_fault s [] nothing_held e.rest false [] ≡ []) same e.fine in
    let read = reads_level es table.shape table.is table.again table.known e.rest left.1 fine in (
      read.items,
      read.are_items,
      subst (λ (s : Shape). Has read.items (rows_after s.rules [] e.rest)) (sym same) (has read.items read.before _ read.read),
    )

-- ---- tables

abbrev option_of : Text → Bool → Entry
option_of name required = valued name parser.String [] required

abbrev with_configuration : Table → Table
with_configuration es = option_of (codes "channel") true ∷ option_of (codes "keys") true ∷ es

abbrev printing : ℕ → Table
printing least = flag (codes "quiet") ∷ flag (codes "json") ∷ several (codes "blocks") 1 least ∷ help ∷ []

abbrev keyed_table : Table
keyed_table = with_configuration (option_of (codes "ns") true ∷ option_of (codes "key") true ∷ printing 0)

abbrev definition_table : Table
definition_table = with_configuration (option_of (codes "ns") true ∷ printing 0)

get_table : IsTable (codes "get") keyed_table
get_table = record { shape = _; found = refl; is = refl; again = refl; known = (refl, (refl, (refl, (refl, (refl, (refl, (refl, (refl, tt)))))))) }

history_table : IsTable (codes "history") keyed_table
history_table = record { shape = _; found = refl; is = refl; again = refl; known = (refl, (refl, (refl, (refl, (refl, (refl, (refl, (refl, tt)))))))) }

definition_is : IsTable (codes "definition") definition_table
definition_is = record { shape = _; found = refl; is = refl; again = refl; known = (refl, (refl, (refl, (refl, (refl, (refl, (refl, tt))))))) }

keyed_holds : (items : List Item) (before after : List Row) → AreRead (rules keyed_table) (options_of keyed_table) items before after → HoldKeyed items after
keyed_holds items before after read =
    let value = value_read (rules keyed_table) (options_of keyed_table) items before after read in
    let flag_of = flag_read (rules keyed_table) (options_of keyed_table) items before after read in
    record {
      of = record {
        ledger = record {
          configuration = record {
            channel = value (codes "channel") _ refl refl refl refl None refl;
            keys = value (codes "keys") _ refl refl refl refl None refl;
          };
          quiet = flag_of (codes "quiet") _ refl refl refl refl refl;
          json = flag_of (codes "json") _ refl refl refl refl refl;
          blocks = operands_read (rules keyed_table) (options_of keyed_table) items before after read (codes "blocks") refl (λ word. refl) refl refl;
        };
        namespace = value (codes "ns") _ refl refl refl refl None refl;
      };
      key = value (codes "key") _ refl refl refl refl None refl;
    }

definition_holds : (items : List Item) (before after : List Row) → AreRead (rules definition_table) (options_of definition_table) items before after → HoldNamespace items after
definition_holds items before after read =
    let value = value_read (rules definition_table) (options_of definition_table) items before after read in
    let flag_of = flag_read (rules definition_table) (options_of definition_table) items before after read in
    record {
      ledger = record {
        configuration = record {
          channel = value (codes "channel") _ refl refl refl refl None refl;
          keys = value (codes "keys") _ refl refl refl refl None refl;
        };
        quiet = flag_of (codes "quiet") _ refl refl refl refl refl;
        json = flag_of (codes "json") _ refl refl refl refl refl;
        blocks = operands_read (rules definition_table) (options_of definition_table) items before after read (codes "blocks") refl (λ word. refl) refl refl;
      };
      namespace = value (codes "ns") _ refl refl refl refl None refl;
    }

-- ---- a call

after_program : (words : List Text) (name : Text) (rest : List Text) → drop 1 words ≡ name ∷ rest → (program : Text) × (words ≡ program ∷ name ∷ rest)
after_program [] name rest e = absurd (true≢false (ap some_left e))
  where
    some_left : List Text → Bool
    some_left [] = true
    some_left (x ∷ xs) = false
after_program (program ∷ words) name rest e = (program, ap (λ ws. program ∷ ws) e)

pub call_holds : (words : List Text) → AllByRecursion IsText (drop 1 words) → fault_of program words ≡ [] → IsCall words (subcommand_of program words)
call_holds words texts fault =
    let e : Enters subs no_aliases (drop 1 words) = enters subs no_aliases (drop 1 words) texts fault in
    let front = after_program words e.name e.rest e.is in
    subst (IsCall words) (sym e.entered_is) (
      front.0,
      (
        e.rest,
        (
          front.1,
          record {
            get = holds (drop 1 words) (codes "get") keyed_table get_table HoldKeyed keyed_holds texts e;
            history = holds (drop 1 words) (codes "history") keyed_table history_table HoldKeyed keyed_holds texts e;
            definition = holds (drop 1 words) (codes "definition") definition_table definition_is HoldNamespace definition_holds texts e;
          },
        ),
      ),
    )

-- what clap gives for the words, if it is this program
pub call_of : (app : App) (words : List Text) (r : Result ArgMatches Error) (m : ArgMatches) → app ≡ program → r ≡ Ok m
    → (is_simple_and_free app ≡ true → FailsBy (fault_of app words) r) → HasMatchesOf app words m → AllByRecursion IsUtf8 words → IsCall words (subcommand_rows_of m)
call_of app words r m is was fails has texts =
    let none : FailsBy (fault_of app words) (Ok m) = subst (FailsBy (fault_of app words)) was (fails (ap is_simple_and_free is ∙ program_simple)) in
    let fault : fault_of program words ≡ [] = ap (λ a. fault_of a words) (sym is) ∙ none in
    let rows : subcommand_rows_of m ≡ subcommand_of program words = (has (ap is_simple is)).1 ∙ ap (λ a. subcommand_of a words) is in
    subst (IsCall words) (sym rows) (call_holds words (are_texts words texts) fault)
