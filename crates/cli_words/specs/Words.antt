-- What the words of a call ask for.
use Rattle.std.specs.Prelude.{◌≡◌, Bool, true, false, List, [], ◌∷◌, map, Some, None, codes}
use Rattle.std.specs.List.{AllByRecursion}
use Rattle.std.specs.Str.{IsUtf8}
use Rattle.cli_values.specs.declared.format.Format.{Format}
use Rattle.cli_values.specs.declared.format.Format.TheVariants.{Plain, Json}
use Rattle.cli_words.specs.declared.command.Asked.{Asked}
use Rattle.cli_words.specs.declared.command.Asked.TheVariants as asks
use Rattle.cli_words.specs.declared.keyed.KeyedQuery.{KeyedQuery}
use Rattle.cli_words.specs.declared.definition.DefinitionQuery.{DefinitionQuery}
use Rattle.cli_words.specs.declared.paths.ConfigurationPaths.{ConfigurationPaths}
use Rattle.cli_words.specs.declared.paths.LedgerPaths.{LedgerPaths}
use Rattle.cli_words.specs.Items.{Item, Text, AsItems, IsFlag, IsGiven, operands}
use Rattle.cli_words.specs.Options.{definition_options, keyed_options}

abbrev pub is_json : Format → Bool
is_json Plain = false
is_json Json = true

-- the files of the channel and of the keys
pub record IsConfiguration (items : List Item) (paths : ConfigurationPaths) : Type 0 where
  pub channel : IsGiven items (codes "channel") paths.channel.now
  pub keys : IsGiven items (codes "keys") paths.keys.now

-- what all calls on a ledger have: these files, and those of blocks
pub record IsLedger (items : List Item) (paths : LedgerPaths) : Type 0 where
  pub configuration : IsConfiguration items paths.configuration
  pub blocks : map (λ path. path.now) paths.blocks.items ≡ operands items
  pub quiet : IsFlag items (codes "quiet") paths.quiet
  pub json : IsFlag items (codes "json") (is_json paths.format)

-- `get` and `history`
pub record IsKeyed (items : List Item) (words : KeyedQuery) : Type 0 where
  pub ledger : IsLedger items words.paths
  pub namespace : IsGiven items (codes "ns") words.namespace.now
  pub key : IsGiven items (codes "key") words.key.now

-- `definition`
pub record IsOfNamespace (items : List Item) (words : DefinitionQuery) : Type 0 where
  pub ledger : IsLedger items words.paths
  pub namespace : IsGiven items (codes "ns") words.namespace.now

-- What the words of a call ask for: the program's name, that of a subcommand, and the subcommand's items. Of the other
-- subcommands nothing is stated yet.
abbrev pub Asks : List Text → Asked → Type 0
Asks [] asked = ⊥
Asks (program ∷ []) asked = ⊥
Asks (program ∷ name ∷ words) (asks.Get query) =
    (name ≡ codes "get") × AsItems keyed_options words (λ items. IsKeyed items query)
Asks (program ∷ name ∷ words) (asks.History query) =
    (name ≡ codes "history") × AsItems keyed_options words (λ items. IsKeyed items query)
Asks (program ∷ name ∷ words) (asks.Definition query) =
    (name ≡ codes "definition") × AsItems definition_options words (λ items. IsOfNamespace items query)
Asks (program ∷ name ∷ words) _ = Unit {0}

-- the words are UTF-8
abbrev pub AreTexts : List Text → Type 0
AreTexts = AllByRecursion IsUtf8
