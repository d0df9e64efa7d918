-- What clap's rows hold of items.
use Rattle.std.specs.Prelude.{◌≡◌, ◌⊎◌, List, [], ◌∷◌, Option, Some, None, IfSome, codes, unwrap_or}
use Rattle.clap.specs.Walk.{Row, all_of, first_of, one_of}
use Rattle.cli_words.specs.Items.{AsItems, Item, Text, given, operands}
use Rattle.cli_words.specs.Options.{definition_options, keyed_options}

-- the first value is that of the only use of the option, or the default
abbrev pub IsFirst : List (Option Text) → Option Text → Option Text → Type 0
IsFirst uses default first = ((uses ≡ []) × (first ≡ default))
    ⊎ ((value : Text) × ((uses ≡ Some value ∷ []) × (first ≡ Some value)))

-- an option without a value reads as true if it is used
abbrev pub IsSet : List (Option Text) → Option Text → Type 0
IsSet uses value = ((uses ≡ []) × (value ≡ Some (codes "false")))
    ⊎ ((uses ≡ None ∷ []) × (value ≡ Some (codes "true")))

pub record HoldConfiguration (items : List Item) (rows : List Row) : Type 0 where
  pub channel : IsFirst (given (codes "channel") items) None (first_of (codes "channel") rows)
  pub keys : IsFirst (given (codes "keys") items) None (first_of (codes "keys") rows)

pub record HoldLedger (items : List Item) (rows : List Row) : Type 0 where
  pub configuration : HoldConfiguration items rows
  pub quiet : IsSet (given (codes "quiet") items) (one_of (codes "quiet") rows)
  pub json : IsSet (given (codes "json") items) (one_of (codes "json") rows)
  pub blocks : unwrap_or (all_of (codes "blocks") rows) [] ≡ operands items

pub record HoldNamespace (items : List Item) (rows : List Row) : Type 0 where
  pub ledger : HoldLedger items rows
  pub namespace : IsFirst (given (codes "ns") items) None (first_of (codes "ns") rows)

pub record HoldKeyed (items : List Item) (rows : List Row) : Type 0 where
  pub of : HoldNamespace items rows
  pub key : IsFirst (given (codes "key") items) None (first_of (codes "key") rows)

-- the rows of the subcommand of this name hold what these words give
pub record HoldWords (name : Text) (words : List Text) (rows : List Row) : Type 0 where
  pub get : name ≡ codes "get" → AsItems keyed_options words (λ items. HoldKeyed items rows)
  pub history : name ≡ codes "history" → AsItems keyed_options words (λ items. HoldKeyed items rows)
  pub definition : name ≡ codes "definition" → AsItems definition_options words (λ items. HoldNamespace items rows)

-- after the program's name the words have that of the subcommand, whose rows hold the others
abbrev pub IsCall : List Text → Option (Text × List Row) → Type 0
IsCall words met = IfSome met (λ p.
    (program : Text) × ((rest : List Text) × ((words ≡ program ∷ p.0 ∷ rest) × HoldWords p.0 rest p.1)))
