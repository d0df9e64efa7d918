-- What a session prints for a query of the ledger that is there: what the call prints, of the same words.
use Rattle.std.specs.Prelude.{◌≡◌, ℕ, List, ◌++◌, Some}
use Rattle.text_lines.specs.Words.{word_bytes}
use Rattle.rules.specs.World.{World, height_of}
use Rattle.cli_lines.specs.RowLines.{height_line}
use Rattle.cli_values.specs.declared.format.Format.{Format}
use Rattle.cli_words.specs.declared.keyed.KeyWords.{KeyWords}
use Rattle.cli_words.specs.declared.line.Query.{Query}
use Rattle.cli_words.specs.declared.line.Query.TheVariants as asks
use Rattle.cli_words.specs.declared.scan.RangeWords.{RangeWords}
use Rattle.ledger_commands.specs.Asking.{AreRows, IsDefinition, IsHistory, IsRow}

-- the ledger's height, and then what is printed of it
pub record IsOfHeight (tells : Format → World → List ℕ → Type 0) (format : Format) (w : World) (text : List ℕ) : Type 0 where
  pub own : List ℕ
  pub told : tells format w own
  pub is_text : text ≡ height_line format (height_of w) ++ own

-- of a key, whose word spells it
pub record IsOfKey (tells : List ℕ → List ℕ → Format → World → List ℕ → Type 0) (words : KeyWords) (format : Format) (w : World) (text : List ℕ) : Type 0 where
  pub key : List ℕ
  pub spelled : word_bytes words.key.now ≡ Some key
  pub of_height : IsOfHeight (tells words.namespace.now key) format w text

-- of bounds, whose words spell them
pub record AreRowsFor (words : RangeWords) (format : Format) (w : World) (text : List ℕ) : Type 0 where
  pub start : List ℕ
  pub end : List ℕ
  pub spelled_start : word_bytes words.start.now ≡ Some start
  pub spelled_end : word_bytes words.end.now ≡ Some end
  pub of_height : IsOfHeight (AreRows words.namespace.now start end words.limit) format w text

-- what the call ends with if its blocks are accepted
abbrev pub HasStatus : Query → ℕ → Type 0
HasStatus (asks.Explain words) status = Unit {0}
HasStatus (asks.Conflicts words) status = Unit {0}
HasStatus _ status = status ≡ 0

-- nothing is said of `explain` and `conflicts`
abbrev pub IfTold : Query → Type 0 → Type 0
IfTold (asks.Explain words) P = Unit {0}
IfTold (asks.Conflicts words) P = Unit {0}
IfTold _ P = P

abbrev pub Tells : Query → Format → World → List ℕ → Type 0
Tells asks.Height format w text = text ≡ height_line format (height_of w)
Tells (asks.Get words) format w text = IsOfKey IsRow words format w text
Tells (asks.Scan words) format w text = AreRowsFor words format w text
Tells (asks.History words) format w text = IsOfKey IsHistory words format w text
Tells (asks.Definition chaincode) format w text = IsOfHeight (IsDefinition chaincode.now) format w text
Tells (asks.Explain words) format w text = Unit {0}
Tells (asks.Conflicts words) format w text = Unit {0}
