-- What the calls tell that change no ledger.
use Rattle.std.specs.Prelude.{◌≡◌, ◌⊎◌, ◌==◌, ℕ, List, length, map, Option, None, Some, option_map, option_and_then, ◌&&◌}
use Rattle.std.specs.Bool.{MatchBool}
use Rattle.values.specs.Name.{is_name}
use Rattle.values.specs.Key.{is_key}
use Rattle.policy.specs.Text.{text_of}
use Rattle.rules.specs.World.{World, height_of}
use Rattle.rules.specs.State.{StateKey}
use Rattle.rules.specs.Answers.{row_answer, block_answer, definition_answer, first_use_answer}
use Rattle.rules.specs.Flags.{number_of}
use Rattle.rules.specs.declared.first_use.FirstUse.{FirstUse}
use Rattle.rules.specs.declared.row.Row.{Row}
use Rattle.rules.specs.declared.committed.CommittedBlock.{CommittedBlock}
use Rattle.c_handle.specs.declared.kept.Kept.{Kept}
use Rattle.c_calls.specs.declared.codes.TheConstants.{OK, MEMORY, CLOSED, NO_NAME, NONE}
use Rattle.c_calls.specs.declared.receipt.Receipt.{Receipt}
use Rattle.c_calls.specs.declared.asking.FoundRow.{FoundRow}
use Rattle.c_calls.specs.declared.first_use.FoundUse.{FoundUse}
use Rattle.c_calls.specs.Buffers.{Filled}
use Rattle.c_calls.specs.Receipts.{receipt_of}

abbrev pub HeightTold : Option Kept → ℕ → ℕ → ℕ → Type 0
HeightTold None height height' code = (height' ≡ height) × (code ≡ CLOSED)
HeightTold (Some kept) height height' code = (height' ≡ height_of kept.ledger.world) × (code ≡ OK)

-- nothing is told but this code
pub record NotFilled (why : ℕ) (buffer buffer' : List ℕ) (len len' code : ℕ) : Type 0 where
  pub buffer_same : buffer' ≡ buffer
  pub len_same : len' ≡ len
  pub told_code : code ≡ why

-- ---- a row, and its value

-- nothing is told but this code
pub record NoRow (why : ℕ) (row row' : FoundRow) (value value' : List ℕ) (code : ℕ) : Type 0 where
  pub row_same : row' ≡ row
  pub value_same : value' ≡ value
  pub told_code : code ≡ why

-- its version and the length of its value, and the value if it fits
pub record ThisRow (r : Row) (row' : FoundRow) (value value' : List ℕ) (code : ℕ) : Type 0 where
  pub told_block : row'.block ≡ r.version.block
  pub told_tx : row'.tx ≡ r.version.tx
  pub told_value : Filled r.value value value' row'.len code

abbrev pub RowGiven : Option Row → FoundRow → FoundRow → List ℕ → List ℕ → ℕ → Type 0
RowGiven None row row' value value' code = NoRow NONE row row' value value' code
RowGiven (Some r) row row' value value' code = ThisRow r row' value value' code

abbrev pub RowTold : Option Kept → List ℕ → List ℕ → FoundRow → FoundRow → List ℕ → List ℕ → ℕ → Type 0
RowTold None namespace key row row' value value' code = NoRow CLOSED row row' value value' code
RowTold (Some kept) namespace key row row' value value' code =
    MatchBool (is_name namespace && is_key key) (RowGiven (row_answer kept.ledger.world (namespace, key)) row row' value value' code) (NoRow NO_NAME row row' value value' code)

-- ---- an accepted block

abbrev pub BlockGiven : Option CommittedBlock → ℕ → Receipt → Receipt → ℕ → Type 0
BlockGiven None number receipt receipt' code = (receipt' ≡ receipt) × (code ≡ NONE)
BlockGiven (Some b) number receipt receipt' code = (receipt' ≡ receipt_of number b) × (code ≡ OK)

abbrev pub BlockTold : Option Kept → ℕ → Receipt → Receipt → ℕ → Type 0
BlockTold None number receipt receipt' code = (receipt' ≡ receipt) × (code ≡ CLOSED)
BlockTold (Some kept) number receipt receipt' code = BlockGiven (block_answer kept.ledger.world number) number receipt receipt' code

abbrev pub FlagsGiven : Option CommittedBlock → List ℕ → List ℕ → ℕ → ℕ → ℕ → Type 0
FlagsGiven None flags flags' len len' code = NotFilled NONE flags flags' len len' code
FlagsGiven (Some b) flags flags' len len' code = Filled (map number_of b.flags) flags flags' len' code

abbrev pub FlagsTold : Option Kept → ℕ → List ℕ → List ℕ → ℕ → ℕ → ℕ → Type 0
FlagsTold None number flags flags' len len' code = NotFilled CLOSED flags flags' len len' code
FlagsTold (Some kept) number flags flags' len len' code = FlagsGiven (block_answer kept.ledger.world number) flags flags' len len' code

-- ---- policies

-- a text that is there, unless memory was refused
abbrev pub TextGiven : Option (List ℕ) → List ℕ → List ℕ → ℕ → ℕ → ℕ → Type 0
TextGiven None text text' len len' code = NotFilled NONE text text' len len' code
TextGiven (Some canonical) text text' len len' code = Filled canonical text text' len' code ⊎ NotFilled MEMORY text text' len len' code

abbrev pub DefinitionTold : Option Kept → List ℕ → List ℕ → List ℕ → ℕ → ℕ → ℕ → Type 0
DefinitionTold None chaincode text text' len len' code = NotFilled CLOSED text text' len len' code
DefinitionTold (Some kept) chaincode text text' len len' code =
    MatchBool (is_name chaincode) (TextGiven (definition_answer kept.ledger.world chaincode) text text' len len' code) (NotFilled NO_NAME text text' len len' code)

-- the canonical text of a key's own policy
abbrev pub key_policy_answer : World → StateKey → Option (List ℕ)
key_policy_answer w k = option_map text_of (option_and_then (λ r. r.policy) (row_answer w k))

abbrev pub KeyPolicyTold : Option Kept → List ℕ → List ℕ → List ℕ → List ℕ → ℕ → ℕ → ℕ → Type 0
KeyPolicyTold None namespace key text text' len len' code = NotFilled CLOSED text text' len len' code
KeyPolicyTold (Some kept) namespace key text text' len len' code =
    MatchBool (is_name namespace && is_key key) (TextGiven (key_policy_answer kept.ledger.world (namespace, key)) text text' len len' code)
    (NotFilled NO_NAME text text' len len' code)

-- ---- the first use of an id

-- nothing is told but this code
pub record NoUse (why : ℕ) (first first' : FoundUse) (code : ℕ) : Type 0 where
  pub first_same : first' ≡ first
  pub told_code : code ≡ why

abbrev pub UseGiven : Option FirstUse → FoundUse → FoundUse → ℕ → Type 0
UseGiven None first first' code = NoUse NONE first first' code
UseGiven (Some u) first first' code = (first' ≡ record { block = u.block; tx = u.place; flag = number_of u.flag }) × (code ≡ OK)

abbrev pub UseTold : Option Kept → List ℕ → FoundUse → FoundUse → ℕ → Type 0
UseTold None id first first' code = NoUse CLOSED first first' code
UseTold (Some kept) id first first' code = MatchBool (length id == 64) (UseGiven (first_use_answer kept.ledger.world id) first first' code) (NoUse NO_NAME first first' code)
