-- The lines for blocks, each with the line feed that ends it.
use Rattle.std.specs.Prelude.{ℕ, List, [], ◌∷◌, ◌++◌, codes, Option, Some, None}
use Rattle.std.specs.List.{flat_map}
use Rattle.std.specs.Fmt.{decimal}
use Rattle.hex.specs.Hex.{encode_lower}
use Rattle.block.specs.declared.fault.BlockFault.TheVariants as no_block
use Rattle.rules.specs.declared.answer.Refused.{Refused}
use Rattle.rules.specs.declared.answer.Refused.TheVariants as refused
use Rattle.rules.specs.declared.flag.Flag.{Flag}
use Rattle.rules.specs.Flags.{number_of}
use Rattle.cli_values.specs.declared.format.Format.{Format}
use Rattle.cli_values.specs.declared.format.Format.TheVariants.{Plain, Json}
use Rattle.cli_lines.specs.declared.refusal.Refusal.{Refusal}
use Rattle.cli_lines.specs.declared.refusal.Refusal.TheVariants as refusal

-- `NUMBER HASH`, HASH in lower case hexadecimal digits
abbrev pub number_and_hash : ℕ → List ℕ → List ℕ
number_and_hash number hash = (decimal number ++ codes " ") ++ encode_lower hash

-- a space and the flag's number
abbrev pub flag_word : Flag → List ℕ
flag_word f = codes " " ++ decimal (number_of f)

abbrev pub accepted_words : ℕ → List ℕ → List Flag → List ℕ
accepted_words number header_hash flags = codes "accepted " ++ (number_and_hash number header_hash ++ (flat_map flag_word flags ++ codes "\n"))

-- the object of a block in JSON, up to its first two members
abbrev pub opened : List ℕ → ℕ → List ℕ → List ℕ
opened kind number hash =
    (codes "{\"kind\":\"" ++ (kind ++ (codes "\",\"number\":" ++ (decimal number ++ codes ",\"hash\":\"")))) ++ (encode_lower hash ++ codes "\"")

abbrev pub further_flag : Flag → List ℕ
further_flag f = codes "," ++ decimal (number_of f)

abbrev pub flag_list : List Flag → List ℕ
flag_list [] = []
flag_list (f ∷ more) = decimal (number_of f) ++ flat_map further_flag more

abbrev pub accepted_object : ℕ → List ℕ → List Flag → List ℕ
accepted_object number header_hash flags = opened (codes "accepted") number header_hash ++ (codes ",\"flags\":[" ++ (flag_list flags ++ codes "]}\n"))

abbrev pub accepted_line : Format → ℕ → List ℕ → List Flag → List ℕ
accepted_line Plain number header_hash flags = accepted_words number header_hash flags
accepted_line Json number header_hash flags = accepted_object number header_hash flags

-- of a kind that has no more than number and hash
abbrev pub numbered_line : Format → List ℕ → ℕ → List ℕ → List ℕ
numbered_line Plain kind number hash = kind ++ (codes " " ++ (number_and_hash number hash ++ codes "\n"))
numbered_line Json kind number hash = opened kind number hash ++ codes "}\n"

abbrev pub block_line : Format → ℕ → List ℕ → List ℕ
block_line format number header_hash = numbered_line format (codes "block") number header_hash

abbrev pub commit_line : Format → ℕ → List ℕ → List ℕ
commit_line format number commit_hash = numbered_line format (codes "commit") number commit_hash

-- out of memory is no refusal
abbrev pub refusal_of : Refused → Option Refusal
refusal_of (refused.Malformed no_block.BadMagic) = Some refusal.BadMagic
refusal_of (refused.Malformed no_block.Truncated) = Some refusal.Truncated
refusal_of (refused.Malformed no_block.PreviousLength) = Some refusal.PreviousLength
refusal_of (refused.Malformed no_block.TooManyTxs) = Some refusal.TooManyTxs
refusal_of (refused.Malformed no_block.TxTooLong) = Some refusal.TxTooLong
refusal_of (refused.Malformed no_block.TrailingBytes) = Some refusal.TrailingBytes
refusal_of (refused.Malformed no_block.Memory) = None
refusal_of (refused.WrongNumber want got) = Some (refusal.WrongNumber want got)
refusal_of refused.WrongPrevious = Some refusal.WrongPrevious
refusal_of refused.WrongDataHash = Some refusal.WrongDataHash
refusal_of refused.OldVersion = Some refusal.OldVersion
refusal_of refused.Memory = None

abbrev pub code_of : Refusal → List ℕ
code_of refusal.BadMagic = codes "C1 B1"
code_of refusal.Truncated = codes "C1 B2"
code_of refusal.PreviousLength = codes "C1 B3"
code_of refusal.TooManyTxs = codes "C1 B4"
code_of refusal.TxTooLong = codes "C1 B5"
code_of refusal.TrailingBytes = codes "C1 B6"
code_of (refusal.WrongNumber want got) = codes "C2"
code_of refusal.WrongPrevious = codes "C3"
code_of refusal.WrongDataHash = codes "C4"
code_of refusal.OldVersion = codes "C8"

-- what follows the code
abbrev pub numbers_of : Refusal → List ℕ
numbers_of refusal.BadMagic = []
numbers_of refusal.Truncated = []
numbers_of refusal.PreviousLength = []
numbers_of refusal.TooManyTxs = []
numbers_of refusal.TxTooLong = []
numbers_of refusal.TrailingBytes = []
numbers_of (refusal.WrongNumber want got) = codes " want " ++ (decimal want ++ (codes " got " ++ decimal got))
numbers_of refusal.WrongPrevious = []
numbers_of refusal.WrongDataHash = []
numbers_of refusal.OldVersion = []

abbrev pub refusal_text : Refusal → List ℕ
refusal_text why = code_of why ++ numbers_of why

-- its code, and what follows it, in JSON
abbrev pub further_members : Refusal → List ℕ
further_members refusal.BadMagic = []
further_members refusal.Truncated = []
further_members refusal.PreviousLength = []
further_members refusal.TooManyTxs = []
further_members refusal.TxTooLong = []
further_members refusal.TrailingBytes = []
further_members (refusal.WrongNumber want got) = codes ",\"want\":" ++ (decimal want ++ (codes ",\"got\":" ++ decimal got))
further_members refusal.WrongPrevious = []
further_members refusal.WrongDataHash = []
further_members refusal.OldVersion = []

abbrev pub refusal_members : Refusal → List ℕ
refusal_members why = code_of why ++ (codes "\"" ++ further_members why)

abbrev pub refused_words : ℕ → Refusal → List ℕ
refused_words place why = codes "refused " ++ (decimal place ++ (codes " " ++ (refusal_text why ++ codes "\n")))

abbrev pub refused_object : ℕ → Refusal → List ℕ
refused_object place why =
    (codes "{\"kind\":\"refused\",\"place\":" ++ (decimal place ++ codes ",\"fault\":\"")) ++ (refusal_members why ++ codes "}\n")

-- of the block at this place, from 1
abbrev pub refused_line : Format → ℕ → Refusal → List ℕ
refused_line Plain place why = refused_words place why
refused_line Json place why = refused_object place why
