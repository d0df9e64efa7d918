-- The line of a block whose number was accepted already.
use Rattle.std.specs.Prelude.{ℕ, List, ◌++◌, codes}
use Rattle.hex.specs.Hex.{encode_lower}
use Rattle.cli_values.specs.declared.format.Format.{Format}
use Rattle.cli_values.specs.declared.format.Format.TheVariants.{Plain, Json}
use Rattle.known_blocks.specs.declared.known.Known.{Known}
use Rattle.known_blocks.specs.declared.known.KnownAs.{KnownAs}
use Rattle.known_blocks.specs.declared.known.KnownAs.TheVariants.{Same, Twin, Fork, Other}
use Rattle.cli_lines.specs.RowLines.{kind_of, end_of, name_of, label_of, number_of}

abbrev pub known_word : KnownAs → List ℕ
known_word Same = codes "same"
known_word Twin = codes "twin"
known_word Fork = codes "fork"
known_word Other = codes "other"

-- lower case hexadecimal, in JSON a string
abbrev pub hash_in : Format → List ℕ → List ℕ
hash_in Plain hash = encode_lower hash
hash_in Json hash = codes "\"" ++ (encode_lower hash ++ codes "\"")

-- a word that needs no escapes, in JSON a string
abbrev pub plain_word_in : Format → List ℕ → List ℕ
plain_word_in Plain word = word
plain_word_in Json word = codes "\"" ++ (word ++ codes "\"")

-- both header hashes, the accepted one first, and the end of the line
abbrev pub known_hashes : Format → List ℕ → List ℕ → List ℕ
known_hashes format accepted own =
    (name_of format (codes "accepted") ++ hash_in format accepted) ++ (label_of format (codes "is")
    ++ ((name_of format (codes "own") ++ hash_in format own) ++ end_of format))

abbrev pub known_line : Format → Known → List ℕ
known_line format known =
    kind_of format (codes "known") ++ (number_of format (codes "number") known.number
    ++ ((name_of format (codes "as") ++ plain_word_in format (known_word known.how)) ++ known_hashes format known.accepted known.own))
