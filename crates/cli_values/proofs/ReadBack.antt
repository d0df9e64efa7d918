-- What is printed for a value is read as this value.
use Rattle.std.proofs.Common.{◌≡◌, ℕ, ◌<◌, Bool, true, false, List, Some, cond, sym, ap, refl, codes}
use Rattle.std.specs.List.{All}
use Rattle.std.specs.Str.{bytes_eq}
use Rattle.std.proofs.lemmas.Slice.Eq.{bytes_eq-Decides}
use Rattle.text_lines.specs.Printed.{word_of}
use Rattle.text_lines.specs.Words.{word_bytes}
use Rattle.cli_values.specs.Printed.{value_word_of}

-- words are read back
abbrev WordsAreReadBack : Type 0
WordsAreReadBack = (bytes : List ℕ) → All (λ b. b < 256) bytes → word_bytes (word_of bytes) ≡ Some bytes

value_by : WordsAreReadBack → (is_deleted : Bool) (value : List ℕ) → bytes_eq value (codes "deleted") ≡ is_deleted → All (λ b. b < 256) value
    → word_bytes (cond is_deleted (codes "%64eleted") (word_of value)) ≡ Some value
value_by words true value e all = ap Some (sym ((bytes_eq-Decides value (codes "deleted")).0 e))
value_by words false value e all = words value all

pub value_read_back : WordsAreReadBack → (value : List ℕ) → All (λ b. b < 256) value → word_bytes (value_word_of value) ≡ Some value
value_read_back words value all = value_by words (bytes_eq value (codes "deleted")) value refl all
