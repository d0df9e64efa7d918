-- The lines of a script that say bytes as they are.
use Rattle.std.specs.Prelude.{ℕ, List, [], ◌∷◌, ◌++◌, codes, flat_map}
use Rattle.hex.specs.Hex.{encode_lower}

abbrev pub raw_line : List ℕ → List ℕ
raw_line [] = codes "raw\n"
raw_line (b ∷ more) = codes "raw " ++ (encode_lower (b ∷ more) ++ 10 ∷ [])

abbrev pub raw_lines : List (List ℕ) → List ℕ
raw_lines txs = flat_map raw_line txs
