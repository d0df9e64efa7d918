-- How many bytes a key of the text has.
use Rattle.std.proofs.Common.{◌≡◌, ℕ, ◌*◌, ◌≤◌, ◌&&◌, leb, true, List, length, Ok, arith}
use Rattle.std.specs.Prelude.{IsTrue}
use Rattle.std.proofs.lemmas.Bool.Decides.{nat_tests}
use Rattle.hex.specs.Hex.{decode_of}
use Rattle.hex.proofs.HexLemmas.{decode_of-ok}
use Rattle.key_book.specs.Entry.{is_key}

between : (n m : ℕ) → 2 ≤ n → n ≤ 128 → n ≡ 2 * m → (leb 1 m && leb m 64) ≡ true
between n m least most twice = grind (arith, nat_tests)

pub decoded-is_key : (digits key : List ℕ) → 2 ≤ length digits → length digits ≤ 128 → decode_of digits ≡ Ok key → IsTrue (is_key key)
decoded-is_key digits key least most e = between (length digits) (length key) least most (decode_of-ok digits key e).2
