use Rattle.std.proofs.Common.{◌≡◌, ℕ, List, Option, Some, None, Result, Ok, Err, slice_index, sym, ◌∙◌}
use Rattle.std.specs.Result.{result_ok}
use Rattle.hex.specs.declared.error.FromHexError.{FromHexError}
use Rattle.text_lines.proofs.HexPairs.{Gives, byte_from_pair}
use Rattle.text_lines.proofs.words.hex_byte.Goals as goal

none : (result : Result (Unit {0}) FromHexError) (out : List ℕ) (byte : Option ℕ) → Gives result out byte → result_ok result ≡ None → byte ≡ None
none (Ok _) out byte given is = cc
none (Err _) out byte given is = given

some : (result : Result (Unit {0}) FromHexError) (out : List ℕ) (byte : Option ℕ) (u : Unit {0}) → Gives result out byte → result_ok result ≡ Some u → byte ≡ Some (slice_index out 0)
some (Ok _) out byte u given is = given
some (Err _) out byte u given is = cc

pub returns-in_err-ok : goal.returns-in_err-ok
returns-in_err-ok c =
    let given = byte_from_pair c.decode_to_slice.result c.decode_to_slice.new.out c.args.high c.args.low c.decode_to_slice.ensures.value in
    c.from_residual.ensures ∙ sym (none _ c.decode_to_slice.new.out _ given (sym c.ok.ensures.value ∙ c.in_err-ok.was))

pub returns : goal.returns
returns c =
    let given = byte_from_pair c.decode_to_slice.result c.decode_to_slice.new.out c.args.high c.args.low c.decode_to_slice.ensures.value in
    sym (some _ c.decode_to_slice.new.out _ c.in_ok-ok.field-0 given (sym c.ok.ensures.value ∙ c.in_ok-ok.was))
