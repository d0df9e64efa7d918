use Rattle.std.proofs.Common.{◌≡◌, ◌&&◌, ℕ, Bool, List, Option, drop}
use Rattle.std.specs.Io.KnownBytes.{Appends}
use Rattle.std.specs.Option.{option_copied}
use Rattle.ledger_commands.specs.Showing.{AreShown, Prints}
use Rattle.ledger_commands.proofs.show.write_blocks.Given as goal

-- those that were shown, and then those that are left, are all
abbrev pub invariant-loop-bytes : goal.invariant-loop-bytes
invariant-loop-bytes g l = record {
  count : l.before ≡ l.bytes-index;
  shown : (now : Option (List ℕ)) → (text : List ℕ) → (others : Bool) → AreShown (option_copied l.configuration) l.bytes-index (drop l.bytes-index l.blocks) text others → Appends (g.W.Write.contents l.out) now text
      → Prints (option_copied l.configuration) l.blocks (g.W.Write.contents l.fn.out) (l.are_blocks && others) now;
}
