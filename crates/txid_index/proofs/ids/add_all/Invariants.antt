use Rattle.std.proofs.Common.{◌≡◌, ◌+◌, ◌≤◌, take}
use Rattle.std.specs.HashMap.{spare}
use Rattle.rules.specs.Delta.{uses_in}
use Rattle.rules.specs.FirstUses.{FirstUses, with_uses}
use Rattle.txid_index.specs.Found.{IsIndex}
use Rattle.txid_index.specs.Lists.{AreThere}
use Rattle.txid_index.proofs.ids.add_all.Given as goal

abbrev pub invariant-loop-index : goal.invariant-loop-index
invariant-loop-index l = record {
  index : (before : FirstUses) → IsIndex l.lists l.initial.firsts.entries l.initial.others.entries before
      → IsIndex l.lists l.firsts.entries l.others.entries (with_uses before (uses_in (take l.index l.uses)));
  there : AreThere l.lists l.firsts.entries;
  firsts_ : spare l.initial.firsts ≤ spare l.firsts + l.index;
  others_ : spare l.initial.others ≤ spare l.others + l.index;
}
