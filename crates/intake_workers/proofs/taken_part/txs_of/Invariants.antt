use Rattle.std.proofs.Common.{◌≡◌, ◌≤◌, ◌+◌, ◌-◌, length}
use Rattle.intake_workers.specs.Parts.{part_of}
use Rattle.intake_workers.proofs.taken_part.txs_of.Given as goal

abbrev pub invariant-loop : goal.invariant-loop
invariant-loop l =
    (l.left + l.counter ≡ l.fn.part.count)
    × (part_of l.left (l.fn.part.number - l.counter) l.rest ≡ part_of l.fn.part.count l.fn.part.number l.txs)
    × (length l.rest ≤ length l.txs)
