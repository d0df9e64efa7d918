use Rattle.std.proofs.Common.{◌≡◌, ◌+◌, length, drop}
use Rattle.std.specs.Prelude.{flat_map}
use Rattle.transaction.specs.Grammar.{endorsement_bytes}
use Rattle.transaction.proofs.cut.endorsements_len.Given as goal

abbrev pub invariant-loop-endorsement : goal.invariant-loop-endorsement
invariant-loop-endorsement l =
    l.len + length (flat_map endorsement_bytes (drop l.endorsement-index l.endorsements)) ≡ length (flat_map endorsement_bytes l.endorsements)
