use Rattle.std.proofs.Common.{◌≡◌, take}
use Rattle.reasons.specs.Shortfall.{refused_of}
use Rattle.reasons_from_state.proofs.shortfalls.refused.Given as goal

abbrev pub invariant-loop-endorsement : goal.invariant-loop-endorsement
invariant-loop-endorsement l = l.refused.items ≡ refused_of (take l.endorsement-index l.endorsements) l.signers
