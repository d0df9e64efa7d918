use Rattle.std.proofs.Common.{◌≡◌, ◌++◌, map, drop}
use Rattle.std.specs.List.{flat_map}
use Rattle.transaction.specs.Grammar.{endorsement_bytes}
use Rattle.signature_requests.specs.Requests.{endorser_request}
use Rattle.signature_requests.proofs.endorsers.push_each.Given as goal

-- the requests so far, with those of the endorsements whose bytes are left, are all
abbrev pub invariant-loop-endorsement : goal.invariant-loop-endorsement
invariant-loop-endorsement l = record {
  listed : l.requests.items ++ map (endorser_request l.body) (drop l.endorsement-index l.endorsements) ≡ l.fn.requests.items ++ map (endorser_request l.body) l.endorsements;
  left : l.left ≡ flat_map endorsement_bytes (drop l.endorsement-index l.endorsements);
}
