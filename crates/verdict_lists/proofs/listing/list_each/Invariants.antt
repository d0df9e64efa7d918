use Rattle.std.proofs.Common.{◌≡◌, ◌++◌, drop, length}
use Rattle.verdict_lists.specs.Listed.{pool_of, verdicts_from, verdicts_of, refused}
use Rattle.verdict_lists.proofs.listing.list_each.Given as goal

-- what is listed so far, with what is left of the requests, is all
abbrev pub invariant-loop-request : goal.invariant-loop-request
invariant-loop-request l = record {
  pool : l.pool.items ++ pool_of (drop l.request-index l.requests) ≡ pool_of l.requests;
  verdicts : l.verdicts.items ++ verdicts_from refused (length l.pool.items) (drop l.request-index l.requests) ≡ verdicts_of refused l.requests;
}
