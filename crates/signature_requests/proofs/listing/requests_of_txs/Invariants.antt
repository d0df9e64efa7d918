use Rattle.std.proofs.Common.{◌≡◌, ◌++◌, map, drop}
use Rattle.transaction.specs.Items.{item_of}
use Rattle.signature_requests.specs.Requests.{requests_in}
use Rattle.signature_requests.proofs.listing.requests_of_txs.Given as goal

-- the requests so far, with those of the items that are left, are all
abbrev pub invariant-loop-bytes : goal.invariant-loop-bytes
invariant-loop-bytes l = l.requests.items ++ requests_in (map (item_of l.version) (drop l.bytes-index l.txs)) ≡ requests_in (map (item_of l.version) l.txs)
