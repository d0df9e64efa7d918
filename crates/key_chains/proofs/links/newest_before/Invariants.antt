use Rattle.std.proofs.Common.{◌≡◌}
use Rattle.key_chains.specs.Linked.{chain_in, IsLink}
use Rattle.key_chains.specs.Lists.{lists_of}
use Rattle.key_chains.specs.Older.{older_than, links_left}
use Rattle.key_chains.proofs.links.newest_before.Given as goal

abbrev pub invariant-loop-link : goal.invariant-loop-link
invariant-loop-link l = record {
  link : IsLink (lists_of l.entries) l.link;
  list : older_than l.i (chain_in (lists_of l.entries) l.link) ≡ older_than l.i (chain_in (lists_of l.entries) l.fn.newest);
}

abbrev pub decreases-loop-link : goal.decreases-loop-link
decreases-loop-link l = links_left l.link
