use Rattle.std.proofs.Common.{◌≡◌, ◌++◌, take, map, All}
use Rattle.key_chains.specs.Linked.{chain_in, IsLink}
use Rattle.key_chains.specs.Building.{list_at}
use Rattle.key_chains.proofs.chains.link_reads.Given as goal

abbrev pub invariant-loop-key : goal.invariant-loop-key
invariant-loop-key l = record {
  lists : map (chain_in l.operations.0) l.links.items ≡ map (chain_in l.operations.0) l.initial.links.items ++ map (list_at l.keys l.operations) (take l.key-index l.read);
  links : All (IsLink l.operations.0) l.initial.links.items → All (IsLink l.operations.0) l.links.items;
}
