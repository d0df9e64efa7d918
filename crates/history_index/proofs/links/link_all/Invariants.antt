use Rattle.std.proofs.Common.{◌≡◌, length, take}
use Rattle.history_index.specs.Buckets.{hashes_of, AreLinkedTo, KeepsLast}
use Rattle.history_index.proofs.links.link_all.Given as goal

abbrev pub invariant-loop-index : goal.invariant-loop-index
invariant-loop-index l = record {
  hashes : hashes_of l.links ≡ hashes_of l.initial.links;
  linked : AreLinkedTo (length l.initial.buckets) l.links l.index;
  kept : KeepsLast l.buckets (take l.index (hashes_of l.initial.links));
}
