use Rattle.std.proofs.Common.{◌≡◌, ◌≤◌, ℕ, length, take}
use Rattle.history_index.specs.Places.{last_with}
use Rattle.history_index.specs.Buckets.{bucket_of, hashes_of, AreLinked, IsChain}
use Rattle.history_index.proofs.links.last_from.Given as goal

abbrev pub invariant-loop-place : goal.invariant-loop-place
invariant-loop-place l = record {
  bound : l.place ≤ length l.links;
  chain : (n : ℕ) → AreLinked n l.links → IsChain n (bucket_of n l.hash) (hashes_of l.links) l.from
      → IsChain n (bucket_of n l.hash) (hashes_of l.links) l.place × (last_with l.hash (take l.place (hashes_of l.links)) ≡ last_with l.hash (take l.from (hashes_of l.links)));
}

abbrev pub decreases-loop-place : goal.decreases-loop-place
decreases-loop-place l = l.place
