use Rattle.std.proofs.Common.{◌≡◌, List, suc}
use Rattle.rules.specs.Candidate.{Candidate}
use Rattle.key_chains.specs.Built.{AreNext, IsBuilt, IsWhole}
use Rattle.key_chains.proofs.chains.Chains.add_written.Given as goal

abbrev pub invariant-loop-one : goal.invariant-loop-one
invariant-loop-one l = record {
  built : (cs : List Candidate) → AreNext cs l.i l.written → IsBuilt cs l.i (suc l.i) 0 l.fn.self → IsBuilt cs l.i (suc l.i) l.one-index l.self;
  keys : l.self.keys ≡ l.fn.self.keys;
  whole : IsWhole l.self;
}
