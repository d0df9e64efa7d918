use Rattle.std.proofs.Common.{◌≡◌, drop, map}
use Rattle.std.specs.Prelude.{IsTrue}
use Rattle.std.specs.List.{list_all}
use Rattle.rules.specs.ReadWriteSets.{is_set_in_form}
use Rattle.rules.specs.Reads.{set_verdict, first_fault, read_verdict}
use Rattle.plain.specs.StateNow.{state_now}
use Rattle.plain.proofs.reads.read_verdict.Given as goal

abbrev pub invariant-loop-set : goal.invariant-loop-set
invariant-loop-set l = record {
  in_form : IsTrue (list_all is_set_in_form (drop l.set-index l.tx.namespaces));
  left : read_verdict (state_now l.state) l.tx ≡ first_fault (map (set_verdict (state_now l.state)) (drop l.set-index l.tx.namespaces));
}
