use Rattle.std.proofs.Common.{◌≡◌, take, drop}
use Rattle.std.specs.Prelude.{flat_map}
use Rattle.std.specs.List.{list_all}
use Rattle.candidates.specs.Form.{has_policies_in_form}
use Rattle.candidates.specs.Gathering.{writes_in}
use Rattle.candidates.proofs.gathering.single_writes.Given as goal

abbrev pub invariant-loop-set : goal.invariant-loop-set
invariant-loop-set l = record {
  form : list_all has_policies_in_form l.sets ≡ list_all has_policies_in_form (drop l.set-index l.sets);
  added : l.written.items ≡ flat_map writes_in (take l.set-index l.sets);
}
