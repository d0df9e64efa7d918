use Rattle.std.proofs.Common.{◌≡◌, drop}
use Rattle.std.specs.List.{list_all}
use Rattle.rules.specs.Reads.{read_holds}
use Rattle.plain.specs.StateNow.{state_now}
use Rattle.plain.proofs.reads.reads_hold.Given as goal

abbrev pub invariant-loop-read : goal.invariant-loop-read
invariant-loop-read l =
    list_all (read_holds (state_now l.state) l.namespace) l.reads
    ≡ list_all (read_holds (state_now l.state) l.namespace) (drop l.read-index l.reads)
