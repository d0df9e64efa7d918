-- What the walk has found. No public contract cites it.
use Rattle.std.specs.Prelude.{Option}
use Rattle.transaction.specs.declared.transaction.Version.{Version}
use Rattle.mvcc.specs.declared.walk.Finding.{Finding}
use Rattle.mvcc.specs.declared.walk.Finding.TheVariants.{Open, Settled}
use Rattle.mvcc.specs.Versions.{noted_over}

-- the version, given what the operations that are left make
abbrev pub over_finding : Finding → Option Version → Option Version
over_finding (Open noted) older = noted_over noted older
over_finding (Settled version) older = version
