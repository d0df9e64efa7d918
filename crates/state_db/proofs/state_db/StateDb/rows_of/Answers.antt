use Rattle.std.proofs.Common.{ap, map}
use Rattle.std.specs.Option.{option_copied}
use Rattle.state_db.proofs.state_db.StateDb.rows_of.Goals as goal

pub rows_beside-requires : goal.rows_beside-requires
rows_beside-requires c = ap (map option_copied) c.none-none.ensures
