-- Worlds from which a block can be hashed without ambiguity. The empty world is one, and each step keeps it so.
use Rattle.std.specs.Prelude.{◌≡◌, Some}
use Rattle.std.specs.FinMap.{get}
use Rattle.values.specs.Hash.{IsHash}
use Rattle.rules.specs.declared.row.Row.{Row}
use Rattle.rules.specs.State.{StateKey, State}
use Rattle.rules.specs.CommitBytes.{commit_hash_before, told_change, HasRoomForChange}
use Rattle.rules.specs.World.{World, last_commit_hash}

-- Each row has room in a block's commit bytes: its namespace, key, value and canonical policy text by their lengths,
-- and its version.
abbrev pub RowsHaveRoom : State → Type 0
RowsHaveRoom s = (k : StateKey) (row : Row) → get s k ≡ Some row → HasRoomForChange (told_change (k, Some row))

-- so it is, and the commit hash before the next block has the length of one
pub record WorldHasRoom (w : World) : Type 0 where
  pub rows : RowsHaveRoom w.state
  pub commit_hash : IsHash (commit_hash_before (last_commit_hash w))
