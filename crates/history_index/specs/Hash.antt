-- A step between the history and the code: the hash of a key. No contract depends on which function it is.
use Rattle.std.specs.Prelude.{ℕ, ◌%◌}
use Rattle.std.specs.Hash.FoldHasher.{initial, write, finish}
use Rattle.rules.specs.State.{StateKey}

unfoldable pub key_hash : StateKey → ℕ
key_hash k = finish (write (write initial k.0) k.1) % 4294967296
