-- A step between the first uses and the code: the hash of an id. Which function it is matters to no contract.
use Rattle.std.specs.Prelude.{ℕ, List, ◌%◌}
use Rattle.std.specs.Hash.FoldHasher.{initial, write, finish}

unfoldable pub id_hash : List ℕ → ℕ
id_hash id = finish (write initial id) % 4294967296
