-- The limits of a publisher.
use Rattle.std.specs.Prelude.{ℕ}

-- the most handles of one
abbrev pub max_readers : ℕ
max_readers = 32
