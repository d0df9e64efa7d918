-- The limits of workers.
use Rattle.std.specs.Prelude.{ℕ}

-- the most that check one block
abbrev pub max_workers : ℕ
max_workers = 64
