-- The limits of pages.
use Rattle.std.specs.Prelude.{ℕ}

-- the most rows of a page
abbrev pub max_page_rows : ℕ
max_page_rows = 256
