-- What a scan tells.
use Rattle.std.specs.Prelude.{◌≡◌, ◌⊎◌, ℕ, ◌+◌, List, [], ◌∷◌, ◌++◌, length, nat_le, ◌&&◌, Bool, if◌then◌else◌, Option, None, Some}
use Rattle.std.specs.List.{flat_map}
use Rattle.std.specs.Bool.{MatchBool}
use Rattle.values.specs.Name.{is_name}
use Rattle.values.specs.Key.{is_bound}
use Rattle.rules.specs.State.{StateKey}
use Rattle.rules.specs.Answers.{RangeAnswer, range_answer}
use Rattle.rules.specs.declared.row.Row.{Row}
use Rattle.c_handle.specs.declared.kept.Kept.{Kept}
use Rattle.c_calls.specs.declared.codes.TheConstants.{OK, MEMORY, CLOSED, NO_NAME, SMALL}
use Rattle.c_calls.specs.declared.scan.Listed.{Listed}
use Rattle.c_calls.specs.declared.scan.ScannedRow.{ScannedRow}
use Rattle.c_calls.specs.declared.scan.ScanSizes.{ScanSizes}
use Rattle.c_calls.specs.Buffers.{with_front}

-- what the pool has of a row: key, value
abbrev pub pooled_row : StateKey × Row → List ℕ
pooled_row r = r.0.1 ++ r.1.value

abbrev pub scan_pool : List (StateKey × Row) → List ℕ
scan_pool rows = flat_map pooled_row rows

-- the row whose bytes begin at this place of the pool
abbrev pub row_at : ℕ → StateKey × Row → ScannedRow
row_at n r = record {
  key = record { at = n; len = length r.0.1 };
  value = record { at = n + length r.0.1; len = length r.1.value };
  block = r.1.version.block;
  tx = r.1.version.tx;
}

-- rows whose bytes stand one after the other from this place on
abbrev pub scan_rows : ℕ → List (StateKey × Row) → List ScannedRow
scan_rows n [] = []
scan_rows n (r ∷ rows) = row_at n r ∷ scan_rows (n + length (pooled_row r)) rows

-- the rows of an answer, with their pool
pub record IsScan (a : RangeAnswer) (s : Listed) : Type 0 where
  pub pool_is : s.pool.items ≡ scan_pool a.rows
  pub rows_are : s.rows.items ≡ scan_rows 0 a.rows
  pub more_is : s.more ≡ a.more

-- The sizes were told. Where both fit, both were written, and else neither.
pub record TheseRows (bytes : List ℕ) (list : List ScannedRow) (more : Bool) (pool pool' : List ℕ) (rows rows' : List ScannedRow) (sizes' : ScanSizes) (code : ℕ) : Type 0 where
  pub told_sizes : sizes' ≡ record { pool = length bytes; rows = length list; more = more }
  pub told_code : code ≡ (if nat_le (length bytes) (length pool) && nat_le (length list) (length rows) then OK else SMALL)
  pub pool_after : pool' ≡ (if nat_le (length bytes) (length pool) && nat_le (length list) (length rows) then with_front bytes pool else pool)
  pub rows_after : rows' ≡ (if nat_le (length bytes) (length pool) && nat_le (length list) (length rows) then with_front list rows else rows)

-- Nothing was told but the code.
pub record NoRows (why : ℕ) (pool pool' : List ℕ) (rows rows' : List ScannedRow) (sizes sizes' : ScanSizes) (code : ℕ) : Type 0 where
  pub told_code : code ≡ why
  pub pool_same : pool' ≡ pool
  pub rows_same : rows' ≡ rows
  pub sizes_same : sizes' ≡ sizes

abbrev pub RowsGiven : RangeAnswer → List ℕ → List ℕ → List ScannedRow → List ScannedRow → ScanSizes → ScanSizes → ℕ → Type 0
RowsGiven a pool pool' rows rows' sizes sizes' code =
    TheseRows (scan_pool a.rows) (scan_rows 0 a.rows) a.more pool pool' rows rows' sizes' code ⊎ NoRows MEMORY pool pool' rows rows' sizes sizes' code

-- as many rows as their buffer has room for
abbrev pub ScanTold : Option Kept → List ℕ → List ℕ → List ℕ → List ℕ → List ℕ → List ScannedRow → List ScannedRow → ScanSizes → ScanSizes → ℕ → Type 0
ScanTold None namespace start end pool pool' rows rows' sizes sizes' code = NoRows CLOSED pool pool' rows rows' sizes sizes' code
ScanTold (Some kept) namespace start end pool pool' rows rows' sizes sizes' code =
    MatchBool (is_name namespace && is_bound start && is_bound end) (RowsGiven (range_answer kept.ledger.world namespace start end (length rows)) pool pool' rows rows' sizes sizes' code)
    (NoRows NO_NAME pool pool' rows rows' sizes sizes' code)
