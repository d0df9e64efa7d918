-- Lines of rows, up to a limit.
use Rattle.std.proofs.Common.{◌≡◌, ◌++◌, ◌∙◌, ℕ, zero, suc, Bool, true, false, List, [], ◌∷◌, length, refl, ap, append_assoc, arith}
use Rattle.std.specs.Prelude.{if◌then◌else◌, nat_lt, take}
use Rattle.std.specs.List.{flat_map}
use Rattle.std.proofs.lemmas.Bool.{lt-ltb, le-ltb, ltb-true, ltb-false}
use Rattle.cli_lines.specs.RowLines.{more_line, row_line}
use Rattle.cli_values.specs.declared.format.Format.{Format}
use Rattle.rules.specs.Answers.{RangeAnswer}
use Rattle.rules.specs.declared.row.Row.{Row}
use Rattle.rules.specs.State.{StateKey}
use Rattle.ledger_commands.specs.Asking.{rows_text}

abbrev pub up_to : ℕ → List (StateKey × Row) → RangeAnswer
up_to limit rows = record { rows = take limit rows; more = nat_lt limit (length rows) }

pub none : (format : Format) (limit : ℕ) → rows_text format (up_to limit []) ≡ []
none format zero = refl
none format (suc n) = ap (λ (b : Bool). if b then more_line format else []) (le-ltb (suc n) 0 (omega arith))

pub full : (format : Format) (row : StateKey × Row) (rows : List (StateKey × Row)) → rows_text format (up_to 0 (row ∷ rows)) ≡ more_line format
full format row rows = ap (λ (b : Bool). if b then more_line format else []) (lt-ltb 0 (length (row ∷ rows)) (omega arith))

one_less : (n m : ℕ) → nat_lt (suc n) (suc m) ≡ nat_lt n m
one_less n m = by (nat_lt n m) refl
  where
    by : (b : Bool) → nat_lt n m ≡ b → nat_lt (suc n) (suc m) ≡ b
    by true e = lt-ltb (suc n) (suc m) (omega (arith, ltb-true n m e))
    by false e = le-ltb (suc n) (suc m) (omega (arith, ltb-false n m e))

pub one : (format : Format) (limit : ℕ) (row : StateKey × Row) (rows : List (StateKey × Row)) → rows_text format (up_to (suc limit) (row ∷ rows)) ≡ row_line format row.0.1 row.1 ++ rows_text format (up_to limit rows)
one format limit row rows =
    append_assoc (row_line format row.0.1 row.1) (flat_map (λ r. row_line format r.0.1 r.1) (take limit rows)) (if nat_lt (suc limit) (length (row ∷ rows)) then more_line format else [])
    ∙ ap (λ (b : Bool). row_line format row.0.1 row.1 ++ (flat_map (λ r. row_line format r.0.1 r.1) (take limit rows) ++ (if b then more_line format else []))) (one_less limit (length rows))
