-- A plain board's cells as the two rows of the machine's board.
use Rattle.std.specs.Prelude.{ℕ, List, map, Option, Some, None}
use Rattle.rules.specs.declared.flag.Flag.{Flag}
use Rattle.rules.specs.Flags.{number_of}
use Rattle.rules.specs.Candidate.{Candidate}
use Rattle.rules.specs.Machine.{Board, first_endorsement, first_flag}
use Rattle.key_chains.specs.declared.plain_board.Cells.{Cells}

abbrev pub board_of : List Cells → Board
board_of cells = record { endorsements = map (λ c. c.endorsed) cells; flags = map (λ c. c.flag) cells }

-- what is known of a candidate at first
abbrev pub first_cells : Candidate → Cells
first_cells c = record { endorsed = first_endorsement c; flag = first_flag c }

-- NOT_VALIDATED if the flag is unknown
abbrev pub flag_number : Option Flag → ℕ
flag_number None = 254
flag_number (Some flag) = number_of flag
