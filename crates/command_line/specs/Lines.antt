-- The lines for the answers of a committer.
use Rattle.std.specs.Prelude.{ℕ, suc, if◌then◌else◌, List, [], ◌∷◌, ◌++◌, Option, Some, None, option_map, Result, Ok, Err}
use Rattle.query.specs.declared.receipt.Receipt.{Receipt}
use Rattle.commit.specs.declared.not_committed.NotCommitted.{NotCommitted}
use Rattle.commit.specs.declared.not_committed.NotCommitted.TheVariants.{Refused, MemoryInCommit, Stopped}
use Rattle.cli_lines.specs.declared.refusal.Refusal.{Refusal}
use Rattle.command_line.specs.declared.lines.Style.{Style}
use Rattle.cli_lines.specs.BlockLines.{accepted_line, commit_line, refused_line, refusal_of}

-- want of memory is no refusal, and only for that a committer stops
abbrev pub refusal_in : NotCommitted → Option Refusal
refusal_in (Refused refused) = refusal_of refused
refusal_in MemoryInCommit = None
refusal_in Stopped = None

-- with its commit hash, where hashes are asked for
abbrev pub receipt_lines : Style → Receipt → List ℕ
receipt_lines style r = accepted_line style.format r.number r.header_hash r.flags ++ (if style.hashes then commit_line style.format r.number r.commit_hash else [])

-- want of memory has no line
abbrev pub line_of : Style → ℕ → Option Refusal → List ℕ
line_of style place None = []
line_of style place (Some why) = refused_line style.format place why

-- for the answer to the block at this place, from 1
abbrev pub answer_lines : Style → ℕ → Result Receipt NotCommitted → List ℕ
answer_lines style place (Ok r) = receipt_lines style r
answer_lines style place (Err why) = line_of style place (refusal_in why)

-- for the answers to the blocks behind so many others
abbrev pub lines_behind : Style → ℕ → List (Result Receipt NotCommitted) → List ℕ
lines_behind style before [] = []
lines_behind style before (answer ∷ answers) = answer_lines style (suc before) answer ++ lines_behind style (suc before) answers

-- the process's status for this answer, if all other blocks are accepted; out of memory has none
abbrev pub status_of : Result Receipt NotCommitted → Option ℕ
status_of (Ok r) = Some 0
status_of (Err why) = option_map (λ refusal. 1) (refusal_in why)
