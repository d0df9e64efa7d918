-- Blocks that `run` hands in, and what is told of their answers. No public contract cites this.
use Rattle.std.specs.Prelude.{◌≡◌, ◌<◌, ◌≤◌, ◌+◌, ◌^◌, ℕ, suc, max, List, [], ◌∷◌, length, Option, Some, None, option_and_then, Result, Ok, Err}
use Rattle.std.specs.List.{AllByRecursion}
use Rattle.std.specs.Io.KnownBytes.{Appends}
use Rattle.policy_eval.specs.Accepts.{Accepts}
use Rattle.rules.specs.declared.delta.Delta.{Delta}
use Rattle.query.specs.declared.receipt.Receipt.{Receipt}
use Rattle.commit.specs.declared.not_committed.NotCommitted.{NotCommitted}
use Rattle.commit.specs.Committing.{Committing, Runs}
use Rattle.command_line.specs.declared.committing.Committed.{Committed}
use Rattle.command_line.specs.declared.committing.Told.{Told}
use Rattle.command_line.specs.declared.lines.Style.{Style}
use Rattle.command_line.specs.Printed.{reader_lines}
use Rattle.command_line.specs.Lines.{answer_lines, lines_behind, status_of}

-- the receipt of the last answer that has one, else an earlier one
abbrev pub last_receipt : Option Receipt → List (Result Receipt NotCommitted) → Option Receipt
last_receipt before [] = before
last_receipt before (Ok receipt ∷ answers) = last_receipt (Some receipt) answers
last_receipt before (Err why ∷ answers) = last_receipt before answers

-- the worst status for these answers and those so far; none if one is out of memory
abbrev pub worst_of : ℕ → List (Result Receipt NotCommitted) → Option ℕ
worst_of so_far [] = Some so_far
worst_of so_far (answer ∷ answers) = option_and_then (λ status. worst_of (max so_far status) answers) (status_of answer)

-- These strings of bytes were handed in one after the other, and this came of them. What was written to an output that
-- held these bytes, if they are known, are the lines for the answers, in their order.
pub record AreHandedIn (accepts : Accepts) (style : Style) (old : Committing) (before : Option (List ℕ)) (blocks : List (List ℕ)) (committed : Committed) (new : Committing) (now : Option (List ℕ)) : Type 0 where
  pub answers : List (Result Receipt NotCommitted)
  pub runs : Runs accepts old blocks answers new
  pub is_last : committed.last ≡ last_receipt None answers
  pub is_status : worst_of 0 answers ≡ Some committed.status
  pub printed : Appends before now (lines_behind style 0 answers)

-- The answer to the next block was told, as the last of those that there are, and its lines were written.
pub record IsTold (old : Told) (before : Option (List ℕ)) (answer : Result Receipt NotCommitted) (new : Told) (now : Option (List ℕ)) : Type 0 where
  pub same : new.style ≡ old.style
  pub counted : old.done + 1 < 2 ^ 64 → new.done ≡ old.done + 1
  pub is_last : new.committed.last ≡ last_receipt old.committed.last (answer ∷ [])
  pub is_status : worst_of old.committed.status (answer ∷ []) ≡ Some new.committed.status
  pub printed : old.done + 1 < 2 ^ 64 → Appends before now (answer_lines old.style (suc old.done) answer)

-- the deltas that the last receipt tells of
abbrev pub known_list : Option Receipt → List Delta
known_list None = []
known_list (Some receipt) = receipt.front.list

-- After these bytes, if they are known, a line was written for each of `readers` readers, with a height no less than this receipt's.
pub record ReadersTold (style : Style) (readers : ℕ) (last : Option Receipt) (before now : Option (List ℕ)) : Type 0 where
  pub heights : List ℕ
  pub each : length heights ≡ readers
  pub reached : AllByRecursion (λ height. length (known_list last) ≤ height) heights
  pub printed : Appends before now (reader_lines style.format 0 heights)

-- All was told: these strings were handed in, and readers found what they found.
pub record IsAllTold (accepts : Accepts) (style : Style) (readers : ℕ) (old : Committing) (before : Option (List ℕ)) (blocks : List (List ℕ)) (status : ℕ) (new : Committing) (now : Option (List ℕ)) : Type 0 where
  pub committed : Committed
  pub between : Option (List ℕ)
  pub handed : AreHandedIn accepts style old before blocks committed new between
  pub is_status : status ≡ committed.status
  pub read : ReadersTold style readers committed.last between now
