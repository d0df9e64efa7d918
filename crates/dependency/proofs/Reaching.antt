-- What checks from the first board reach.
use Rattle.std.proofs.Common.{◌≡◌, List, [], ◌∷◌, ◌++◌, length, refl, sym, subst, ◌∙◌}
use Rattle.std.proofs.lemmas.List.{length-map}
use Rattle.rules.specs.declared.event.Event.{Event}
use Rattle.rules.specs.Job.{Job}
use Rattle.rules.specs.Machine.{Board, first_board, MachineStep, Run}
use Rattle.rules.proofs.Runs.{runs_have_lengths}
use Rattle.key_chains.specs.declared.plain_board.Cells.{Cells}
use Rattle.dependency.specs.Rows.{board_of}

-- one check more
pub run_more : (j : Job) (es : List Event) (e : Event) (a b c : Board) → Run j a es b → MachineStep j e b c → Run j a (es ++ e ∷ []) c
run_more j [] e a b c run step = (c, subst (λ (x : Board). MachineStep j e x c) run step, refl)
run_more j (first ∷ es) e a b c run step = (run.0, run.1, run_more j es e run.0 b c run.2 step)

pub run_counts : (j : Job) (es : List Event) (cells : List Cells) → Run j (first_board j) es (board_of cells) → length cells ≡ length j.candidates
run_counts j es cells run = sym (length-map cells (λ (c : Cells). c.endorsed)) ∙ (runs_have_lengths j es (board_of cells) run).0
