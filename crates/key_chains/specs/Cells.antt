-- What a plain board knows. No call of a check changes it.
use Rattle.std.specs.Prelude.{◌≡◌, ℕ, List, length, None, slice_index_or}
use Rattle.std.proofs.Common.{refl, ap, ◌∙◌}
use Rattle.key_chains.specs.declared.plain_board.Cells.{Cells}
use Rattle.key_chains.specs.Known.{Known, Grows}

-- nothing is known
abbrev pub no_cells : Cells
no_cells = record { endorsed = None; flag = None }

abbrev pub cells_at : List Cells → ℕ → Cells
cells_at cells i = slice_index_or cells i no_cells

abbrev pub known_of : List Cells → Known
known_of cells = record { endorsed = λ i. (cells_at cells i).endorsed; flag = λ i. (cells_at cells i).flag }

abbrev pub Unchanged : List Cells → List Cells → Type 0
Unchanged old new = new ≡ old

-- ---- the laws of a board

pub stays : (a : List Cells) → Unchanged a a
stays a = refl

pub goes_on : (a b c : List Cells) → Unchanged a b → Unchanged b c → Unchanged a c
goes_on a b c one two = two ∙ one

pub same_count : (a b : List Cells) → Unchanged a b → length b ≡ length a
same_count a b same = ap (λ (cells : List Cells). length cells) same

pub grows : (a b : List Cells) → Unchanged a b → Grows (known_of a) (known_of b)
grows a b same = record {
  endorsed = λ h v known. ap (λ (cells : List Cells). (cells_at cells h).endorsed) same ∙ known;
  flag = λ h f known. ap (λ (cells : List Cells). (cells_at cells h).flag) same ∙ known;
}
