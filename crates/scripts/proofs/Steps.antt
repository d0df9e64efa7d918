-- A script with one line more.
use Rattle.std.proofs.Common.{◌≡◌, ℕ, List, ◌∷◌, Bool, true, false, Some, Ok, ap, sym, ◌∙◌, subst}
use Rattle.text_lines.specs.Lines.{Statement}
use Rattle.transaction.specs.declared.block_version.BlockVersion.{BlockVersion}
use Rattle.key_book.specs.Entry as book
use Rattle.scripts.specs.declared.script.Item.{Item}
use Rattle.scripts.specs.declared.script.Script.{Script}
use Rattle.scripts.specs.declared.so_far.SoFar.{SoFar}
use Rattle.scripts.specs.Script.{before, said_with, or_stops, script_from}
use Rattle.scripts.specs.Taking.{Takes}

stopped : List Item → ℕ → Script
stopped items n = record { items = items; fault = Some n }

-- at a faulty line
pub stops : (version : BlockVersion) (keys : List book.Entry) (so_far : SoFar) (s : Statement) (rest : List Statement) (b new : SoFar) (said : Bool) → b ≡ before version s.bytes so_far → said ≡ false → Takes (Ok said) b new (said_with version keys s.line b s.bytes) → record { items = new.items; fault = Some s.line } ≡ script_from version keys so_far (s ∷ rest)
unfolding stopped
stops version keys so_far s rest b new true is answered h = cc
stops version keys so_far s rest b new false is answered h =
    let go = λ (next : SoFar). script_from version keys next rest in
    let here : stopped new.items s.line ≡ or_stops go s.line b.items (said_with version keys s.line b s.bytes) =
    ap (λ (items : List Item). stopped items s.line) h.1 ∙ sym (ap (or_stops go s.line b.items) h.0) in
    subst (λ (x : SoFar). stopped new.items s.line ≡ or_stops go s.line x.items (said_with version keys s.line x s.bytes)) is here

-- behind a line that isn't
pub goes : (version : BlockVersion) (keys : List book.Entry) (so_far : SoFar) (s : Statement) (rest : List Statement) (b new : SoFar) (said : Bool) → b ≡ before version s.bytes so_far → said ≡ true → Takes (Ok said) b new (said_with version keys s.line b s.bytes) → script_from version keys new rest ≡ script_from version keys so_far (s ∷ rest)
goes version keys so_far s rest b new false is answered h = cc
goes version keys so_far s rest b new true is answered h =
    let go = λ (next : SoFar). script_from version keys next rest in
    let here : go new ≡ or_stops go s.line b.items (said_with version keys s.line b s.bytes) = sym (ap (or_stops go s.line b.items) h) in
    subst (λ (x : SoFar). go new ≡ or_stops go s.line x.items (said_with version keys s.line x s.bytes)) is here
