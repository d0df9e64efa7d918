use Rattle.std.proofs.Common.{◌≡◌, ℕ, ◌<◌, ◌+◌, List, [], ◌∷◌, ◌++◌, length, map, take, get_or, None, add-one, sym, ap, ◌∙◌, arith}
use Rattle.std.proofs.Math.Seq.{take-suc}
use Rattle.std.proofs.lemmas.List.{map-append, length-map}
use Rattle.key_chains.specs.declared.plain_board.Cells.{Cells}
use Rattle.key_chains.specs.Cells.{cells_at}
use Rattle.dependency.specs.Rows.{flag_number}
use Rattle.dependency.proofs.Stepping.{flags_row}
use Rattle.dependency.proofs.event_board.EventBoard.flags.Goals as goal

numbers_more : (cells : List Cells) (i : ℕ) → i < length cells
    → map flag_number (take (i + 1) (map (λ (c : Cells). c.flag) cells)) ≡ map flag_number (take i (map (λ (c : Cells). c.flag) cells)) ++ flag_number (cells_at cells i).flag ∷ []
numbers_more cells i lt =
    let flags = map (λ (c : Cells). c.flag) cells in
    let inside : i < length flags = omega (arith, length-map cells (λ (c : Cells). c.flag)) in
    ap (λ n. map flag_number (take n flags)) (add-one i) ∙ ap (map flag_number) (take-suc flags i None inside) ∙ map-append flag_number (take i flags) (get_or flags i None ∷ [])
    ∙ ap (λ f. map flag_number (take i flags) ++ flag_number f ∷ []) (flags_row cells i)

-- one number more
pushed : (cells : List Cells) (i : ℕ) (old new : List ℕ) (n : ℕ) (now : Cells) → i < length cells → old ≡ map flag_number (take i (map (λ (c : Cells). c.flag) cells)) → new ≡ old ++ n ∷ [] → n ≡ flag_number now.flag
    → now ≡ cells_at cells i → new ≡ map flag_number (take (i + 1) (map (λ (c : Cells). c.flag) cells))
pushed cells i old new n now lt before is number here =
    is ∙ (λ k. before k ++ (number ∙ ap (λ (c : Cells). flag_number c.flag) here) k ∷ []) ∙ sym (numbers_more cells i lt)

pub loop-i-preserved : goal.loop-i-preserved
loop-i-preserved c =
    let lt : c.loop-i.i < length c.self.inside.cells = omega (arith, c.self.invariant) in
    pushed c.self.inside.cells c.loop-i.i c.loop-i.numbers.items c.push.new.self.items c.number.result c.cells.result lt c.loop-i.invariant c.in_ok-push.ensures.items c.number.ensures c.cells.ensures
