use Rattle.std.proofs.Common.{ℕ, sym, subst, refl, arith}
use Rattle.std.specs.Bool.{IsTrue}
use Rattle.std.proofs.Common.{leb}
use Rattle.std.proofs.lemmas.List.{length-take-le}
use Rattle.ledger_commands.proofs.scan.Bounds.first.Goals as goal

pub slice_bounds-new-end : goal.slice_bounds-new-end
slice_bounds-new-end c = let over = c.if-start-gt-MAX_KEY.true in sym (length-take-le 1024 c.as_slice-start.result.now (omega (arith, over)))

pub new-requires : goal.new-requires
new-requires c =
    let over = c.if-start-gt-MAX_KEY.true in
    subst (λ (n : ℕ). IsTrue (leb n 1024)) (sym (length-take-le 1024 c.as_slice-start.result.now (omega (arith, over)))) refl
