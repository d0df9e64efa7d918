use Rattle.std.proofs.Common.{ap, ◌∙◌, arith}
use Rattle.txid_index.specs.Found.{first_at, other_of, IsIndex}
use Rattle.txid_index.specs.Lists.{uses_of, AreThere}
use Rattle.txid_index.proofs.Adding.{no_uses, nothing_kept}
use Rattle.txid_index.proofs.ids.TxIds.new.Goals as goal

pub invariant_of-result : goal.invariant_of-result
invariant_of-result c =
    let none : IsIndex c.new.result.items c.new-2.result.entries c.new-3.result.entries (uses_of c.new.result.items) × AreThere c.new.result.items c.new-2.result.entries =
    nothing_kept c.new.result.items c.new-2.result.entries c.new-3.result.entries c.new.ensures.items (λ hash. ap (λ es. first_at es hash) c.new-2.ensures.empty) (λ id. ap (λ es. other_of es id) c.new-3.ensures.empty) in
    (none.0, none.1, omega arith, omega arith, omega arith, λ some. absurd (omega (arith, some)), λ some. absurd (omega (arith, some)))

pub returns-clause-uses : goal.returns-clause-uses
returns-clause-uses c = ap uses_of c.new.ensures.items ∙ no_uses
