use Rattle.std.proofs.Common.{map, drop, if◌then◌else◌, Bool, Some, Bor, List, ℕ, sym, ap, ◌∙◌, arith}
use Rattle.reasons.specs.Form.{first_repeated}
use Rattle.reasons_before_state.proofs.Repeating.{same_from, repeated_from}
use Rattle.reasons_before_state.proofs.repeats.first_repeated.Goals as goal

pub loop-i-preserved-then-branch : goal.loop-i-preserved-then-branch
loop-i-preserved-then-branch g c =
    let f = g.T.Labelled.label in
    let items = c.args.items.now in
    let inv = c.loop-i.invariant in
    let old = map (λ (k : Bor (List ℕ)). k.now) c.loop-i.behind.keys in
    let new = map (λ (k : Bor (List ℕ)). k.now) c.put.new.labels.keys in
    let some = c.loop-i-test.true in
    let rest = first_repeated (map f (drop c.loop-i.i items)) in (
      omega (arith, inv.0),
      same_from f items c.loop-i.i c.index-items-i.result c.label.result.now old new some inv.0 c.index-items-i.is c.label.ensures inv.1 c.in_ok-put.ensures.labels,
      sym (repeated_from f items c.loop-i.i c.index-items-i.result c.label.result.now old c.in_ok-put.field-0 some inv.0 c.index-items-i.is c.label.ensures inv.1 c.in_ok-put.ensures.there
          ∙ ap (λ (b : Bool). if b then Some (f c.index-items-i.result) else rest) c.if-branch.true),
    )

pub loop-i-preserved : goal.loop-i-preserved
loop-i-preserved g c =
    let f = g.T.Labelled.label in
    let items = c.args.items.now in
    let inv = c.loop-i.invariant in
    let old = map (λ (k : Bor (List ℕ)). k.now) c.loop-i.behind.keys in
    let new = map (λ (k : Bor (List ℕ)). k.now) c.put.new.labels.keys in
    let some = c.loop-i-test.true in
    let rest = first_repeated (map f (drop c.loop-i.i items)) in (
      omega (arith, inv.0),
      same_from f items c.loop-i.i c.index-items-i.result c.label.result.now old new some inv.0 c.index-items-i.is c.label.ensures inv.1 c.in_ok-put.ensures.labels,
      inv.2 ∙ sym (repeated_from f items c.loop-i.i c.index-items-i.result c.label.result.now old c.in_ok-put.field-0 some inv.0 c.index-items-i.is c.label.ensures inv.1 c.in_ok-put.ensures.there
          ∙ ap (λ (b : Bool). if b then Some (f c.index-items-i.result) else rest) c.if-branch.false),
    )
