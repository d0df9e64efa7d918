use Rattle.std.proofs.Common.{◌≡◌, ◌+◌, drop, sym, ap, ◌∙◌, arith}
use Rattle.std.specs.declared.cmp.Ordering.{Ordering}
use Rattle.std.specs.Ordering.{nat_cmp, ordering_then}
use Rattle.values.specs.Order.{bytes_cmp}
use Rattle.state_keys.specs.Head.{word_at}
use Rattle.state_keys.proofs.Words.{at_word, decides, passes}
use Rattle.state_keys.proofs.head.order_of.Goals as goal

pub returns-then-is_ne : goal.returns-then-is_ne
returns-then-is_ne c =
    let a = c.args.head.now in
    let b = c.args.other.now in
    let i = c.loop-place.place in
    let rest = bytes_cmp (drop (i + 8) a) (drop (i + 8) b) in
    let order : c.cmp-order.result ≡ nat_cmp (word_at a i) (word_at b i) = c.cmp-order.ensures ∙ (λ j. nat_cmp (c.word_at.ensures j) (c.word_at-in-loop-place.ensures j)) in
    sym (decides c.cmp-order.result rest (sym c.is_ne.ensures ∙ c.if-is_ne.true))
    ∙ ap (λ (o : Ordering). ordering_then o rest) order
    ∙ sym (at_word a b i (λ k. omega (arith, c.fits-head k)) (λ k. omega (arith, c.fits-other k)) (omega arith) (omega arith))
    ∙ sym c.loop-place.invariant.rest

pub loop-place-preserved : goal.loop-place-preserved
loop-place-preserved c =
    let a = c.args.head.now in
    let b = c.args.other.now in
    let i = c.loop-place.place in
    let rest = bytes_cmp (drop (i + 8) a) (drop (i + 8) b) in
    let order : c.cmp-order.result ≡ nat_cmp (word_at a i) (word_at b i) = c.cmp-order.ensures ∙ (λ j. nat_cmp (c.word_at.ensures j) (c.word_at-in-loop-place.ensures j)) in
    record {
      rest = c.loop-place.invariant.rest
          ∙ at_word a b i (λ k. omega (arith, c.fits-head k)) (λ k. omega (arith, c.fits-other k)) (omega arith) (omega arith)
          ∙ ap (λ (o : Ordering). ordering_then o rest) (sym order)
          ∙ passes c.cmp-order.result rest (sym c.is_ne.ensures ∙ c.if-is_ne.false);
      words = omega (arith, c.loop-place.invariant.words);
      bound = omega (arith, c.loop-place.invariant.words);
    }
