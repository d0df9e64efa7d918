use Rattle.std.proofs.Common.{◌≡◌, ℕ, ◌+◌, ◌<◌, ◌≤◌, [], ◌∷◌, List, Option, Some, length, map, sym, ap, subst, ◌∙◌, arith, length-append}
use Rattle.std.specs.Prelude.{slice_get}
use Rattle.std.proofs.lemmas.List.{length-map}
use Rattle.transaction.specs.Items.{item_of}
use Rattle.reasons.specs.declared.reason.Reason.{Reason}
use Rattle.reasons.specs.Reason.{IsReason}
use Rattle.ledger.proofs.Gathered.{each_and_one_more, at_place}
use Rattle.ledger.proofs.explaining.all_reasons.Goals as goal

some_same : {X : Type 0} (o : Option X) (x y : X) → o ≡ Some x → o ≡ Some y → x ≡ y
some_same o x y e f = let same : Some x ≡ Some y = sym e ∙ f in cc

pub returns-in_default : goal.returns-in_default
returns-in_default c accepts job ids =
    let items = map (item_of c.args.grounds.now.version) c.args.grounds.now.txs.now in
    let lt : c.loop-i.i < length items = omega (arith, c.loop-i-test.true, length-map c.args.grounds.now.txs.now (item_of c.args.grounds.now.version)) in
    let here = at_place (item_of c.args.grounds.now.version) c.args.grounds.now.txs.now c.loop-i.i c.bytes-item.result c.loop-i-test.true c.bytes-item.is ∙ ap (item_of c.args.grounds.now.version) (sym c.as_slice.ensures) in
    let r = c.each_place_has_one_reason.ensures.some_reason c.args.grounds.now.channel.now accepts c.args.grounds.now.world.now items c.loop-i.i lt in
    absurd (cc (c.in_default.is, c.in_ok-found.ensures.value accepts items r.0 job ids here r.1))

pub loop-i-preserved : goal.loop-i-preserved
loop-i-preserved c = record {
  board = c.in_ok-found.ensures.board ∙ c.loop-i.invariant.board;
  count = ap (λ (xs : List Reason). length xs) c.in_ok-push.ensures.items ∙ length-append c.loop-i.reasons.items (c.in-Some.reason ∷ []) ∙ ap (λ (n : ℕ). n + 1) c.loop-i.invariant.count;
  each = λ accepts job ids.
      let items = map (item_of c.args.grounds.now.version) c.args.grounds.now.txs.now in
      let lt : c.loop-i.i < length items = omega (arith, c.loop-i-test.true, length-map c.args.grounds.now.txs.now (item_of c.args.grounds.now.version)) in
      let here = at_place (item_of c.args.grounds.now.version) c.args.grounds.now.txs.now c.loop-i.i c.bytes-item.result c.loop-i-test.true c.bytes-item.is ∙ ap (item_of c.args.grounds.now.version) (sym c.as_slice.ensures) in
      let r = c.each_place_has_one_reason.ensures.some_reason c.args.grounds.now.channel.now accepts c.args.grounds.now.world.now items c.loop-i.i lt in
      let same : r.0 ≡ c.in-Some.reason = some_same c.in_ok-found.found r.0 c.in-Some.reason (c.in_ok-found.ensures.value accepts items r.0 job ids here r.1) c.in-Some.is in
      let one : IsReason c.args.grounds.now.channel.now accepts c.args.grounds.now.world.now items c.loop-i.i c.in-Some.reason = subst (λ (x : Reason). IsReason c.args.grounds.now.channel.now accepts c.args.grounds.now.world.now items c.loop-i.i x) same r.1 in
      subst (λ (xs : List Reason). (n : ℕ) (x : Reason) → slice_get xs n ≡ Some x → IsReason c.args.grounds.now.channel.now accepts c.args.grounds.now.world.now items n x) (sym c.in_ok-push.ensures.items)
      (each_and_one_more (λ n x. IsReason c.args.grounds.now.channel.now accepts c.args.grounds.now.world.now items n x) c.loop-i.reasons.items c.in-Some.reason (c.loop-i.invariant.each accepts job ids)
      (subst (λ (n : ℕ). IsReason c.args.grounds.now.channel.now accepts c.args.grounds.now.world.now items n c.in-Some.reason) (sym c.loop-i.invariant.count) one));
}

pub returns : goal.returns
returns c accepts job ids =
    let le : c.loop-i.i ≤ length c.args.grounds.now.txs.now = c.loop-i.auto.i-end in
    let all : c.loop-i.i ≡ length c.args.grounds.now.txs.now = omega (arith, le, c.loop-i-test.false) in (
      c.loop-i.reasons.items,
      ap (λ (xs : List Reason). Some xs) c.from_vec.ensures,
      record { count = c.loop-i.invariant.count ∙ all ∙ sym (length-map c.args.grounds.now.txs.now (item_of c.args.grounds.now.version)); each = c.loop-i.invariant.each accepts job ids },
    )
