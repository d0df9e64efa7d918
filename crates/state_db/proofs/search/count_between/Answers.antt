use Rattle.std.proofs.Common.{◌≡◌, length, ◌+◌, ◌-◌, ◌<◌, ◌/◌, true, false, get_or, sym, ap, ◌∙◌, arith}
use Rattle.state_db.specs.Search.{leading}
use Rattle.state_db.proofs.Leading.{fails_at, passes_at}
use Rattle.state_db.proofs.search.count_between.Goals as goal

pub loop-low-preserved-then-is_below : goal.loop-low-preserved-then-is_below
loop-low-preserved-then-is_below g c =
    let test = g.T.Ordered.is_below c.args.wanted.now in
    let m = c.loop-low.low + (c.loop-low.high - c.loop-low.low) / 2 in
    let d = c.index-items-middle.result in
    let lt : m < length c.args.items.now = omega arith in
    let at : test (get_or c.args.items.now m d) ≡ true = ap test (sym c.index-items-middle.is) ∙ sym c.is_below.ensures ∙ c.if-is_below.true in
    let more : m < leading test c.args.items.now = passes_at test c.args.items.now m d c.requires.falls lt at in
    record { low = omega arith; high = c.loop-low.invariant.high; bound = c.loop-low.invariant.bound }

pub loop-low-preserved : goal.loop-low-preserved
loop-low-preserved g c =
    let test = g.T.Ordered.is_below c.args.wanted.now in
    let m = c.loop-low.low + (c.loop-low.high - c.loop-low.low) / 2 in
    let d = c.index-items-middle.result in
    let lt : m < length c.args.items.now = omega arith in
    let at : test (get_or c.args.items.now m d) ≡ false = ap test (sym c.index-items-middle.is) ∙ sym c.is_below.ensures ∙ c.if-is_below.false in
    record { low = c.loop-low.invariant.low; high = fails_at test c.args.items.now m d lt at; bound = omega arith }
