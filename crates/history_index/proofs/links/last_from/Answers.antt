use Rattle.std.proofs.Common.{◌≤◌, ◌-◌, ◌∙◌, arith}
use Rattle.history_index.proofs.Buckets.{link_at, found, passed_over}
use Rattle.history_index.proofs.links.last_from.Goals as goal

pub returns-then-link-hash : goal.returns-then-link-hash
returns-then-link-hash c n linked chain =
    found c.args.hash c.args.links.now c.loop-place.place c.loop-place.invariant.bound c.loop-place-test.true c.if-link-hash.true
    ∙ (c.loop-place.invariant.chain n linked chain).1

pub loop-place-preserved : goal.loop-place-preserved
loop-place-preserved c = record {
  bound =
      let back : (link_at c.args.links.now (c.loop-place.place - 1)).older ≤ c.loop-place.place - 1 = c.requires.back (c.loop-place.place - 1) (omega (arith, c.loop-place.invariant.bound, c.loop-place-test.true)) in
      omega (arith, back, c.loop-place.invariant.bound);
  chain = λ n linked chain.
      let so_far = c.loop-place.invariant.chain n linked chain in
      let next = passed_over c.args.hash c.args.links.now n c.loop-place.place linked c.loop-place.invariant.bound so_far.0 c.loop-place-test.true c.if-link-hash.false in
      (next.0, next.1 ∙ so_far.1);
}
