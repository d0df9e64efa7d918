use Rattle.std.proofs.Common.{◌+◌, ◌++◌, map, take, drop, sym, ap, ◌∙◌, arith}
use Rattle.conflicts.specs.Chaincodes.{firsts, line_in}
use Rattle.conflicts.proofs.Chaincodes.{one_more, none_more}
use Rattle.conflicts.proofs.chaincode_line.firsts.Goals as goal

pub loop-place-preserved : goal.loop-place-preserved
loop-place-preserved c =
    let i = c.loop-place.place in
    let all = c.args.lines.now in
    ap (λ l. l ++ map (line_in all) (firsts (take (i + 1) all) (drop (i + 1) all))) c.in_ok-push_first.ensures
    ∙ one_more all c.loop-place.chaincodes.items i c.index-lines-place.result c.loop-place-test.true c.index-lines-place.is
    ∙ c.loop-place.invariant

pub returns : goal.returns
returns c =
    sym (none_more c.args.lines.now c.loop-place.chaincodes.items c.loop-place.place (omega (arith, c.loop-place-test.false))) ∙ c.loop-place.invariant
