use Rattle.std.proofs.Common.{◌++◌, ◌+◌, ℕ, suc, Bool, List, is_some, ap, subst, sym, arith}
use Rattle.std.specs.Io.KnownBytes.{Appends}
use Rattle.std.specs.Option.{option_copied}
use Rattle.std.proofs.lemmas.List.{drop_all}
use Rattle.ledger_commands.specs.Showing.{IsShownAs, separator}
use Rattle.ledger_commands.proofs.Showing.{none_left, one_more}
use Rattle.ledger_commands.proofs.show.write_blocks.Goals as goal

pub loop-bytes-preserved : goal.loop-bytes-preserved
loop-bytes-preserved g c =
    let known = option_copied c.args.configuration in
    let i = c.loop-bytes.bytes-index in
    let bytes = c.bytes-item.result in
    let count = c.loop-bytes.invariant.count in
    let told = c.in_ok-previous.ensures in
    let out = g.W.Write.contents c.loop-bytes.out in
    let later = g.W.Write.contents c.write_script.new.out in
    let placed = subst (λ (n : ℕ). IsShownAs known (suc n) c.as_slice.result.now told.0 (is_some c.in_ok-previous.previous)) count told.1 in
    let shown = subst (λ (l : List ℕ). IsShownAs known (suc i) l told.0 (is_some c.in_ok-previous.previous)) c.as_slice.ensures placed in
    record {
      count = ap (λ n. n + 1) count;
      shown = one_more known c.args.blocks.now (g.W.Write.contents c.args.out.now) i c.loop-bytes.are_blocks out later bytes told.0 c.is_some-are_blocks.result c.loop-bytes-test.true c.bytes-item.is c.loop-bytes.invariant.shown
          (subst (λ (b : Bool). IsShownAs known (suc i) bytes told.0 b) (sym c.is_some-are_blocks.ensures) shown) (subst (λ (n : ℕ). Appends out later (separator n ++ told.0)) count told.2);
    }

pub returns : goal.returns
returns g c =
    let over = c.loop-bytes-test.false in
    none_left (option_copied c.args.configuration) c.args.blocks.now (g.W.Write.contents c.args.out.now) c.loop-bytes.bytes-index c.loop-bytes.are_blocks (g.W.Write.contents c.loop-bytes.out) (g.W.Write.contents c.flush.new.self)
    (drop_all c.loop-bytes.bytes-index c.args.blocks.now (omega (arith, over))) c.loop-bytes.invariant.shown c.in_ok-flush.ensures.bytes
