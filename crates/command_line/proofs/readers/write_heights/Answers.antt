use Rattle.std.proofs.Common.{◌≡◌, ◌+◌, ◌^◌, ◌%◌, ◌∙◌, suc, IfSome, ap, sym, arith, subst, length}
use Rattle.std.proofs.lemmas.List.Elements.{All-rest, All-same}
use Rattle.std.specs.Vec.Iter.{into_iter_items}
use Rattle.cli_lines.proofs.Written.{nothing}
use Rattle.command_line.specs.Handing.{ReadersTold}
use Rattle.command_line.proofs.Heights.{none_read, one_more_read}
use Rattle.command_line.proofs.readers.write_heights.Goals as goal

pub loop-reader-init : goal.loop-reader-init
loop-reader-init g c =
    let all : into_iter_items c.into_iter-reader-iterator.result ≡ c.args.readers.items = c.into_iter-reader-iterator.ensures.into_iter_gives.0 in
    let lengths : length (into_iter_items c.into_iter-reader-iterator.result) ≡ length c.args.readers.items = ap length all in (
      All-same (λ reader. IfSome c.args.last.now (λ receipt. reader.promise.0.value.book ≡ receipt.front.book)) _ _ all c.requires.books,
      omega (arith, lengths),
      none_read c.args.style c.args.last.now (g.W.Write.contents c.args.out.now) (nothing (g.W.Write.contents c.args.out.now)),
    )

pub loop-reader-preserved : goal.loop-reader-preserved
loop-reader-preserved g c =
    let place = c.loop-reader.place in
    let counted = c.loop-reader.invariant.1 in
    let few = c.requires.few in
    let taken : length (into_iter_items c.loop-reader.reader-iterator) ≡ suc (length (into_iter_items c.next.new.self)) = ap length c.in-Some.ensures.steps.0 in
    let next : (place + 1) % 2 ^ 64 ≡ place + 1 = omega (arith, counted, few, taken) in (
      All-rest (λ reader. IfSome c.args.last.now (λ receipt. reader.promise.0.value.book ≡ receipt.front.book)) c.in-Some.reader (into_iter_items c.next.new.self) (into_iter_items c.loop-reader.reader-iterator)
          c.in-Some.ensures.steps.0 c.loop-reader.invariant.0,
      omega (arith, counted, taken, next),
      one_more_read c.args.style place ((place + 1) % 2 ^ 64) c.args.last.now (g.W.Write.contents c.args.out.now) (g.W.Write.contents c.loop-reader.out) (g.W.Write.contents c.write_reader.new.out) c.in-Ok.height
          next c.loop-reader.invariant.2 c.in-Ok.ensures c.in_ok-write_reader.ensures,
    )

pub returns : goal.returns
returns g c =
    let left : length (into_iter_items c.loop-reader.reader-iterator) ≡ 0 = sym c.loop-reader.reader-iterator.rest.ok.0 ∙ c.in-None.ensures.steps.0 in
    let counted = c.loop-reader.invariant.1 in
    let all : c.loop-reader.place ≡ length c.args.readers.items = omega (arith, left, counted) in
    subst (λ n. ReadersTold c.args.style n c.args.last.now (g.W.Write.contents c.args.out.now) (g.W.Write.contents c.loop-reader.out)) all c.loop-reader.invariant.2
