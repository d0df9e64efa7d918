use Rattle.std.proofs.Common.{◌++◌, List, ℕ, map, take, drop, ap, ◌∙◌, arith}
use Rattle.std.proofs.Math.ListN.{set}
use Rattle.rules.specs.Flags.{number_of}
use Rattle.c_calls.proofs.Writing.{write_one}
use Rattle.c_calls.proofs.buffers.put_flags.Goals as goal

pub loop-i-preserved : goal.loop-i-preserved
loop-i-preserved c =
    let i = c.loop-i.i in
    let flags = c.args.flags.now in
    let before : List ℕ = map number_of (take i flags) ++ drop i c.args.out.now in
    record {
      bound = omega arith;
      written = ap (λ (o : List ℕ). set o i c.number.result) c.loop-i.invariant.written ∙ ap (λ (v : ℕ). set before i v) c.number.ensures ∙ write_one number_of flags c.args.out.now i _ c.loop-i-test.true (omega arith);
    }
