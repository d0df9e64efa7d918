use Rattle.std.proofs.Common.{rules, ◌≡◌, ◌*◌, [], length, replicate}
use Rattle.verdict_words.proofs.Steps.{opens}
use Rattle.verdict_words.proofs.opening.open.Goals as goal

pub of_words-requires : goal.of_words-requires
of_words-requires c =
    let zeros : c.as_slice.result.now ≡ replicate (2 * length c.args.lent.now.candidates) 0 = search rules in
    opens c.args.lent.now c.as_slice.result.now [] zeros
