use Rattle.std.proofs.Common.{sym, ◌∙◌, ◌<◌, length, arith}
use Rattle.key_chains.proofs.NumberedKeys.{numbered_at}
use Rattle.key_chains.proofs.numbering.is_at.Goals as goal

pub returns-clause-value : goal.returns-clause-value
returns-clause-value c = λ same.
    let lt : c.args.place < length c.args.keys.now = omega arith in
    numbered_at c.args.keys.now c.args.place c.index-keys-place.result c.args.key.now c.requires lt c.index-keys-place.is (sym c.is_same.ensures ∙ same)
