use Rattle.std.proofs.Common.{◌≡◌, true, false, sym, ap, ◌∙◌, rules}
use Rattle.block.specs.Limits.{are_within_limits}
use Rattle.block.proofs.Within.{within-from_spells, spells-from_within}
use Rattle.block.proofs.writer.encode_block.Goals as goal

pub returns-then-not-are_within_limits-clause-encoded : goal.returns-then-not-are_within_limits-clause-encoded
returns-then-not-are_within_limits-clause-encoded c = λ bytes spells.
    let refused : false ≡ true = sym c.if-not-are_within_limits.true ∙ c.are_within_limits.ensures ∙ ap are_within_limits c.as_slice.ensures ∙ within-from_spells bytes c.args.block.now spells in
    absurd cc

pub returns-then-not-are_within_limits-clause-too_large : goal.returns-then-not-are_within_limits-clause-too_large
returns-then-not-are_within_limits-clause-too_large c = λ e bytes spells.
    let refused : false ≡ true = sym c.if-not-are_within_limits.true ∙ c.are_within_limits.ensures ∙ ap are_within_limits c.as_slice.ensures ∙ within-from_spells bytes c.args.block.now spells in
    absurd cc

pub returns-clause-spelled : goal.returns-clause-spelled
returns-clause-spelled c =
    let within = sym (ap are_within_limits c.as_slice.ensures) ∙ sym c.are_within_limits.ensures ∙ c.if-not-are_within_limits.false in
    spells-from_within c.from_vec.result c.args.block.now within c.in_ok-put_header.ensures.fits (search rules)
