use Rattle.std.proofs.Common.{ℕ, ◌&&◌, List, length, sym, ap, ◌∙◌}
use Rattle.std.specs.Prelude.{nat_lt}
use Rattle.std.specs.Option.{option_or}
use Rattle.rules.specs.Fold.{endorsed}
use Rattle.reasons_from_state.specs.Touchers.{last_passing}
use Rattle.reasons_from_state.proofs.Touching.{first_toucher_by}
use Rattle.reasons_from_state.proofs.touchers.first_toucher.Goals as goal

pub returns : goal.returns
returns c =
    ap (λ (hs : List ℕ). option_or (last_passing (λ h. nat_lt h c.args.i && endorsed c.args.job.now h) hs) c.loop-h.first) (sym c.in-None.ensures.steps.0)
    ∙ c.loop-h.invariant ∙ first_toucher_by c.args.job.now c.args.key.now c.args.i (length c.args.job.now.candidates) c.requires.place
