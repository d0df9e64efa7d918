use Rattle.std.proofs.Common.{◌≡◌, ◌&&◌, length}
use Rattle.std.specs.Prelude.{nat_lt}
use Rattle.std.specs.Option.{option_or}
use Rattle.rules.specs.Fold.{endorsed}
use Rattle.key_chains.specs.PolicyWriters.{policy_writers}
use Rattle.reasons_from_state.specs.Touchers.{last_passing}
use Rattle.reasons_from_state.proofs.touchers.first_toucher.Given as goal

abbrev pub invariant-loop-h : goal.invariant-loop-h
invariant-loop-h l = option_or (last_passing (λ h. nat_lt h l.i && endorsed l.job h) l.h-iterator) l.first
    ≡ last_passing (λ h. nat_lt h l.i && endorsed l.job h) (policy_writers l.job.candidates l.key (length l.job.candidates))
