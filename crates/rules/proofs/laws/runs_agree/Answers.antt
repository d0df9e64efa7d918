use Rattle.rules.proofs.Runs.{runs_agree_on_endorsements, runs_agree_on_flags}
use Rattle.rules.proofs.laws.runs_agree.Goals as goal

pub returns-clause-endorsements : goal.returns-clause-endorsements
returns-clause-endorsements c = λ j events others a b i v w r s. runs_agree_on_endorsements j events others a b r s i v w

pub returns-clause-flags : goal.returns-clause-flags
returns-clause-flags c = λ j events others a b i f g r s. runs_agree_on_flags j events others a b r s i f g
