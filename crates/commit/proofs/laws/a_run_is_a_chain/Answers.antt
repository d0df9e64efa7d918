use Rattle.commit.proofs.Chains.{run_is_chain}
use Rattle.commit.proofs.laws.a_run_is_a_chain.Goals as goal

pub returns : goal.returns
returns c = run_is_chain
