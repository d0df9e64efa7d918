use Rattle.std.proofs.Common.{subst}
use Rattle.policy.specs.Grammar.{IsPolicy}
use Rattle.policy.specs.Text.{text_of}
use Rattle.policy.specs.Tree.{Tree}
use Rattle.policy.proofs.Canon.{canonical_policy, canonical_short}
use Rattle.policy.proofs.policy.Policy.text.Goals as goal

pub returns-clause-same : goal.returns-clause-same
returns-clause-same c = subst (λ (t : Tree). IsPolicy (text_of t) t) c.self.view_is (canonical_policy c.self.invariant.text _ c.self.invariant.policy)

pub returns-in_err-put-clause-same : goal.returns-in_err-put-clause-same
returns-in_err-put-clause-same c = subst (λ (t : Tree). IsPolicy (text_of t) t) c.self.view_is (canonical_policy c.self.invariant.text _ c.self.invariant.policy)

pub returns-clause-shortest : goal.returns-clause-shortest
returns-clause-shortest c = λ other p. canonical_short other c.args.self.now p

pub returns-in_err-put-clause-shortest : goal.returns-in_err-put-clause-shortest
returns-in_err-put-clause-shortest c = λ other p. canonical_short other c.args.self.now p
