use Rattle.std.proofs.Common.{ℕ, List, Ok, subst}
use Rattle.values.specs.Memory.{GivesUnless}
use Rattle.policy.specs.declared.fault.PolicyFault.TheVariants.{Memory}
use Rattle.policy.specs.Tree.{Tree}
use Rattle.policy.specs.Grammar.{IsPolicy}
use Rattle.policy.proofs.policy.Policy.parse.Goals as goal

pub returns-clause-only : goal.returns-clause-only
returns-clause-only c =
    subst (λ (b : List ℕ). (t : Tree) → IsPolicy b t → GivesUnless Memory c.parse_bytes.result (Ok t)) c.as_bytes.ensures.value c.parse_bytes.ensures.only
