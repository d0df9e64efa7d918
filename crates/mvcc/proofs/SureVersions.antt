-- What the walk decides is decided of the version.
use Rattle.std.proofs.Common.{◌≡◌, ℕ, ◌<◌, List, Option, sym, subst, ap, ◌∙◌, All}
use Rattle.transaction.specs.declared.transaction.Version.{Version}
use Rattle.rules.specs.State.{StateKey, version_in}
use Rattle.rules.specs.Job.{Job}
use Rattle.rules.specs.Sure.{Agrees, Sure}
use Rattle.rules.specs.Assignment.{Assignment, version_under}
use Rattle.rules.specs.Depends.{VersionDepends}
use Rattle.key_chains.specs.declared.operation.Operation.{Operation}
use Rattle.key_chains.specs.Known.{Known, valid_in}
use Rattle.key_chains.specs.Operations.{operations}
use Rattle.mvcc.specs.declared.walk.Finding.{Finding}
use Rattle.mvcc.specs.Versions.{version_over, IsOperator}
use Rattle.mvcc.specs.Findings.{over_finding}
use Rattle.mvcc.proofs.ByOperations.{version_by_operations, earlier_operations, depends_on_operators}

module _ (j : Job) (k : StateKey) (i : ℕ) (os : List Operation) (all : os ≡ operations j.candidates k i) where
  pub earlier : All (λ o. o.tx < i) os
  earlier = subst (λ (l : List Operation). All (λ o. o.tx < i) l) (sym all) (earlier_operations j k i)

  pub depends : (h : ℕ) → IsOperator h os → VersionDepends j k i h
  depends h has = depends_on_operators j k i h (subst (IsOperator h) all has)

  -- what the walk finds, over the version before the block, is sure of the version
  pub sure_version : (known : Known) (number : ℕ) (before : Option Version) (seen finding : Finding) → number ≡ j.number → before ≡ version_in j.state k
      → ((called : Assignment) (older : Option Version) → Agrees (valid_in known) i called → version_over number called os older ≡ over_finding seen older) → seen ≡ finding
      → Sure (version_under j k) (valid_in known) i (over_finding finding before)
  sure_version known number before seen finding is_number is_before walked is called agrees =
      version_by_operations j k called i
      ∙ (λ x. version_over (sym is_number x) called (sym all x) (sym is_before x))
      ∙ walked called before agrees
      ∙ ap (λ (f : Finding). over_finding f before) is
