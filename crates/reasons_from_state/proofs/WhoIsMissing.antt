-- Who is missing, from the first marks of a row of none.
use Rattle.std.proofs.Common.{◌≡◌, ℕ, suc, ◌<◌, ◌≤◌, List, Bool, false, length, get_or, take, drop, Option, sym, ap, ◌∙◌, arith, drop-cons}
use Rattle.std.specs.Prelude.{replicate}
use Rattle.std.specs.Option.{option_or}
use Rattle.transaction.specs.declared.identity.Identity.{Identity}
use Rattle.policy.specs.declared.tree.Principal.{Principal}
use Rattle.policy.specs.Tree.{Tree}
use Rattle.policy.specs.View.{trees}
use Rattle.policy_eval.specs.Evaluation.{none_used}
use Rattle.policy_eval.specs.Evaluating.{evaluate}
use Rattle.policy_eval.proofs.Relation.{first_marks}
use Rattle.reasons.specs.Shortfall.{missing_from, first_missing}

-- who is missing in one member more
pub missing_more : (signers : List Identity) (ts : List Tree) (i : ℕ) (t : Tree) (used after : List Bool) (answer : Bool) → i < length ts → t ≡ get_or ts i t → evaluate t signers used ≡ (answer, after)
    → first_missing (trees (drop i ts)) signers used ≡ option_or (missing_from t signers used) (first_missing (trees (drop (suc i) ts)) signers after)
missing_more signers ts i t used after answer h is e =
    ap (λ (l : List Tree). first_missing (trees l) signers used) (drop-cons ts i t h)
    ∙ ap (λ (m : Tree). option_or (missing_from m signers used) (first_missing (trees (drop (suc i) ts)) signers (evaluate m signers used).1)) (sym is)
    ∙ ap (λ (p : Bool × List Bool). option_or (missing_from t signers used) (first_missing (trees (drop (suc i) ts)) signers p.1)) e

pub missing_is : (t root : Tree) (signers identities : List Identity) (x : Option Principal) → root ≡ t → identities ≡ signers → length signers ≤ 64
    → x ≡ missing_from root identities (take (length identities) (replicate 64 false)) → x ≡ missing_from t signers (none_used signers)
missing_is t root signers identities x same_tree same few is =
    is
    ∙ ap (λ (m : List Bool). missing_from root identities m) (first_marks identities (omega (arith, ap length same)))
    ∙ ap (λ (l : List Identity). missing_from root l (none_used l)) same
    ∙ ap (λ (r : Tree). missing_from r signers (none_used signers)) same_tree
