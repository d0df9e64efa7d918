-- One more of a delta's definitions.
use Rattle.std.proofs.Common.{◌≡◌, ℕ, ◌==◌, ◌+◌, ◌<◌, ◌≤◌, Bool, true, false, List, [], ◌∷◌, ◌++◌, length, take, get_or, refl, sym, ap, ◌∙◌, arith}
use Rattle.std.proofs.lemmas.Bool.{eqb-true}
use Rattle.std.proofs.lemmas.List.{map_more}
use Rattle.std.specs.FinMap.{insert}
use Rattle.policy.specs.Tree.{Tree}
use Rattle.policy.specs.Policies.{Policies}
use Rattle.rules.specs.declared.delta.NewDefinition.{NewDefinition}
use Rattle.rules.specs.Definitions.{with_definitions}
use Rattle.rules.specs.Delta.{definitions_in}

pub no_definitions : (m : Policies) → with_definitions m [] ≡ m
unfolding with_definitions
no_definitions m = refl

with_definitions-append : (m : Policies) (ds es : List (List ℕ × Tree)) → with_definitions m (ds ++ es) ≡ with_definitions (with_definitions m ds) es
unfolding with_definitions
with_definitions-append m [] es = refl
with_definitions-append m (d ∷ ds) es = with_definitions-append (insert m d.0 d.1) ds es

one_definition : (m : Policies) (x : List ℕ) (t : Tree) → with_definitions m ((x, t) ∷ []) ≡ insert m x t
unfolding with_definitions
one_definition m x t = refl

pub none_more : (m : Policies) (more : List NewDefinition) → length more == 0 ≡ true → m ≡ with_definitions m (definitions_in more)
none_more m [] e = sym (no_definitions m)
none_more m (d ∷ ds) e = let none : length (d ∷ ds) ≡ 0 = eqb-true (length (d ∷ ds)) 0 e in absurd (omega (arith, none))

pub definitions_more : (more : List NewDefinition) (i : ℕ) (d : NewDefinition) (policy : Tree) (first old new : Policies) → i < length more → d ≡ get_or more i d → policy ≡ d.policy
    → new ≡ insert old d.chaincode policy → old ≡ with_definitions first (definitions_in (take i more))
    → new ≡ with_definitions first (definitions_in (take (i + 1) more))
definitions_more more i d policy first old new lt is copied made so_far =
    made
    ∙ (λ k. insert (so_far k) (is k).chaincode ((copied ∙ ap (λ (x : NewDefinition). x.policy) is) k))
    ∙ sym (one_definition (with_definitions first (definitions_in (take i more))) (get_or more i d).chaincode (get_or more i d).policy)
    ∙ sym (with_definitions-append first (definitions_in (take i more)) (definitions_in (get_or more i d ∷ [])))
    ∙ ap (with_definitions first) (sym (map_more (λ (x : NewDefinition). (x.chaincode, x.policy)) more i d lt))
