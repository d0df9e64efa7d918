-- The keys that a set writes are of its own namespace.
use Rattle.std.proofs.Common.{◌≡◌, ℕ, suc, ◌==◌, arith, Bool, true, false, ◌&&◌, ◌||◌, List, [], ◌∷◌, ◌++◌, length, map, refl, sym, ap, ◌∙◌}
use Rattle.std.specs.List.{list_all}
use Rattle.std.proofs.lemmas.List.Folds.{list_all-append}
use Rattle.std.proofs.lemmas.Bool.Decides.{nat_tests}
use Rattle.transaction.specs.declared.transaction.NsSet.{NsSet}
use Rattle.policy.specs.Policies.{Policies}
use Rattle.rules.specs.State.{StateKey}
use Rattle.rules.specs.Candidate.{is_defined}
use Rattle.rules.specs.Effect.{value_keys_in, policy_keys_in}

not_empty : (n : ℕ) → (suc n == 0) ≡ false
not_empty n = grind (arith, nat_tests)

again : (b e : Bool) → (b && (e || b)) ≡ b
again true true = refl
again true false = refl
again false e = refl

all_alike : {A : Type 0} (p : StateKey → Bool) (b : Bool) (f : A → StateKey) → ((x : A) → p (f x) ≡ b) → (xs : List A) → list_all p (map f xs) ≡ ((length xs == 0) || b)
all_alike p b f each [] = refl
all_alike p b f each (x ∷ xs) =
    (λ i. each x i && all_alike p b f each xs i) ∙ again b (length xs == 0) ∙ ap (λ e. e || b) (sym (not_empty (length xs)))

share : (d e b : Bool) → ((d || b) && (e || b)) ≡ ((d && e) || b)
share true e b = refl
share false true true = refl
share false true false = refl
share false false true = refl
share false false false = refl

pub set_defined : (definitions : Policies) (n : NsSet) →
    list_all (λ k. is_defined definitions k.0) (value_keys_in n ++ policy_keys_in n) ≡ ((length n.writes == 0 && length n.policy_writes == 0) || is_defined definitions n.name)
set_defined definitions n =
    let p : StateKey → Bool = λ k. is_defined definitions k.0 in
    let b = is_defined definitions n.name in
    list_all-append p (value_keys_in n) (policy_keys_in n)
    ∙ (λ i. all_alike p b (λ w. (n.name, w.key)) (λ _. refl) n.writes i && all_alike p b (λ w. (n.name, w.key)) (λ _. refl) n.policy_writes i)
    ∙ share (length n.writes == 0) (length n.policy_writes == 0) b
