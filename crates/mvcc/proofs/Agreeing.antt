-- What a board knows: assignments that agree with it, and what it leaves to wait for.
use Rattle.std.proofs.Common.{◌≡◌, ℕ, ◌<◌, Bool, Option, Some, None, refl, ap, ◌∙◌}
use Rattle.std.specs.Prelude.{IsSome, option_map}
use Rattle.rules.specs.declared.flag.Flag.{Flag}
use Rattle.rules.specs.Flags.{is_valid}
use Rattle.rules.specs.Assignment.{Assignment}
use Rattle.rules.specs.Sure.{Agrees}
use Rattle.key_chains.specs.declared.decision.Decision.{Decision}
use Rattle.key_chains.specs.declared.decision.Decision.TheVariants as decision
use Rattle.key_chains.specs.Decided.{MatchDecision}
use Rattle.key_chains.specs.Known.{Known, Grows, valid_in}

still_said : (before after : Option Flag) (b : Bool) → ((f : Flag) → before ≡ Some f → after ≡ Some f) → option_map is_valid before ≡ Some b → option_map is_valid after ≡ Some b
still_said None after b stays said = absurd cc
still_said (Some f) after b stays said = ap (option_map is_valid) (stays f refl) ∙ said

-- what agrees with more agrees with less
pub agrees_before : (old new : Known) (i : ℕ) (called : Assignment) → Grows old new → Agrees (valid_in new) i called → Agrees (valid_in old) i called
agrees_before old new i called grows agrees h b earlier said = agrees h b earlier (still_said (old.flag h) (new.flag h) b (grows.flag h) said)

-- where all flags before i were known, none of them is waited for
pub none_waited_for : {V : Type 0} (i : ℕ) (old new : Known) (d : Decision V) (looks : ℕ → Type 0) (P : V → Type 0) → Grows old new
    → MatchDecision d P (λ h. ((h < i) × looks h) × (new.flag h ≡ None))
    → ((h : ℕ) → h < i → IsSome (old.flag h)) → MatchDecision d (λ _. Unit {0}) (λ _. ⊥)
none_waited_for i old new (decision.Sure v) looks P grows decided known = tt
none_waited_for i old new (decision.Blocked h) looks P grows decided known = by (old.flag h) refl (known h decided.0.0)
  where
    by : (o : Option Flag) → old.flag h ≡ o → IsSome o → ⊥
    by None is some = absurd cc
    by (Some f) is some = let there = grows.flag h f is in let none = decided.1 in absurd cc
