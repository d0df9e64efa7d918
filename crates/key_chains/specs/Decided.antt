-- What a check says, by cases.
use Rattle.std.specs.Prelude.{ℕ}
use Rattle.key_chains.specs.declared.decision.Decision.{Decision}
use Rattle.key_chains.specs.declared.decision.Decision.TheVariants.{Sure, Blocked}

-- it is sure of a value, or waits for an earlier candidate
abbrev pub MatchDecision : {T : Type 0} → Decision T → (T → Type 0) → (ℕ → Type 0) → Type 0
MatchDecision (Sure v) P Q = P v
MatchDecision (Blocked h) P Q = Q h
