-- A number behind the last candidate: what is decided behind all of them is decided there.
use Rattle.std.proofs.Common.{◌≡◌, ◌⊎◌, inl, inr, ℕ, zero, suc, ◌+◌, ◌-◌, ◌<◌, ◌≤◌, leb, min, Bool, true, false, cond, length, Option, None, refl, ap, arith, ◌∙◌}
use Rattle.std.proofs.Math.ListN.{get_or-eq_default}
use Rattle.std.proofs.lemmas.Bool.Decides.{leb_tells}
use Rattle.transaction.specs.declared.transaction.Version.{Version}
use Rattle.rules.specs.declared.early_flag.EarlyFlag.TheVariants.{BadPayload}
use Rattle.rules.specs.State.{StateKey, State, version_in}
use Rattle.rules.specs.Candidate.{Candidate, flagged}
use Rattle.rules.specs.Job.{Job, version_of, state_by, state_after}
use Rattle.rules.specs.Sure.{Sure}
use Rattle.rules.specs.Assignment.{Assignment, state_under, version_under}
use Rattle.rules.specs.Depends.{VersionDepends}
use Rattle.rules.proofs.Changes.{with_changes-none}
use Rattle.key_chains.specs.declared.decision.Decision.{Decision}
use Rattle.key_chains.specs.declared.decision.Decision.TheVariants as decision
use Rattle.key_chains.specs.Decided.{MatchDecision}
use Rattle.key_chains.specs.Known.{Known, valid_in}

module _ (j : Job) (called : Assignment) where
  nobody : (i : ℕ) → length j.candidates ≤ i → state_under j called (suc i) ≡ state_under j called i
  unfolding state_under
  nobody i past = by (called i)
    where
      by : (b : Bool) → cond b (state_after j i (state_under j called i)) (state_under j called i) ≡ state_under j called i
      by true = ap (λ (c : Candidate). state_by (version_of j i) c (state_under j called i)) (get_or-eq_default j.candidates (flagged BadPayload) past) ∙ with_changes-none (state_under j called i)
      by false = refl

  stays : (m : ℕ) → state_under j called (m + length j.candidates) ≡ state_under j called (length j.candidates)
  stays zero = let none : 0 + length j.candidates ≡ length j.candidates = omega arith in ap (state_under j called) none
  stays (suc m) =
      let one_more : suc m + length j.candidates ≡ suc (m + length j.candidates) = omega arith in
      ap (state_under j called) one_more ∙ nobody (m + length j.candidates) (omega arith) ∙ stays m

  at_most : (i least : ℕ) → least ≡ min i (length j.candidates) → state_under j called i ≡ state_under j called least
  at_most i least is = by (leb_tells i (length j.candidates))
    where
      by : ((leb i (length j.candidates) ≡ true) × (i ≤ length j.candidates)) ⊎ ((leb i (length j.candidates) ≡ false) × (length j.candidates < i)) → state_under j called i ≡ state_under j called least
      by (inl h) = let e : i ≡ least = omega (arith, is, h.1) in ap (state_under j called) e
      by (inr h) =
          let from : i ≡ (i - length j.candidates) + length j.candidates = omega (arith, h.1) in
          let to : length j.candidates ≡ least = omega (arith, is, h.1) in
          ap (state_under j called) from ∙ stays (i - length j.candidates) ∙ ap (state_under j called) to

pub decided_beyond : (j : Job) (k : StateKey) (known : Known) (i least : ℕ) (d : Decision (Option Version)) → least ≡ min i (length j.candidates)
    → MatchDecision d (λ v. Sure (version_under j k) (valid_in known) least v) (λ h. VersionDepends j k least h × (known.flag h ≡ None))
    → MatchDecision d (λ v. Sure (version_under j k) (valid_in known) i v) (λ h. VersionDepends j k i h × (known.flag h ≡ None))
decided_beyond j k known i least (decision.Sure v) is sure =
    λ called agrees. ap (λ (s : State). version_in s k) (at_most j called i least is) ∙ sure called (λ h b lt said. agrees h b (omega (arith, is, lt)) said)
decided_beyond j k known i least (decision.Blocked h) is blocked = ((omega (arith, is, blocked.0.0), blocked.0.1), blocked.1)
