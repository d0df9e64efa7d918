-- A candidate whose flag isn't valid changes nothing.
use Rattle.std.proofs.Common.{◌≡◌, ◌≢◌, ℕ, suc, Bool, false, [], ◌++◌, refl, ap, ◌∙◌}
use Rattle.std.specs.Prelude.{if◌then◌else◌}
use Rattle.std.proofs.lemmas.List.{append-nil}
use Rattle.rules.specs.declared.flag.Flag.{Flag}
use Rattle.rules.specs.declared.flag.Flag.TheVariants.{Valid}
use Rattle.rules.specs.Flags.{is_valid}
use Rattle.rules.specs.Job.{Job, candidate_at, version_of, changes_by, entries_by, definitions_by, state_after}
use Rattle.rules.specs.Fold.{running, flag, changes_to, entries_to, definitions_to}

is_valid-not : (f : Flag) → f ≢ Valid → is_valid f ≡ false
is_valid-not Valid apart = absurd (apart refl)
is_valid-not _ apart = refl

module _ (j : Job) (i : ℕ) (apart : flag j i ≢ Valid) where
  pub invalid-state : (running j (suc i)).state ≡ (running j i).state
  unfolding running
  invalid-state = ap (λ (b : Bool). if b then state_after j i (running j i).state else (running j i).state) (is_valid-not (flag j i) apart)

  pub invalid-changes : changes_to j (suc i) ≡ changes_to j i
  unfolding changes_to
  invalid-changes =
      ap (λ (b : Bool). changes_to j i ++ (if b then changes_by (version_of j i) (candidate_at j i) (running j i).state else [])) (is_valid-not (flag j i) apart)
      ∙ append-nil (changes_to j i)

  pub invalid-entries : entries_to j (suc i) ≡ entries_to j i
  unfolding entries_to
  invalid-entries =
      ap (λ (b : Bool). entries_to j i ++ (if b then entries_by (version_of j i) (candidate_at j i) else [])) (is_valid-not (flag j i) apart)
      ∙ append-nil (entries_to j i)

  pub invalid-definitions : definitions_to j (suc i) ≡ definitions_to j i
  unfolding definitions_to
  invalid-definitions =
      ap (λ (b : Bool). definitions_to j i ++ (if b then definitions_by (candidate_at j i) else [])) (is_valid-not (flag j i) apart)
      ∙ append-nil (definitions_to j i)
