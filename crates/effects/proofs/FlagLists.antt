-- The flags of a block, candidate by candidate.
use Rattle.std.proofs.Common.{◌≡◌, ℕ, ◌<◌, List, length, get_or, ap, ◌∙◌, arith}
use Rattle.std.proofs.lemmas.List.FromFn.{get_or-map-range_with_len, length-map-range_with_len}
use Rattle.rules.specs.declared.flag.Flag.{Flag}
use Rattle.rules.specs.Job.{Job}
use Rattle.rules.specs.Fold.{flag, flags}

module _ (j : Job) (all : List Flag) (are : all ≡ flags j) where
  pub as_many : length all ≡ length j.candidates
  as_many = ap length are ∙ length-map-range_with_len (flag j) 0 (length j.candidates)

  pub flag_at : (i : ℕ) (d : Flag) → i < length j.candidates → get_or all i d ≡ flag j i
  flag_at i d lt = ap (λ (l : List Flag). get_or l i d) are ∙ get_or-map-range_with_len (flag j) 0 (length j.candidates) i i d lt (omega arith)
