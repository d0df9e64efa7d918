-- The flags of a block, place by place.
use Rattle.std.proofs.Common.{◌≡◌, ℕ, ◌<◌, List, length, get_or, sym, subst, ◌∙◌, arith}
use Rattle.std.proofs.lemmas.List.{same_lists}
use Rattle.std.proofs.lemmas.List.FromFn.{length-map-range_with_len, get_or-map-range_with_len}
use Rattle.rules.specs.declared.flag.Flag.{Flag}
use Rattle.rules.specs.Job.{Job}
use Rattle.rules.specs.Fold.{flag, flags}

-- one for each candidate
pub length-flags : (j : Job) → length (flags j) ≡ length j.candidates
length-flags j = length-map-range_with_len (flag j) 0 (length j.candidates)

pub flags-at : (j : Job) (i : ℕ) (d : Flag) → i < length j.candidates → get_or (flags j) i d ≡ flag j i
flags-at j i d lt = get_or-map-range_with_len (flag j) 0 (length j.candidates) i i d lt (omega arith)

-- and a list that has the fold's flag at each place is all of them
pub flags-by_place : (j : Job) (fs : List Flag) → length fs ≡ length j.candidates → ((i : ℕ) (d : Flag) → i < length j.candidates → get_or fs i d ≡ flag j i) → fs ≡ flags j
flags-by_place j fs long each = same_lists fs (flags j) (long ∙ sym (length-flags j)) (λ i d lt.
    let inside : i < length j.candidates = subst (λ (n : ℕ). i < n) long lt in
    each i d inside ∙ sym (flags-at j i d inside))
