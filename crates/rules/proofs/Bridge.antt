-- The fold's own verdicts are an assignment, and the verdicts under it are the fold's.
use Rattle.std.proofs.Common.{◌≡◌, ℕ, zero, suc, List, ◌++◌, refl, ap}
use Rattle.std.specs.Prelude.{if◌then◌else◌}
use Rattle.rules.specs.Flags.{is_valid}
use Rattle.rules.specs.State.{StateKey, State}
use Rattle.rules.specs.Job.{Job, candidate_at, touched_by, endorsement, reads, state_after}
use Rattle.rules.specs.Fold.{running, endorsed, flag}
use Rattle.rules.specs.Assignment.{Assignment, touched_under, state_under, endorsement_under, reads_under}

abbrev pub valid : Job → Assignment
valid j i = is_valid (flag j i)

pub state_under-valid : (j : Job) (i : ℕ) → state_under j (valid j) i ≡ (running j i).state
unfolding running state_under
state_under-valid j zero = refl
state_under-valid j (suc i) = ap (λ (s : State). if valid j i then state_after j i s else s) (state_under-valid j i)

pub touched_under-endorsed : (j : Job) (i : ℕ) → touched_under j (endorsed j) i ≡ (running j i).touched
unfolding running touched_under
touched_under-endorsed j zero = refl
touched_under-endorsed j (suc i) = ap (λ (t : List StateKey). if endorsed j i then t ++ touched_by (candidate_at j i) else t) (touched_under-endorsed j i)

pub endorsement_under-endorsed : (j : Job) (i : ℕ) → endorsement_under j (endorsed j) i ≡ endorsed j i
endorsement_under-endorsed j i = ap (endorsement j i) (touched_under-endorsed j i)

pub reads_under-valid : (j : Job) (i : ℕ) → reads_under j (valid j) i ≡ reads j i (running j i).state
reads_under-valid j i = ap (reads j i) (state_under-valid j i)
