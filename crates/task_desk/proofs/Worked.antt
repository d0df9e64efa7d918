-- Worked rows of the desk.
use Rattle.std.proofs.Common.{◌≡◌, ℕ, zero, suc, ◌<◌, ◌≤◌, true, false, List, [], ◌∷◌, refl, arith}
use Rattle.task_desk.specs.declared.status.Status.{Status}
use Rattle.std.specs.Prelude.{count_by}
use Rattle.std.specs.List.{list_all}
use Rattle.task_desk.specs.declared.status.Status.TheVariants.{Ready, Handed, Out, Parked, Done}
use Rattle.task_desk.specs.Status.{is_ready, is_unhanded, is_out, is_done, status_at}
use Rattle.task_desk.specs.Desk.{new_desk, with_out, with_handed, can_park, with_parked, with_done, NoneReady, NoneUnhanded, IsNext}
use Rattle.task_desk.specs.Runs.{with_run, with_run_done, IsNextRun}

-- a desk for no transaction has nothing to do
nothing_to_do : (new_desk 0 ≡ []) × (list_all is_done (new_desk 0) ≡ true)
nothing_to_do = (refl, refl)

-- ---- one transaction: both of its tasks are taken, and the second waits for the first

both_taken : with_out (with_out (new_desk 1) 0) 1 ≡ Out ∷ Out ∷ []
both_taken = refl

in_the_other_order : with_out (with_out (new_desk 1) 1) 0 ≡ Out ∷ Out ∷ []
in_the_other_order = refl

parks : (can_park (Out ∷ Out ∷ []) 1 0 ≡ true) × (with_parked (Out ∷ Out ∷ []) 1 0 ≡ Out ∷ Parked 0 ∷ [])
parks = (refl, refl)

nothing_to_take : NoneReady (Out ∷ Parked 0 ∷ [])
nothing_to_take zero = refl
nothing_to_take (suc zero) = refl
nothing_to_take (suc (suc t)) = refl

first_done : with_done (Out ∷ Parked 0 ∷ []) 0 ≡ Done ∷ Ready ∷ []
first_done = refl

second_taken : (is_ready (status_at (Done ∷ Ready ∷ []) 1) ≡ true) × (with_out (Done ∷ Ready ∷ []) 1 ≡ Done ∷ Out ∷ [])
second_taken = (refl, refl)

-- the first is done already, so that the second is ready again
parks_on_a_done_one : (can_park (Done ∷ Out ∷ []) 1 0 ≡ true) × (with_parked (Done ∷ Out ∷ []) 1 0 ≡ Done ∷ Ready ∷ [])
parks_on_a_done_one = (refl, refl)

-- what is done isn't out, and 1 isn't smaller than 0
done_stays_done : (can_park (Done ∷ Out ∷ []) 0 1 ≡ false) × (is_out (status_at (Done ∷ Out ∷ []) 0) ≡ false)
done_stays_done = (refl, refl)

-- a task waits for none but a smaller one
waits_for_smaller : (can_park (Out ∷ Out ∷ []) 0 1 ≡ false) × (can_park (Out ∷ Out ∷ []) 1 1 ≡ false)
waits_for_smaller = (refl, refl)

-- one that is ready, or that there isn't, is neither parked nor done
not_out : (can_park (Out ∷ Ready ∷ []) 1 0 ≡ false) × (can_park (Out ∷ Ready ∷ []) 2 0 ≡ false) × (is_out (status_at (Out ∷ Ready ∷ []) 2) ≡ false)
not_out = (refl, refl, refl)

all_are_done : (with_done (Done ∷ Out ∷ []) 1 ≡ Done ∷ Done ∷ []) × (list_all is_done (Done ∷ Done ∷ []) ≡ true) × (count_by is_out (Done ∷ Done ∷ []) ≡ 0)
all_are_done = (refl, refl, refl)

-- ---- handed tasks are ready still, each handed once

first_handed : IsNext (new_desk 1) 0 × (with_handed (new_desk 1) 0 ≡ Handed ∷ Ready ∷ [])
first_handed = (record { unhanded = refl; least = λ u lt. absurd (omega arith) }, refl)

second_handed : IsNext (Handed ∷ Ready ∷ []) 1 × (with_handed (Handed ∷ Ready ∷ []) 1 ≡ Handed ∷ Handed ∷ [])
second_handed = (record { unhanded = refl; least = below }, refl)
  where
    below : (u : ℕ) → u < 1 → is_unhanded (status_at (Handed ∷ Ready ∷ []) u) ≡ false
    below zero lt = refl
    below (suc u) lt = absurd (omega arith)

nothing_to_hand : NoneUnhanded (Handed ∷ Handed ∷ [])
nothing_to_hand zero = refl
nothing_to_hand (suc zero) = refl
nothing_to_hand (suc (suc t)) = refl

started : (is_ready (status_at (Handed ∷ Handed ∷ []) 0) ≡ true) × (with_out (Handed ∷ Handed ∷ []) 0 ≡ Out ∷ Handed ∷ [])
started = (refl, refl)

-- neither once more, nor a task that there isn't
not_started : (is_ready (status_at (Out ∷ Handed ∷ []) 0) ≡ false) × (is_ready (status_at (Out ∷ Handed ∷ []) 2) ≡ false)
not_started = (refl, refl)

-- woken, it can be handed anew
handed_anew : is_unhanded (status_at (with_done (Out ∷ Parked 0 ∷ []) 0) 1) ≡ true
handed_anew = refl

-- ---- two transactions: exactly the tasks parked on the one that is done become ready

two_wake : with_done (Out ∷ Parked 0 ∷ Out ∷ Parked 0 ∷ []) 0 ≡ Done ∷ Ready ∷ Out ∷ Ready ∷ []
two_wake = refl

one_sleeps_on : with_done (Out ∷ Parked 0 ∷ Out ∷ Parked 2 ∷ []) 0 ≡ Done ∷ Ready ∷ Out ∷ Parked 2 ∷ []
one_sleeps_on = refl

others_stay : with_done (Handed ∷ Out ∷ Ready ∷ Out ∷ []) 1 ≡ Handed ∷ Done ∷ Ready ∷ Out ∷ []
others_stay = refl

-- ---- runs

three_taken : with_run Out (new_desk 2) 0 3 ≡ Out ∷ Out ∷ Out ∷ Ready ∷ []
three_taken = refl

one_from_the_middle : with_run Out (Handed ∷ Ready ∷ Ready ∷ Ready ∷ []) 1 2 ≡ Handed ∷ Out ∷ Out ∷ Ready ∷ []
one_from_the_middle = refl

no_run_changes_nothing : (with_run Out (new_desk 1) 1 0 ≡ new_desk 1) × (with_run_done (Out ∷ Out ∷ []) 1 0 ≡ Out ∷ Out ∷ [])
no_run_changes_nothing = (refl, refl)

three_done : with_run_done (Out ∷ Out ∷ Out ∷ Out ∷ []) 1 3 ≡ Out ∷ Done ∷ Done ∷ Done ∷ []
three_done = refl

-- what waits for one of a run becomes ready, in the run and behind it, and isn't done with it
run_wakes : with_run_done (Out ∷ Parked 0 ∷ Out ∷ Parked 2 ∷ []) 0 3 ≡ Done ∷ Ready ∷ Done ∷ Ready ∷ []
run_wakes = refl

-- none that isn't out is done, and no task that there isn't
only_those_out : with_run_done (Ready ∷ Handed ∷ Done ∷ Out ∷ []) 0 7 ≡ Ready ∷ Handed ∷ Done ∷ Done ∷ []
only_those_out = refl

abbrev some : List Status
some = Handed ∷ Ready ∷ Ready ∷ Out ∷ []

next_run : IsNextRun some 2 1 3
next_run = record {
  order = omega arith;
  size = omega arith;
  unhanded = between;
  least = λ lt. below;
  none = λ e. absurd (omega (arith, e));
}
  where
    between : (t : ℕ) → 1 ≤ t → t < 3 → is_unhanded (status_at some t) ≡ true
    between zero le lt = absurd (omega (arith, le))
    between (suc zero) le lt = refl
    between (suc (suc zero)) le lt = refl
    between (suc (suc (suc t))) le lt = absurd (omega (arith, lt))

    below : (u : ℕ) → u < 1 → is_unhanded (status_at some u) ≡ false
    below zero lt = refl
    below (suc u) lt = absurd (omega (arith, lt))

-- it begins with the least one, has none that is out, and isn't longer than was asked
not_the_second : IsNextRun some 2 2 3 → ⊥
not_the_second run = absurd (let wrong : true ≡ false = run.least (omega arith) 1 (omega arith) in cc)

none_that_is_out : IsNextRun some 9 1 4 → ⊥
none_that_is_out run = absurd (let wrong : false ≡ true = run.unhanded 3 (omega arith) (omega arith) in cc)

none_that_was_handed : IsNextRun some 9 0 3 → ⊥
none_that_was_handed run = absurd (let wrong : false ≡ true = run.unhanded 0 (omega arith) (omega arith) in cc)

not_longer : IsNextRun some 1 1 3 → ⊥
not_longer run = let wrong = run.size in absurd (omega (arith, wrong))

-- it is empty only where no task is left
not_empty : IsNextRun some 2 1 1 → ⊥
not_empty run = absurd (let wrong : true ≡ false = run.none refl 1 in cc)

nothing_left : IsNextRun (Handed ∷ Out ∷ []) 2 2 2
nothing_left = record {
  order = omega arith;
  size = omega arith;
  unhanded = λ t le lt. absurd (omega (arith, le, lt));
  least = λ lt. absurd (omega (arith, lt));
  none = λ e. none_unhanded;
}
  where
    none_unhanded : NoneUnhanded (Handed ∷ Out ∷ [])
    none_unhanded zero = refl
    none_unhanded (suc zero) = refl
    none_unhanded (suc (suc t)) = refl
