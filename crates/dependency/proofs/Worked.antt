-- Worked rows of a board's rows and of its flags' numbers.
use Rattle.std.proofs.Common.{◌≡◌, [], ◌∷◌, map, false, Some, None, refl}
use Rattle.rules.specs.declared.early_flag.EarlyFlag.TheVariants as early
use Rattle.rules.specs.declared.flag.Flag.TheVariants.{Valid, BadPayload, EndorsementPolicyFailure, MvccReadConflict, PhantomReadConflict}
use Rattle.rules.specs.Candidate.{flagged}
use Rattle.dependency.specs.Rows.{board_of, first_cells, flag_number}

-- of five candidates the first two are known
two_of_five : map flag_number (Some Valid ∷ Some MvccReadConflict ∷ None ∷ None ∷ None ∷ []) ≡ 0 ∷ 11 ∷ 254 ∷ 254 ∷ 254 ∷ []
two_of_five = refl

others : map flag_number (Some EndorsementPolicyFailure ∷ Some PhantomReadConflict ∷ Some BadPayload ∷ []) ≡ 10 ∷ 12 ∷ 2 ∷ []
others = refl

-- a flagged candidate's flag is known at first, and that it doesn't pass
flagged_at_first : (board_of (map first_cells (flagged early.BadPayload ∷ [])) ≡ record { endorsements = Some false ∷ []; flags = Some BadPayload ∷ [] })
flagged_at_first = refl

each_in_its_row : board_of (record { endorsed = Some false; flag = None } ∷ record { endorsed = None; flag = Some Valid } ∷ []) ≡ record { endorsements = Some false ∷ None ∷ []; flags = None ∷ Some Valid ∷ [] }
each_in_its_row = refl
