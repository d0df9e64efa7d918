-- Ranges that don't hold.
use Rattle.std.proofs.Common.{ℕ, true, false, List, [], ◌∷◌, Some, None, refl}
use Rattle.std.specs.Prelude.{codes}
use Rattle.transaction.specs.declared.transaction.KeyVersion.{KeyVersion}
use Rattle.transaction.specs.declared.transaction.NsSet.{NsSet}
use Rattle.transaction.specs.declared.transaction.Range.{Range}
use Rattle.transaction.specs.declared.transaction.Tx.{Tx}
use Rattle.rules.specs.State.{with_changes}
use Rattle.rules.specs.Job.{Job}
use Rattle.rules.specs.Fold.{running}
use Rattle.reasons.specs.declared.queried_range.QueriedRange.{QueriedRange}
use Rattle.reasons.specs.First.{last_below}
use Rattle.reasons.specs.Ranges.{IsPhantomKey}
use Rattle.rules.proofs.rows.Shared.{chaincode, a, c, at, put, found, set_of, one, block_over}
use Rattle.reasons.proofs.rows.Shared.{over, writing}
use Rattle.reasons.proofs.Differences.{first_difference}
use Rattle.reasons.proofs.rows.Looks.{scans}

abbrev b : List ℕ
b = codes "b"

abbrev d : List ℕ
d = codes "d"

abbrev between : List ℕ → List ℕ → List KeyVersion → Range
between start end results = record { start = start; end = end; exhausted = true; results = results }

-- the first range holds, and the last two don't
abbrev scanned : List KeyVersion → NsSet
scanned results = set_of chaincode [] (between c d (found c (at 0 0) ∷ []) ∷ between a d results ∷ between a c [] ∷ []) [] []

abbrev scans_both : List KeyVersion → Tx
scans_both results = over (scanned results ∷ [])

abbrev range_a_to_d : QueriedRange
range_a_to_d = record { namespace = chaincode; start = a; end = d }

-- over a and c, b is inserted first
abbrev inserting : List KeyVersion → Job
inserting results = block_over (a ∷ c ∷ []) (one (writing (put b ∷ [])) ∷ one (scans_both results) ∷ [])

abbrev a_and_c : List KeyVersion
a_and_c = found a (at 0 0) ∷ found c (at 0 0) ∷ []

pub key_that_was_inserted : IsPhantomKey (inserting a_and_c) 1 (scans_both a_and_c) (record { range = range_a_to_d; exhausted = true; key = b; read = None; there = Some (at 1 0); writer = Some 0 })
unfolding running with_changes last_below
key_that_was_inserted = (scanned a_and_c, between a d a_and_c, b, simp scans refl, simp scans refl, first_difference (running (inserting a_and_c) 1).state chaincode (between a d a_and_c) refl b (simp scans refl), simp scans refl)

-- aa isn't there, and b, which comes behind it, wasn't read
abbrev with_aa : List KeyVersion
with_aa = found a (at 0 0) ∷ found (codes "aa") (at 0 0) ∷ found c (at 0 0) ∷ []

pub key_that_is_absent : IsPhantomKey (inserting with_aa) 1 (scans_both with_aa) (record { range = range_a_to_d; exhausted = true; key = codes "aa"; read = Some (at 0 0); there = None; writer = None })
unfolding running with_changes last_below
key_that_is_absent = (scanned with_aa, between a d with_aa, codes "aa", simp scans refl, simp scans refl, first_difference (running (inserting with_aa) 1).state chaincode (between a d with_aa) refl (codes "aa") (simp scans refl), simp scans refl)

abbrev old_a : List KeyVersion
old_a = found a (at 0 7) ∷ found c (at 0 0) ∷ []

pub key_with_another_version : IsPhantomKey (inserting old_a) 1 (scans_both old_a) (record { range = range_a_to_d; exhausted = true; key = a; read = Some (at 0 7); there = Some (at 0 0); writer = None })
unfolding running with_changes last_below
key_with_another_version = (scanned old_a, between a d old_a, a, simp scans refl, simp scans refl, first_difference (running (inserting old_a) 1).state chaincode (between a d old_a) refl a (simp scans refl), simp scans refl)

-- ---- keys outside the range

-- a and b lie before it
abbrev behind_b : Range
behind_b = between c d (found c (at 0 7) ∷ [])

abbrev scans_behind_b : NsSet
scans_behind_b = set_of chaincode [] (behind_b ∷ []) [] []

abbrev inserting_before : Job
inserting_before = block_over (a ∷ c ∷ []) (one (writing (put b ∷ [])) ∷ one (over (scans_behind_b ∷ [])) ∷ [])

pub keys_before_the_range : IsPhantomKey inserting_before 1 (over (scans_behind_b ∷ [])) (record { range = record { namespace = chaincode; start = c; end = d }; exhausted = true; key = c; read = Some (at 0 7); there = Some (at 0 0); writer = None })
unfolding running with_changes last_below
keys_before_the_range = (scans_behind_b, behind_b, c, simp scans refl, simp scans refl, first_difference (running inserting_before 1).state chaincode behind_b refl c (simp scans refl), simp scans refl)

-- ---- of a query that wasn't read to its end, the last that wrote the key

abbrev up_to_c : Range
up_to_c = record { start = a; end = d; exhausted = false; results = found a (at 0 0) ∷ found c (at 0 0) ∷ [] }

abbrev scans_up_to_c : NsSet
scans_up_to_c = set_of chaincode [] (up_to_c ∷ []) [] []

abbrev inserting_twice : Job
inserting_twice = block_over (a ∷ c ∷ []) (one (writing (put b ∷ [])) ∷ one (writing (put b ∷ [])) ∷ one (over (scans_up_to_c ∷ [])) ∷ [])

pub key_that_was_inserted_twice : IsPhantomKey inserting_twice 2 (over (scans_up_to_c ∷ [])) (record { range = range_a_to_d; exhausted = false; key = b; read = None; there = Some (at 1 1); writer = Some 1 })
unfolding running with_changes last_below
key_that_was_inserted_twice = (scans_up_to_c, up_to_c, b, simp scans refl, simp scans refl, first_difference (running inserting_twice 2).state chaincode up_to_c refl b (simp scans refl), simp scans refl)
