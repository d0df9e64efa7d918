-- Reads that don't hold.
use Rattle.std.proofs.Common.{ℕ, List, [], ◌∷◌, Some, None, refl}
use Rattle.std.specs.Prelude.{codes}
use Rattle.transaction.specs.declared.transaction.NsSet.{NsSet}
use Rattle.transaction.specs.declared.transaction.Read.{Read}
use Rattle.transaction.specs.declared.transaction.Tx.{Tx}
use Rattle.rules.specs.State.{with_changes}
use Rattle.rules.specs.Job.{Job}
use Rattle.rules.specs.Fold.{running}
use Rattle.reasons.specs.First.{last_below}
use Rattle.reasons.specs.Reads.{IsStaleRead}
use Rattle.rules.proofs.rows.Shared.{chaincode, dd, zz, a, c, k, at, read_at, absent, put, deleted, policy_removed, set_of, one, unendorsed, block_over}
use Rattle.reasons.proofs.rows.Shared.{over, tx, reading, writing, writing_policy}
use Rattle.reasons.proofs.rows.Looks.{looks}

abbrev reads_in : List ℕ → List Read → NsSet
reads_in name reads = set_of name reads [] [] []

abbrev k1 : List ℕ
k1 = codes "k1"

abbrev k2 : List ℕ
k2 = codes "k2"

-- the documentation's own example, of which tx1 and tx3 read what was written before them
abbrev documentation_block : Job
documentation_block = block_over (k1 ∷ k2 ∷ codes "k3" ∷ codes "k4" ∷ codes "k5" ∷ []) (
    one (writing (put k1 ∷ put k2 ∷ []))
    ∷ one (tx (read_at k1 (at 0 0) ∷ []) [] (put (codes "k3") ∷ []) [])
    ∷ one (writing (put k2 ∷ []))
    ∷ one (tx (read_at k2 (at 0 0) ∷ []) [] (put k2 ∷ []) [])
    ∷ one (tx (read_at (codes "k5") (at 0 0) ∷ []) [] (put (codes "k6") ∷ []) [])
    ∷ [])

pub documentation_read_of_k1 : IsStaleRead documentation_block 1 (tx (read_at k1 (at 0 0) ∷ []) [] (put (codes "k3") ∷ []) [])
    (record { namespace = chaincode; key = k1; read = Some (at 0 0); there = Some (at 1 0); writer = Some 0 })
unfolding running with_changes last_below
documentation_read_of_k1 = (set_of chaincode (read_at k1 (at 0 0) ∷ []) [] (put (codes "k3") ∷ []) [], read_at k1 (at 0 0), simp looks refl, simp looks refl, simp looks refl)

-- written twice: the last writer
pub documentation_read_of_k2 : IsStaleRead documentation_block 3 (tx (read_at k2 (at 0 0) ∷ []) [] (put k2 ∷ []) [])
    (record { namespace = chaincode; key = k2; read = Some (at 0 0); there = Some (at 1 2); writer = Some 2 })
unfolding running with_changes last_below
documentation_read_of_k2 = (set_of chaincode (read_at k2 (at 0 0) ∷ []) [] (put k2 ∷ []) [], read_at k2 (at 0 0), simp looks refl, simp looks refl, simp looks refl)

-- ---- the first of several

-- of three namespaces the second, and in it the second of three reads; the block writes none of them
abbrev stale_reads : Tx
stale_reads = over (reads_in dd (absent a ∷ []) ∷ reads_in chaincode (read_at a (at 0 0) ∷ read_at c (at 5 5) ∷ absent k ∷ []) ∷ reads_in zz (read_at a (at 9 9) ∷ []) ∷ [])

pub first_stale_read : IsStaleRead (block_over (a ∷ c ∷ k ∷ []) (one stale_reads ∷ [])) 0 stale_reads
    (record { namespace = chaincode; key = c; read = Some (at 5 5); there = Some (at 0 0); writer = None })
unfolding running with_changes last_below
first_stale_read = (reads_in chaincode (read_at a (at 0 0) ∷ read_at c (at 5 5) ∷ absent k ∷ []), read_at c (at 5 5), simp looks refl, simp looks refl, simp looks refl)

-- ---- what writes a row

-- deleted by the first; the second isn't valid, and the third writes the policy of a key that has no row
abbrev deleting : Job
deleting = block_over (k ∷ []) (one (writing (deleted k ∷ [])) ∷ unendorsed (writing (put k ∷ [])) ∷ one (writing_policy (policy_removed k)) ∷ one (reading (read_at k (at 0 0) ∷ [])) ∷ [])

pub key_that_was_deleted : IsStaleRead deleting 3 (reading (read_at k (at 0 0) ∷ []))
    (record { namespace = chaincode; key = k; read = Some (at 0 0); there = None; writer = Some 0 })
unfolding running with_changes last_below
key_that_was_deleted = (reads_in chaincode (read_at k (at 0 0) ∷ []), read_at k (at 0 0), simp looks refl, simp looks refl, simp looks refl)

-- a policy write alone writes the row that is there
pub row_that_a_policy_write_writes : IsStaleRead (block_over (k ∷ []) (one (writing_policy (policy_removed k)) ∷ one (reading (absent k ∷ [])) ∷ [])) 1 (reading (absent k ∷ []))
    (record { namespace = chaincode; key = k; read = None; there = Some (at 1 0); writer = Some 0 })
unfolding running with_changes last_below
row_that_a_policy_write_writes = (reads_in chaincode (absent k ∷ []), absent k, simp looks refl, simp looks refl, simp looks refl)
