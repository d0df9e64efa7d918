-- Transactions of the worked rows, which p0 endorses; the rest is that of the rules' own rows.
use Rattle.std.proofs.Common.{List, [], ◌∷◌}
use Rattle.transaction.specs.declared.transaction.NsSet.{NsSet}
use Rattle.transaction.specs.declared.transaction.PolicyWrite.{PolicyWrite}
use Rattle.transaction.specs.declared.transaction.Range.{Range}
use Rattle.transaction.specs.declared.transaction.Read.{Read}
use Rattle.transaction.specs.declared.transaction.Tx.{Tx}
use Rattle.transaction.specs.declared.transaction.Write.{Write}
use Rattle.rules.proofs.rows.Shared as rows
use Rattle.rules.proofs.rows.Shared.{p0, chaincode, k, put, set_of, endorsed_by}

abbrev pub over : List NsSet → Tx
over sets = endorsed_by (p0 ∷ []) (rows.over sets)

abbrev pub tx : List Read → List Range → List Write → List PolicyWrite → Tx
tx reads ranges writes policy_writes = over (set_of chaincode reads ranges writes policy_writes ∷ [])

abbrev pub reading : List Read → Tx
reading reads = tx reads [] [] []

abbrev pub scanning : Range → Tx
scanning range = tx [] (range ∷ []) [] []

abbrev pub writing : List Write → Tx
writing writes = tx [] [] writes []

abbrev pub writes_k : Tx
writes_k = writing (put k ∷ [])

abbrev pub writing_policy : PolicyWrite → Tx
writing_policy w = tx [] [] [] (w ∷ [])
