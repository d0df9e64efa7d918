-- Steps between a transaction and the keys that it writes. No public contract cites this.
use Rattle.std.specs.Prelude.{List, [], ◌∷◌, ◌++◌, map, flat_map, Some, None, if◌then◌else◌}
use Rattle.std.specs.Option.{option_or}
use Rattle.transaction.specs.declared.transaction.Write.{Write}
use Rattle.transaction.specs.declared.transaction.PolicyWrite.{PolicyWrite}
use Rattle.transaction.specs.declared.transaction.NsSet.{NsSet}
use Rattle.transaction.specs.declared.transaction.Tx.{Tx}
use Rattle.rules.specs.State.{is_same_key}
use Rattle.rules.specs.Effect.{policy_left}
use Rattle.candidates.specs.declared.written_key.WrittenKey.{WrittenKey}

-- each value and each policy by itself, in the transaction's order
abbrev pub value_write : NsSet → Write → WrittenKey
value_write n w = record { key = (n.name, w.key); value = Some w.value; policy = None }

abbrev pub policy_write : NsSet → PolicyWrite → WrittenKey
policy_write n w = record { key = (n.name, w.key); value = None; policy = Some (policy_left w) }

abbrev pub writes_in : NsSet → List WrittenKey
writes_in n = map (value_write n) n.writes ++ map (policy_write n) n.policy_writes

abbrev pub single_writes : Tx → List WrittenKey
single_writes tx = flat_map writes_in tx.namespaces

-- what two writes of one key are together
abbrev pub both_writes : WrittenKey → WrittenKey → WrittenKey
both_writes kept next = record { key = kept.key; value = option_or kept.value next.value; policy = option_or kept.policy next.policy }

-- neighbours of one key are joined
abbrev pub joined_from : WrittenKey → List WrittenKey → List WrittenKey
joined_from kept [] = kept ∷ []
joined_from kept (next ∷ ws) = if is_same_key next.key kept.key then joined_from (both_writes kept next) ws else (kept ∷ joined_from next ws)

abbrev pub joined : List WrittenKey → List WrittenKey
joined [] = []
joined (w ∷ ws) = joined_from w ws
