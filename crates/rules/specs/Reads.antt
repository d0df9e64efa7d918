-- The read rule: what was read is what the state has once all preceding valid transactions are applied, those of the same
-- block included (EuroSys 2018 paper, section 3.4; 'Read-Write set semantics'). That a version of the same block may be
-- read, and the order of faults, are our own.
use Rattle.std.specs.Prelude.{ℕ, List, [], ◌∷◌, Bool, if◌then◌else◌, map}
use Rattle.std.specs.List.{list_all}
use Rattle.std.specs.Option.{option_eq}
use Rattle.transaction.specs.declared.transaction.Read.{Read}
use Rattle.transaction.specs.declared.transaction.NsSet.{NsSet}
use Rattle.transaction.specs.declared.transaction.Tx.{Tx}
use Rattle.transaction.specs.Same.{is_same_version}
use Rattle.rules.specs.declared.read_verdict.ReadVerdict.{ReadVerdict}
use Rattle.rules.specs.declared.read_verdict.ReadVerdict.TheVariants.{Good, Stale, Phantom}
use Rattle.rules.specs.State.{State, version_in}
use Rattle.rules.specs.Ranges.{range_holds}

-- the version that was read, or absence, is what the state has
abbrev pub read_holds : State → List ℕ → Read → Bool
read_holds s namespace r = option_eq is_same_version (version_in s (namespace, r.key)) r.version

-- in one namespace reads go before ranges
abbrev pub set_verdict : State → NsSet → ReadVerdict
set_verdict s n =
    if list_all (read_holds s n.name) n.reads
    then (if list_all (range_holds s n.name) n.ranges then Good else Phantom)
    else Stale

abbrev pub or_next : ReadVerdict → ReadVerdict → ReadVerdict
or_next Good next = next
or_next Stale next = Stale
or_next Phantom next = Phantom

-- the first fault
abbrev pub first_fault : List ReadVerdict → ReadVerdict
first_fault [] = Good
first_fault (v ∷ vs) = or_next v (first_fault vs)

-- namespaces go in order
abbrev pub read_verdict : State → Tx → ReadVerdict
read_verdict s tx = first_fault (map (set_verdict s) tx.namespaces)
