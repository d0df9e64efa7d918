-- Well-formed read and write sets, in two parts. No public contract cites this.
use Rattle.std.specs.Prelude.{Bool, ◌&&◌, map}
use Rattle.std.specs.List.{list_all}
use Rattle.transaction.specs.declared.transaction.NsSet.{NsSet}
use Rattle.transaction.specs.declared.transaction.Tx.{Tx}
use Rattle.rules.specs.ReadWriteSets.{are_distinct, has_results_in_form, has_policy_in_form}

-- all that is required of a set but for the policies that it writes
abbrev pub have_lists_in_form : NsSet → Bool
have_lists_in_form n =
    are_distinct (map (λ r. r.key) n.reads) && are_distinct (map (λ w. w.key) n.writes) && are_distinct (map (λ w. w.key) n.policy_writes)
    && list_all has_results_in_form n.ranges

abbrev pub are_lists_in_form : Tx → Bool
are_lists_in_form tx = are_distinct (map (λ n. n.name) tx.namespaces) && list_all have_lists_in_form tx.namespaces

-- the policies that are written can be read
abbrev pub has_policies_in_form : NsSet → Bool
has_policies_in_form n = list_all has_policy_in_form n.policy_writes

abbrev pub are_policies_in_form : Tx → Bool
are_policies_in_form tx = list_all has_policies_in_form tx.namespaces
