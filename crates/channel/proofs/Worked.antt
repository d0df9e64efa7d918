-- Rows worked by hand, which compute.
use Rattle.std.proofs.Common.{◌≡◌, [], ◌∷◌, ◌++◌, Ok, Err, Some, None, refl}
use Rattle.std.specs.Prelude.{codes}
use Rattle.std.specs.FinMap.{empty, insert, get-empty, get-insert, len-empty}
use Rattle.std.proofs.lemmas.Cmp.{nat_list_cmp_total}
use Rattle.policy.specs.declared.tree.PolicyRole.TheVariants.{Admin, Peer}
use Rattle.policy.specs.Tree.{Tree, principal, gate, none, more}
use Rattle.policy.specs.Fault.{syntax_fault, role_fault}
use Rattle.values.specs.Order.{bytes_cmp}
use Rattle.policy.specs.Lexing.{front_at, quoted_at, principal_in, word_at, word_in, number_at}
use Rattle.policy.specs.Reading.{policy_at, expression_by, gate_at, gate_by, members_by, head_at, opening_at, separator_at}
use Rattle.channel.specs.Fault.{no_form, repeated, no_policy, no_channel}
use Rattle.channel.specs.Text.{configuration_of}

-- a comment, spaces at both ends and between the parts, and within the policy
one_chaincode : configuration_of (codes "# c" ++ 10 ∷ codes " chaincode  cc  OR( 'A.peer' ) " ++ 10 ∷ codes "channel ch")
    ≡ Ok (record {
      name = codes "ch";
      definitions = insert empty (codes "cc") (gate 1 (more (principal (codes "A") Peer) none));
      admin = None;
    })
unfolding policy_at expression_by gate_at gate_by members_by head_at opening_at separator_at front_at quoted_at principal_in word_at word_in number_at
one_chaincode = rw (get-empty {X = Tree} bytes_cmp (codes "cc"), len-empty bytes_cmp Tree) refl

nothing_at_all : configuration_of [] ≡ Err no_channel
nothing_at_all = refl

two_channels : configuration_of (codes "channel a" ++ 10 ∷ codes "channel a") ≡ Err (repeated 2)
two_channels = refl

-- a bad name takes precedence over the repetition
bad_and_repeated : configuration_of (codes "channel a" ++ 10 ∷ codes "channel a b") ≡ Err (no_form 2)
bad_and_repeated = refl

-- the first line that has a fault
first_fault : configuration_of (codes "channel a" ++ 10 ∷ codes "channel a" ++ 10 ∷ codes "x") ≡ Err (repeated 2)
first_fault = refl

policy_ends_early : configuration_of (codes "channel a" ++ 10 ∷ codes "chaincode c AND(") ≡ Err (no_policy 2 syntax_fault)
unfolding policy_at expression_by gate_at gate_by members_by head_at opening_at separator_at front_at quoted_at principal_in word_at word_in number_at
policy_ends_early = rw (get-empty {X = Tree} bytes_cmp (codes "c")) refl

no_such_role : configuration_of (codes "chaincode c 'A.boss'") ≡ Err (no_policy 1 role_fault)
unfolding policy_at expression_by gate_at gate_by members_by head_at opening_at separator_at front_at quoted_at principal_in word_at word_in number_at
no_such_role = rw (get-empty {X = Tree} bytes_cmp (codes "c")) refl

-- a repetition takes precedence over a bad policy
defined_again : configuration_of (codes "chaincode c 'A.peer'" ++ 10 ∷ codes "chaincode c x") ≡ Err (repeated 2)
unfolding policy_at expression_by gate_at gate_by members_by head_at opening_at separator_at front_at quoted_at principal_in word_at word_in number_at
defined_again = rw (get-empty {X = Tree} bytes_cmp (codes "c"), len-empty bytes_cmp Tree, get-insert nat_list_cmp_total empty (codes "c") (principal (codes "A") Peer) (codes "c")) refl

nothing_for_a_policy : configuration_of (codes "channel a" ++ 10 ∷ codes "chaincode c ") ≡ Err (no_form 2)
nothing_for_a_policy = refl

-- a carriage return at the very end stays in the line
lone_return : configuration_of (codes "channel a" ++ 13 ∷ []) ≡ Err (no_form 1)
lone_return = refl

tab : configuration_of (9 ∷ codes "channel a") ≡ Err (no_form 1)
tab = refl

-- the admin policy after all other lines, and a chaincode that is named as its line is
admin_last : configuration_of (codes "channel ch" ++ 10 ∷ codes "chaincode admin 'B.peer'" ++ 10 ∷ codes "admin OR('Org1.admin')")
    ≡ Ok (record {
      name = codes "ch";
      definitions = insert empty (codes "admin") (principal (codes "B") Peer);
      admin = Some (gate 1 (more (principal (codes "Org1") Admin) none));
    })
unfolding policy_at expression_by gate_at gate_by members_by head_at opening_at separator_at
    front_at quoted_at principal_in word_at word_in number_at
admin_last = rw (get-empty {X = Tree} bytes_cmp (codes "admin"), len-empty bytes_cmp Tree) refl

-- and before them
admin_first : configuration_of (codes "admin 'A.admin'" ++ 10 ∷ codes "chaincode cc 'B.peer'" ++ 10 ∷ codes "channel ch")
    ≡ Ok (record {
      name = codes "ch";
      definitions = insert empty (codes "cc") (principal (codes "B") Peer);
      admin = Some (principal (codes "A") Admin);
    })
unfolding policy_at expression_by gate_at gate_by members_by head_at opening_at separator_at
    front_at quoted_at principal_in word_at word_in number_at
admin_first = rw (get-empty {X = Tree} bytes_cmp (codes "cc"), len-empty bytes_cmp Tree) refl

second_admin : configuration_of (codes "admin 'A.admin'" ++ 10 ∷ codes "admin 'B.admin'" ++ 10 ∷ codes "channel ch")
    ≡ Err (repeated 2)
unfolding policy_at expression_by gate_at gate_by members_by head_at opening_at separator_at
    front_at quoted_at principal_in word_at word_in number_at
second_admin = refl

-- a repetition takes precedence over a bad policy
second_admin_and_bad : configuration_of (codes "admin 'A.admin'" ++ 10 ∷ codes "admin AND(") ≡ Err (repeated 2)
unfolding policy_at expression_by gate_at gate_by members_by head_at opening_at separator_at
    front_at quoted_at principal_in word_at word_in number_at
second_admin_and_bad = refl

bad_admin : configuration_of (codes "channel ch" ++ 10 ∷ codes "admin AND(") ≡ Err (no_policy 2 syntax_fault)
unfolding policy_at expression_by gate_at gate_by members_by head_at opening_at separator_at
    front_at quoted_at principal_in word_at word_in number_at
bad_admin = refl

nothing_for_an_admin : configuration_of (codes "channel ch" ++ 10 ∷ codes "admin ") ≡ Err (no_form 2)
nothing_for_an_admin = refl
