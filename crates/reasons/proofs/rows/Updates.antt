-- Why updates aren't valid.
use Rattle.std.proofs.Common.{◌≡◌, ℕ, true, false, List, [], ◌∷◌, map, Some, None, Ok, Err, refl}
use Rattle.std.specs.Prelude.{codes}
use Rattle.std.specs.FinMap.{from_entries}
use Rattle.transaction.specs.declared.identity.Role.TheVariants as role
use Rattle.transaction.specs.declared.identity.Identity.{Identity}
use Rattle.transaction.specs.declared.update.Update.{Update}
use Rattle.policy.specs.declared.tree.PolicyRole.TheVariants as wanted
use Rattle.policy.specs.Tree.{Tree, principal, gate, none, more}
use Rattle.policy.specs.Fault.{syntax_fault}
use Rattle.policy.specs.Lexing.{front_at, quoted_at, principal_in, word_at, word_in}
use Rattle.policy.specs.Reading.{policy_at, expression_by, gate_at, gate_by, members_by, head_at, opening_at}
use Rattle.values.specs.Order.{bytes_cmp}
use Rattle.channel.specs.Configuration.{Configuration}
use Rattle.reasons.specs.declared.update_fault.UpdateFault.TheVariants.{NotAlone, NoAdminPolicy, NoDefinition, NoPolicy, AdminUnsatisfied}
use Rattle.reasons.specs.declared.policy_text_fault.PolicyTextFault.TheVariants.{Syntax}
use Rattle.reasons.specs.Update.{IsUpdateFault}
use Rattle.rules.proofs.rows.Shared.{p0, both_peers, chaincode, zz, any}
use Rattle.reasons.proofs.rows.Looks.{uses}

abbrev admin : Tree
admin = gate 1 (more (principal (codes "Org1") wanted.Admin) none)

abbrev a0 : Identity
a0 = record { org = codes "Org1"; role = role.Admin; label = codes "a0" }

abbrev with_admin : Configuration
with_admin = record { name = codes "ch"; definitions = from_entries {R = bytes_cmp} ((chaincode, both_peers) ∷ []); admin = Some admin }

abbrev without_admin : Configuration
without_admin = record { name = codes "ch"; definitions = from_entries {R = bytes_cmp} ((chaincode, both_peers) ∷ []); admin = None }

abbrev new_text : List ℕ
new_text = codes "'Org2.peer'"

new_read : policy_at new_text ≡ Ok (principal (codes "Org2") wanted.Peer)
unfolding policy_at expression_by front_at quoted_at principal_in
new_read = refl

abbrev cut_text : List ℕ
cut_text = codes "AND("

cut_read : policy_at cut_text ≡ Err syntax_fault
unfolding policy_at expression_by gate_at gate_by members_by head_at opening_at front_at word_at word_in
cut_read = refl

ruleset updating = (new_read, cut_read, uses)

abbrev update_of : List ℕ → List ℕ → List Identity → Update
update_of namespace text endorsers = record {
  channel = codes "ch";
  id = [];
  creator = a0;
  nonce = [];
  namespace = namespace;
  policy = text;
  endorsements = map (λ e. record { endorser = e; signature = [] }) endorsers;
  signature = [];
}

-- each with all that comes behind it wrong too
pub not_alone : IsUpdateFault without_admin any false (update_of zz cut_text []) NotAlone
not_alone = refl

pub no_admin : IsUpdateFault without_admin any true (update_of zz cut_text []) NoAdminPolicy
no_admin = refl

pub no_definition : IsUpdateFault with_admin any true (update_of zz cut_text []) (NoDefinition zz)
no_definition = simp updating refl

pub no_policy : IsUpdateFault with_admin any true (update_of chaincode cut_text []) (NoPolicy Syntax)
no_policy = simp updating refl

-- with the signers that there were
pub endorsed_by_a_peer : IsUpdateFault with_admin any true (update_of chaincode new_text (p0 ∷ p0 ∷ [])) (AdminUnsatisfied (record { policy = admin; signers = p0 ∷ []; refused = []; missing = Some (record { org = codes "Org1"; role = wanted.Admin }); another_order = false }))
endorsed_by_a_peer = (simp updating refl, refl, refl)
