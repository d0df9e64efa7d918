-- Reasons as a whole.
use Rattle.transaction.specs.declared.item.Item.{Item}
use Rattle.transaction.specs.declared.item.Item.TheVariants as item
use Rattle.std.proofs.Common.{[], ◌∷◌, false, Some, None, List, Option, refl, arith}
use Rattle.transaction.specs.declared.transaction.Tx.{Tx}
use Rattle.policy.specs.declared.tree.PolicyRole.TheVariants.{Peer}
use Rattle.rules.specs.declared.flag.Flag.TheVariants.{Valid}
use Rattle.rules.specs.State.{with_changes}
use Rattle.rules.specs.Fold.{running}
use Rattle.rules.specs.World.{empty_world}
use Rattle.reasons.specs.declared.reason.Reason.TheVariants.{NoFault, NoTransaction, BadSignature, UsedId, NotEndorsed}
use Rattle.reasons.specs.declared.id_use.IdUse.TheVariants.{Here}
use Rattle.reasons.specs.Reason.{IsReason}
use Rattle.std.specs.Prelude.{codes}
use Rattle.std.specs.Str.{bytes_eq}
use Rattle.std.specs.FinMap.{from_entries}
use Rattle.values.specs.Order.{bytes_cmp}
use Rattle.policy_eval.specs.Accepts.{Accepts}
use Rattle.channel.specs.Configuration.{Configuration}
use Rattle.reasons.specs.First.{first_below}
use Rattle.reasons.specs.declared.endorsement_fault.EndorsementFault.TheVariants.{Unsatisfied}
use Rattle.reasons.specs.declared.policy_owner.PolicyOwner.TheVariants.{OfChaincode}
use Rattle.rules.proofs.rows.Shared.{p0, q0, both_peers, chaincode, k, channel, any}
use Rattle.reasons.proofs.rows.Shared.{writes_k}
use Rattle.reasons.proofs.rows.Looks.{uses}

abbrev three : List (Option Item)
three = Some (item.Tx writes_k) ∷ None ∷ Some (item.Tx writes_k) ∷ []

pub nothing_is_wrong : IsReason channel any (empty_world channel.definitions) three 0 NoFault
unfolding running with_changes
nothing_is_wrong = record { place = omega arith; flag_is = simp uses refl; why = tt }

pub no_transaction : IsReason channel any (empty_world channel.definitions) three 1 NoTransaction
unfolding running with_changes
no_transaction = record { place = omega arith; flag_is = refl; why = tt }

pub id_was_used : IsReason channel any (empty_world channel.definitions) three 2 (UsedId (Here 0 Valid))
unfolding running with_changes
id_was_used = record { place = omega arith; flag_is = simp uses refl; why = (item.Tx writes_k, refl, (simp uses refl, simp uses refl, simp uses refl)) }

-- ---- signers

-- a verifier that accepts the signature of no bytes alone
abbrev accepts_none : Accepts
accepts_none who message signature = bytes_eq signature []

-- p0 endorses twice, and q0's signature is refused
abbrev badly_endorsed : Tx
badly_endorsed = record writes_k { endorsements = record { endorser = p0; signature = [] } ∷ record { endorser = q0; signature = 1 ∷ [] } ∷ record { endorser = p0; signature = [] } ∷ [] }

abbrev channel_of_both : Configuration
channel_of_both = record { name = codes "ch"; definitions = from_entries {R = bytes_cmp} ((chaincode, both_peers) ∷ []); admin = None }

pub signers_that_there_were : IsReason channel_of_both accepts_none (empty_world channel_of_both.definitions) (Some (item.Tx badly_endorsed) ∷ []) 0 (NotEndorsed (Unsatisfied chaincode k OfChaincode (record { policy = both_peers; signers = p0 ∷ []; refused = q0 ∷ []; missing = Some (record { org = codes "Org2"; role = Peer }); another_order = false })))
unfolding running with_changes first_below
signers_that_there_were = record { place = omega arith; flag_is = simp uses refl; why = (badly_endorsed, refl, (simp uses refl, refl, (simp uses refl, simp uses refl), refl)) }

-- ---- the creator's signature

abbrev badly_signed : Tx
badly_signed = record writes_k { signature = 1 ∷ [] }

pub signature_of_the_creator : IsReason channel accepts_none (empty_world channel.definitions) (Some (item.Tx badly_signed) ∷ []) 0 (BadSignature p0)
signature_of_the_creator = record { place = omega arith; flag_is = refl; why = (item.Tx badly_signed, refl, refl) }
