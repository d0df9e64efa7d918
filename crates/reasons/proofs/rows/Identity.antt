-- Channels, ids and definitions.
use Rattle.transaction.specs.declared.item.Item.TheVariants as item
use Rattle.std.proofs.Common.{◌≡◌, [], ◌∷◌, Some, None, refl}
use Rattle.std.specs.Prelude.{codes}
use Rattle.std.specs.FinMap.{empty}
use Rattle.rules.specs.declared.flag.Flag.TheVariants.{Valid, BadRwset}
use Rattle.rules.specs.FirstUses.{with_uses}
use Rattle.rules.specs.State.{with_changes}
use Rattle.rules.specs.Fold.{running}
use Rattle.rules.specs.World.{World, empty_world}
use Rattle.transaction.specs.declared.transaction.Tx.{Tx}
use Rattle.reasons.specs.declared.id_use.IdUse.TheVariants.{Earlier, Here}
use Rattle.reasons.specs.declared.reason.Reason.TheVariants.{OtherId, OtherChannel}
use Rattle.reasons.specs.Identity.{IsFirstUse, first_undefined}
use Rattle.reasons.specs.Reason.{Explains}
use Rattle.rules.proofs.rows.Shared.{chaincode, dd, zz, k, put, absent, set_of, channel, any, an_id, kept}
use Rattle.reasons.proofs.rows.Shared.{over, writing, writes_k}
use Rattle.reasons.proofs.rows.Looks.{uses}

abbrev elsewhere : Tx
elsewhere = record writes_k { channel = codes "other" }

-- the channel that is named, and not the ledger's
pub channel_that_is_named : Explains channel any (empty_world channel.definitions) (None ∷ Some (item.Tx elsewhere) ∷ []) 1 (OtherChannel (codes "other"))
channel_that_is_named = (item.Tx elsewhere, refl, refl)

abbrev misnamed : Tx
misnamed = record writes_k { id = codes "x" }

-- the id that it should have, and not its own
pub id_that_it_should_have : Explains channel any (empty_world channel.definitions) (Some (item.Tx misnamed) ∷ []) 0 (OtherId an_id)
id_that_it_should_have = (item.Tx misnamed, refl, refl)

-- ---- first uses

-- of height 2
abbrev used_before : World
used_before = record { state = empty; history = empty; first_uses = with_uses empty ((an_id, record { block = 1; place = 7; flag = BadRwset }) ∷ []); definitions = channel.definitions; blocks = kept ∷ kept ∷ [] }

-- and not the place in this block
pub used_in_an_accepted_block : IsFirstUse channel any used_before (Some (item.Tx writes_k) ∷ Some (item.Tx writes_k) ∷ []) 1 an_id (Earlier 1 7 BadRwset)
unfolding with_uses
used_in_an_accepted_block = simp uses refl

-- one without an id that counts, and the first of three with it
pub used_in_the_same_block : IsFirstUse channel any (empty_world channel.definitions) (None ∷ Some (item.Tx elsewhere) ∷ Some (item.Tx writes_k) ∷ Some (item.Tx writes_k) ∷ Some (item.Tx writes_k) ∷ []) 4 an_id (Here 2 Valid)
unfolding running with_changes
used_in_the_same_block = (simp uses refl, simp uses refl, simp uses refl)

-- what uses it first isn't in form
abbrev twice_k : Tx
twice_k = writing (put k ∷ put k ∷ [])

pub used_by_one_that_is_not_valid : IsFirstUse channel any (empty_world channel.definitions) (Some (item.Tx twice_k) ∷ Some (item.Tx writes_k) ∷ []) 1 an_id (Here 0 BadRwset)
unfolding running with_changes
used_by_one_that_is_not_valid = (simp uses refl, simp uses refl, simp uses refl)

-- ---- definitions

pub chaincode_without_a_definition : first_undefined channel.definitions (record (over (set_of dd [] [] (put k ∷ []) [] ∷ [])) { chaincode = zz }) ≡ Some zz
chaincode_without_a_definition = simp uses refl

-- zz is only read
pub first_namespace_without_a_definition : first_undefined channel.definitions (over (set_of chaincode [] [] (put k ∷ []) [] ∷ set_of zz (absent k ∷ []) [] [] [] ∷ set_of dd [] [] (put k ∷ []) [] ∷ [])) ≡ Some dd
first_namespace_without_a_definition = simp uses refl
