-- Worked rows of reasons as records: each computes, and a wrong expectation is refused.
use Rattle.std.proofs.Common.{◌≡◌, ℕ, true, false, List, [], ◌∷◌, map, Some, None, refl}
use Rattle.std.specs.Prelude.{codes, ◌++◌}
use Rattle.transaction.specs.declared.identity.Identity.{Identity}
use Rattle.transaction.specs.declared.identity.Role.TheVariants.{Client, Peer}
use Rattle.policy.specs.Tree.{principal}
use Rattle.policy.specs.declared.tree.PolicyRole.TheVariants as role
use Rattle.rules.specs.declared.flag.Flag.TheVariants.{Valid, MvccReadConflict}
use Rattle.reasons.specs.declared.endorsement_fault.EndorsementFault.TheVariants.{Touched, Unsatisfied, ChaincodeUnsatisfied}
use Rattle.reasons.specs.declared.form_fault.FormFault.TheVariants.{NamespaceRepeats, KeyRepeats, ResultFalls, ResultLeaves, UnreadablePolicy}
use Rattle.reasons.specs.declared.id_use.IdUse.TheVariants.{Earlier, Here}
use Rattle.reasons.specs.declared.key_list.KeyList.TheVariants.{Reads, Writes, PolicyWrites}
use Rattle.reasons.specs.declared.policy_owner.PolicyOwner.TheVariants.{OfKey, OfChaincode}
use Rattle.reasons.specs.declared.policy_text_fault.PolicyTextFault.TheVariants.{TooLarge, Syntax, Role, Threshold, TooDeep}
use Rattle.reasons.specs.declared.phantom_key.PhantomKey.{PhantomKey}
use Rattle.reasons.specs.declared.range_result.RangeResult.{RangeResult}
use Rattle.reasons.specs.declared.reason.Reason.{Reason}
use Rattle.reasons.specs.declared.reason.Reason.TheVariants.{NoFault, NoTransaction, BadSignature, InvalidUpdate, OtherId, UsedId, NotEndorsed, ReadConflict, PhantomConflict, OtherChannel, NotInForm, Undefined}
use Rattle.reasons.specs.declared.shortfall.Shortfall.{Shortfall}
use Rattle.reasons.specs.declared.stale_read.StaleRead.{StaleRead}
use Rattle.reasons.specs.declared.update_fault.UpdateFault.TheVariants.{NotAlone, NoAdminPolicy, NoDefinition, NoPolicy, AdminUnsatisfied}
use Rattle.verdicts.specs.declared.verdict.Piece.{Piece}
use Rattle.reason_lists.specs.declared.pooled.PooledReason.{PooledReason}
use Rattle.reason_lists.specs.declared.pooled.Seen.{Seen}
use Rattle.reason_lists.specs.Said.{numbers, of_kind}
use Rattle.reason_lists.specs.Shortfalls.{shortfall_in}
use Rattle.reason_lists.specs.Pooled.{reasons_pool, reasons_from, all_identities}

abbrev p : ℕ → ℕ → Piece
p at len = record { at = at; len = len }

abbrev there : ℕ → ℕ → Seen
there block tx = record { block = block; tx = tx; is_there = true }

abbrev absent : Seen
absent = record { block = 0; tx = 0; is_there = false }

abbrev p0 : Identity
p0 = record { org = 65 ∷ []; role = Peer; label = 112 ∷ 48 ∷ [] }

abbrev c0 : Identity
c0 = record { org = 66 ∷ 67 ∷ []; role = Client; label = [] }

-- 'A.peer' is asked for; c0 signed, p0's signature was refused, and a peer of A is missing
abbrev lack : Shortfall
lack = record { policy = principal (65 ∷ []) role.Peer; signers = c0 ∷ []; refused = p0 ∷ []; missing = Some (record { org = 65 ∷ []; role = role.Peer }); another_order = true }

abbrev stale : StaleRead
stale = record { namespace = 110 ∷ []; key = 107 ∷ 49 ∷ []; read = Some (record { block = 3; tx = 4 }); there = Some (record { block = 7; tx = 2 }); writer = Some 2 }

abbrev phantom : PhantomKey
phantom = record {
  range = record { namespace = 110 ∷ []; start = 97 ∷ []; end = 98 ∷ 99 ∷ [] };
  exhausted = true;
  key = 97 ∷ 97 ∷ 97 ∷ [];
  read = None;
  there = Some (record { block = 5; tx = 1 });
  writer = None;
}

abbrev found : RangeResult
found = record { range = phantom.range; range_place = 2; place = 9; key = 99 ∷ [] }

-- ---- kinds and flags

abbrev one_of_each : List Reason
one_of_each =
    NoFault
    ∷ NoTransaction
    ∷ BadSignature p0
    ∷ OtherChannel (99 ∷ [])
    ∷ OtherId (1 ∷ 2 ∷ [])
    ∷ UsedId (Here 1 Valid)
    ∷ InvalidUpdate NotAlone
    ∷ InvalidUpdate NoAdminPolicy
    ∷ InvalidUpdate (NoDefinition (110 ∷ []))
    ∷ InvalidUpdate (NoPolicy Role)
    ∷ InvalidUpdate (AdminUnsatisfied lack)
    ∷ Undefined (110 ∷ [])
    ∷ NotInForm (NamespaceRepeats (110 ∷ []))
    ∷ NotInForm (KeyRepeats (110 ∷ []) Reads (107 ∷ []))
    ∷ NotInForm (KeyRepeats (110 ∷ []) Writes (107 ∷ []))
    ∷ NotInForm (KeyRepeats (110 ∷ []) PolicyWrites (107 ∷ []))
    ∷ NotInForm (ResultFalls found)
    ∷ NotInForm (ResultLeaves found)
    ∷ NotInForm (UnreadablePolicy (110 ∷ []) (107 ∷ []) TooDeep)
    ∷ NotEndorsed (Touched (110 ∷ []) (107 ∷ []) 6)
    ∷ NotEndorsed (Unsatisfied (110 ∷ []) (107 ∷ []) OfKey lack)
    ∷ NotEndorsed (Unsatisfied (110 ∷ []) (107 ∷ []) OfChaincode lack)
    ∷ NotEndorsed (ChaincodeUnsatisfied (110 ∷ []) lack)
    ∷ ReadConflict stale
    ∷ PhantomConflict phantom
    ∷ []

abbrev told : Reason → PooledReason
told r = numbers 7 r (shortfall_in r)

kinds : map (λ r. (told r).kind) one_of_each ≡ 0 ∷ 1 ∷ 2 ∷ 3 ∷ 4 ∷ 5 ∷ 6 ∷ 7 ∷ 8 ∷ 9 ∷ 10 ∷ 11 ∷ 12 ∷ 13 ∷ 14 ∷ 15 ∷ 16 ∷ 17 ∷ 18 ∷ 19 ∷ 20 ∷ 21 ∷ 22 ∷ 23 ∷ 24 ∷ []
kinds = refl

flags : map (λ r. (told r).flag) one_of_each ≡ 0 ∷ 2 ∷ 4 ∷ 14 ∷ 8 ∷ 9 ∷ 6 ∷ 6 ∷ 6 ∷ 6 ∷ 6 ∷ 25 ∷ 22 ∷ 22 ∷ 22 ∷ 22 ∷ 22 ∷ 22 ∷ 22 ∷ 10 ∷ 10 ∷ 10 ∷ 10 ∷ 11 ∷ 12 ∷ []
flags = refl

-- ---- numbers

nothing_more : told NoFault ≡ of_kind 0
nothing_more = refl

used_earlier : told (UsedId (Earlier 3 8 MvccReadConflict)) ≡ record (of_kind 5) { flag = 9; block = 3; tx = 8; has_tx = true; used_flag = 11 }
used_earlier = refl

used_in_this_block : told (UsedId (Here 8 Valid)) ≡ record (of_kind 5) { flag = 9; block = 7; tx = 8; has_tx = true }
used_in_this_block = refl

touched_first : told (NotEndorsed (Touched [] [] 6)) ≡ record (of_kind 19) { flag = 10; tx = 6; has_tx = true }
touched_first = refl

read_another : told (ReadConflict stale) ≡ record (of_kind 23) { flag = 11; read = there 3 4; there = there 7 2; tx = 2; has_tx = true }
read_another = refl

-- what stands there is from before the block
found_another : told (PhantomConflict phantom) ≡ record (of_kind 24) { flag = 12; read = absent; there = there 5 1; exhausted = true }
found_another = refl

result_is_outside : told (NotInForm (ResultLeaves found)) ≡ record (of_kind 17) { flag = 22; range_place = 2; result_place = 9 }
result_is_outside = refl

who_is_missing : told (InvalidUpdate (AdminUnsatisfied lack)) ≡ record (of_kind 10) { flag = 6; missing_role = 2; has_missing = true; another_order = true }
who_is_missing = refl

nobody_is_missing : told (InvalidUpdate (AdminUnsatisfied (record lack { missing = None; another_order = false }))) ≡ record (of_kind 10) { flag = 6 }
nobody_is_missing = refl

any_member_is_missing : (told (InvalidUpdate (AdminUnsatisfied (record lack { missing = Some (record { org = []; role = role.Member }) })))).missing_role ≡ 4
any_member_is_missing = refl

text_faults : map (λ f. (told (InvalidUpdate (NoPolicy f))).text_fault) (TooLarge ∷ Syntax ∷ Role ∷ Threshold ∷ TooDeep ∷ []) ≡ 1 ∷ 2 ∷ 3 ∷ 4 ∷ 5 ∷ []
text_faults = refl

-- ---- places

abbrev three : List Reason
three = PhantomConflict phantom ∷ NotEndorsed (Unsatisfied (110 ∷ []) (107 ∷ 50 ∷ []) OfChaincode lack) ∷ BadSignature p0 ∷ []

one_after_the_other : reasons_pool three ≡ codes "naaaabc" ++ codes "nk2'A.peer'A" ++ codes "BC" ++ codes "Ap0" ++ codes "Ap0"
one_after_the_other = refl

-- of the second the identities are the first two, the third's begin behind them
places : reasons_from 7 0 0 three ≡
    (record (told (PhantomConflict phantom)) {
      name = p 0 1;
      key = p 1 3;
      start = p 4 1;
      end = p 5 2;
      id = p 7 0;
      policy = p 7 0;
      missing_org = p 7 0;
    })
    ∷ (record (of_kind 21) {
      flag = 10;
      name = p 7 1;
      key = p 8 2;
      start = p 10 0;
      end = p 10 0;
      id = p 10 0;
      policy = p 10 8;
      missing_org = p 18 1;
      first_identity = 0;
      signers = 1;
      refused = 1;
      missing_role = 2;
      has_missing = true;
      another_order = true;
    })
    ∷ (record (of_kind 2) {
      flag = 4;
      name = p 24 0;
      key = p 24 0;
      start = p 24 0;
      end = p 24 0;
      id = p 24 0;
      policy = p 24 0;
      missing_org = p 24 0;
      first_identity = 2;
      refused = 1;
    }) ∷ []
places = refl

identities : all_identities 0 three ≡
    (record { org = p 19 2; label = p 21 0; role = 1 })
    ∷ (record { org = p 21 1; label = p 22 2; role = 2 })
    ∷ (record { org = p 24 1; label = p 25 2; role = 2 }) ∷ []
identities = refl

-- the id that was wanted stands in the pool
wanted : reasons_pool (OtherId (1 ∷ 2 ∷ []) ∷ OtherChannel (99 ∷ []) ∷ []) ≡ 1 ∷ 2 ∷ 99 ∷ []
wanted = refl
