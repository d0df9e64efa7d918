-- The id of an open candidate is new: no accepted block and no earlier place of its own uses it.
use Rattle.std.proofs.Common.{◌≡◌, ℕ, Bool, zero, suc, ◌<◌, false, ◌||◌, Option, Some, None, List, [], ◌∷◌, ◌++◌, length, take, get_or, sym, ap, ◌∙◌, append_assoc, append-nil, arith}
use Rattle.std.specs.Prelude.{option_to_list, is_none, if◌then◌else◌}
use Rattle.std.specs.Str.{bytes_eq}
use Rattle.std.specs.List.{list_any}
use Rattle.std.specs.FinMap.{contains_key}
use Rattle.transaction.specs.declared.identity.Identity.{Identity}
use Rattle.transaction.specs.declared.transaction.Tx.{Tx}
use Rattle.transaction.specs.declared.item.Item.{Item}
use Rattle.transaction.specs.declared.item.Item.TheVariants as item
use Rattle.policy_eval.specs.Accepts.{Accepts}
use Rattle.channel.specs.Configuration.{Configuration}
use Rattle.rules.specs.declared.early_flag.EarlyFlag.{EarlyFlag}
use Rattle.rules.specs.Candidate.{Candidate, opened, origin_fault, used_id, is_used, candidate_of, candidates_from}
use Rattle.rules.specs.FirstUses.{FirstUses}
use Rattle.rules.proofs.Booleans.{neither}
use Rattle.rules.proofs.Candidates.{ids_of}
use Rattle.rules.proofs.OpenCandidates.{no_content_fault, open_only_if}

-- neither in an accepted block nor among these
pub record IsNew (uses : FirstUses) (earlier : List (List ℕ)) (id : List ℕ) : Type 0 where
  pub block : contains_key uses id ≡ false
  pub place : list_any (bytes_eq id) earlier ≡ false

module _ (channel : Configuration) (accepts : Accepts) (alone : Bool) (uses : FirstUses) where
  used_once : (earlier : List (List ℕ)) (tx : Tx) (o : Option EarlyFlag) → o ≡ None → is_used uses earlier (if is_none o then Some tx.id else None) ≡ false → IsNew uses earlier tx.id
  used_once earlier tx (Some f) e unused = absurd cc
  used_once earlier tx None e unused =
      let either = (neither (contains_key uses tx.id || list_any (bytes_eq tx.id) earlier) false unused).0 in
      let both = neither (contains_key uses tx.id) (list_any (bytes_eq tx.id) earlier) either in
      record { block = both.0; place = both.1 }

  new_here : (earlier : List (List ℕ)) (tx : Option Item) (t : Tx) (signers : List Identity) → candidate_of channel accepts alone (is_used uses earlier (used_id channel accepts tx)) tx ≡ opened t signers → IsNew uses earlier t.id
  new_here earlier None t signers e = absurd cc
  new_here earlier (Some tx) t signers e =
      let used = is_used uses earlier (used_id channel accepts (Some tx)) in
      let is = open_only_if channel accepts alone used tx t signers e in
      let unused = (no_content_fault channel alone used t is.content).is_new in
      let own : used ≡ is_used uses earlier (used_id channel accepts (Some (item.Tx t))) = ap (λ (i : Item). is_used uses earlier (used_id channel accepts (Some i))) is.same in
      used_once earlier t (origin_fault channel accepts (item.Tx t)) is.origin (sym own ∙ unused)

  pub open_ids_are_new : (earlier : List (List ℕ)) (txs : List (Option Item)) (i : ℕ) (d : Candidate) (t : Tx) (signers : List Identity) → i < length txs
      → get_or (candidates_from channel accepts alone uses earlier txs) i d ≡ opened t signers → IsNew uses (earlier ++ ids_of channel accepts (take i txs)) t.id
  open_ids_are_new earlier [] i d t signers lt e = absurd (omega arith)
  open_ids_are_new earlier (tx ∷ txs) zero d t signers lt e = rw append-nil (new_here earlier tx t signers e)
  open_ids_are_new earlier (tx ∷ txs) (suc i) d t signers lt e =
      let id = option_to_list (used_id channel accepts tx) in
      rw (sym (append_assoc earlier id (ids_of channel accepts (take i txs)))) (open_ids_are_new (earlier ++ id) txs i d t signers (omega arith) e)
