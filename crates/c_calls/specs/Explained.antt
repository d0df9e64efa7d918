-- What `fabcommit_explain` and `fabcommit_explain_by` tell.
use Rattle.std.specs.Prelude.{◌≡◌, ℕ, List, length, nat_le, ◌&&◌, Bool, if◌then◌else◌, Option, None, Some, Result, Ok, Err, MatchResult}
use Rattle.policy_eval.specs.Accepts.{Accepts}
use Rattle.rules.specs.Linked.{IsRefused}
use Rattle.rules.specs.declared.answer.Refused.{Refused}
use Rattle.rules.specs.declared.answer.Refused.TheVariants.{Malformed, WrongNumber, WrongPrevious, WrongDataHash, OldVersion, Memory}
use Rattle.reason_lists.specs.declared.listing.ListedReasons.{ListedReasons}
use Rattle.reason_lists.specs.declared.pooled.PooledIdentity.{PooledIdentity}
use Rattle.reason_lists.specs.declared.pooled.PooledReason.{PooledReason}
use Rattle.reason_lists.specs.Explained.{AreNextListed}
use Rattle.c_handle.specs.declared.kept.Kept.{Kept}
use Rattle.c_calls.specs.declared.codes.TheConstants.{OK, CLOSED, SMALL}
use Rattle.c_calls.specs.declared.explaining.ReasonSizes.{ReasonSizes}
use Rattle.c_calls.specs.Buffers.{with_front}
use Rattle.c_calls.specs.Receipts.{code_of, fault_number}

-- each of the three lists fits into its buffer
abbrev pub fits : ListedReasons → List ℕ → List PooledReason → List PooledIdentity → Bool
fits l pool reasons identities = nat_le (length l.pool) (length pool) && nat_le (length l.reasons) (length reasons) && nat_le (length l.identities) (length identities)

-- Where all fit, all were written, and else none.
pub record WrittenIfFit (l : ListedReasons) (pool pool' : List ℕ) (reasons reasons' : List PooledReason) (identities identities' : List PooledIdentity) (code : ℕ) : Type 0 where
  pub told_code : code ≡ (if fits l pool reasons identities then OK else SMALL)
  pub pool_after : pool' ≡ (if fits l pool reasons identities then with_front l.pool pool else pool)
  pub reasons_after : reasons' ≡ (if fits l pool reasons identities then with_front l.reasons reasons else reasons)
  pub identities_after : identities' ≡ (if fits l pool reasons identities then with_front l.identities identities else identities)

-- the block's number, and how much of each list there is
abbrev pub sizes_of : ListedReasons → ReasonSizes
sizes_of l = record { number = l.number; got = l.number; pool = length l.pool; reasons = length l.reasons; identities = length l.identities }

-- what stands beside the code of a refusal, as in a receipt
abbrev pub refused_sizes : Refused → ReasonSizes → ReasonSizes
refused_sizes (Malformed fault) s = record s { got = fault_number fault }
refused_sizes (WrongNumber want got) s = record s { number = want; got = got }
refused_sizes WrongPrevious s = s
refused_sizes WrongDataHash s = s
refused_sizes OldVersion s = s
refused_sizes Memory s = s

-- Nothing was written, and this was told.
pub record NoReasons (why : ℕ) (told : ReasonSizes) (pool pool' : List ℕ) (reasons reasons' : List PooledReason) (identities identities' : List PooledIdentity) (sizes' : ReasonSizes) (code : ℕ) : Type 0 where
  pub told_code : code ≡ why
  pub told_sizes : sizes' ≡ told
  pub pool_same : pool' ≡ pool
  pub reasons_same : reasons' ≡ reasons
  pub identities_same : identities' ≡ identities

abbrev pub AnswerTold : Result ListedReasons Refused → List ℕ → List ℕ → List PooledReason → List PooledReason → List PooledIdentity → List PooledIdentity → ReasonSizes → ReasonSizes → ℕ → Type 0
AnswerTold (Ok l) pool pool' reasons reasons' identities identities' sizes sizes' code =
    WrittenIfFit l pool pool' reasons reasons' identities identities' code × (sizes' ≡ sizes_of l)
AnswerTold (Err refused) pool pool' reasons reasons' identities identities' sizes sizes' code =
    NoReasons (code_of refused) (refused_sizes refused sizes) pool pool' reasons reasons' identities identities' sizes' code

-- The reasons of the ledger's next block by a verifier, or why the bytes are none.
abbrev pub ReasonsTold : (Kept → Accepts) → Option Kept → List ℕ → List ℕ → List ℕ → List PooledReason → List PooledReason → List PooledIdentity → List PooledIdentity → ReasonSizes → ReasonSizes → ℕ → Type 0
ReasonsTold accepts None bytes pool pool' reasons reasons' identities identities' sizes sizes' code =
    NoReasons CLOSED sizes pool pool' reasons reasons' identities identities' sizes' code
ReasonsTold accepts (Some kept) bytes pool pool' reasons reasons' identities identities' sizes sizes' code =
    (explained : Result ListedReasons Refused)
    × MatchResult explained (AreNextListed kept.ledger.channel (accepts kept) kept.ledger.world bytes) (IsRefused kept.ledger.world bytes)
    × AnswerTold explained pool pool' reasons reasons' identities identities' sizes sizes' code
