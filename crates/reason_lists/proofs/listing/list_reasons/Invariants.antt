use Rattle.std.proofs.Common.{◌≡◌, ◌++◌, drop, length}
use Rattle.reason_lists.specs.Pooled.{reasons_pool, all_identities, reasons_from}
use Rattle.reason_lists.proofs.listing.list_reasons.Given as goal

-- what is listed so far, with what is left of the reasons, is all
abbrev pub invariant-loop-reason : goal.invariant-loop-reason
invariant-loop-reason l = record {
  pool : l.pool.items ++ reasons_pool (drop l.reason-index l.reasons) ≡ reasons_pool l.reasons;
  identities : l.identities.items ++ all_identities (length l.pool.items) (drop l.reason-index l.reasons) ≡ all_identities 0 l.reasons;
  listed : l.listed.items ++ reasons_from l.number (length l.pool.items) (length l.identities.items) (drop l.reason-index l.reasons) ≡ reasons_from l.number 0 0 l.reasons;
}
