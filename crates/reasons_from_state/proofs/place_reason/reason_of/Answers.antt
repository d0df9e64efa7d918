use Rattle.std.proofs.Common.{List, length, sym, ap, ◌∙◌}
use Rattle.rules.specs.declared.flag.Flag.{Flag}
use Rattle.rules.proofs.BlockFlags.{length-flags}
use Rattle.reasons_from_state.proofs.place_reason.reason_of.Goals as goal

pub reason_in_bytes-requires-clause-flags : goal.reason_in_bytes-requires-clause-flags
reason_in_bytes-requires-clause-flags c = ap (λ (l : List Flag). length l) c.requires.flags ∙ length-flags c.args.job.now ∙ sym c.requires.ids
