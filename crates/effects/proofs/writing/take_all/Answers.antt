use Rattle.std.proofs.Common.{List, None, Option, length, sym, ap, subst, ◌∙◌, arith}
use Rattle.std.proofs.lemmas.List.{length-replicate}
use Rattle.rules.specs.declared.flag.Flag.TheVariants.{Valid}
use Rattle.rules.specs.declared.row.Row.{Row}
use Rattle.rules.specs.State.{StateKey}
use Rattle.key_chains.specs.Job.{keys_of}
use Rattle.effects.specs.Rows.{ShowRows, AreRealRows, HaveKeys, rows_in}
use Rattle.effects.proofs.FlagLists.{as_many, flag_at}
use Rattle.effects.proofs.NextStates.{shows-first, makes-first}
use Rattle.effects.proofs.Kept.{none_in, keys_none}
use Rattle.effects.proofs.Places.{shows_none, real_none}
use Rattle.effects.proofs.writing.take_all.Goals as goal

pub bounds-flags-i : goal.bounds-flags-i
bounds-flags-i c = omega (arith, as_many c.args.job.now c.args.flags.now c.requires.flags, c.loop-i-test.true, c.len-i-end.ensures.value, c.loop-i.auto.i-end)

pub take-requires-clause-flag : goal.take-requires-clause-flag
take-requires-clause-flag c = flag_at c.args.job.now c.args.flags.now c.requires.flags c.loop-i.i Valid (omega (arith, c.loop-i-test.true, c.len-i-end.ensures.value, c.loop-i.auto.i-end))

pub loop-i-init : goal.loop-i-init
loop-i-init c = record {
  rows = shows-first c.args.job.now _ (subst (λ (l : List (Option (Option Row))). ShowRows c.args.job.now l c.args.job.now.state) (sym (ap rows_in c.requires.unwritten ∙ none_in _)) (shows_none c.args.job.now _));
  real = subst (λ (l : List (Option (Option Row))). AreRealRows c.args.job.now l) (sym (ap rows_in c.requires.unwritten ∙ none_in _)) (real_none c.args.job.now _);
  keys = subst (λ (l : List (Option (Option (StateKey × Row)))). HaveKeys (keys_of c.args.job.now) l) (sym c.requires.unwritten) (keys_none (keys_of c.args.job.now) _);
  count = ap length c.requires.unwritten ∙ length-replicate (length (keys_of c.args.job.now)) None;
  entries = makes-first c.args.job.now _ c.requires.none;
}
