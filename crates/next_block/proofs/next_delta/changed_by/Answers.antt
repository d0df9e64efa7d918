use Rattle.std.proofs.Common.{length, sym, ap, ◌∙◌}
use Rattle.rules.specs.CommitBytes.{update_bytes}
use Rattle.rules.proofs.BlockFlags.{length-flags}
use Rattle.next_block.proofs.next_delta.changed_by.Goals as goal

pub uses_of-requires-clause-same : goal.uses_of-requires-clause-same
uses_of-requires-clause-same c = c.requires.ids ∙ sym (ap length c.requires.flags ∙ length-flags c.args.job.now)

pub returns : goal.returns
returns c =
    let j = c.args.job.now in
    let effects = c.in_ok-effects.ensures in record {
      state = effects.state;
      real = effects.changes;
      history = effects.history;
      uses = c.in_ok-uses.ensures j (sym c.number.ensures) c.requires.flags;
      definitions = effects.definitions;
      batch = effects.batch;
      update = c.in_ok-update.ensures ∙ ap (update_bytes j.state) (effects.batch j.state ∙ effects.state);
    }
