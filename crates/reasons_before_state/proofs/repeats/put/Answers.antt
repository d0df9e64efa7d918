use Rattle.reasons_before_state.proofs.Repeating.{was_there, one_more}
use Rattle.reasons_before_state.proofs.repeats.put.Goals as goal

pub returns-clause-there : goal.returns-clause-there
returns-clause-there c = was_there c.args.labels.now.keys c.args.label.now c.in_ok-is_new.is_new c.in_ok-is_new.ensures.added

pub returns-clause-labels : goal.returns-clause-labels
returns-clause-labels c x = one_more c.args.labels.now.keys c.insert.new.self.keys c.args.label.now x (c.in_ok-is_new.ensures.updates.0 (record c.args.label { now = x }))
