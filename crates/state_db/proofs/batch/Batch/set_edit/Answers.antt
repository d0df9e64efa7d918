use Rattle.std.proofs.Common.{refl}
use Rattle.state_db.proofs.Batches.{set_sorted, set_ok, set_made}
use Rattle.state_db.proofs.batch.Batch.set_edit.Goals as goal

pub invariant_of-self : goal.invariant_of-self
invariant_of-self c = set_sorted _ c.self.inside.edits.items c.put.new.edits.items c.self.invariant c.args.edit c.put.result c.put.ensures.ok c.put.ensures.err

pub returns-clause-ok : goal.returns-clause-ok
returns-clause-ok c = set_ok _ c.self.inside.edits.items c.put.new.edits.items c.self.invariant c.args.self.now c.args.edit c.args.edit c.self.view_is refl c.put.result c.put.ensures.ok

pub returns-clause-made : goal.returns-clause-made
returns-clause-made c = set_made _ c.self.inside.edits.items c.put.new.edits.items c.self.invariant c.args.self.now c.args.edit c.args.edit c.self.view_is refl c.put.result c.put.ensures.ok
