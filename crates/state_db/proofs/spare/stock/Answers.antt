use Rattle.std.proofs.Common.{sym, subst}
use Rattle.state_db.specs.Need.{AreEmpty}
use Rattle.state_db.proofs.Opened.{empty_more}
use Rattle.state_db.proofs.spare.stock.Goals as goal

pub loop-alloc-preserved : goal.loop-alloc-preserved
loop-alloc-preserved c = subst AreEmpty (sym c.in_ok-push.ensures.items) (empty_more c.loop-alloc.spare.items c.in_ok-new.field-0 c.loop-alloc.invariant c.in_ok-new.ensures)
