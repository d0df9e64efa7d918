use Rattle.std.proofs.Common.{◌<◌, sym, subst, ◌∙◌, arith}
use Rattle.std.specs.Vec.{vec_len}
use Rattle.state_db.specs.Need.{AreOpen}
use Rattle.state_db.proofs.PageOrder.{opened}
use Rattle.state_db.proofs.Opened.{some_rows}
use Rattle.state_db.proofs.state_db.StateDb.room_for.Goals as goal

pub pages_needed-pages-requires-clause-open : goal.pages_needed-pages-requires-clause-open
pages_needed-pages-requires-clause-open c =
    let len : 0 < vec_len c.self.inside.pages = some_rows (vec_len c.self.inside.pages) (sym c.is_empty.ensures ∙ c.if-is_empty.false) in
    subst AreOpen (sym c.as_slice.ensures.value) (opened c.self.inside.pages.items c.self.invariant.0 (omega (arith, len)))
