use Rattle.std.proofs.Common.{◌≡◌, length, sym, ap, subst, ◌∙◌}
use Rattle.std.specs.Prelude.{sum}
use Rattle.std.specs.FinMap.{entries, entries-from_sorted}
use Rattle.rules.specs.State.{key_cmp}
use Rattle.state_db.specs.Pages.{PagedState, joined}
use Rattle.state_db.proofs.Tests.{told}
use Rattle.state_db.proofs.PageOrder.{sizes_sum}
use Rattle.state_db.proofs.state_db.StateDb.pages.Goals as goal

pub returns-clause-all : goal.returns-clause-all
returns-clause-all c =
    let ps = c.self.inside.pages.items in
    subst (λ (s : PagedState). sum s.sizes ≡ length (entries s.state)) c.self.view_is
    (sizes_sum ps ∙ ap length (sym (entries-from_sorted key_cmp (joined ps) (told _ c.self.invariant.0.0))))
