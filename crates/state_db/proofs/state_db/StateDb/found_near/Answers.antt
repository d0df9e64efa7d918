use Rattle.std.proofs.Common.{ap, sym, ◌∙◌}
use Rattle.std.specs.FinMap.{get, find, get-from_sorted}
use Rattle.rules.specs.State.{key_cmp}
use Rattle.state_db.specs.Pages.{PagedState, joined}
use Rattle.state_db.proofs.Tests.{told}
use Rattle.state_db.proofs.state_db.StateDb.found_near.Goals as goal

pub returns : goal.returns
returns c =
    let k = c.args.key.now in
    let es = joined c.self.inside.pages.items in
    c.row_near.ensures
    ∙ (λ i. find key_cmp (c.wanted.ensures i) (joined (c.as_slice.ensures.value i)))
    ∙ sym (get-from_sorted key_cmp es k (told _ c.self.invariant.0.0))
    ∙ ap (λ (s : PagedState). get s.state k) c.self.view_is
