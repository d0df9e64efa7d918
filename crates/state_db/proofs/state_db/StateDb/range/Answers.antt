use Rattle.std.proofs.Common.{ap, sym, ◌∙◌}
use Rattle.std.specs.Prelude.{◌&&◌, filter}
use Rattle.std.specs.Str.{bytes_eq}
use Rattle.std.specs.FinMap.{entries-from_sorted}
use Rattle.rules.specs.State.{key_cmp}
use Rattle.rules.specs.Ranges.{is_within, rows_where}
use Rattle.state_db.specs.Pages.{PagedState, RowList, joined}
use Rattle.state_db.specs.Ranges.{in_front, from_key}
use Rattle.state_db.proofs.Tests.{told}
use Rattle.state_db.proofs.FromKey.{range_filter}
use Rattle.state_db.proofs.state_db.StateDb.range.Goals as goal

pub returns : goal.returns
returns c =
    let ns = c.args.namespace.now in
    let start = c.args.start.now in
    let end = c.args.end.now in
    let es = joined c.self.inside.pages.items in
    c.rows_from.ensures
    ∙ (λ i. in_front (c.as_slice-3.ensures.value i) (c.as_slice-4.ensures.value i) (from_key (c.new-wanted.ensures i) (joined (c.as_slice-2.ensures.value i))))
    ∙ (λ i. in_front ns end (from_key (ns, c.as_slice.ensures.value i) es))
    ∙ range_filter ns start end es c.self.invariant.0.0
    ∙ ap (λ (l : RowList). filter (λ e. bytes_eq ns e.0.0 && is_within start end e.0.1) l) (sym (entries-from_sorted key_cmp es (told _ c.self.invariant.0.0)))
    ∙ ap (λ (s : PagedState). rows_where s.state ns (is_within start end)) c.self.view_is
