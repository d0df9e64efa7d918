use Rattle.std.proofs.Common.{◌≡◌, ◌<◌, length, sym, ap, ◌∙◌, arith}
use Rattle.std.proofs.lemmas.List.{nil_from_length}
use Rattle.std.specs.FinMap.{from_sorted}
use Rattle.std.specs.Cmp.{unsigned_Decides}
use Rattle.std.specs.Vec.{vec_len}
use Rattle.rules.specs.State.{key_cmp, with_changes}
use Rattle.state_db.specs.Pages.{RowList, joined}
use Rattle.state_db.specs.Edits.{edited}
use Rattle.state_db.proofs.PageOrder.{no_pages, opened}
use Rattle.state_db.proofs.Opened.{some_rows}
use Rattle.state_db.proofs.Maps.{edited_is, on_ok}
use Rattle.state_db.proofs.state_db.StateDb.make.Goals as goal

pub first_pages-requires-clause-none : goal.first_pages-requires-clause-none
first_pages-requires-clause-none c =
    let len : vec_len c.self.inside.pages ≡ 0 = (unsigned_Decides (vec_len c.self.inside.pages) 0).0 (sym c.is_empty.ensures ∙ c.if-is_empty.true) in
    nil_from_length c.self.inside.pages.items (omega (arith, len))

pub returns-then-is_empty-clause-ok : goal.returns-then-is_empty-clause-ok
returns-then-is_empty-clause-ok c =
    let ps = c.self.inside.pages.items in
    let cs = c.args.edits.items in
    let len : vec_len c.self.inside.pages ≡ 0 = (unsigned_Decides (vec_len c.self.inside.pages) 0).0 (sym c.is_empty.ensures ∙ c.if-is_empty.true) in
    let none : length ps ≡ 0 = omega (arith, len) in
    on_ok c.first_pages.result
    (λ rows.
    ap (from_sorted {R = key_cmp}) rows
    ∙ ap (λ (es : RowList). from_sorted {R = key_cmp} (edited es cs)) (sym (no_pages ps none))
    ∙ edited_is (joined ps) cs c.self.invariant.0.0
    ∙ (λ i. with_changes (c.self.view_is i).state cs))
    c.first_pages.ensures.rows

pub edit_pages-requires-clause-open : goal.edit_pages-requires-clause-open
edit_pages-requires-clause-open c =
    let len : 0 < vec_len c.self.inside.pages = some_rows (vec_len c.self.inside.pages) (sym c.is_empty.ensures ∙ c.if-is_empty.false) in
    opened c.self.inside.pages.items c.self.invariant.0 (omega (arith, len))

pub returns-clause-ok : goal.returns-clause-ok
returns-clause-ok c =
    let ps = c.self.inside.pages.items in
    let cs = c.args.edits.items in
    on_ok c.edit_pages.result
    (λ rows.
    ap (from_sorted {R = key_cmp}) rows
    ∙ edited_is (joined ps) cs c.self.invariant.0.0
    ∙ (λ i. with_changes (c.self.view_is i).state cs))
    c.edit_pages.ensures.rows
