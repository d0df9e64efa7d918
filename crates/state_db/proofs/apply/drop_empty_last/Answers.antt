use Rattle.std.proofs.Common.{◌≡◌, ℕ, ◌-◌, [], length, take, get_or, sym, ap, subst, ◌∙◌, arith}
use Rattle.std.specs.Prelude.{◌==◌}
use Rattle.std.specs.Vec.{vec_len}
use Rattle.std.specs.Cmp.{unsigned_Decides}
use Rattle.state_db.specs.Pages.{joined, ArePages}
use Rattle.state_db.proofs.Opened.{closed_whole, closed_rows, closed_part, some_rows}
use Rattle.state_db.proofs.apply.drop_empty_last.Goals as goal

pub returns-then-is_last_empty-clause-pages : goal.returns-then-is_last_empty-clause-pages
returns-then-is_last_empty-clause-pages c =
    let ps = c.args.pages.now.items in
    let none : length (get_or ps (length ps - 1) []) ≡ 0 = (unsigned_Decides (length (get_or ps (length ps - 1) [])) 0).0 ((λ i. length (get_or (sym c.as_slice.ensures.value i) (length (sym c.as_slice.ensures.value i) - 1) []) == 0) ∙ sym c.is_last_empty.ensures ∙ c.if-is_last_empty.true) in
    let len : vec_len c.args.pages.now ≡ length ps = omega arith in
    let rest : c.pop.new.self.items ≡ take (length ps - 1) ps = c.pop.ensures.rest ∙ ap (λ (n : ℕ). take (n - 1) ps) len in
    subst ArePages (sym rest) (closed_part ps c.requires none)

pub returns-then-is_last_empty-clause-rows : goal.returns-then-is_last_empty-clause-rows
returns-then-is_last_empty-clause-rows c =
    let ps = c.args.pages.now.items in
    let none : length (get_or ps (length ps - 1) []) ≡ 0 = (unsigned_Decides (length (get_or ps (length ps - 1) [])) 0).0 ((λ i. length (get_or (sym c.as_slice.ensures.value i) (length (sym c.as_slice.ensures.value i) - 1) []) == 0) ∙ sym c.is_last_empty.ensures ∙ c.if-is_last_empty.true) in
    let len : vec_len c.args.pages.now ≡ length ps = omega arith in
    let rest : c.pop.new.self.items ≡ take (length ps - 1) ps = c.pop.ensures.rest ∙ ap (λ (n : ℕ). take (n - 1) ps) len in
    ap joined rest ∙ closed_rows ps none

pub returns-else-is_last_empty-clause-pages : goal.returns-else-is_last_empty-clause-pages
returns-else-is_last_empty-clause-pages c =
    let ps = c.args.pages.now.items in
    closed_whole ps c.requires (some_rows (length (get_or ps (length ps - 1) [])) ((λ i. length (get_or (sym c.as_slice.ensures.value i) (length (sym c.as_slice.ensures.value i) - 1) []) == 0) ∙ sym c.is_last_empty.ensures ∙ c.if-is_last_empty.false))
