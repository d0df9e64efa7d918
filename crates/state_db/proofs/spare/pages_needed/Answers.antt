use Rattle.std.proofs.Common.{◌≡◌, ℕ, suc, true, ◌+◌, ◌<◌, ◌≤◌, ◌∷◌, List, length, drop, sym, ap, subst, ◌∙◌, drop-cons, add-one, arith}
use Rattle.rules.specs.declared.row.Row.{Row}
use Rattle.rules.specs.State.{ChangeOf, key_cmp}
use Rattle.std.specs.FinMap.Entries.{below_all}
use Rattle.state_db.specs.Pages.{RowList, home}
use Rattle.state_db.specs.Need.{added, splits, cost, AreOpen}
use Rattle.state_db.proofs.Opened.{bound_at}
use Rattle.state_db.proofs.Counts.{added-le, open_drop, sorted_drop, cost_next, cost_none, none_left}
use Rattle.state_db.proofs.spare.pages_needed.Goals as goal

pub overflow_add-rows-in-loop-edit : goal.overflow_add-rows-in-loop-edit
overflow_add-rows-in-loop-edit c =
    let l = c.loop-edit.left.now in
    let rest = c.split_at.result.1.now in
    let d : RowList = c.index-left-0.result in
    let open_ : AreOpen rest = subst AreOpen (sym c.split_at.ensures.back) (open_drop c.home_from-home.result l c.home_from-home.ensures.bound c.loop-edit.invariant.open_) in
    let few : length d ≤ 256 = subst (λ (x : RowList). length x ≤ 256) (sym c.index-left-0.is) (bound_at rest 0 d open_.bounded open_.some) in
    let one : added c.edit-item.result ≤ 1 = added-le c.edit-item.result in
    omega (arith, few, one)

pub loop-edit-preserved : goal.loop-edit-preserved
loop-edit-preserved c =
    let l = c.loop-edit.left.now in
    let i = c.loop-edit.edit-index in
    let es = c.args.edits.now in
    let e : ChangeOf Row = c.edit-item.result in
    let rest = c.split_at.result.1.now in
    let d : RowList = c.index-left-0.result in
    let lt : i < length es = omega arith in
    let at : c.home_from-home.result ≡ home e.0 l = c.home_from-home.ensures.place ∙ ap (λ k. home k l) c.wanted.ensures in
    let from : rest ≡ drop (home e.0 l) l = c.split_at.ensures.back ∙ ap (λ (n : ℕ). drop n l) at in
    let on : 0 < home e.0 l = omega arith in
    let there : home e.0 l < length l = omega arith in
    let open_ : AreOpen rest = subst AreOpen (sym c.split_at.ensures.back) (open_drop c.home_from-home.result l c.home_from-home.ensures.bound c.loop-edit.invariant.open_) in
    let few : length d ≤ 256 = subst (λ (x : RowList). length x ≤ 256) (sym c.index-left-0.is) (bound_at rest 0 d open_.bounded open_.some) in
    let one : added e ≤ 1 = added-le e in
    let behind : List (ChangeOf Row) = drop (suc i) es in
    let above : below_all key_cmp e.0 behind ≡ true = subst (λ (x : ChangeOf Row). below_all key_cmp x.0 behind ≡ true) (sym c.edit-item.is) (sorted_drop es i e c.requires.edits lt) in
    let split : drop i es ≡ e ∷ behind = drop-cons es i e lt ∙ ap (λ (x : ChangeOf Row). x ∷ behind) (sym c.edit-item.is) in
    let step : cost c.loop-edit.rows l (drop i es) ≡ splits c.loop-edit.rows + cost (length d + added e) rest (drop (i + 1) es) =
    ap (cost c.loop-edit.rows l) split
    ∙ cost_next c.loop-edit.rows l rest d e behind c.loop-edit.invariant.open_ above on there from c.index-left-0.is
    ∙ ap (λ (n : ℕ). splits c.loop-edit.rows + cost (length d + added e) rest (drop n es)) (sym (add-one i)) in
    let now : cost (c.len.result + c.added.result) rest (drop (i + 1) es) ≡ cost (length d + added e) rest (drop (i + 1) es) = (λ j. cost (c.len.ensures j + c.added.ensures j) rest (drop (i + 1) es)) in
    record {
      open_ = open_;
      cost_ = omega (arith, step, now, c.splits-needed.ensures, c.loop-edit.invariant.cost_);
      bound = omega (arith, few, one, c.splits-needed.ensures, c.loop-edit.invariant.bound);
    }

pub returns : goal.returns
returns c =
    let es = c.args.edits.now in
    let over : length es ≤ c.loop-edit.edit-index = omega arith in
    let last : cost c.loop-edit.rows c.loop-edit.left.now (drop c.loop-edit.edit-index es) ≡ splits c.loop-edit.rows =
    ap (cost c.loop-edit.rows c.loop-edit.left.now) (none_left es c.loop-edit.edit-index over) ∙ cost_none c.loop-edit.rows c.loop-edit.left.now c.loop-edit.invariant.open_ in
    omega (arith, last, c.splits.ensures, c.loop-edit.invariant.cost_)
