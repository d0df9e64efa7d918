use Rattle.std.proofs.Common.{rules, ◌≡◌, ◌≤◌, [], ◌∷◌, Some, length, get_or, refl, sym, ap, subst, ◌∙◌, arith}
use Rattle.std.specs.Vec.Iter.{into_iter_items}
use Rattle.rules.specs.declared.row.Row.{Row}
use Rattle.rules.specs.State.{StateKey, ChangeOf}
use Rattle.state_db.specs.Search.{Keyed, IsSorted}
use Rattle.state_db.specs.Pages.{home}
use Rattle.state_db.specs.Need.{need}
use Rattle.state_db.proofs.Needs.{need_full}
use Rattle.state_db.specs.Steps.{IsPassed}
use Rattle.state_db.proofs.Passed.{first_passed, next_passed, above_first}
use Rattle.state_db.proofs.apply.make_all.Goals as goal

pub put-at-requires-clause-stock : goal.put-at-requires-clause-stock
put-at-requires-clause-stock c = λ full.
    let ps = c.loop-edit.pages.items in
    let e : ChangeOf Row = (c.in-Put.row.0, Some c.in-Put.row.1) in
    let rest = into_iter_items c.next.new.self in
    let here : 256 ≤ length (get_or ps (home c.in-Put.row.0 ps) []) = subst (λ (r : Keyed Row). 256 ≤ length (get_or ps (home r.0 ps) [])) c.with_head.ensures full in
    let one : 1 ≤ need ps (e ∷ rest) = need_full ps e rest [] c.loop-edit.invariant.open_.some refl here in
    let same : need ps (into_iter_items c.loop-edit.edit-iterator) ≡ need ps (e ∷ rest) = ap (need ps) (c.in-Some.ensures.steps.0 ∙ ap (λ (x : ChangeOf Row). x ∷ rest) (sym c.in-Put.ensures)) in
    omega (arith, one, same, c.loop-edit.invariant.stock)

pub loop-edit-init : goal.loop-edit-init
loop-edit-init c = record {
  rows = search rules;
  sorted = search rules;
  open_ = search rules;
  empty_ = search rules;
  stock = search rules;
  passed = first_passed (into_iter_items c.into_iter-edit-iterator.result) c.args.pages.now.items;
  room = search rules;
}

pub loop-edit-preserved-in-Put : goal.loop-edit-preserved-in-Put
loop-edit-preserved-in-Put c =
    let rest = into_iter_items c.next.new.self in
    let e : ChangeOf Row = c.in-Some.edit in
    let key : c.with_head.result.0 ≡ e.0 = ap (λ (r : Keyed Row). r.0) c.with_head.ensures ∙ ap (λ (x : ChangeOf Row). x.0) c.in-Put.ensures in
    let sorted : IsSorted (e ∷ rest) = subst IsSorted c.in-Some.ensures.steps.0 c.loop-edit.invariant.sorted in
    record {
      rows = search rules;
      sorted = search rules;
      open_ = search rules;
      empty_ = search rules;
      stock = search rules;
      passed = next_passed e.0 rest c.put-at.new.pages.items c.put-at.result (above_first e rest sorted) (subst (λ (k : StateKey). IsPassed k c.put-at.new.pages.items c.put-at.result) key c.put-at.ensures.passed);
      room = search rules;
    }

pub loop-edit-preserved : goal.loop-edit-preserved
loop-edit-preserved c =
    let rest = into_iter_items c.next.new.self in
    let e : ChangeOf Row = c.in-Some.edit in
    let key : c.with_head-in-Remove.result ≡ e.0 = c.with_head-in-Remove.ensures ∙ (λ i. (c.namespace.ensures i, (c.as_slice.ensures.value ∙ c.key-key.ensures) i)) ∙ ap (λ (x : ChangeOf Row). x.0) c.in-Remove.ensures in
    let sorted : IsSorted (e ∷ rest) = subst IsSorted c.in-Some.ensures.steps.0 c.loop-edit.invariant.sorted in
    record {
      rows = search rules;
      sorted = search rules;
      open_ = search rules;
      empty_ = search rules;
      stock = search rules;
      passed = next_passed e.0 rest c.remove-at.new.pages.items c.remove-at.result (above_first e rest sorted) (subst (λ (k : StateKey). IsPassed k c.remove-at.new.pages.items c.remove-at.result) key c.remove-at.ensures.passed);
      room = search rules;
    }
