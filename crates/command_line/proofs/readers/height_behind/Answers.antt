use Rattle.std.proofs.Common.{◌≡◌, ◌≤◌, ◌∙◌, Option, length, ap, subst, sym, arith}
use Rattle.rules.specs.World.{height_of}
use Rattle.query.specs.declared.receipt.Receipt.{Receipt}
use Rattle.query.specs.Published.{Watch, watched_world}
use Rattle.command_line.specs.Handing.{known_list}
use Rattle.command_line.proofs.Heights.{finds, learned}
use Rattle.command_line.proofs.readers.height_behind.Goals.{in-Some, in_default}
use Rattle.command_line.proofs.readers.height_behind.Goals as goal

pub returns : goal.returns
returns c =
    let last = c.args.last.now in
    let answer : c.result.inside.answer ≡ height_of (watched_world c.height.new.self) = ap (λ r. r.answer) c.result.view_is ∙ ap (λ r. r.answer) c.in_ok-height.ensures.reply in
    let knew : length (known_list last) ≤ length c.match-last.handle.list = elim c.match-last.branch [
      | in-Some w ↦ subst (λ (l : Option Receipt). length (known_list l) ≤ length c.match-last.handle.list) (sym w.in-Some.is)
          (subst (λ (h : Watch). length w.in-Some.receipt.front.list ≤ length h.list) (sym w.handle-is) (learned w.in-Some.receipt c.args.handle w.learn.new.self w.learn.ensures))
      | in_default w ↦ subst (λ (l : Option Receipt). length (known_list l) ≤ length c.match-last.handle.list) (sym w.in_default.is) (omega arith)
    ] in
    finds (known_list last) c.match-last.handle c.height.new.self c.result.inside.answer knew c.in_ok-height.ensures.goes_on answer
