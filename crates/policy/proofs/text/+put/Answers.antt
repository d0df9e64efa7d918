use Rattle.std.proofs.Common.{◌≡◌, ◌<◌, get_or, length, arith, sym, ◌∙◌, ap, subst, List}
use Rattle.std.specs.Prelude.{string_bytes}
use Rattle.policy.specs.Tree.{Tree}
use Rattle.policy.specs.View.{tree}
use Rattle.policy.proofs.Writing.{write_on, write_end}
use Rattle.policy.proofs.text.+put.Goals as goal

pub loop-i-preserved : goal.loop-i-preserved
loop-i-preserved t c =
    let xs = c.in-Gate.members.items in
    let n : c.in-Gate.members.len ≡ length xs = omega (arith, c.in-Gate.members.ok.0) in
    let same = c.deref-member-items.ensures.value in
    let lt : c.loop-i.i < length xs = omega (arith, ap length same, c.loop-i-test.true) in
    let item : c.member-item.result ≡ get_or xs c.loop-i.i c.member-item.result = subst (λ (ys : List Tree). c.member-item.result ≡ get_or ys c.loop-i.i c.member-item.result) same c.member-item.is in
    rw (c.in_ok-put_separator-in-Gate.ensures, c.in_ok-put-in-Gate.ensures, c.len-in-loop-i.ensures, n) (write_on xs c.loop-i.i c.member-item.result (string_bytes c.loop-i.out) _ lt item c.loop-i.invariant)

pub returns-after-loop-i : goal.returns-after-loop-i
returns-after-loop-i t c =
    let xs = c.in-Gate.members.items in
    let n : c.in-Gate.members.len ≡ length xs = omega (arith, c.in-Gate.members.ok.0) in
    let whole = sym c.expression.view_is ∙ ap tree c.in-Gate.is in
    rw whole (write_end xs c.loop-i.i c.in-Gate.threshold (string_bytes c.args.out.now) (string_bytes c.put_head.new.out) (string_bytes c.loop-i.out) (omega (arith, ap length c.deref-member-items.ensures.value, c.loop-i-test.false)) (rw (c.len.ensures, n) at c.in_ok-put_head-in-Gate.ensures) c.loop-i.invariant)
