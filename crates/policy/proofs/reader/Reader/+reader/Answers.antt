use Rattle.std.proofs.Common.{refl, arith, ◌-◌}
use Rattle.std.proofs.lemmas.Result.{err_from_is_err_and}
use Rattle.policy.specs.Outcome.{asked}
use Rattle.policy.specs.Reading.{Read, expression_by, gate_at}
use Rattle.policy.specs.Tree.{Tree}
use Rattle.policy.proofs.Loop.{gate_none, gate_head_refused, gate_members_refused, gate_closed, member_refused, separator_refused, members_end, members_go_on, members_full}
use Rattle.policy.proofs.reader.Reader.+reader.Goals as goal

pub gate-returns-then-gates-eq0 : goal.gate-returns-then-gates-eq0
gate-returns-then-gates-eq0 t c = gate_none _ _ _ _ c.if-gates-eq0.true

pub gate-returns-in_err-asked : goal.gate-returns-in_err-asked
gate-returns-in_err-asked t c =
    let p = err_from_is_err_and c.from_residual.result c.from_residual.ensures.1 in
    let s = c.args.self.now in
    rw (p.1, p.2) (gate_head_refused c.args.gates (c.args.gates - 1) (omega arith) c.args.word s.principals s.principals refl s.rest.now c.in_err-asked.field-0.0 c.in_err-asked.ensures.read)

pub gate-returns-in_err-members : goal.gate-returns-in_err-members
gate-returns-in_err-members t c =
    let p = err_from_is_err_and c.from_residual-in_err-members.result c.from_residual-in_err-members.ensures.1 in
    let s = c.args.self.now in
    rw (p.1, p.2) (gate_members_refused c.args.gates (c.args.gates - 1) (omega arith) c.args.word s.principals c.head.new.self.principals c.in_ok-asked.ensures.principals s.rest.now c.in_err-members.field-0.0 (asked c.in_ok-asked.asked) c.head.new.self.rest.now c.in_ok-asked.ensures.read c.in_err-members.ensures.read)

pub gate-returns : goal.gate-returns
gate-returns t c =
    let s = c.args.self.now in
    gate_closed c.args.gates (c.args.gates - 1) (omega arith) c.args.word s.principals c.head.new.self.principals c.in_ok-asked.ensures.principals s.rest.now (asked c.in_ok-asked.asked) c.head.new.self.rest.now (record { value = c.in_ok-members.members.items; principals = c.members.new.self.principals; rest = c.members.new.self.rest.now }) c.closed.result c.in_ok-asked.ensures.read c.in_ok-members.ensures.read c.closed.ensures

pub members-returns-in_err-member-clause-read : goal.members-returns-in_err-member-clause-read
members-returns-in_err-member-clause-read t c =
    let p = err_from_is_err_and c.from_residual.result c.from_residual.ensures.1 in
    rw (p.1, p.2) (member_refused (expression_by (gate_at c.args.gates)) c.loop.members.items c.loop.counter c.loop.self.principals c.loop.self.rest.now _ c.loop.invariant.same (omega arith) c.in_err-member.field-0.0 c.in_err-member.ensures)

pub members-returns-in_err-goes_on-clause-read : goal.members-returns-in_err-goes_on-clause-read
members-returns-in_err-goes_on-clause-read t c =
    let p = err_from_is_err_and c.from_residual-in_err-goes_on.result c.from_residual-in_err-goes_on.ensures.1 in
    let first : Read Tree = record { value = c.in_ok-member.member; principals = c.expression.new.self.principals; rest = c.expression.new.self.rest.now } in
    rw (p.1, p.2) (separator_refused (expression_by (gate_at c.args.gates)) c.loop.members.items c.loop.counter c.loop.self.principals c.loop.self.rest.now _ c.loop.invariant.same (omega arith) c.in_err-goes_on.field-0.0 first c.in_ok-member.ensures c.in_err-goes_on.ensures.read)

pub members-returns-then-not-branch-clause-read : goal.members-returns-then-not-branch-clause-read
members-returns-then-not-branch-clause-read t c =
    let first : Read Tree = record { value = c.in_ok-member.member; principals = c.expression.new.self.principals; rest = c.expression.new.self.rest.now } in
    let s = rw c.if-not-branch.true at c.in_ok-goes_on.ensures.read in
    rw (c.in_ok-push.ensures.items, c.in_ok-goes_on.ensures.principals) (members_end (expression_by (gate_at c.args.gates)) c.loop.members.items c.loop.counter c.loop.self.principals c.loop.self.rest.now _ c.loop.invariant.same (omega arith) first c.goes_on.new.self.rest.now c.in_ok-member.ensures s)

pub members-loop-preserved : goal.members-loop-preserved
members-loop-preserved t c =
    let first : Read Tree = record { value = c.in_ok-member.member; principals = c.expression.new.self.principals; rest = c.expression.new.self.rest.now } in
    let s = rw c.if-not-branch.false at c.in_ok-goes_on.ensures.read in
    record {
      few = omega (arith, c.in_ok-push.ensures.len);
      same = rw (c.in_ok-push.ensures.items, c.in_ok-goes_on.ensures.principals) (members_go_on (expression_by (gate_at c.args.gates)) c.loop.members.items c.loop.counter c.loop.self.principals c.loop.self.rest.now _ c.loop.invariant.same (omega arith) first c.goes_on.new.self.rest.now c.in_ok-member.ensures s);
    }

pub members-returns-clause-read : goal.members-returns-clause-read
members-returns-clause-read t c = members_full (expression_by (gate_at c.args.gates)) c.loop.members.items c.loop.counter c.loop.self.principals c.loop.self.rest.now _ c.loop.invariant.same (omega arith)
