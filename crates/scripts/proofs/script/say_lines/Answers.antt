use Rattle.std.proofs.Common.{ap, sym, ◌∙◌}
use Rattle.text_lines.specs.Statements.{view_of}
use Rattle.scripts.specs.Script.{script_from}
use Rattle.scripts.proofs.Steps.{stops, goes}
use Rattle.scripts.proofs.script.say_lines.Goals as goal

pub returns-then-not-branch : goal.returns-then-not-branch
returns-then-not-branch c =
    let version = c.args.version in
    let keys = c.args.keys.now in
    let so_far = c.loop-statement.so_far in
    stops version keys so_far (view_of c.in-Some.statement) c.next.new.self c.go_before.new.self c.say.new.self c.in_ok-say.field-0 c.in_ok-go_before.ensures
    c.if-not-branch.true c.in_ok-say.ensures
    ∙ (sym (ap (script_from version keys so_far) c.in-Some.ensures.steps) ∙ c.loop-statement.invariant)

pub loop-statement-preserved : goal.loop-statement-preserved
loop-statement-preserved c =
    let version = c.args.version in
    let keys = c.args.keys.now in
    let so_far = c.loop-statement.so_far in
    goes version keys so_far (view_of c.in-Some.statement) c.next.new.self c.go_before.new.self c.say.new.self c.in_ok-say.field-0 c.in_ok-go_before.ensures
    c.if-not-branch.false c.in_ok-say.ensures
    ∙ (sym (ap (script_from version keys so_far) c.in-Some.ensures.steps) ∙ c.loop-statement.invariant)
