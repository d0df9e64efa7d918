use Rattle.std.proofs.Common.{inl, inr}
use Rattle.command_line.specs.Ending.{EndsEarly}
use Rattle.command_line.specs.Printed.{Does}
use Rattle.command_line.proofs.Outcomes.{done_or_ended, ends}
use Rattle.command_line.proofs.entry.run_subcommand.Goals as goal

pub returns-clause-done : goal.returns-clause-done
returns-clause-done g c =
    ends (λ status. Does (g.F.Files.holds c.args.files.now) (g.F.Files.written c.args.files.now) c.args.asked.now (g.O.Write.contents c.args.out.now) status (g.O.Write.contents c.perform.new.out))
    c.perform.result c.status_of.result c.perform.ensures.ok c.status_of.ensures.ok c.status_of.ensures.fault

pub returns-clause-ended : goal.returns-clause-ended
returns-clause-ended g c =
    let files = c.args.files.now in
    let before = g.O.Write.contents c.args.out.now in
    let now = g.O.Write.contents c.perform.new.out in
    let known = done_or_ended (λ status. Does (g.F.Files.holds files) (g.F.Files.written files) c.args.asked.now before status now)
    (λ fault. EndsEarly (g.F.Files.holds files) (g.F.Files.unreadable files) (g.F.Files.unwritable files) c.args.asked.now before now fault)
    c.perform.result c.status_of.result c.perform.ensures.ok c.perform.ensures.err c.status_of.ensures.ok c.status_of.ensures.fault in
    elim known [ inl done ↦ inl done | inr ended ↦ inr (record { fault = ended.0; is_status = ended.1; early = ended.2 }) ]
