use Rattle.std.proofs.lemmas.Result.{IfErr-weaker, IfOk-weaker}
use Rattle.std.proofs.result.Result.TheSendSync as result
use Rattle.command_files.proofs.fault.Fault.TheSendSync as fault
use Rattle.rules.proofs.Crossing.{crossing}
use Rattle.command_files.specs.Failing.{IsUnread}
use Rattle.command_line.proofs.FilesRead.{all_held, first_fails}
use Rattle.command_line.proofs.reading.read_blocks.Goals as goal

pub in_pieces-requires-send-X : goal.in_pieces-requires-send-X
in_pieces-requires-send-X g c κs within = search (crossing, result.the_send, fault.the_send) depth 40 fits 100000

pub returns-clause-ok : goal.returns-clause-ok
returns-clause-ok g c =
    IfOk-weaker c.all_found.result _ _ (λ all are.
    all_held (λ path. g.F.Files.holds c.args.files.now path.now) (λ path. IsUnread (g.F.Files.unreadable c.args.files.now path.now) path.now) _ _ _ _ c.as_slice.ensures.value are c.in_ok-found.ensures) c.all_found.ensures.ok

pub returns-clause-err : goal.returns-clause-err
returns-clause-err g c =
    IfErr-weaker c.all_found.result _ _ (λ fault first.
    first_fails (λ path. g.F.Files.holds c.args.files.now path.now) (λ path. IsUnread (g.F.Files.unreadable c.args.files.now path.now) path.now) _ _ _ fault c.as_slice.ensures.value c.in_ok-found.ensures first) c.all_found.ensures.err
