use Rattle.std.proofs.Common.{arith, [], subst}
use Rattle.std.proofs.lemmas.Result.{err_from_is_err_and}
use Rattle.command_files.specs.Failing.{FilesFail, IsUnread}
use Rattle.command_files.proofs.Failing.{FilesFail-at, because}
use Rattle.command_files.proofs.Reading.{AreHeld-more}
use Rattle.command_files.proofs.inputs.read_files.Goals as goal

pub loop-path-preserved : goal.loop-path-preserved
loop-path-preserved g c =
    AreHeld-more (λ path. g.F.Files.holds c.args.files.now path.now) c.deref-path-items.result.now c.loop-path.path-index (record { ref_ptr = (0, 0); now = [] }) c.loop-path.all.items c.push.new.self.items c.in_ok-read_file.field-0
    (omega (arith, c.loop-path-test.true)) c.loop-path.invariant c.in_ok-read_file.ensures.ok c.in_ok-push.ensures.items

pub returns-in_err-read_file-clause-err : goal.returns-in_err-read_file-clause-err
returns-in_err-read_file-clause-err g c =
    let p = err_from_is_err_and c.from_residual.result c.from_residual.ensures.1 in
    rw (p.1, p.2) (because _ _ (λ what fails.
    subst (λ paths. FilesFail (λ path. g.F.Files.holds c.args.files.now path.now) (λ path. IsUnread (g.F.Files.unreadable c.args.files.now path.now) path.now) paths what) c.deref-path-items.ensures.value
    (FilesFail-at (λ path. g.F.Files.holds c.args.files.now path.now) (λ path. IsUnread (g.F.Files.unreadable c.args.files.now path.now) path.now) c.deref-path-items.result.now c.loop-path.path-index (record { ref_ptr = (0, 0); now = [] })
    c.loop-path.all.items what (omega (arith, c.loop-path-test.true)) c.loop-path.invariant fails)) c.in_err-read_file.field-0.0 c.in_err-read_file.ensures.err)
