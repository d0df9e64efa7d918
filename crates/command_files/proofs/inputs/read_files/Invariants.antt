use Rattle.std.proofs.Common.{take}
use Rattle.command_files.specs.Reading.{AreHeld}
use Rattle.command_files.proofs.inputs.read_files.Given as goal

abbrev pub invariant-loop-path : goal.invariant-loop-path
invariant-loop-path g l = AreHeld (λ path. g.F.Files.holds l.files path.now) (take l.path-index l.path-items) l.all.items
