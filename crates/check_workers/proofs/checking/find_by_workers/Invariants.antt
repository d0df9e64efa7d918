use Rattle.std.proofs.Common.{◌*◌, length}
use Rattle.check_workers.proofs.checking.find_by_workers.Given as goal

abbrev pub ghosts-run : goal.ghosts-run
ghosts-run g a = record { tasks = 2 * length a.lent.now.candidates }
