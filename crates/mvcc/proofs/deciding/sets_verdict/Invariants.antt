use Rattle.std.proofs.Common.{drop}
use Rattle.std.specs.Prelude.{IsTrue}
use Rattle.std.specs.List.{list_all}
use Rattle.rules.specs.ReadWriteSets.{is_set_in_form}
use Rattle.rules.specs.Job.{candidate_at}
use Rattle.key_chains.specs.Job.{read_by}
use Rattle.mvcc.proofs.NumberedReads.{AreNext}
use Rattle.mvcc.proofs.FirstFault.{SetsLeft}
use Rattle.mvcc.proofs.deciding.sets_verdict.Given as goal

abbrev pub invariant-loop-set : goal.invariant-loop-set
invariant-loop-set g l = record {
  moves : g.B.Board.moves l.initial.board l.board;
  in_form : IsTrue (list_all is_set_in_form (drop l.set-index l.sets));
  next : AreNext (read_by (candidate_at l.job l.i)) l.first (drop l.set-index l.sets);
  left : SetsLeft l.job (g.B.Board.known l.board) l.i l.sets (drop l.set-index l.sets);
}
