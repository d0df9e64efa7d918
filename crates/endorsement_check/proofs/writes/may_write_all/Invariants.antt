use Rattle.std.proofs.Common.{◌≡◌, drop, map}
use Rattle.std.specs.List.{list_all}
use Rattle.rules.specs.Assignment.{Assignment, touched_under}
use Rattle.rules.specs.Endorsement.{may_write}
use Rattle.rules.specs.Sure.{Agrees}
use Rattle.endorsement_check.proofs.writes.may_write_all.Given as goal

-- the keys that are left decide
abbrev pub invariant-loop-place : goal.invariant-loop-place
invariant-loop-place g l = record {
  moves : g.B.Board.moves l.initial.board l.board;
  left : (called : Assignment) → Agrees (g.B.Board.known l.board).endorsed l.i called
      → list_all (may_write l.job.definitions l.job.state (touched_under l.job called l.i) l.signers) (map (λ w. w.key) l.written)
      ≡ list_all (may_write l.job.definitions l.job.state (touched_under l.job called l.i) l.signers) (map (λ w. w.key) (drop l.place l.written));
}
