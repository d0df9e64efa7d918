use Rattle.std.proofs.Common.{◌<◌, false, Some, length, ap, ◌∙◌, arith}
use Rattle.std.specs.Prelude.{slice_set}
use Rattle.rules.specs.declared.flag.Flag.{Flag}
use Rattle.key_chains.specs.declared.plain_board.Cells.{Cells}
use Rattle.dependency.proofs.Beginning.{begun-flagged, begun-open, begun-all}
use Rattle.dependency.proofs.events.first_board.Goals as goal
use Rattle.dependency.proofs.events.first_board.Goals.{in-Some, in_default}

abbrev cells : Flag → Cells
cells f = record { endorsed = Some false; flag = Some f }

pub loop-i-preserved : goal.loop-i-preserved
loop-i-preserved c =
    let lt : c.loop-i.i < length c.args.job.now.candidates = omega (arith, c.len-count.ensures.value) in
    elim c.match-flagged.branch [
      | in-Some w ↦ begun-flagged c.args.job.now c.loop-i.i w.in-Some.flag c.loop-i.board w.set.new.self c.match-flagged.board c.loop-i.invariant lt w.in-Some.ensures
          (w.set.ensures ∙ ap (λ (f : Flag). slice_set c.loop-i.board c.loop-i.i (cells f)) w.flag.ensures) w.board-is
      | in_default w ↦ begun-open c.args.job.now c.loop-i.i c.loop-i.board c.match-flagged.board c.loop-i.invariant w.in_default.ensures w.board-is
    ]

pub returns : goal.returns
returns c = begun-all c.args.job.now c.loop-i.i c.loop-i.board c.loop-i.invariant (omega (arith, c.len-count.ensures.value))
