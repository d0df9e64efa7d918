use Rattle.std.proofs.Common.{◌≡◌, ◌+◌, [], if◌then◌else◌}
use Rattle.std.proofs.lemmas.List.{get_or_read}
use Rattle.reasons.specs.declared.reason.Reason.TheVariants.{NoFault}
use Rattle.cli_lines.proofs.Written.{then_whole}
use Rattle.dot_lines.specs.Graph.{reason_at, is_shown, place_lines, first_lines}
use Rattle.dot_lines.proofs.Marking.{all_are, by_edge, lines_more}
use Rattle.dot_lines.proofs.graph.write_places.Goals as goal
use Rattle.dot_lines.proofs.graph.write_places.Goals.{then-all, else-all}

pub loop-place-preserved : goal.loop-place-preserved
loop-place-preserved g c =
    let holds = g.W.Write.contents in
    let reasons = c.args.reasons.now in
    let place = c.loop-place.place in
    let reason = c.index-reasons-place.result in
    let at_place : reason ≡ reason_at reasons place = get_or_read reasons place reason c.loop-place-test.true c.index-reasons-place.is NoFault in
    let shown : c.if-all.shown ≡ is_shown c.args.all reasons place =
    elim c.if-all.branch [
      | then-all w ↦ all_are c.args.all c.if-all.shown _ w.shown-is w.if-all.true
      | else-all w ↦ by_edge c.args.all c.if-all.shown w.has_edge-shown.result _ reasons place reason w.shown-is w.has_edge-shown.ensures (c.requires.each place c.loop-place-test.true) at_place w.if-all.false
    ] in
    then_whole (holds c.args.out.now) (holds c.loop-place.out) (holds c.write_where.new.out)
    (first_lines c.args.all reasons place) (if c.if-all.shown then place_lines place reason else []) (first_lines c.args.all reasons (place + 1))
    c.loop-place.invariant c.in_ok-write_where.ensures (lines_more c.args.all c.if-all.shown reasons place reason shown at_place)
