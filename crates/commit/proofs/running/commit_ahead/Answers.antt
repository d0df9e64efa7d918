use Rattle.intake_workers.proofs.Crossing.{part_send}
use Rattle.commit.proofs.Crossing.{crossing, prepared_send}
use Rattle.commit.proofs.running.commit_ahead.Goals as goal

pub new-ahead-requires-send-Y : goal.new-ahead-requires-send-Y
new-ahead-requires-send-Y g c κs within = search (crossing, part_send) depth 40 fits 100000

pub new-ahead-requires-send-X : goal.new-ahead-requires-send-X
new-ahead-requires-send-X g c κs within = search (crossing, prepared_send) depth 40 fits 100000
