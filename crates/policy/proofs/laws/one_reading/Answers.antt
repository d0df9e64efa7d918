use Rattle.policy.proofs.Readings.{one_tree, one_fault, tree_or_fault, reading_or_fault}
use Rattle.policy.proofs.laws.one_reading.Goals as goal

pub returns : goal.returns
returns c = record { one_tree = one_tree; one_fault = one_fault; tree_or_fault = tree_or_fault; each_text = reading_or_fault }
