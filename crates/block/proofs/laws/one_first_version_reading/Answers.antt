use Rattle.block.proofs.FirstLaws.{one_block, one_spelling, one_fault, block_or_fault, some_reading}
use Rattle.block.proofs.laws.one_first_version_reading.Goals as goal

pub returns : goal.returns
returns c = record { one_block = one_block; one_spelling = one_spelling; one_fault = one_fault; block_or_fault = block_or_fault; some_reading = some_reading }
