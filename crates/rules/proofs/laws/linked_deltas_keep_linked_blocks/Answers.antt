use Rattle.rules.proofs.Deltas.{delta-is_linked, block_of_linked}
use Rattle.rules.proofs.laws.linked_deltas_keep_linked_blocks.Goals as goal

pub returns : goal.returns
returns c = record {
  of_a_block = delta-is_linked;
  its_block = λ w b d linked spelled. block_of_linked w b d linked (c.one_reading.ensures.one_block d.block.bytes linked.block b linked.spelled spelled);
}
