use Rattle.std.proofs.Common.{arith}
use Rattle.block.specs.declared.fault.BlockFault.TheVariants.{BadMagic, Truncated}
use Rattle.block.proofs.Answered.{is_spelled, is_one_block, is_one_spelling, is_read, is_faulty, is_refused}
use Rattle.block.proofs.Cuts.{cut_magic, cut_behind_magic}
use Rattle.block.proofs.reader.decode_block.Goals as goal

pub returns-clause-found : goal.returns-clause-found
returns-clause-found c = is_spelled c.args.bytes.now c.read_block.result (λ i. omega (arith, c.type_inv.bytes i)) c.read_block.ensures

pub returns-clause-one_block : goal.returns-clause-one_block
returns-clause-one_block c = is_one_block c.args.bytes.now c.read_block.result c.read_block.ensures

pub returns-clause-one_spelling : goal.returns-clause-one_spelling
returns-clause-one_spelling c = is_one_spelling c.args.bytes.now c.read_block.result (λ i. omega (arith, c.type_inv.bytes i)) c.read_block.ensures

pub returns-clause-spelled : goal.returns-clause-spelled
returns-clause-spelled c = λ b spells. is_read c.args.bytes.now c.read_block.result b c.read_block.ensures spells

pub returns-clause-fault : goal.returns-clause-fault
returns-clause-fault c = is_faulty c.args.bytes.now c.read_block.result (λ i. omega (arith, c.type_inv.bytes i)) c.read_block.ensures

pub returns-clause-faulty : goal.returns-clause-faulty
returns-clause-faulty c = λ f faulty. is_refused c.args.bytes.now c.read_block.result f c.read_block.ensures faulty

pub returns-clause-cut_magic : goal.returns-clause-cut_magic
returns-clause-cut_magic c = λ rest b spells short. is_refused c.args.bytes.now c.read_block.result BadMagic c.read_block.ensures (cut_magic c.args.bytes.now rest b spells short)

pub returns-clause-cut : goal.returns-clause-cut
returns-clause-cut c = λ rest b spells some_left long. is_refused c.args.bytes.now c.read_block.result Truncated c.read_block.ensures (cut_behind_magic c.args.bytes.now rest b (λ i. omega (arith, c.type_inv.bytes i)) spells some_left long)
