use Rattle.std.proofs.Common.{arith}
use Rattle.transaction.proofs.UpdateLaws.{item_taken, item_of_two}
use Rattle.transaction.proofs.item_reader.read_whole_item.Goals as goal

pub new-requires : goal.new-requires
new-requires c =
    item_of_two c.args.version c.args.bytes.now c.in-Ok.item (item_taken c.args.version c.args.bytes.now c.in-Ok.item (λ i. omega (arith, c.type_inv.bytes i)) c.in-Ok.ensures)
