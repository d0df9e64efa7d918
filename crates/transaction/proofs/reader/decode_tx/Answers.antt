use Rattle.std.proofs.Common.{arith}
use Rattle.transaction.specs.Grammar.{SpellsTx}
use Rattle.transaction.specs.Reading.{whole_tx_at}
use Rattle.transaction.proofs.Answered.{is_found, is_one, is_one_spelling, is_read, is_form, tx_law, one_tx_spelling}
use Rattle.transaction.proofs.reader.decode_tx.Goals as goal

pub returns-clause-found : goal.returns-clause-found
returns-clause-found c = is_found SpellsTx c.args.bytes.now (whole_tx_at c.args.bytes.now) (tx_law c.args.bytes.now (λ i. omega (arith, c.type_inv.bytes i))) c.read_whole_tx.result c.read_whole_tx.ensures

pub returns-clause-one_tx : goal.returns-clause-one_tx
returns-clause-one_tx c = is_one SpellsTx c.args.bytes.now (whole_tx_at c.args.bytes.now) (tx_law c.args.bytes.now (λ i. omega (arith, c.type_inv.bytes i))) c.read_whole_tx.result c.read_whole_tx.ensures

pub returns-clause-one_spelling : goal.returns-clause-one_spelling
returns-clause-one_spelling c = is_one_spelling SpellsTx c.args.bytes.now (whole_tx_at c.args.bytes.now) (tx_law c.args.bytes.now (λ i. omega (arith, c.type_inv.bytes i))) one_tx_spelling c.read_whole_tx.result c.read_whole_tx.ensures

pub returns-clause-spelled : goal.returns-clause-spelled
returns-clause-spelled c = λ x spells. is_read SpellsTx c.args.bytes.now (whole_tx_at c.args.bytes.now) (tx_law c.args.bytes.now (λ i. omega (arith, c.type_inv.bytes i))) c.read_whole_tx.result x c.read_whole_tx.ensures spells

pub returns-clause-form : goal.returns-clause-form
returns-clause-form c = λ e x spells. is_form SpellsTx c.args.bytes.now (whole_tx_at c.args.bytes.now) (tx_law c.args.bytes.now (λ i. omega (arith, c.type_inv.bytes i))) c.read_whole_tx.result x c.read_whole_tx.ensures e spells
