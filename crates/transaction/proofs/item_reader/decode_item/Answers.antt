use Rattle.std.proofs.Common.{arith}
use Rattle.transaction.specs.Items.{SpellsItem, item_of}
use Rattle.transaction.proofs.Answered.{is_found, is_one, is_one_spelling, is_read, is_form}
use Rattle.transaction.proofs.UpdateLaws.{item_law, one_item_spelling}
use Rattle.transaction.proofs.item_reader.decode_item.Goals as goal

pub returns-clause-found : goal.returns-clause-found
returns-clause-found c =
    let version = c.args.version in
    let bytes = c.args.bytes.now in
    let law = item_law version bytes (λ i. omega (arith, c.type_inv.bytes i)) in
    is_found (SpellsItem version) bytes (item_of version bytes) law c.read_whole_item.result c.read_whole_item.ensures

pub returns-clause-one_item : goal.returns-clause-one_item
returns-clause-one_item c =
    let version = c.args.version in
    let bytes = c.args.bytes.now in
    let law = item_law version bytes (λ i. omega (arith, c.type_inv.bytes i)) in
    is_one (SpellsItem version) bytes (item_of version bytes) law c.read_whole_item.result c.read_whole_item.ensures

pub returns-clause-one_spelling : goal.returns-clause-one_spelling
returns-clause-one_spelling c =
    let version = c.args.version in
    let bytes = c.args.bytes.now in
    let law = item_law version bytes (λ i. omega (arith, c.type_inv.bytes i)) in
    is_one_spelling (SpellsItem version) bytes (item_of version bytes) law (one_item_spelling version) c.read_whole_item.result c.read_whole_item.ensures

pub returns-clause-spelled : goal.returns-clause-spelled
returns-clause-spelled c =
    let version = c.args.version in
    let bytes = c.args.bytes.now in
    let law = item_law version bytes (λ i. omega (arith, c.type_inv.bytes i)) in
    λ x spells. is_read (SpellsItem version) bytes (item_of version bytes) law c.read_whole_item.result x c.read_whole_item.ensures spells

pub returns-clause-form : goal.returns-clause-form
returns-clause-form c =
    let version = c.args.version in
    let bytes = c.args.bytes.now in
    let law = item_law version bytes (λ i. omega (arith, c.type_inv.bytes i)) in
    λ e x spells. is_form (SpellsItem version) bytes (item_of version bytes) law c.read_whole_item.result x c.read_whole_item.ensures e spells
