use Rattle.std.proofs.Common.{arith}
use Rattle.transaction.specs.Grammar.{SpellsIdentity}
use Rattle.transaction.specs.Reading.{identity_at, all_at}
use Rattle.transaction.proofs.Answered.{is_found, is_one, is_one_spelling, is_read, is_form, identity_law, one_identity_spelling}
use Rattle.transaction.proofs.reader.decode_identity.Goals as goal

pub returns-clause-found : goal.returns-clause-found
returns-clause-found c = is_found SpellsIdentity c.args.bytes.now (all_at identity_at c.args.bytes.now) (identity_law c.args.bytes.now (λ i. omega (arith, c.type_inv.bytes i))) c.read_whole_identity.result c.read_whole_identity.ensures

pub returns-clause-one_identity : goal.returns-clause-one_identity
returns-clause-one_identity c = is_one SpellsIdentity c.args.bytes.now (all_at identity_at c.args.bytes.now) (identity_law c.args.bytes.now (λ i. omega (arith, c.type_inv.bytes i))) c.read_whole_identity.result c.read_whole_identity.ensures

pub returns-clause-one_spelling : goal.returns-clause-one_spelling
returns-clause-one_spelling c = is_one_spelling SpellsIdentity c.args.bytes.now (all_at identity_at c.args.bytes.now) (identity_law c.args.bytes.now (λ i. omega (arith, c.type_inv.bytes i))) one_identity_spelling c.read_whole_identity.result c.read_whole_identity.ensures

pub returns-clause-spelled : goal.returns-clause-spelled
returns-clause-spelled c = λ x spells. is_read SpellsIdentity c.args.bytes.now (all_at identity_at c.args.bytes.now) (identity_law c.args.bytes.now (λ i. omega (arith, c.type_inv.bytes i))) c.read_whole_identity.result x c.read_whole_identity.ensures spells

pub returns-clause-form : goal.returns-clause-form
returns-clause-form c = λ e x spells. is_form SpellsIdentity c.args.bytes.now (all_at identity_at c.args.bytes.now) (identity_law c.args.bytes.now (λ i. omega (arith, c.type_inv.bytes i))) c.read_whole_identity.result x c.read_whole_identity.ensures e spells
