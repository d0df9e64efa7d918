use Rattle.std.proofs.Common.{◌≡◌, ◌-◌}
use Rattle.transaction.specs.Combined.{fields_at}
use Rattle.transaction.proofs.FieldLoop.{with_front}
use Rattle.transaction.proofs.field.read_fields.Given as goal

-- what was read before, and what is still read, is what is read of all
abbrev pub invariant-loop : goal.invariant-loop
invariant-loop g l = with_front l.items (fields_at g.T.Field.read_at (l.count - l.counter) l.rest) ≡ fields_at g.T.Field.read_at l.count l.bytes
