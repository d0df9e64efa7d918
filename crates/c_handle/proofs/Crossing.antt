-- What a handle holds may go to another thread, and handles in several threads may share it. As of the rules, this is
-- shown part by part.
use denote.Param.Send.{IsSend, IsSync}
use Rattle.rules.proofs.Crossing.{policy_send, policy_sync, definitions_send, definitions_sync}
use Rattle.world.proofs.Crossing.{crossing, world_send, world_sync}
use Rattle.channel.specs.contracts.configuration.Configuration as configuration
use Rattle.ledger.specs.contracts.ledger.Ledger as ledger
use Rattle.key_book.specs.contracts.key_book.KeyBook as book
use Rattle.c_handle.specs.contracts.kept.Kept as kept
use Rattle.c_handle.specs.contracts.shared_ledger.SharedLedger as shared

configuration_send : IsSend configuration.the_row
configuration_send = search (crossing, policy_send, definitions_send) depth 40 fits 100000

ledger_send : IsSend ledger.the_row
ledger_send = search (crossing, configuration_send, world_send) depth 40 fits 100000

configuration_sync : IsSync configuration.the_row
configuration_sync = search (crossing, policy_sync, definitions_sync) depth 40 fits 100000

ledger_sync : IsSync ledger.the_row
ledger_sync = search (crossing, configuration_sync, world_sync) depth 40 fits 100000

book_send : IsSend book.the_row
book_send = search crossing depth 40 fits 100000

book_sync : IsSync book.the_row
book_sync = search crossing depth 40 fits 100000

shared_send : IsSend shared.the_row
shared_send = search (crossing, ledger_send, ledger_sync) depth 40 fits 100000

pub kept_send : IsSend kept.the_row
kept_send = search (crossing, shared_send, book_send, book_sync) depth 40 fits 100000
