-- What may cross threads, of what all types of a ledger are made of. Where a type holds a policy, which is a tree, the search for
-- this is too long as a whole, so it goes part by part: a policy, and the policies of chaincodes, have theirs here.
use denote.Param.Send.{IsSend, IsSync, sendable}
use Rattle.std.proofs.Crossing.{crosses}
use Rattle.std.proofs.MapsCrossing as maps
use Rattle.std.proofs.option.Option.TheSendSync as option
use Rattle.std.proofs.alloc.Global.TheSendSync as heap
use Rattle.std.proofs.vec.Vec.TheSendSync as vec
use Rattle.values.proofs.bytes.Bytes.TheSendSync as bytes
use Rattle.values.proofs.items.Items.TheSendSync as items
use Rattle.values.proofs.name.Name.TheSendSync as name
use Rattle.values.proofs.shared.Shared.TheSendSync as shared
use Rattle.transaction.proofs.transaction.Version.TheSendSync as version
use Rattle.policy.proofs.tree.Expression.TheLaws.TheKnot as knot
use Rattle.policy.proofs.tree.Principal.TheSendSync as principal
use Rattle.policy.specs.contracts.definitions.Definitions as definitions
use Rattle.policy.specs.contracts.policy.Policy as policy
use Rattle.rules.proofs.flag.Flag.TheSendSync as flag
use Rattle.rules.specs.contracts.delta.NewDefinition as new_definition
use Rattle.rules.specs.contracts.kept_entry.KeptEntry as kept_entry

pub ruleset crossing = (
  sendable,
  crosses,
  option.the_send,
  option.the_sync,
  heap.the_send,
  heap.the_sync,
  vec.the_send,
  vec.the_sync,
  bytes.the_send,
  bytes.the_sync,
  items.the_send,
  items.the_sync,
  name.the_send,
  name.the_sync,
  shared.the_send,
  shared.the_sync,
  version.the_send,
  version.the_sync,
  flag.the_send,
  flag.the_sync,
)

-- what a policy is made of
ruleset in_policies = (principal.the_send, principal.the_sync, knot.send-Expression, knot.sync-Expression)

pub policy_send : IsSend policy.the_row
policy_send = search (crossing, in_policies) depth 40 fits 100000

pub policy_sync : IsSync policy.the_row
policy_sync = search (crossing, in_policies) depth 40 fits 100000

pub definitions_send : IsSend definitions.the_row
definitions_send = search (crossing, maps.crosses, policy_send) depth 40 fits 100000

pub definitions_sync : IsSync definitions.the_row
definitions_sync = search (crossing, maps.crosses, policy_sync) depth 40 fits 100000

pub new_definition_send : IsSend new_definition.the_row
new_definition_send = search (crossing, policy_send, policy_sync) depth 40 fits 100000

pub new_definition_sync : IsSync new_definition.the_row
new_definition_sync = search (crossing, policy_send, policy_sync) depth 40 fits 100000

pub kept_entry_send : IsSend kept_entry.the_row
kept_entry_send = search (crossing, policy_send, policy_sync) depth 40 fits 100000

pub kept_entry_sync : IsSync kept_entry.the_row
kept_entry_sync = search (crossing, policy_send, policy_sync) depth 40 fits 100000
