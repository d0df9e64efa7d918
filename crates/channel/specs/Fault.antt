-- Why a text is no channel text.
use Rattle.std.specs.Prelude.{◌≡◌, ◌⊎◌, ℕ, Option, Some, None, option_map, Result, IsErrAnd}
use Rattle.policy.specs.Fault as policy
use Rattle.policy.specs.Kind.{kind_of}
use Rattle.channel.specs.declared.fault.ChannelFault.{ChannelFault}
use Rattle.channel.specs.declared.fault.ChannelFault.TheVariants.{Line, Repeated, Policy, TooMany, NoChannel, Memory}

-- a fault of the line of this number, or of the whole text
pub data Fault : Type 0 where
  -- the line has none of the forms
  no_form : ℕ → Fault
  -- a second channel or admin line, or a chaincode that is defined already
  repeated : ℕ → Fault
  -- the text of the policy encodes none
  no_policy : ℕ → policy.Fault → Fault
  -- a 257th chaincode
  too_many : ℕ → Fault
  -- no line names the channel
  no_channel : Fault

-- The fault of the text that is returned: of a policy its kind, without the place. Out of memory is none.
abbrev pub fault_of : ChannelFault → Option Fault
fault_of (Line n) = Some (no_form n)
fault_of (Repeated n) = Some (repeated n)
fault_of (Policy n e) = option_map (no_policy n) (kind_of e)
fault_of (TooMany n) = Some (too_many n)
fault_of NoChannel = Some no_channel
fault_of Memory = None

-- The result is the fault that reading a text gives, unless memory ran out.
abbrev pub Refuses : {Y : Type 0} → ChannelFault → Result Y Fault → Type 0
Refuses e reading = (e ≡ Memory) ⊎ IsErrAnd reading (λ f. fault_of e ≡ Some f)
