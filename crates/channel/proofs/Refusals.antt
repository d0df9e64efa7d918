-- A rejected line is a rejected text.
use Rattle.std.proofs.Common.{Result, Ok, Err, inl, inr}
use Rattle.channel.specs.declared.fault.ChannelFault.{ChannelFault}
use Rattle.channel.specs.Fault.{Fault, Refuses}
use Rattle.channel.specs.Text.{SoFar, said_next}

pub refused_next : (f : SoFar → Result SoFar Fault) (e : ChannelFault) (r : Result SoFar Fault) → Refuses e r → Refuses e (said_next f r)
refused_next f e (Ok so_far) (inl memory) = inl memory
refused_next f e (Ok so_far) (inr of) = absurd of
refused_next f e (Err fault) h = h
