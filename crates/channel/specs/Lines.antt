-- What a contract sees of what a line states. No public contract cites this.
use Rattle.channel.specs.declared.channel_text.Saying as declared
use Rattle.channel.specs.declared.channel_text.Saying.TheVariants.{NamesChannel, Defines, SetsAdmin, NothingKnown}
use Rattle.channel.specs.Text.{Says, names_channel, defines, sets_admin, nothing_known}

-- without its place in memory
abbrev pub seen : declared.Saying → Says
seen (NamesChannel name) = names_channel name
seen (Defines chaincode policy) = defines chaincode policy.now
seen (SetsAdmin policy) = sets_admin policy.now
seen NothingKnown = nothing_known
