-- What the calls do to a transmitter: a sender, and the memory that it is lent at each send.
use Rattle.std.specs.Prelude.{◌≡◌, ℕ, List, replicate, vec_items}
use Rattle.channels.specs.Channels.{TunedSender}
use Rattle.channels.specs.Layings.{laying_line}
use Rattle.channels.specs.declared.channel.Channel.{Channel}
use Rattle.link.specs.Rules.{sender_needs}
use Rattle.link.specs.Sending.{SenderMemory, sender_sizes, SendReply, Sends}
use Rattle.link.specs.declared.format.Format.{Format}
use Rattle.stations.specs.declared.transmitter.Transmitter.{Transmitter}

-- the memory that a transmitter lends to each send
abbrev pub sender_memory : Transmitter → SenderMemory
sender_memory t = record { ring = vec_items t.ring; burst = vec_items t.burst }

-- memory as large as a sender asks for, all zeros
abbrev pub sender_blank : {L : Type 0} → Format L → SenderMemory
sender_blank f = record { ring = replicate (sender_needs f).ring 0; burst = replicate (sender_needs f).burst 0 }

-- a sender opened for the channel, with as much memory as it asks for, all blank
pub record FreshSender (channel : Channel) (t : Transmitter) : Type 0 where
  pub tuned : TunedSender channel t.sender
  pub lends : sender_memory t ≡ sender_blank t.sender.format

-- a message sent; the memory stays as large as it was
pub record SendsHere (message : List ℕ) (t : Transmitter) (reply : SendReply) (t' : Transmitter) : Type 0 where
  pub called : Sends laying_line message t.sender (sender_memory t) reply t'.sender (sender_memory t')
  pub room : sender_sizes (sender_memory t') ≡ sender_sizes (sender_memory t)
