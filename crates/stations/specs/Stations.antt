-- What the calls do to a station: a receiver, and the memory that it is lent at each call.
use Rattle.std.specs.Prelude.{◌≡◌, List, replicate, None, vec_items}
use Rattle.channels.specs.Channels.{Tuned}
use Rattle.channels.specs.Layings.{laying_line}
use Rattle.channels.specs.declared.channel.Channel.{Channel}
use Rattle.channels.specs.declared.laying.Laying.{Laying}
use Rattle.cost.specs.declared.kind.Cost as cost
use Rattle.link.specs.Calls.{Memory, sizes, Reply, Hears, Misses, Restarts}
use Rattle.link.specs.Rules.{needed}
use Rattle.link.specs.declared.format.Format.{Format}
use Rattle.link.specs.declared.receiver.Receiver.{Receiver}
use Rattle.stations.specs.declared.station.Station.{Station}

-- the memory that a station lends to each call
abbrev pub memory : {C S P : Type 0} → Station C S P → Memory S P
memory s = record { ring = vec_items s.ring; costs = vec_items s.costs; paths = vec_items s.paths; block = vec_items s.block }

module _ {C S P : Type 0} (k : cost.Ghosts C S P) where
  -- memory as large as a receiver asks for: a ring of nothing heard, no cost reached, and zeros
  abbrev pub blank : {L : Type 0} → Format L → Memory S P
  blank f = record {
    ring = replicate (needed f).ring k.NOTHING;
    costs = replicate (needed f).costs None;
    paths = replicate (needed f).paths 0;
    block = replicate (needed f).block 0;
  }

  -- that receiver, with as much memory as it asks for, all blank
  pub record Equipped (r : Receiver C Laying S P) (s : Station C S P) : Type 0 where
    pub holds : s.receiver ≡ r
    pub lends : memory s ≡ blank r.format

  -- a receiver opened for the channel, with as much memory as it asks for, all blank
  pub record Fresh (channel : Channel) (s : Station C S P) : Type 0 where
    pub tuned : Tuned k channel s.receiver
    pub lends : memory s ≡ blank s.receiver.format

  -- a burst heard; the memory stays as large as it was
  pub record HearsHere (samples : List S) (s : Station C S P) (reply : Reply k laying_line) (s' : Station C S P) : Type 0 where
    pub called : Hears k laying_line samples s.receiver (memory s) reply s'.receiver (memory s')
    pub room : sizes (memory s') ≡ sizes (memory s)

  -- a burst missed; the same
  pub record MissesHere (s : Station C S P) (reply : Reply k laying_line) (s' : Station C S P) : Type 0 where
    pub called : Misses k laying_line s.receiver (memory s) reply s'.receiver (memory s')
    pub room : sizes (memory s') ≡ sizes (memory s)

  -- a restart leaves the memory as it was
  pub record RestartsHere (s s' : Station C S P) : Type 0 where
    pub called : Restarts k laying_line s.receiver s'.receiver
    pub kept : memory s' ≡ memory s
