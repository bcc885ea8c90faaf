-- The channels: what each one sets, and what a receiver or a sender opened for it is.
use Rattle.std.specs.Prelude.{◌≡◌, ℕ, ◌*◌, ◌<◌, Bool, true, false, List, [], length, Option, slice_index_or}
use Rattle.cost.specs.declared.kind.Cost as cost
use Rattle.line.specs.Interleaver.{interleaved}
use Rattle.line.specs.Unpunctured.{in_order}
use Rattle.puncture.specs.Patterns.{numbered}
use Rattle.puncture.specs.Masks.{pattern}
use Rattle.line.specs.Scrambler.{scrambled}
use Rattle.link.specs.BothEnds.{Alike, FirstRowSent}
use Rattle.link.specs.Opening.{Opened, SenderOpened}
use Rattle.link.specs.Rules.{lengths_suit, line_suits, steps_of}
use Rattle.link.specs.Streams.{Stream}
use Rattle.link.specs.declared.proposal.Proposal.{Proposal}
use Rattle.link.specs.declared.receiver.Receiver.{Receiver}
use Rattle.link.specs.declared.sender.Sender.{Sender}
use Rattle.trellis.specs.Codes.{sound}
use Rattle.trellis.specs.declared.code.Code.{Code}
use Rattle.channels.specs.Layings.{laying_line}
use Rattle.channels.specs.Standard.{StandardBurst, standard}
use Rattle.channels.specs.Tables.{bench_code, half_code, fifth_code, data24_masks, data96_masks}
use Rattle.channels.specs.declared.channel.Channel.{Channel}
use Rattle.channels.specs.declared.channel.Channel.TheVariants.{Bench, Bcch, Data24, Data96}
use Rattle.channels.specs.declared.laying.Laying.{Laying}

-- what a channel sets: its code, the lengths of a block, how many bursts carry it, and where each coded bit goes
pub record Terms : Type 0 where
  pub code : Code
  pub message : ℕ
  pub parity : ℕ
  pub depth : ℕ
  -- how many coded bits a block has
  pub coded : ℕ
  -- how many bits a burst has
  pub burst : ℕ
  -- where coded bit j goes, and whether it is turned over there
  pub place : ℕ → Option (ℕ × Bool)

-- the bench: every bit kept, interleaved
abbrev pub bench_terms : Terms
bench_terms = record {
  code = bench_code;
  message = 6;
  parity = 0;
  depth = 1;
  coded = 16;
  burst = 16;
  place = λ j. interleaved 16 (in_order 16 j);
}

-- the broadcast control channel: every bit kept, interleaved and scrambled
abbrev pub bcch_terms : Terms
bcch_terms = record {
  code = half_code;
  message = 192;
  parity = 16;
  depth = 1;
  coded = 424;
  burst = 424;
  place = λ j. scrambled (interleaved 424 (in_order 424 j));
}

-- the 2.4 kbit/s data channel: punctured, interleaved and scrambled
abbrev pub data24_terms : Terms
data24_terms = record {
  code = fifth_code;
  message = 144;
  parity = 0;
  depth = 3;
  coded = 740;
  burst = 648;
  place = λ j. scrambled (interleaved 648 (numbered (pattern data24_masks) j));
}

-- the 9.6 kbit/s data channel: punctured, interleaved and scrambled
abbrev pub data96_terms : Terms
data96_terms = record {
  code = half_code;
  message = 480;
  parity = 0;
  depth = 3;
  coded = 968;
  burst = 648;
  place = λ j. scrambled (interleaved 648 (numbered (pattern data96_masks) j));
}

abbrev pub terms : Channel → Terms
terms Bench = bench_terms
terms Bcch = bcch_terms
terms Data24 = data24_terms
terms Data96 = data96_terms

-- what either end of the channel is opened with, its line aside
abbrev pub asked : Terms → Laying → Proposal Laying
asked t l = record { code = t.code; message = t.message; parity = t.parity; depth = t.depth; line = l }

-- a proposal that breaks no rule of opening
pub record Openable (p : Proposal Laying) : Type 0 where
  pub code : sound p.code ≡ true
  pub lengths : lengths_suit p.message p.parity p.depth ≡ true
  pub laying : line_suits laying_line p.line (p.code.rows * steps_of p.code p.message p.parity) ≡ true

-- a line that lays a block as a channel sets
pub record Lays (t : Terms) (l : Laying) : Type 0 where
  -- as many coded bits
  pub coded : laying_line.coded l ≡ t.coded
  -- in as many places
  pub burst : laying_line.sent l ≡ t.burst
  -- each where the channel sets
  pub places : (j : ℕ) → laying_line.place l j ≡ t.place j

-- a proposal of what a channel sets
pub record Proposes (channel : Channel) (p : Proposal Laying) : Type 0 where
  -- its code and lengths are the channel's
  pub asks : p ≡ asked (terms channel) p.line
  pub suited : laying_line.suited p.line ≡ true
  pub lays : Lays (terms channel) p.line

-- the channels of which the first coded bit of every step is sent, so that a block heard clean is reported as it was sent
abbrev pub first_row_sent : Channel → Bool
first_row_sent Bench = true
first_row_sent Bcch = true
first_row_sent Data24 = true
first_row_sent Data96 = false

-- a sender opened for a channel, by the same code, lengths and line; every history of it is sound
pub record TunedSender (channel : Channel) (s : Sender Laying) : Type 0 where
  pub line : Laying
  pub lays : Lays (terms channel) line
  pub opened : SenderOpened laying_line (asked (terms channel) line) s
  -- burst n of every history is one that the standard describes
  pub described : (s' : Sender Laying) (ring : List ℕ) (messages : List (List Bool)) (bursts : List (List ℕ)) (n : ℕ) →
      Stream laying_line s s' ring messages bursts → n < length messages → StandardBurst (standard channel) messages n (slice_index_or bursts n [])
  -- and the only one
  pub only : (s' : Sender Laying) (ring : List ℕ) (messages : List (List Bool)) (bursts : List (List ℕ)) (n : ℕ) →
      Stream laying_line s s' ring messages bursts → n < length messages →
      (burst : List ℕ) → StandardBurst (standard channel) messages n burst → burst ≡ slice_index_or bursts n []

-- a receiver opened for a channel
pub record Tuned {C S P : Type 0} (k : cost.Ghosts C S P) (channel : Channel) (r : Receiver C Laying S P) : Type 0 where
  pub line : Laying
  pub lays : Lays (terms channel) line
  -- it was opened with the channel's code and lengths and this line; every history of it is sound, and what it hears clean is answered as it was sent
  pub opened : Opened k laying_line (asked (terms channel) line) r
  pub first_row : first_row_sent channel ≡ true → FirstRowSent laying_line r.format
  -- it understands every sender opened for the channel
  pub understands : (s : Sender Laying) → TunedSender channel s → Alike laying_line s.format r.format
