-- What a send does with the sender and with the memory lent to it.
use Rattle.std.specs.Prelude.{◌≡◌, ℕ, ◌+◌, ◌-◌, ◌%◌, ◌<◌, Bool, ◌&&◌, List, map, length, Some, None, Ok, Option, Result, nat_le, slice_index_or}
use Rattle.std.specs.declared.convert.Infallible.{Infallible}
use Rattle.line.specs.declared.laying.Line as line
use Rattle.trellis.specs.Bits.{odd, xor, bit_of}
use Rattle.trellis.specs.Coding.{coded_bit}
use Rattle.trellis.specs.Parity.{with_parity}
use Rattle.link.specs.declared.format.Format.{Format}
use Rattle.link.specs.declared.memory.SenderSizes.{SenderSizes}
use Rattle.link.specs.declared.refusal.Refusal.{Refusal}
use Rattle.link.specs.declared.sender.Sender.{Sender}
use Rattle.link.specs.Due.{laid_at, cell, stored}
use Rattle.link.specs.Refusals.{Told, refusal}
use Rattle.link.specs.Rules.{first, send_rules}

-- the memory lent to a send: the ring of bits and the burst memory
pub record SenderMemory : Type 0 where
  pub ring : List ℕ
  pub burst : List ℕ

abbrev pub sender_sizes : SenderMemory → SenderSizes
sender_sizes m = record { ring = length m.ring; burst = length m.burst }

-- what a send answers
abbrev pub SendReply : Type 0
SendReply = Result ℕ (Refusal Infallible)

module _ {L : Type 0} (f : Format L) where
  -- the protected bits of a message: the message and its parity
  abbrev pub run_of : List Bool → List Bool
  run_of message = with_parity f.parity message

  -- what burst n carries at place k before turning: the bit that the ring keeps of block n - (k mod depth), a byte above 1 being read as 1,
  -- and 0 where there is no such block
  abbrev pub carried : List ℕ → ℕ → ℕ → Bool
  carried ring n k = nat_le (k % f.depth) n && nat_le 1 (slice_index_or ring (cell f (n - k % f.depth) k) 0)

module _ {L : Type 0} (l : line.Ghosts L) where
  -- each coded place that is sent has its bit at its burst place, `bit j k turned` being that of coded place j
  pub record ByPlace (f : Format L) (bit : ℕ → ℕ → Bool → Bool) (row : List ℕ) : Type 0 where
    pub whole : length row ≡ f.burst
    pub bits : (j k : ℕ) (turned : Bool) → l.place f.line j ≡ Some (k, turned) → k < f.burst → slice_index_or row k 0 ≡ bit_of (bit j k turned)

  -- the bits of a block by burst place, before turning
  abbrev pub BlockByPlace : Format L → List Bool → List ℕ → Type 0
  BlockByPlace f message = ByPlace f (λ j k turned. coded_bit f.code (run_of f message) j)

  -- burst n from the bits that the ring keeps
  abbrev pub BurstFromRing : Format L → ℕ → List ℕ → List ℕ → Type 0
  BurstFromRing f n ring = ByPlace f (λ j k turned. xor turned (carried f ring n k))

  -- a send is refused, and changes nothing
  pub record NotSent (t : Told) (s : Sender L) (m : SenderMemory) (reply : SendReply) (s' : Sender L) (m' : SenderMemory) : Type 0 where
    pub replied : refusal reply ≡ Some t
    pub sender : s' ≡ s
    pub memory : m' ≡ m

  -- a block is kept in the ring, and the next burst put into the burst memory and counted
  pub record Sent (message : List ℕ) (s : Sender L) (m : SenderMemory) (reply : SendReply) (s' : Sender L) (m' : SenderMemory) : Type 0 where
    pub replied : reply ≡ Ok s.counted
    pub format : s'.format ≡ s.format
    pub counted : s'.counted ≡ s.counted + 1
    -- the block's bits lie in its bytes of the ring, and all others are left
    pub block : List ℕ
    pub interleaved : BlockByPlace s.format (map odd message) block
    pub ring : m'.ring ≡ stored s.format s.counted block m.ring
    -- the burst lies at the front of the burst memory, and what is past it is left
    pub burst : List ℕ
    pub spread : BurstFromRing s.format s.counted m'.ring burst
    pub put : m'.burst ≡ laid_at 0 burst m.burst

  -- by the first rule that is broken
  abbrev pub SendsBy : Option Told → List ℕ → Sender L → SenderMemory → SendReply → Sender L → SenderMemory → Type 0
  SendsBy (Some t) message = NotSent t
  SendsBy None message = Sent message

  abbrev pub Sends : List ℕ → Sender L → SenderMemory → SendReply → Sender L → SenderMemory → Type 0
  Sends message s m = SendsBy (first (send_rules s.format (sender_sizes m) s.counted message)) message s m
