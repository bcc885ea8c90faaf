-- Histories of a sender, and what is claimed of every one of them.
use Rattle.std.specs.Prelude.{◌≡◌, ℕ, ◌<◌, ◌%◌, Bool, true, false, cond, List, [], ◌∷◌, ◌++◌, map, length, take, Some, None, Ok, Err, Option, slice_index_or}
use Rattle.line.specs.declared.laying.Line as line
use Rattle.trellis.specs.Bits.{odd, xor, bit_of}
use Rattle.trellis.specs.Coding.{coded_bit}
use Rattle.link.specs.declared.format.Format.{Format}
use Rattle.link.specs.declared.sender.Sender.{Sender}
use Rattle.link.specs.Due.{burst_of, laid_at}
use Rattle.link.specs.Refusals.{Told, refusal}
use Rattle.link.specs.Rules.{first, send_rules}
use Rattle.link.specs.Sending.{SenderMemory, sender_sizes, SendReply, run_of, Sends}

-- whether a send was not refused
abbrev pub accepted : SendReply → Bool
accepted (Ok n) = true
accepted (Err x) = false

-- what has been sent after one more send, where it was not refused
abbrev pub sending : {X : Type 0} → SendReply → X → List X → List X
sending reply x xs = cond (accepted reply) (xs ++ (x ∷ [])) xs

module _ {L : Type 0} (l : line.Ghosts L) where
  -- a history of the sender that was opened: the sender and the ring that its sends have left, and the messages and bursts of those that
  -- were not refused. Each send gets the sender and the ring that the one before left; all else that it is handed is free.
  pub data Stream (opened : Sender L) : Sender L → List ℕ → List (List Bool) → List (List ℕ) → Type 0 where
    begun : (ring : List ℕ) → Stream opened opened ring [] []
    sends : (s s' : Sender L) (messages : List (List Bool)) (bursts : List (List ℕ)) (message : List ℕ) (m m' : SenderMemory) (reply : SendReply) →
        Stream opened s m.ring messages bursts → Sends l message s m reply s' m' →
        Stream opened s' m'.ring (sending reply (map odd message) messages) (sending reply (take s.format.burst m'.burst) bursts)

  -- burst n of a stream of messages
  pub record BurstOf (f : Format L) (messages : List (List Bool)) (n : ℕ) (burst : List ℕ) : Type 0 where
    pub whole : length burst ≡ f.burst
    -- place k carries block n - (k mod depth): its bit, turned where the line turns it
    pub carries : (j k b : ℕ) (turned : Bool) → l.place f.line j ≡ Some (k, turned) → burst_of f b k ≡ n →
        slice_index_or burst k 0 ≡ bit_of (xor turned (coded_bit f.code (run_of f (slice_index_or messages b [])) j))
    -- and 0, turned where the line turns it, where there is no such block
    pub before : (j k : ℕ) (turned : Bool) → l.place f.line j ≡ Some (k, turned) → n < k % f.depth → slice_index_or burst k 0 ≡ bit_of turned

  -- the bursts of a stream of messages
  pub record StreamOf (f : Format L) (messages : List (List Bool)) (bursts : List (List ℕ)) : Type 0 where
    -- each message is as long as the format has it
    pub lengths : (b : ℕ) → b < length messages → length (slice_index_or messages b []) ≡ f.message
    -- there are as many bursts as messages
    pub as_many : length bursts ≡ length messages
    -- and each is the burst of its number
    pub each : (n : ℕ) → n < length messages → BurstOf f messages n (slice_index_or bursts n [])

  -- what is claimed of one send, from the rules that it is held against
  pub record StreamSound (f : Format L) (rules : Option Told) (message : List ℕ) (messages : List (List Bool))
      (s : Sender L) (m : SenderMemory) (reply : SendReply) (s' : Sender L) (m' : SenderMemory) : Type 0 where
    -- refused where a rule is broken, and then nothing has changed
    pub refused : (t : Told) → rules ≡ Some t → (refusal reply ≡ Some t) × (s' ≡ s) × (m' ≡ m)
    -- otherwise the answer is the burst's number, and the burst of that number is put at the front of the burst memory, of which the rest is left
    pub sends : rules ≡ None → (reply ≡ Ok (length messages))
        × ((burst : List ℕ) × BurstOf f (messages ++ (map odd message ∷ [])) (length messages) burst × (m'.burst ≡ laid_at 0 burst m.burst))

  -- every history of a sender that was opened is sound, whatever send comes next
  pub record AllStreams (opened : Sender L) : Type 0 where
    pub sends : (s s' : Sender L) (messages : List (List Bool)) (bursts : List (List ℕ)) (message : List ℕ) (m m' : SenderMemory) (reply : SendReply) →
        Stream opened s m.ring messages bursts → Sends l message s m reply s' m' →
        StreamSound opened.format (first (send_rules opened.format (sender_sizes m) (length messages) message)) message messages s m reply s' m'
    -- the bursts are those of the messages
    pub puts : (s : Sender L) (ring : List ℕ) (messages : List (List Bool)) (bursts : List (List ℕ)) →
        Stream opened s ring messages bursts → StreamOf opened.format messages bursts
    -- and no others are
    pub only : (s : Sender L) (ring : List ℕ) (messages : List (List Bool)) (bursts : List (List ℕ)) (n : ℕ) (burst : List ℕ) →
        Stream opened s ring messages bursts → n < length messages → BurstOf opened.format messages n burst → burst ≡ slice_index_or bursts n []
