-- Both ends together: what a receiver answers on a block that was heard as a sender sent it.
use Rattle.std.specs.Prelude.{◌≡◌, ℕ, ◌+◌, ◌*◌, ◌<◌, ◌≤◌, Bool, true, false, cond, List, [], ◌∷◌, ◌++◌, map, reverse, length, drop, replicate, Some, None, slice_index_or}
use Rattle.cost.specs.declared.kind.Cost as cost
use Rattle.cost.specs.Samples.{clean}
use Rattle.line.specs.declared.laying.Line as line
use Rattle.trellis.specs.Bits.{odd, bit_of}
use Rattle.trellis.specs.Coding.{coded_bit}
use Rattle.link.specs.declared.format.Format.{Format}
use Rattle.link.specs.declared.receiver.Receiver.{Receiver}
use Rattle.link.specs.declared.refusal.Group.TheVariants.{Air}
use Rattle.link.specs.Calls.{Memory, sizes, right, written, Reply, cost_due, answer_due, Hears, Misses, silence}
use Rattle.link.specs.Due.{burst_of, in_bursts}
use Rattle.link.specs.Histories.{History}
use Rattle.link.specs.Outcomes.{tells_block, outcome}
use Rattle.link.specs.Refusals.{tells, refusal}
use Rattle.link.specs.Rules.{first, steps, hear_rules, miss_rules}
use Rattle.link.specs.Sending.{run_of}
use Rattle.link.specs.Streams.{StreamOf}

-- two formats by which a sender and a receiver understand each other: one code and the same lengths, and lines that lay each coded bit at the same place
pub record Alike {L : Type 0} (l : line.Ghosts L) (f g : Format L) : Type 0 where
  pub code : f.code ≡ g.code
  pub message : f.message ≡ g.message
  pub parity : f.parity ≡ g.parity
  pub depth : f.depth ≡ g.depth
  pub burst : f.burst ≡ g.burst
  pub places : (j : ℕ) → l.place f.line j ≡ l.place g.line j

-- the first coded bit of every step is sent
abbrev pub FirstRowSent : {L : Type 0} → line.Ghosts L → Format L → Type 0
FirstRowSent l f = (t : ℕ) → t < steps f → (p : ℕ) × (turned : Bool) × (l.place f.line (f.code.rows * t) ≡ Some (p, turned))

module _ {C S P L : Type 0} (k : cost.Ghosts C S P) (l : line.Ghosts L) where
  -- block b of the bursts counted was heard clean as block c of the bursts sent; what was heard at places that are not due to b is free
  pub record HeardClean (f : Format L) (bursts : List (List S)) (b : ℕ) (sent : List (List ℕ)) (c : ℕ) : Type 0 where
    -- c's last burst was sent
    pub ended : c + f.depth ≤ length sent
    -- and the sample due to b at each place is the clean one of the bit that was put there
    pub clean : (p : ℕ) → p < f.burst → in_bursts k f bursts b p ≡ clean k (odd (slice_index_or (slice_index_or sent (burst_of f c p) []) p 0))

  -- block b is answered as the message was sent
  pub record AsSent (f : Format L) (bursts : List (List S)) (b : ℕ) (message : List Bool) (block : List ℕ) (reply : Reply k l) (block' : List ℕ) : Type 0 where
    pub path : List Bool
    -- it is the trellis rule's answer
    pub rule : answer_due k l f (in_bursts k f bursts b) ≡ Some path
    -- it costs zero
    pub costless : cost_due k l f (in_bursts k f bursts b) path ≡ k.ZERO
    -- and would send the same bits: those of the message, at each place that is sent
    pub same : (j p : ℕ) (turned : Bool) → l.place f.line j ≡ Some (p, turned) → coded_bit f.code (reverse path) j ≡ coded_bit f.code (run_of f message) j
    -- that is told, with every place heard; where its parity is wrong, it is refused
    pub told : outcome reply ≡ Some (tells_block b k.ZERO f.burst)
    pub refused : refusal reply ≡ cond (right f path) None (Some (tells 11 Air 0))
    pub wrote : block' ≡ cond (right f path) (written f path block) block
    -- where every first-row bit is sent, it is the run that was sent, so its parity is right
    pub whole : FirstRowSent l f → (path ≡ replicate f.code.memory false ++ reverse (run_of f message)) × (right f path ≡ true)
    -- and the message is reported
    pub reported : FirstRowSent l f → (refusal reply ≡ None) × (block' ≡ map bit_of message ++ drop f.message block)

  -- one call that ends block b of a receiver, after any history, and offers these samples
  abbrev pub AsSentBy : Receiver C L S P → List (List S) → List S → Memory S P → Reply k l → Memory S P → Type 0
  AsSentBy opened bursts samples m reply m' =
      (f : Format L) (messages : List (List Bool)) (sent : List (List ℕ)) → Alike l f opened.format → StreamOf l f messages sent →
      (b c : ℕ) → b + opened.format.depth ≡ length bursts + 1 → HeardClean opened.format (bursts ++ (samples ∷ [])) b sent c →
      AsSent opened.format (bursts ++ (samples ∷ [])) b (slice_index_or messages c []) m.block reply m'.block

  -- whatever stream of a format that is alike was sent, and whatever calls came before, a block that was heard clean is answered as it was sent
  pub record AllAsSent (opened : Receiver C L S P) : Type 0 where
    pub hears : (r r' : Receiver C L S P) (bursts : List (List S)) (samples : List S) (m m' : Memory S P) (reply : Reply k l) →
        History k l opened r m.ring bursts → Hears k l samples r m reply r' m' → first (hear_rules k opened.format (sizes m) (length bursts) samples) ≡ None →
        AsSentBy opened bursts samples m reply m'
    -- also where a burst that was missed ends it, since with one or two burst bits the third burst holds no place that is due to it
    pub misses : (r r' : Receiver C L S P) (bursts : List (List S)) (m m' : Memory S P) (reply : Reply k l) →
        History k l opened r m.ring bursts → Misses k l r m reply r' m' → first (miss_rules opened.format (sizes m) (length bursts)) ≡ None →
        AsSentBy opened bursts (silence k l opened.format) m reply m'
