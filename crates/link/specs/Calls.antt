-- What each call of a receiver does with the receiver and with the memory lent to it.
use Rattle.std.specs.Prelude.{◌≡◌, ℕ, ◌+◌, ◌-◌, ◌<◌, ◌≤◌, Bool, cond, ◌||◌, List, ◌++◌, map, reverse, length, take, drop, replicate, Some, None, Ok, Option, Result, ◌==◌}
use Rattle.cost.specs.declared.kind.Cost as cost
use Rattle.line.specs.declared.laying.Line as line
use Rattle.trellis.specs.Bits.{bit_of}
use Rattle.trellis.specs.Codes.{rows_of}
use Rattle.trellis.specs.Decoding.{Freed}
use Rattle.trellis.specs.Parity.{remainder}
use Rattle.trellis.specs.Paths.{cost_of}
use Rattle.trellis.specs.Rule.{answer}
use Rattle.link.specs.declared.format.Format.{Format}
use Rattle.link.specs.declared.memory.Memory as memory
use Rattle.link.specs.declared.memory.Sizes.{Sizes}
use Rattle.link.specs.declared.receiver.Receiver.{Receiver}
use Rattle.link.specs.declared.refusal.Group.TheVariants.{Air}
use Rattle.link.specs.declared.refusal.Refusal.{Refusal}
use Rattle.link.specs.declared.report.Answer.{Answer}
use Rattle.link.specs.declared.report.Report.{Report}
use Rattle.link.specs.Due.{stored, met_on, in_ring, heard_of}
use Rattle.link.specs.Outcomes.{Outcome, tells_burst, tells_block, of_report, outcome}
use Rattle.link.specs.Refusals.{Told, tells, refusal}
use Rattle.link.specs.Rules.{first, steps, hear_rules, miss_rules, stolen_rules}

-- the memory lent to a call: the ring, the cost cells, the path record and the block memory
pub record Memory (S P : Type 0) : Type 0 where
  pub ring : List S
  pub costs : List (Option P)
  pub paths : List ℕ
  pub block : List ℕ

abbrev pub lent : {C S P : Type 0} → memory.Memory C S P → Memory S P
lent m = record { ring = m.ring.now; costs = m.costs.now; paths = m.paths.now; block = m.block.now }

abbrev pub sizes : {S P : Type 0} → Memory S P → Sizes
sizes m = record { ring = length m.ring; costs = length m.costs; paths = length m.paths; block = length m.block }

-- both lend the same memory, which is as large in both
pub record SameLoans {C S P : Type 0} (m m' : memory.Memory C S P) : Type 0 where
  pub ring : m'.ring.ghost_name ≡ m.ring.ghost_name
  pub costs : m'.costs.ghost_name ≡ m.costs.ghost_name
  pub paths : m'.paths.ghost_name ≡ m.paths.ghost_name
  pub block : m'.block.ghost_name ≡ m.block.ghost_name
  pub as_large : sizes (lent m') ≡ sizes (lent m)

-- the protected bits of a path: what is left without the closing zeros, the newest bit first
abbrev pub protected : {L : Type 0} → Format L → List Bool → List Bool
protected f path = drop f.code.memory path

-- parity is right where there is none, or where the protected bits leave no remainder
abbrev pub right : {L : Type 0} → Format L → List Bool → Bool
right f path = f.parity == 0 || remainder (protected f path) == 0

-- block memory in which a path's message has been written
abbrev pub written : {L : Type 0} → Format L → List Bool → List ℕ → List ℕ
written f path block = map bit_of (take f.message (reverse path)) ++ drop f.message block

module _ {C S P L : Type 0} (k : cost.Ghosts C S P) (l : line.Ghosts L) where
  -- what hear and miss answer
  abbrev pub Reply : Type 0
  Reply = Result (Answer C S P) (Refusal (Report C S P))

  module _ (f : Format L) (due : ℕ → S) where
    -- the cost of a path on the samples due
    abbrev pub cost_due : List Bool → C
    cost_due = cost_of k (rows_of f.code) (met_on l f.line due)

    -- the trellis rule's answer on the samples due
    abbrev pub answer_due : Option (List Bool)
    answer_due = answer k (rows_of f.code) (met_on l f.line due) f.code.memory (steps f)

    -- what is told of block b where that path is its answer: the path's own cost, and how many of the samples due were heard
    abbrev pub told_of : ℕ → List Bool → Outcome C
    told_of b path = tells_block b (cost_due path) (heard_of k due f.burst)

    -- the rule's answer is found: what is told of it, and its bits at the front of the path record
    pub record Finds (b : ℕ) (report : Report C S P) (paths : List ℕ) : Type 0 where
      pub path : List Bool
      pub answered : answer_due ≡ Some path
      pub told : of_report report ≡ told_of b path
      pub traced : take (steps f) paths ≡ map bit_of (reverse path)

    -- block b is decided: the rule's answer is told, and it is refused where its parity is wrong
    pub record Decides (b : ℕ) (block : List ℕ) (reply : Reply) (block' : List ℕ) : Type 0 where
      pub path : List Bool
      pub answered : answer_due ≡ Some path
      pub told : outcome reply ≡ Some (told_of b path)
      pub refused : refusal reply ≡ cond (right f path) None (Some (tells 11 Air 0))
      pub wrote : block' ≡ cond (right f path) (written f path block) block

  -- a call is refused, and changes nothing
  pub record Refuses (t : Told) (r : Receiver C L S P) (m : Memory S P) (reply : Reply) (r' : Receiver C L S P) (m' : Memory S P) : Type 0 where
    pub replied : refusal reply ≡ Some t
    pub receiver : r' ≡ r
    pub memory : m' ≡ m

  -- burst n is told, and nothing of the memory but the ring is touched
  pub record Waits (n : ℕ) (m : Memory S P) (reply : Reply) (m' : Memory S P) : Type 0 where
    pub told : outcome reply ≡ Some (tells_burst n)
    pub costs : m'.costs ≡ m.costs
    pub paths : m'.paths ≡ m.paths
    pub block : m'.block ≡ m.block

  -- a burst that lies in the ring is counted, and the block whose last burst it is decided
  pub record Counts (r : Receiver C L S P) (m : Memory S P) (reply : Reply) (r' : Receiver C L S P) (m' : Memory S P) : Type 0 where
    pub format : r'.format ≡ r.format
    pub counted : r'.counted ≡ r.counted + 1
    pub waits : r.counted + 1 < r.format.depth → Waits r.counted m reply m'
    pub decides : r.format.depth ≤ r.counted + 1 →
        Decides r.format (in_ring k r.format m.ring (r.counted + 1 - r.format.depth)) (r.counted + 1 - r.format.depth) m.block reply m'.block
    -- what deciding leaves in the cost memory and the path record is free
    pub frees : r.format.depth ≤ r.counted + 1 → Freed m.costs m'.costs × Freed m.paths m'.paths

  -- a burst is taken in: it is stored, and then counted
  pub record Takes (samples : List S) (r : Receiver C L S P) (m : Memory S P) (reply : Reply) (r' : Receiver C L S P) (m' : Memory S P) : Type 0 where
    pub ring : m'.ring ≡ stored r.format r.counted samples m.ring
    pub counts : Counts r (record m { ring = m'.ring }) reply r' m'

  -- by the first rule that is broken
  abbrev pub Judges : Option Told → List S → Receiver C L S P → Memory S P → Reply → Receiver C L S P → Memory S P → Type 0
  Judges (Some t) samples = Refuses t
  Judges None samples = Takes samples

  abbrev pub Hears : List S → Receiver C L S P → Memory S P → Reply → Receiver C L S P → Memory S P → Type 0
  Hears samples r m = Judges (first (hear_rules k r.format (sizes m) r.counted samples)) samples r m

  -- a burst that never came is counted as one of nothing samples only
  abbrev pub silence : Format L → List S
  silence f = replicate f.burst k.NOTHING

  abbrev pub Misses : Receiver C L S P → Memory S P → Reply → Receiver C L S P → Memory S P → Type 0
  Misses r m = Judges (first (miss_rules r.format (sizes m) r.counted)) (silence r.format) r m

  -- a burst taken for another channel is not counted: the bursts counted are told, where no rule is broken
  pub record Steals (r : Receiver C L S P) (reply : Result ℕ (Refusal (Report C S P))) (r' : Receiver C L S P) : Type 0 where
    pub refused : refusal reply ≡ first (stolen_rules r.format)
    pub told : first (stolen_rules r.format) ≡ None → reply ≡ Ok r.counted
    pub receiver : r' ≡ r

  pub record Restarts (r r' : Receiver C L S P) : Type 0 where
    pub format : r'.format ≡ r.format
    pub counted : r'.counted ≡ 0
