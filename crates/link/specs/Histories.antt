-- Histories of a receiver, and what is claimed of every one of them.
use Rattle.std.specs.Prelude.{◌≡◌, ◌≢◌, ℕ, ◌+◌, ◌<◌, ◌≤◌, Bool, true, false, cond, ◌⊎◌, List, [], ◌∷◌, ◌++◌, map, reverse, length, take, drop, replicate, Some, None, Ok, Err, Option, Result, ◌==◌}
use Rattle.std.specs.List.{AllByRecursion}
use Rattle.cost.specs.declared.kind.Cost as cost
use Rattle.line.specs.declared.laying.Line as line
use Rattle.trellis.specs.Bits.{bit_of}
use Rattle.trellis.specs.Decoding.{Freed}
use Rattle.link.specs.declared.format.Format.{Format}
use Rattle.link.specs.declared.receiver.Receiver.{Receiver}
use Rattle.link.specs.declared.refusal.Group.TheVariants.{Host, Air}
use Rattle.link.specs.declared.refusal.Refusal.{Refusal}
use Rattle.link.specs.declared.report.Report.{Report}
use Rattle.link.specs.Calls.{Memory, sizes, right, Reply, cost_due, answer_due, told_of, Hears, Misses, Waits, Steals, Restarts, silence}
use Rattle.link.specs.Due.{in_bursts}
use Rattle.link.specs.Outcomes.{tells_burst, tells_block, outcome}
use Rattle.link.specs.Refusals.{Told, tells, told, refusal}
use Rattle.link.specs.Rules.{first, hear_rules, miss_rules}
use Rattle.link.specs.Sending.{run_of}

module _ {C S P L : Type 0} (k : cost.Ghosts C S P) (l : line.Ghosts L) where
  -- a hear or miss counts its burst unless it meets a refusal other than that of parity
  abbrev pub counts : Reply k l → Bool
  counts (Ok a) = true
  counts (Err x) = (told x).number == 11

  -- the bursts counted after a call that offered one
  abbrev pub counting : Reply k l → List S → List (List S) → List (List S)
  counting reply samples bursts = cond (counts reply) (bursts ++ (samples ∷ [])) bursts

  -- a history of the receiver that was opened: the receiver and the ring that its calls have left, and the bursts that they counted.
  -- Each call gets the receiver and the ring that the one before left; all else that it is handed is free.
  pub data History (opened : Receiver C L S P) : Receiver C L S P → List S → List (List S) → Type 0 where
    begun : (ring : List S) → History opened opened ring []
    heard : (r r' : Receiver C L S P) (bursts : List (List S)) (samples : List S) (m m' : Memory S P) (reply : Reply k l) →
        History opened r m.ring bursts → Hears k l samples r m reply r' m' → History opened r' m'.ring (counting reply samples bursts)
    missed : (r r' : Receiver C L S P) (bursts : List (List S)) (m m' : Memory S P) (reply : Reply k l) →
        History opened r m.ring bursts → Misses k l r m reply r' m' → History opened r' m'.ring (counting reply (silence k l r.format) bursts)
    stole : (r r' : Receiver C L S P) (ring : List S) (bursts : List (List S)) (reply : Result ℕ (Refusal (Report C S P))) →
        History opened r ring bursts → Steals k l r reply r' → History opened r' ring bursts
    restarted : (r r' : Receiver C L S P) (ring : List S) (bursts : List (List S)) →
        History opened r ring bursts → Restarts k l r r' → History opened r' ring []

  -- block b, told when all of its bursts are among those counted
  pub record Best (f : Format L) (bursts : List (List S)) (b : ℕ) (block : List ℕ) (reply : Reply k l) (block' : List ℕ) : Type 0 where
    pub path : List Bool
    -- it is the trellis rule's answer
    pub rule : answer_due k l f (in_bursts k f bursts b) ≡ Some path
    -- which is the path of a run of message and parity bits that zeros close
    pub run : List Bool
    pub long : length run ≡ f.message + f.parity
    pub own : path ≡ replicate f.code.memory false ++ reverse run
    -- no run of message and parity bits costs less
    pub least : (rival : List Bool) → length rival ≡ f.message + f.parity →
        k.le (cost_due k l f (in_bursts k f bursts b) path) (cost_due k l f (in_bursts k f bursts b) (replicate f.code.memory false ++ reverse rival)) ≡ true
    -- the block is told by its number, with the path's own cost and the count of the samples heard
    pub told : outcome reply ≡ Some (told_of k l f (in_bursts k f bursts b) b path)
    -- with parity right the run is a message and its parity; it is reported, and the message written
    pub reported : right f path ≡ true →
        (run ≡ run_of f (take f.message run)) × (refusal reply ≡ None) × (block' ≡ map bit_of (take f.message run) ++ drop f.message block)
    -- with parity wrong it is not; it is refused, and nothing is written
    pub refused : right f path ≡ false →
        (run ≢ run_of f (take f.message run)) × (refusal reply ≡ Some (tells 11 Air 0)) × (block' ≡ block)

  -- what is claimed of one hear or miss, from the rules that it is held against and the burst that it offers
  pub record Sound (f : Format L) (rules : Option Told) (samples : List S) (bursts : List (List S))
      (r : Receiver C L S P) (m : Memory S P) (reply : Reply k l) (r' : Receiver C L S P) (m' : Memory S P) : Type 0 where
    -- refused where a rule is broken, and then nothing has changed
    pub refused : (t : Told) → rules ≡ Some t → (refusal reply ≡ Some t) × (r' ≡ r) × (m' ≡ m) × (counting reply samples bursts ≡ bursts)
    -- and refused for nothing else, but for parity
    pub only : (t : Told) → refusal reply ≡ Some t → (rules ≡ Some t) ⊎ (t ≡ tells 11 Air 0)
    -- otherwise the burst is counted
    pub accepted : rules ≡ None → counting reply samples bursts ≡ bursts ++ (samples ∷ [])
    -- while the first block's bursts are not all counted, the answer is the burst's number and no other memory is touched
    pub waits : rules ≡ None → length bursts + 1 < f.depth → Waits k l (length bursts) m reply m'
    -- and the answer is to wait at no other time
    pub waits_only : (burst : ℕ) → outcome reply ≡ Some (tells_burst burst) → (rules ≡ None) × (burst ≡ length bursts) × (length bursts + 1 < f.depth)
    -- from then on each burst counted ends a block, which is told
    pub decides : rules ≡ None → (b : ℕ) → b + f.depth ≡ length bursts + 1 →
        Best f (bursts ++ (samples ∷ [])) b m.block reply m'.block
    -- which leaves the cost memory and the path record free
    pub frees : rules ≡ None → f.depth ≤ length bursts + 1 → Freed m.costs m'.costs × Freed m.paths m'.paths
    -- and no block is told at another time
    pub timely : (b : ℕ) (cost : C) (heard : ℕ) → outcome reply ≡ Some (tells_block b cost heard) → (rules ≡ None) × (b + f.depth ≡ length bursts + 1)

  -- each is a whole burst of fit samples
  abbrev pub WholeBursts : Format L → List (List S) → Type 0
  WholeBursts f bursts = AllByRecursion (λ burst. (length burst ≡ f.burst) × AllByRecursion (λ s. k.fit s ≡ true) burst) bursts

  -- Every history of a receiver that was opened is sound, whatever call comes next. It is claimed for every kind that has the laws; one of them
  -- asks that as many costs as there are windows fit in memory, and no type that a machine can hold breaks it.
  pub record AllSound (opened : Receiver C L S P) : Type 0 where
    pub hears : (r r' : Receiver C L S P) (bursts : List (List S)) (samples : List S) (m m' : Memory S P) (reply : Reply k l) →
        History opened r m.ring bursts → Hears k l samples r m reply r' m' →
        Sound opened.format (first (hear_rules k opened.format (sizes m) (length bursts) samples)) samples bursts r m reply r' m'
    pub misses : (r r' : Receiver C L S P) (bursts : List (List S)) (m m' : Memory S P) (reply : Reply k l) →
        History opened r m.ring bursts → Misses k l r m reply r' m' →
        Sound opened.format (first (miss_rules opened.format (sizes m) (length bursts))) (silence k l opened.format) bursts r m reply r' m'
    -- stolen counts nothing, tells how many bursts are counted, and is refused at depth 1
    pub steals : (r r' : Receiver C L S P) (ring : List S) (bursts : List (List S)) (reply : Result ℕ (Refusal (Report C S P))) →
        History opened r ring bursts → Steals k l r reply r' →
        (r' ≡ r) × (refusal reply ≡ cond (opened.format.depth == 1) (Some (tells 8 Host 0)) None)
        × (opened.format.depth ≢ 1 → reply ≡ Ok (length bursts))
    -- restart keeps the format
    pub restarts : (r r' : Receiver C L S P) (ring : List S) (bursts : List (List S)) →
        History opened r ring bursts → Restarts k l r r' → (r'.format ≡ opened.format) × (r'.counted ≡ 0)
    -- every burst counted is one whole burst of fit samples
    pub fit : (r : Receiver C L S P) (ring : List S) (bursts : List (List S)) →
        History opened r ring bursts → WholeBursts opened.format bursts
