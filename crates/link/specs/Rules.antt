-- The rules that a call is held against, each by what it tells where it is broken. They stand in the order of their numbers, and the first that
-- is broken refuses the call.
use Rattle.std.specs.Prelude.{ℕ, suc, ◌≤◌, ◌+◌, ◌*◌, ◌^◌, Bool, cond, not, ◌&&◌, ◌||◌, List, [], ◌∷◌, ◌++◌, length, Some, None, Option, ◌==◌, nat_le, nat_lt}
use Rattle.cost.specs.declared.kind.Cost as cost
use Rattle.line.specs.declared.laying.Line as line
use Rattle.trellis.specs.Codes.{sound}
use Rattle.trellis.specs.declared.code.Code.{Code}
use Rattle.link.specs.declared.format.Format.{Format}
use Rattle.link.specs.declared.memory.SenderSizes.{SenderSizes}
use Rattle.link.specs.declared.memory.Sizes.{Sizes}
use Rattle.link.specs.declared.proposal.Proposal.{Proposal}
use Rattle.link.specs.declared.refusal.Group.TheVariants.{Installer, Host, Radio}
use Rattle.link.specs.Refusals.{Told, tells}

-- the first of some, if any
abbrev pub first : {X : Type 0} → List (Option X) → Option X
first [] = None
first (Some x ∷ xs) = Some x
first (None ∷ xs) = first xs

-- a rule tells something where it is broken
abbrev pub unless : {X : Type 0} → Bool → X → Option X
unless holds x = cond holds None (Some x)

-- protected bits, and the closing zeros
abbrev pub steps_of : Code → ℕ → ℕ → ℕ
steps_of code message parity = message + parity + code.memory

abbrev pub between : ℕ → ℕ → ℕ → Bool
between low high n = nat_le low n && nat_le n high

abbrev pub lengths_suit : ℕ → ℕ → ℕ → Bool
lengths_suit message parity depth =
    between 1 512 message && ((parity == 0 || parity == 16) && (depth == 1 || depth == 3))

-- the line suits, its lengths are in range, and it lays as many coded bits as the code makes
abbrev pub line_suits : {L : Type 0} → line.Ghosts L → L → ℕ → Bool
line_suits l x coded = l.suited x && (between 1 2048 (l.coded x) && (between 1 1024 (l.sent x) && l.coded x == coded))

abbrev pub open_rules : {L : Type 0} → line.Ghosts L → Proposal L → List (Option Told)
open_rules l a =
    unless (sound a.code) (tells 1 Installer 0)
    ∷ unless (lengths_suit a.message a.parity a.depth) (tells 2 Installer 0)
    ∷ unless (line_suits l a.line (a.code.rows * steps_of a.code a.message a.parity)) (tells 3 Installer 0)
    ∷ []

abbrev pub steps : {L : Type 0} → Format L → ℕ
steps f = steps_of f.code f.message f.parity

-- what a receiver asks of the memory lent to it
abbrev pub needed : {L : Type 0} → Format L → Sizes
needed f = record {
  ring = f.depth * f.burst;
  costs = 2 * 2 ^ f.code.memory;
  paths = steps f * 2 ^ f.code.memory;
  block = f.message;
}

-- what a sender asks of the memory lent to it
abbrev pub sender_needs : {L : Type 0} → Format L → SenderSizes
sender_needs f = record { ring = f.depth * f.burst; burst = f.burst }

-- 0 or 1
abbrev pub is_bit : ℕ → Bool
is_bit byte = nat_le byte 1

-- so many cost cells, bytes of path record and bytes of block memory are enough to decide a block
pub record Suffices {L : Type 0} (f : Format L) (cells record_bytes block_bytes : ℕ) : Type 0 where
  pub costs : (needed f).costs ≤ cells
  pub paths : (needed f).paths ≤ record_bytes
  pub block : (needed f).block ≤ block_bytes

-- a memory of the size needed; the detail is that size
abbrev pub enough : ℕ → ℕ → Option Told
enough size lent = unless (nat_le size lent) (tells 4 Host size)

-- a million bursts are the most that are counted
abbrev pub room : ℕ → Option Told
room counted = unless (nat_lt counted 1000000) (tells 5 Host 0)

-- all are such, or the first that is not is told by its place
abbrev pub all_such : {S : Type 0} → (S → Bool) → (ℕ → Told) → ℕ → List S → Option Told
all_such such by_place place [] = None
all_such such by_place place (s ∷ ss) = cond (such s) (all_such such by_place (suc place) ss) (Some (by_place place))

-- every sample from a place on is fit, or the detail is the place of the first that is not
abbrev pub all_fit : {C S P : Type 0} → cost.Ghosts C S P → ℕ → List S → Option Told
all_fit k = all_such k.fit (tells 7 Radio)

-- every byte from a place on is a bit, or the detail is the place of the first that is not
abbrev pub all_bits : ℕ → List ℕ → Option Told
all_bits = all_such is_bit (tells 10 Host)

module _ {L : Type 0} where
  abbrev pub memory_rules : Format L → Sizes → List (Option Told)
  memory_rules f lent =
      enough (needed f).ring lent.ring
      ∷ enough (needed f).costs lent.costs
      ∷ enough (needed f).paths lent.paths
      ∷ enough (needed f).block lent.block
      ∷ []

  abbrev pub miss_rules : Format L → Sizes → ℕ → List (Option Told)
  miss_rules f lent counted = memory_rules f lent ++ (room counted ∷ [])

  -- a burst can be stolen only where several carry a block
  abbrev pub stolen_rules : Format L → List (Option Told)
  stolen_rules f = unless (not (f.depth == 1)) (tells 8 Host 0) ∷ []

  -- a message is the format's length long, and each of its bytes a bit
  abbrev pub send_rules : Format L → SenderSizes → ℕ → List ℕ → List (Option Told)
  send_rules f lent counted message =
      enough (sender_needs f).ring lent.ring
      ∷ enough (sender_needs f).burst lent.burst
      ∷ room counted
      ∷ unless (length message == f.message) (tells 9 Host 0)
      ∷ all_bits 0 message
      ∷ []

-- a burst has one sample for each of its places, or the detail is how many were given; and each is fit
abbrev pub hear_rules : {C S P L : Type 0} → cost.Ghosts C S P → Format L → Sizes → ℕ → List S → List (Option Told)
hear_rules k f lent counted samples =
    memory_rules f lent
    ++ (room counted
    ∷ unless (length samples == f.burst) (tells 6 Radio (length samples))
    ∷ all_fit k 0 samples
    ∷ [])
