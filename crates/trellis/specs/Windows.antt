-- Windows: a register with the newest bit, as a number whose lowest bit is the newest.
-- Window w comes from register w / 2, and windows s and s + 2 ^ memory meet in register s.
use Rattle.std.specs.Prelude.{◌≡◌, ℕ, ◌+◌, ◌*◌, ◌/◌, ◌<◌, Bool, true, false, not, cond, List, [], length, Some, None, Option, ◌==◌, ◌≢◌, slice_index, slice_index_or}
use Rattle.cost.specs.declared.kind.Cost.{Ghosts}
use Rattle.cost.specs.declared.kind.TheConstants.{MOST_WINDOWS}
use Rattle.trellis.specs.Bits.{bit_of, bits}
use Rattle.trellis.specs.Codes.{summed}
use Rattle.trellis.specs.Paths.{grown_rows}

-- a table has for each row the coded bit at each window
abbrev pub Coded : List ℕ → List (List Bool) → Type 0
Coded rows table =
    (i w : ℕ) → i < length rows → w < MOST_WINDOWS → slice_index_or (slice_index_or table i []) w false ≡ summed (slice_index rows i) (bits 8 w)

-- every register was reached
abbrev pub Whole : {P : Type 0} → List (Option P) → Type 0
Whole old = (p : ℕ) → p < length old → slice_index_or old p None ≢ None

-- a window has a cost where a path has reached its old register
abbrev pub arrived : {C P : Type 0} → Option P → C → Option C
arrived None c = None
arrived (Some x) c = Some c

module _ {C S P : Type 0} (k : Ghosts C S P) where
  -- the cost of a window, if a path has reached it
  abbrev pub window_cost : List (Option P) → List C → ℕ → Option C
  window_cost old costs w = arrived (slice_index_or old (w / 2) None) (slice_index_or costs w k.ZERO)

  -- each window has the cost of its old register
  abbrev pub Spread : List (Option P) → List C → Type 0
  Spread old costs = (w : ℕ) (x : P) → slice_index_or old (w / 2) None ≡ Some x → slice_index_or costs w k.ZERO ≡ k.lift x

  -- the lower of two costs that meet, and the first where neither is dearer
  abbrev pub lower : Option C → Option C → Option C
  lower None b = b
  lower (Some a) None = Some a
  lower (Some a) (Some b) = cond (k.le a b) (Some a) (Some b)

  -- whether the second of two costs that meet is kept
  abbrev pub second_kept : Option C → Option C → Bool
  second_kept None None = false
  second_kept None (Some b) = true
  second_kept (Some a) None = false
  second_kept (Some a) (Some b) = not (k.le a b)

  -- a cost laid down
  abbrev pub laid : Option C → Option P
  laid None = None
  laid (Some c) = Some (k.lay c)

  -- a cost taken up
  abbrev pub lifted : Option P → Option C
  lifted None = None
  lifted (Some x) = Some (k.lift x)

  -- a cost goes on into a cell that is free, or that holds a dearer one
  abbrev pub enters : Option P → C → Bool
  enters None c = true
  enters (Some x) c = not (k.le (k.lift x) c)

  -- before the first step only the empty register is reached, at no cost
  abbrev pub first_cell : ℕ → Option P
  first_cell s = cond (s == 0) (Some (k.lay k.ZERO)) None

  -- where every window is reached: the lower of windows s and s + n stands in window s
  abbrev pub Chosen : ℕ → List C → List C → Type 0
  Chosen n costs chosen =
      (s : ℕ) → s < n → slice_index_or chosen s k.ZERO ≡ cond (k.le (slice_index_or costs s k.ZERO) (slice_index_or costs (s + n) k.ZERO)) (slice_index_or costs s k.ZERO) (slice_index_or costs (s + n) k.ZERO)

  -- and the row of marks tells which of the two it was
  abbrev pub ChosenMarks : ℕ → List C → List ℕ → Type 0
  ChosenMarks n costs marks =
      (s : ℕ) → s < n → slice_index marks s ≡ bit_of (not (k.le (slice_index_or costs s k.ZERO) (slice_index_or costs (s + n) k.ZERO)))

  -- each register keeps the lower of its two windows, laid down
  abbrev pub LaidLower : List (Option P) → List C → List (Option P) → Type 0
  LaidLower old costs new =
      (s : ℕ) → s < length old → slice_index_or new s None ≡ laid (lower (window_cost old costs s) (window_cost old costs (s + length old)))

  -- the row of marks tells which of its two windows each register keeps
  abbrev pub MarkedLower : List (Option P) → List C → List ℕ → Type 0
  MarkedLower old costs marks =
      (s : ℕ) → s < length old → slice_index marks s ≡ bit_of (second_kept (window_cost old costs s) (window_cost old costs (s + length old)))

  module _ (rows : List ℕ) (met : ℕ → List (S × Bool)) where
    -- each window is grown by the coded bits of step t
    abbrev pub Grown : ℕ → List C → List C → Type 0
    Grown t costs grown =
        (w : ℕ) → w < length costs →
        slice_index_or grown w k.ZERO ≡ grown_rows k rows met (slice_index_or costs w k.ZERO) (bits 8 w) (length rows * t) rows
