-- What a path record holds before the traceback, and on its way.
use Rattle.std.specs.Prelude.{◌≡◌, ℕ, ◌*◌, ◌^◌, ◌<◌, Bool, false, List, [], reverse, Some, Option, slice_index, slice_index_or}
use Rattle.trellis.specs.Bits.{bit_of}
use Rattle.trellis.specs.Cells.{MarkedBelow}

-- no bit has entered before the first step, every mark is right, and the empty register keeps `path` after the last step
pub record Recorded (memory steps : ℕ) (kept : ℕ → ℕ → Option (List Bool)) (path : List Bool) (paths : List ℕ) : Type 0 where
  pub first : (s : ℕ) (p : List Bool) → kept 0 s ≡ Some p → p ≡ []
  pub marks : MarkedBelow memory kept paths steps
  pub last : kept steps 0 ≡ Some path

-- the head of each row is the bit that entered at the row's step
abbrev pub Headed : ℕ → ℕ → List Bool → List ℕ → Type 0
Headed memory steps path paths = (i : ℕ) → i < steps → slice_index paths (i * 2 ^ memory) ≡ bit_of (slice_index_or (reverse path) i false)
