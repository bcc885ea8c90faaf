use Rattle.std.proofs.Common.{◌≡◌, ℕ, ◌<◌, false, length, get_or}
use Rattle.trellis.specs.Bits.{bits}
use Rattle.trellis.specs.Codes.{summed}
use Rattle.trellis.proofs.windows.row_bits.Given as goal

-- the windows below have their bits
abbrev pub invariant-loop-window : goal.invariant-loop-window
invariant-loop-window l = (length l.bit-items ≡ 32) × ((w : ℕ) → w < l.window → get_or l.bit-items w false ≡ summed l.taps (bits 8 w))
