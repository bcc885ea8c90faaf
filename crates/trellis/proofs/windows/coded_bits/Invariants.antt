use Rattle.std.proofs.Common.{◌≡◌, ℕ, ◌<◌, [], false, length, get_or}
use Rattle.trellis.specs.Bits.{bits}
use Rattle.trellis.specs.Codes.{summed}
use Rattle.trellis.proofs.windows.coded_bits.Given as goal

-- the rows below i have their bits
abbrev pub invariant-loop-i : goal.invariant-loop-i
invariant-loop-i l =
    (length l.bits-items ≡ 5)
    × ((j : ℕ) → j < l.i → (w : ℕ) → w < 32 → get_or (get_or l.bits-items j []) w false ≡ summed (get_or l.code.taps j 0) (bits 8 w))
