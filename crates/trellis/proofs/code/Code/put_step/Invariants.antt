use Rattle.std.proofs.Common.{◌≡◌, ℕ, ◌<◌, false, get_or}
use Rattle.trellis.specs.Bits.{bits}
use Rattle.trellis.specs.Codes.{summed}
use Rattle.trellis.proofs.code.Code.put_step.Given as goal

-- the rows below i have put their bits
abbrev pub invariant-loop-i : goal.invariant-loop-i
invariant-loop-i l = (k : ℕ) → k < l.i → get_or l.step k false ≡ summed (get_or l.self.taps k 0) (bits 8 l.window)
