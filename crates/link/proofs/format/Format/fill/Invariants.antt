use Rattle.std.proofs.Common.{◌≡◌, ℕ, ◌<◌, Bool, length, get_or, Some}
use Rattle.trellis.specs.Bits.{bit_of}
use Rattle.link.proofs.format.Format.fill.Given as goal

-- each of the first j coded places that is sent has its bit at its burst place
abbrev pub invariant-loop-j : goal.invariant-loop-j
invariant-loop-j g l =
    (length l.row ≡ l.self.burst)
    × ((i k : ℕ) (turned : Bool) → i < l.j → g.L.Line.place l.self.line i ≡ Some (k, turned) → k < l.self.burst →
    get_or l.row k 0 ≡ bit_of (g.B.PlacedBits.bit l.bits i k turned))
