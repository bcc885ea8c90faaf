use Rattle.std.proofs.Common.{◌≡◌, ℕ, ◌<◌, ◌≤◌, false, get_or}
use Rattle.trellis.specs.Bits.{xor}
use Rattle.trellis.proofs.forward.grow_row.Given as goal

-- the windows below w are grown, and the others are as they were
abbrev pub invariant-loop-w : goal.invariant-loop-w
invariant-loop-w g l =
    let k = g.C.Cost in
    let before = λ (v : ℕ). get_or l.initial.costs v k.ZERO in
    ((v : ℕ) → v < l.w → get_or l.costs v k.ZERO ≡ k.grow (before v) l.sample (xor (get_or l.bits v false) l.turned))
    × ((v : ℕ) → l.w ≤ v → get_or l.costs v k.ZERO ≡ before v)
