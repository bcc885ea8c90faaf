use Rattle.std.proofs.Common.{◌≡◌, ℕ, ◌+◌, ◌<◌, ◌≤◌, cond, not, get_or}
use Rattle.trellis.specs.Bits.{bit_of}
use Rattle.trellis.proofs.forward.choose.Given as goal

-- the windows below s are chosen, and the others are as they were
abbrev pub invariant-loop-s : goal.invariant-loop-s
invariant-loop-s g l =
    let k = g.C.Cost in
    let first = λ (v : ℕ). get_or l.initial.costs v k.ZERO in
    let second = λ (v : ℕ). get_or l.initial.costs (v + l.registers) k.ZERO in
    ((v : ℕ) → v < l.s → get_or l.costs v k.ZERO ≡ cond (k.le (first v) (second v)) (first v) (second v))
    × ((v : ℕ) → l.s ≤ v → get_or l.costs v k.ZERO ≡ first v)
    × ((v : ℕ) → v < l.s → get_or l.marks v 0 ≡ bit_of (not (k.le (first v) (second v))))
