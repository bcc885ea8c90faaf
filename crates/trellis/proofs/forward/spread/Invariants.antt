use Rattle.std.proofs.Common.{◌≡◌, ℕ, ◌/◌, ◌<◌, true, get_or, Some, None}
use Rattle.trellis.proofs.forward.spread.Given as goal

-- the windows of the registers below p have their costs
abbrev pub invariant-loop-p : goal.invariant-loop-p
invariant-loop-p g l =
    let k = g.C.Cost in
    ((w : ℕ) (x : g.row.C-Plain.Denot) → w / 2 < l.p → get_or l.old (w / 2) None ≡ Some x → get_or l.costs w k.ZERO ≡ k.lift x)
    × (l.whole ≡ true → (q : ℕ) → q < l.p → get_or l.old q None ≡ None → ⊥)
