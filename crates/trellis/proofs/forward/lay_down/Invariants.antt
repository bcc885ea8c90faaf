use Rattle.std.proofs.Common.{◌≡◌, ℕ, ◌<◌, get_or, Some, None}
use Rattle.trellis.proofs.forward.lay_down.Given as goal

-- the cells below s are laid down
abbrev pub invariant-loop-s : goal.invariant-loop-s
invariant-loop-s g l = let k = g.C.Cost in (v : ℕ) → v < l.s → get_or l.new v None ≡ Some (k.lay (get_or l.fn.costs v k.ZERO))
