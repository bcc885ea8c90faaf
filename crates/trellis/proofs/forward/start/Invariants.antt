use Rattle.std.proofs.Common.{◌≡◌, ℕ, ◌<◌, get_or, None}
use Rattle.trellis.specs.Windows.{first_cell}
use Rattle.trellis.proofs.forward.start.Given as goal

-- the cells below s are written
abbrev pub invariant-loop-s : goal.invariant-loop-s
invariant-loop-s g l = (v : ℕ) → v < l.s → get_or l.cells v None ≡ first_cell g.C.Cost v
