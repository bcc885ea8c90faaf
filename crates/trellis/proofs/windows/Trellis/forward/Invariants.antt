use Rattle.std.proofs.Common.{◌≡◌, ◌^◌, length}
use Rattle.trellis.specs.Cells.{Cells, MarkedBelow, kept_at}
use Rattle.trellis.specs.Codes.{rows_of}
use Rattle.trellis.specs.Met.{read}
use Rattle.trellis.proofs.windows.Trellis.forward.Given as goal

-- the first row of cells stands after t steps, and the rows of marks below t are written
abbrev pub invariant-loop-t : goal.invariant-loop-t
invariant-loop-t g l =
    let k = g.C.Cost in
    let rows = rows_of l.self.code in
    let met = read k (g.H.Received.met l.heard) in
    let m = l.self.code.memory in
    (length l.old ≡ 2 ^ m) × (length l.new ≡ 2 ^ m)
    × Cells k rows met m l.t l.old × MarkedBelow m (kept_at k rows met m) l.paths l.t
