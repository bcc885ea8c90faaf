use Rattle.std.proofs.Common.{◌≡◌, ℕ, ◌+◌, ◌*◌, ◌<◌, length, get_or, drop}
use Rattle.trellis.specs.Bits.{bits}
use Rattle.trellis.specs.Codes.{rows_of}
use Rattle.trellis.specs.Met.{read}
use Rattle.trellis.specs.Paths.{grown_rows}
use Rattle.trellis.proofs.windows.Trellis.grow_rows.Given as goal

-- what is left of the rows gives what they all give
abbrev pub invariant-loop-i : goal.invariant-loop-i
invariant-loop-i g l =
    let k = g.C.Cost in
    let rows = rows_of l.self.code in
    let met = read k (g.H.Received.met l.heard) in
    (w : ℕ) → w < length l.initial.costs →
    grown_rows k rows met (get_or l.costs w k.ZERO) (bits 8 w) (length rows * l.t + l.i) (drop l.i rows)
    ≡ grown_rows k rows met (get_or l.initial.costs w k.ZERO) (bits 8 w) (length rows * l.t) rows
