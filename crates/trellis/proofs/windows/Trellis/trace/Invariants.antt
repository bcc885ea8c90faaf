use Rattle.std.proofs.Common.{◌≡◌, ℕ, ◌*◌, ◌^◌, ◌<◌, Bool, List, get_or, Option}
use Rattle.trellis.specs.Tracing.{Recorded}
use Rattle.trellis.proofs.Tracebacks.{Back}
use Rattle.trellis.proofs.windows.Trellis.trace.Given as goal

abbrev pub invariant-loop-t : goal.invariant-loop-t
invariant-loop-t l =
    (l.register < 2 ^ l.self.code.memory)
    × ((k : ℕ) → k < l.t * 2 ^ l.self.code.memory → get_or l.paths k 0 ≡ get_or l.initial.paths k 0)
    × ((kept : ℕ → ℕ → Option (List Bool)) (path : List Bool) → Recorded l.self.code.memory l.self.steps kept path l.initial.paths →
    Back l.self.code.memory l.self.steps kept path l.paths l.t l.register)
