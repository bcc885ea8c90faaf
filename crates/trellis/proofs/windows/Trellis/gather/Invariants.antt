use Rattle.std.proofs.Common.{◌≡◌, ℕ, ◌*◌, ◌^◌, ◌<◌, ◌≤◌, get_or}
use Rattle.trellis.proofs.windows.Trellis.gather.Given as goal

abbrev pub invariant-loop-i : goal.invariant-loop-i
invariant-loop-i l =
    ((k : ℕ) → k < l.i → get_or l.paths k 0 ≡ get_or l.initial.paths (k * 2 ^ l.self.code.memory) 0)
    × ((k : ℕ) → l.i ≤ k → get_or l.paths k 0 ≡ get_or l.initial.paths k 0)
