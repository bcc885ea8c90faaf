use Rattle.std.proofs.Common.{◌≡◌, ◌-◌, ◌++◌, map}
use Rattle.puncture.proofs.mask.strip.Strip.packed.Given as goal
use Rattle.puncture.specs.Masks.{columns, flat, width}
use Rattle.puncture.specs.Strips.{held}

abbrev pub invariant-loop-c : goal.invariant-loop-c
invariant-loop-c l =
    held l.strip ++ columns (map (λ x. x.now) l.table) l.c (width (map (λ x. x.now) l.table) - l.c) ≡ flat (map (λ x. x.now) l.table)
