use Rattle.std.proofs.Common.{◌≡◌, ◌++◌, map, drop}
use Rattle.puncture.proofs.mask.strip.Strip.with_column.Given as goal
use Rattle.puncture.specs.Masks.{column}
use Rattle.puncture.specs.Strips.{held}

abbrev pub invariant-loop-row : goal.invariant-loop-row
invariant-loop-row l = held l.strip ++ column (map (λ x. x.now) (drop l.row-index l.table)) l.c ≡ held l.initial.strip ++ column (map (λ x. x.now) l.table) l.c
