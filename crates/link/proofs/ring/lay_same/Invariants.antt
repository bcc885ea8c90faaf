use Rattle.std.proofs.Common.{◌≡◌, take, replicate}
use Rattle.link.proofs.ring.lay_same.Given as goal

abbrev pub invariant-loop-cell : goal.invariant-loop-cell
invariant-loop-cell g l = take l.cell-index l.part ≡ replicate l.cell-index l.sample
