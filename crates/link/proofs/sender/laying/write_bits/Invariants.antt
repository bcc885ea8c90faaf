use Rattle.std.proofs.Common.{◌≡◌, length}
use Rattle.link.proofs.Writing.{WrittenBelow}
use Rattle.link.proofs.sender.laying.write_bits.Given as goal

-- the highest bits have been written
abbrev pub invariant-loop-place : goal.invariant-loop-place
invariant-loop-place l = (length l.row ≡ l.highest) × WrittenBelow l.number l.highest l.place l.row
