use Rattle.std.proofs.Common.{◌≡◌, ◌++◌, map, take}
use Rattle.sendburst.specs.Written.{figure}
use Rattle.sendburst.proofs.form.put_figures.Given as goal

abbrev pub invariant-loop-bit : goal.invariant-loop-bit
invariant-loop-bit l = l.written.items ≡ l.initial.written.items ++ map figure (take l.bit-index l.burst)
