use Rattle.std.proofs.Common.{◌≡◌}
use Rattle.line.specs.Scrambler.{number, register}
use Rattle.line.proofs.scrambler.run.Given as goal

abbrev pub invariant-loop : goal.invariant-loop
invariant-loop l = l.elements ≡ number (register l.counter)
