use Rattle.std.proofs.Common.{◌≡◌, suc, ◌+◌, arith}
use Rattle.line.specs.Scrambler.{register}
use Rattle.line.proofs.Registers.{number_clocked}
use Rattle.line.proofs.scrambler.run.Goals as goal

pub loop-preserved : goal.loop-preserved
loop-preserved c =
    let r = register c.loop.counter in
    let on : c.loop.counter + 1 ≡ suc c.loop.counter = omega arith in
    rw (on, c.loop.invariant, c.value.ensures r c.loop.invariant) (number_clocked r)
