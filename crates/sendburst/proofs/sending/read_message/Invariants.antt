use Rattle.std.proofs.Common.{take}
use Rattle.sendburst.specs.Written.{IsRead}
use Rattle.sendburst.proofs.sending.read_message.Given as goal

abbrev pub invariant-loop-figure : goal.invariant-loop-figure
invariant-loop-figure l = IsRead (take l.figure-index l.figure-items) l.message.items
