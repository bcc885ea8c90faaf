use lib.Bits.{and_mask}
use Rattle.line.proofs.Registers.{number_at}
use Rattle.line.proofs.scrambler.bit.Goals as goal

pub returns : goal.returns
returns c bs e = rw (and_mask _ 1, e) (number_at bs c.args.i)
