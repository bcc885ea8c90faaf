use Rattle.std.proofs.Common.{arith}
use Rattle.trellis.proofs.Numbers.{odd_ones_summed}
use Rattle.trellis.proofs.windows.row_bit.Goals as goal

pub returns : goal.returns
returns c = odd_ones_summed 8 c.args.window c.args.taps (omega arith)
