use Rattle.trellis.proofs.Records.{register_back}
use Rattle.trellis.proofs.register.shifted_back.Goals as goal

pub returns : goal.returns
returns c = register_back c.args.memory c.args.register c.args.dropped c.requires.memory.0 c.requires.memory.1 c.requires.bits.0 c.requires.bits.1
