use Rattle.channels.proofs.Worked.{worked}
use Rattle.channels.proofs.examples.worked_examples.Goals as goal

pub returns : goal.returns
returns c = worked
