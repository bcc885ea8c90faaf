use Rattle.channels.proofs.Tuning.{tuned}
use Rattle.channels.proofs.channel.Channel.open.Goals as goal

pub returns : goal.returns
returns g c = tuned c.args.self c.proposal.result c.proposal.ensures g.C.Cost c.open.result c.open.ensures
