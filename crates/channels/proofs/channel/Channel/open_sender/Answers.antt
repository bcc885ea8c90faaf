use Rattle.channels.proofs.Tuning.{tuned_sender}
use Rattle.channels.proofs.channel.Channel.open_sender.Goals as goal

pub returns : goal.returns
returns c = tuned_sender c.args.self c.proposal.result c.proposal.ensures c.open_sender.result c.open_sender.ensures
