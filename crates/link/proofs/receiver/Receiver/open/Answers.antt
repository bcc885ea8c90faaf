use Rattle.std.proofs.Common.{◌≡◌, length, rules, refl}
use Rattle.cost.proofs.Lawful.{laws_of}
use Rattle.line.proofs.Bounds.{laws_met}
use Rattle.link.proofs.Clean.{agreed_on, all_as_sent}
use Rattle.link.proofs.Soundness.{all_sound}
use Rattle.link.proofs.receiver.Receiver.open.Goals as goal

pub returns : goal.returns
returns g c =
    let agreed = c.in_ok-format.ensures in
    let a = c.args.proposal in
    let five : length a.code.taps ≡ 5 = search rules in
    let laws = laws_of g.met.C.Cost in
    let both = agreed_on g.L.Line a _ five agreed.0 agreed.1 in
    let sound = all_sound laws g.L.Line _ both.parity refl in
    record {
      rules = agreed.0;
      format = agreed.1;
      counted = refl;
      histories = sound;
      both_ends = all_as_sent laws (laws_met g.met.L.Line) _ both sound;
    }
