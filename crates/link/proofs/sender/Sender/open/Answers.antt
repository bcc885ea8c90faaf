use Rattle.std.proofs.Common.{sym, ap, ◌∙◌, refl}
use Rattle.line.proofs.Bounds.{laws_met}
use Rattle.link.proofs.Streaming.{all_streams}
use Rattle.link.proofs.sender.Sender.open.Goals as goal

pub returns : goal.returns
returns g c =
    let agreed = c.in_ok-format.ensures in
    let format = agreed.1 in
    record {
      rules = agreed.0;
      format = format;
      counted = refl;
      streams = all_streams (laws_met g.met.L.Line) _ (format.burst ∙ ap g.L.Line.sent (sym format.line)) refl;
    }
