use Rattle.std.proofs.Common.{Some, refl, subst}
use Rattle.stations.specs.Stations.{blank}
use Rattle.stations.proofs.Blank.{blank_room}
use Rattle.recording.specs.Playing.{weighed, Comes}
use Rattle.recording.proofs.Going.{no_calls}
use Rattle.recording.proofs.player.Player.play_on.Goals as goal

pub returns-then-not-is_call : goal.returns-then-not-is_call
returns-then-not-is_call g c =
    let kind = g.C.Figured.KIND in
    let w = weighed g.C.Cost kind g.C.Sample.Spelt.spelt g.C.Figured.figures in
    let p = c.args.self.now in
    let r = c.open-receiver.result in
    let comes = subst (λ k. Comes (Some k) p c.next-first.result) c.KIND.ensures c.next-first.ensures in
    let stops = c.is_call.ensures kind p comes c.if-not-is_call.true in
    record {
      same = refl;
      after = no_calls w p c.args.channel r (blank g.C.Cost r.format) c.open-receiver.ensures (blank_room g.C.Cost r.format) stops p.within;
    }
