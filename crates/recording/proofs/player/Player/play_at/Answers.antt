use Rattle.std.proofs.Common.{drop, Some, None, false, string_bytes, sym, refl, ap, ◌∙◌, subst}
use Rattle.recording.specs.Playing.{weighed, Comes, Wrote, Turns}
use Rattle.records.specs.Records.{said, Stands, Begins}
use Rattle.link.specs.Calls.{sizes}
use Rattle.stations.specs.Stations.{memory}
use Rattle.stations.proofs.Blank.{blank_room}
use Rattle.recording.proofs.Going.{Going, going_begun, going_after, calls_after}
use Rattle.recording.proofs.player.Player.play_at.Goals as goal

pub loop-comes-init : goal.loop-comes-init
loop-comes-init g c =
    let w = weighed g.C.Cost g.C.Figured.KIND g.C.Sample.Spelt.spelt g.C.Figured.figures in
    let p = c.args.self.now in
    let s = c.args.station.now in
    let before = string_bytes p.lines in (
      record {
        same = refl;
        going = going_begun w p.bytes.now p.at s.receiver (memory s) before (ap sizes c.requires.fresh.lends ∙ blank_room g.C.Cost s.receiver.format) p.within;
      },
      c.requires.first,
    )

pub loop-comes-preserved : goal.loop-comes-preserved
loop-comes-preserved g c =
    let w = weighed g.C.Cost g.C.Figured.KIND g.C.Sample.Spelt.spelt g.C.Figured.figures in
    let p = c.args.self.now in
    let first = c.args.station.now in
    let q = c.loop-comes.self in
    let s = c.loop-comes.station in
    let s' = c.answer.new.station in
    let i = c.loop-comes.invariant.0 in
    let before = string_bytes p.lines in
    let text = string_bytes q.lines in
    let text' = string_bytes c.answer.new.lines in
    let says = said c.in-Some.record in
    let found = subst (λ o. Comes (Some g.C.Figured.KIND) q o) c.in-Some.is c.loop-comes.invariant.1 in
    let wrote : Wrote w says s text s' text' = subst (λ b. Turns w says s text b s' text') c.if-not-branch.false c.in_ok-answer.ensures in (
      record {
        same = i.same;
        going =
            subst (λ n. Going w first.receiver p.bytes.now p.at (memory first) s'.receiver (memory s') n before text') (sym found.1)
            (going_after w first.receiver p.bytes.now p.at (memory first) c.requires.fresh.tuned.opened.histories s s' q.at before text text'
            says (subst (λ b. Begins (Some w.named) (drop q.at b) says) i.same found.0.0) i.going wrote);
      },
      rw (← c.KIND.ensures) c.next-comes.ensures,
    )

pub returns-then-not-branch : goal.returns-then-not-branch
returns-then-not-branch g c =
    let w = weighed g.C.Cost g.C.Figured.KIND g.C.Sample.Spelt.spelt g.C.Figured.figures in
    let q = c.loop-comes.self in
    let s = c.loop-comes.station in
    let i = c.loop-comes.invariant.0 in
    let text = string_bytes q.lines in
    let text' = string_bytes c.answer.new.lines in
    let says = said c.in-Some.record in
    let found = subst (λ o. Comes (Some g.C.Figured.KIND) q o) c.in-Some.is c.loop-comes.invariant.1 in
    let turned : Turns w says s text false c.answer.new.station text' =
    subst (λ b. Turns w says s text b c.answer.new.station text') c.if-not-branch.true c.in_ok-answer.ensures in
    record {
      same = i.same;
      after =
          calls_after w c.args.self.now c.args.channel c.args.station.now q s c.requires.fresh.tuned i text' turned.1
          (λ t b. subst (λ u. Stands None u) (sym (found.0.1 t b)) turned.0);
    }

pub returns-in_default : goal.returns-in_default
returns-in_default g c =
    let w = weighed g.C.Cost g.C.Figured.KIND g.C.Sample.Spelt.spelt g.C.Figured.figures in
    let q = c.loop-comes.self in
    let i = c.loop-comes.invariant.0 in
    record {
      same = i.same;
      after =
          calls_after w c.args.self.now c.args.channel c.args.station.now q c.loop-comes.station c.requires.fresh.tuned i (string_bytes q.lines) refl
          (λ t b. absurd (subst (λ o. Comes (Some g.C.Figured.KIND) q o) c.in_default.is c.loop-comes.invariant.1 t b));
    }
