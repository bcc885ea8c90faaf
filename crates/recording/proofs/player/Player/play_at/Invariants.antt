use Rattle.std.proofs.Common.{◌-◌, Some, length, string_bytes}
use Rattle.recording.specs.Playing.{weighed, Comes}
use Rattle.recording.proofs.Going.{GoingBy}
use Rattle.recording.proofs.player.Player.play_at.Given as goal

abbrev pub invariant-loop-comes : goal.invariant-loop-comes
invariant-loop-comes g l =
    GoingBy (weighed g.C.Cost g.C.Figured.KIND g.C.Sample.Spelt.spelt g.C.Figured.figures) l.fn.self (string_bytes l.fn.self.lines)
    l.initial.station l.self l.station
    × Comes (Some g.C.Figured.KIND) l.self l.comes

abbrev pub decreases-loop-comes : goal.decreases-loop-comes
decreases-loop-comes g l = length l.self.bytes.now - l.self.at
