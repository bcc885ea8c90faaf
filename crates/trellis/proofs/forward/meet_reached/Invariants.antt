use Rattle.trellis.proofs.Meeting.{Met}
use Rattle.trellis.proofs.forward.meet_reached.Given as goal

-- the windows below the loop's have gone on into their registers
abbrev pub invariant-loop-window : goal.invariant-loop-window
invariant-loop-window g l = Met g.C.Cost l.old l.costs l.window l.new l.marks
