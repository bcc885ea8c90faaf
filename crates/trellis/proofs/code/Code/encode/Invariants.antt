use Rattle.std.proofs.Common.{◌≡◌, ◌+◌, ◌*◌, false, map, length, get_or}
use Rattle.trellis.specs.Bits.{odd, bit_of}
use Rattle.trellis.proofs.Encoding.{Encoded, window_at}
use Rattle.trellis.proofs.code.Code.encode.Given as goal

-- with the bit that enters the register is the step's window, and the steps below t have put their bits
abbrev pub invariant-loop-t : goal.invariant-loop-t
invariant-loop-t l =
    let run = map odd l.run in
    (l.register * 2 + bit_of (get_or run l.t false) ≡ window_at l.self run l.t)
    × Encoded l.self run (length l.initial.coded) (l.t * l.self.rows) l.coded
