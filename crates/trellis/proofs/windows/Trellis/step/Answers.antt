use Rattle.std.proofs.Common.{◌≡◌, ◌*◌, ◌^◌, length, arith, rules}
use Rattle.trellis.specs.Codes.{rows_of}
use Rattle.trellis.specs.Met.{read}
use Rattle.trellis.specs.Windows.{Grown}
use Rattle.trellis.proofs.Soundness.{sound_parts}
use Rattle.trellis.proofs.Stepping.{cells_next, marks_next}
use Rattle.trellis.proofs.windows.Trellis.step.Goals as goal

pub whole_as_front-costs : goal.whole_as_front-costs
whole_as_front-costs g c =
    let few = (sound_parts c.args.self.now.code c.args.self.now.checked).registers_few in (omega arith, g.met.C.Cost.roomy)

pub returns : goal.returns
returns g c =
    let k = g.C.Cost in
    let code = c.args.self.now.code in
    let m = code.memory in
    let t = c.args.t in
    let rows = rows_of code in
    let met = read k (g.H.Received.met c.args.heard.now) in
    let old = c.args.old.now in
    let spread = c.spread-whole.new.costs in
    let grown = c.grow_rows.new.costs in
    let parts = sound_parts code c.args.self.now.checked in
    let long : length old ≡ 2 ^ m = c.requires.room.0 in
    let wide : length spread ≡ 2 * 2 ^ m = search rules in
    let more : Grown k rows met t spread grown = c.grow_rows.ensures in
    let next = cells_next k rows met g.met.C.Cost.laid m t parts.some_memory parts.memory_few parts.taps_below old spread grown c.requires.cells c.spread-whole.ensures.costs wide more long in
    let marks = marks_next k rows met g.met.C.Cost.laid m t parts.some_memory parts.memory_few parts.taps_below old spread grown c.requires.cells c.spread-whole.ensures.costs wide more long in
    record {
      cells = next c.meet.new.new c.meet.ensures.cells;
      marks = marks c.meet.new.marks c.meet.ensures.marks;
    }
