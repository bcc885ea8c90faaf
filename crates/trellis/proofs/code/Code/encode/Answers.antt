use Rattle.std.proofs.Common.{◌≡◌, ◌+◌, ◌-◌, ◌*◌, ◌<◌, ◌≤◌, false, true, map, length, drop, min, get_or, refl, ap, ◌∙◌, arith, rules}
use Rattle.std.proofs.lemmas.List.{length-take, length-drop}
use Rattle.trellis.specs.Bits.{odd, bit_of}
use Rattle.trellis.specs.Codes.{sound}
use Rattle.trellis.proofs.Encoding.{window_at, window_first, window_next, window_few, step_begins, steps_fill, encoded_more}
use Rattle.trellis.proofs.Soundness.{sound_parts}
use Rattle.trellis.proofs.code.Code.encode.Goals as goal

pub loop-t-init : goal.loop-t-init
loop-t-init c = (window_first c.args.self.now (map odd c.args.run.now), λ j h. absurd (omega arith))

pub window-window-requires : goal.window-window-requires
window-window-requires c =
    let code = c.args.self.now in
    let checked : sound code ≡ true = search rules in
    let few = window_few code (map odd c.args.run.now) (sound_parts code checked) c.loop-t.t in
    omega (arith, c.loop-t.invariant.0)

pub overflow_cast-window : goal.overflow_cast-window
overflow_cast-window c =
    let code = c.args.self.now in
    let checked : sound code ≡ true = search rules in
    let few = window_few code (map odd c.args.run.now) (sound_parts code checked) c.loop-t.t in
    omega (arith, c.loop-t.invariant.0, ap (λ b. c.loop-t.register * 2 + bit_of b) c.entering.ensures)

pub loop-t-preserved : goal.loop-t-preserved
loop-t-preserved c =
    let code = c.args.self.now in
    let run = map odd c.args.run.now in
    let checked : sound code ≡ true = search rules in
    let t = c.loop-t.t in
    let window = c.window-window.result in
    let before = c.loop-t.coded in
    let step = c.put_step.new.step in
    let room = length c.args.coded.now in
    let a = t * code.rows in
    let now : window ≡ window_at code run t = c.window-window.ensures ∙ ap (λ b. c.loop-t.register * 2 + bit_of b) c.entering.ensures ∙ c.loop-t.invariant.0 in
    let parts = sound_parts code checked in
    let begins : a < room = step_begins room code.rows t parts.some_rows (omega arith) in
    let cut : length step ≡ c.min.result - a = omega (arith, c.put_step.auto.step, length-take (c.min.result - a) (drop a before), length-drop a before) in
    let wide : a + length step ≡ min room (a + code.rows) = omega arith in
    let within : a ≤ length before = omega arith in (
      ap (λ r. r * 2 + bit_of (get_or run (t + 1) false)) c.masked-register.ensures ∙ window_next code run t window now,
      encoded_more code run parts room t a window before step _ now refl within wide c.loop-t.invariant.1 (λ i h. c.put_step.ensures i (omega (arith, c.put_step.auto.step))),
    )

pub returns-clause-coded : goal.returns-clause-coded
returns-clause-coded c checked j h =
    let code = c.args.self.now in
    let parts = sound_parts code checked in
    let all : length c.args.coded.now ≤ c.loop-t.t * code.rows = steps_fill (length c.args.coded.now) code.rows c.loop-t.t parts.some_rows (omega arith) in
    c.loop-t.invariant.1 j (omega arith) h
