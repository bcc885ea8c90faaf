use Rattle.std.proofs.Common.{◌≡◌, ◌+◌, ◌-◌, ◌*◌, ◌^◌, ◌++◌, length, drop, None, ap, ◌∙◌, subst, arith, length-append, append-nil, pow_pos, rules}
use Rattle.std.proofs.Math.Seq.{take-length, drop-length}
use Rattle.std.proofs.lemmas.List.{length-take, length-drop, get_or_append_left, get_or_read}
use Rattle.trellis.specs.Cells.{Cells, kept_at}
use Rattle.trellis.specs.Codes.{rows_of}
use Rattle.trellis.specs.Met.{read}
use Rattle.trellis.specs.Windows.{lifted}
use Rattle.trellis.proofs.Passing.{cells_first, cells_after, marks_more, lifted_kept}
use Rattle.trellis.proofs.Records.{row_fits}
use Rattle.trellis.proofs.windows.Trellis.forward.Goals as goal

pub loop-t-init : goal.loop-t-init
loop-t-init g c =
    let code = c.args.self.now.code in
    let met = read g.C.Cost (g.H.Received.met c.args.heard.now) in
    let front = c.split_at_mut-old.result.0.now in
    let first = c.start.new.cells in
    let rest = drop (length front) front in
    let split = c.split_at_mut-old.ensures in
    let wide = c.registers-registers.ensures in
    let long : length first ≡ 2 ^ code.memory = omega (arith, c.start.auto.cells, length-take (length front) front, split.front_len) in (
      omega (arith, length-append first rest, length-drop (length front) front),
      omega (arith, split.back_len),
      cells_first g.C.Cost (rows_of code) met code.memory (first ++ rest)
          (λ s h. get_or_append_left first rest None s (omega arith) ∙ c.start.ensures s (omega (arith, length-take (length front) front))),
      λ u s h f. absurd (omega arith),
    )

pub loop-t-preserved : goal.loop-t-preserved
loop-t-preserved g c =
    let k = g.C.Cost in
    let code = c.args.self.now.code in
    let m = code.memory in
    let met = read k (g.H.Received.met c.args.heard.now) in
    let t = c.loop-t.t in
    let registers = c.registers-registers.result in
    let place : t * registers ≡ t * 2 ^ m = ap (λ r. t * r) c.registers-registers.ensures in
    let fits = row_fits m c.args.self.now.steps t (omega arith) in
    let next : (t + 1) * registers ≡ t * registers + registers = search rules in
    let row = c.step.new.new in
    let same : c.swap.new.x.now ≡ row =
    ap (λ r. r.now) c.swap.ensures.x_after ∙ ap (λ xs. row ++ xs) (drop-length c.loop-t.new.now) ∙ append-nil row in
    let wide : length c.step.new.marks ≡ 2 ^ m =
    omega (arith, c.step.auto.marks, length-take ((t + 1) * registers - t * registers) (drop (t * registers) c.loop-t.paths), length-drop (t * registers) c.loop-t.paths, next, c.registers-registers.ensures) in (
      ap length same ∙ omega (arith, c.step.auto.new, ap length (take-length c.loop-t.new.now), c.loop-t.invariant.1),
      ap (λ r. length r.now) c.swap.ensures.y_after ∙ c.loop-t.invariant.0,
      cells_after k (rows_of code) met m t row c.swap.new.x.now same c.step.ensures.cells,
      marks_more m t (t * registers) (kept_at k (rows_of code) met m) c.loop-t.paths c.step.new.marks _ place (omega arith) wide c.loop-t.invariant.3 c.step.ensures.marks,
    )

pub returns-clause-value : goal.returns-clause-value
returns-clause-value g c =
    let k = g.C.Cost in
    let code = c.args.self.now.code in
    let rows = rows_of code in
    let met = read k (g.H.Received.met c.args.heard.now) in
    let end : c.loop-t.t ≡ c.args.self.now.steps = omega arith in
    let some = pow_pos code.memory in
    let taken : c.map.result ≡ lifted k c.index-old-0.result = search rules in
    let cell = get_or_read c.loop-t.old.now 0 c.index-old-0.result (omega arith) c.index-old-0.is None in
    let cells = subst (λ n. Cells k rows met code.memory n c.loop-t.old.now) end c.loop-t.invariant.2 in
    taken ∙ ap (lifted k) (cell ∙ cells 0 some) ∙ lifted_kept k rows met g.met.C.Cost.laid (kept_at k rows met code.memory c.args.self.now.steps 0)
