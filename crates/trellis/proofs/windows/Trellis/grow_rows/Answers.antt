use Rattle.std.proofs.Common.{◌≡◌, ◌+◌, ◌*◌, false, [], ◌<◌, length, get_or, take, sym, ap, ◌∙◌, arith, get_or-take}
use Rattle.std.proofs.lemmas.List.{length-take, at_drop_all}
use Rattle.trellis.specs.Bits.{bits}
use Rattle.trellis.specs.Codes.{rows_of, summed}
use Rattle.trellis.specs.Met.{read}
use Rattle.trellis.specs.Paths.{grown_by, grown_rows}
use Rattle.trellis.proofs.Growing.{grown_sent, grown_unsent, rows_left_more}
use Rattle.trellis.proofs.Soundness.{sound_parts}
use Rattle.trellis.proofs.windows.Trellis.grow_rows.Goals as goal
use Rattle.trellis.proofs.windows.Trellis.grow_rows.Goals.{in-Some, in_default}

pub loop-i-preserved : goal.loop-i-preserved
loop-i-preserved g c w h =
    let k = g.C.Cost in
    let met = g.H.Received.met c.args.heard.now in
    let code = c.args.self.now.code in
    let rows = rows_of code in
    let table = c.args.self.now.table in
    let t = c.args.t in
    let i = c.loop-i.i in
    let x = summed (get_or rows i 0) (bits 8 w) in
    let before = get_or c.loop-i.costs w k.ZERO in
    let few = (sound_parts code c.args.self.now.checked).rows_few in
    let there : i < code.rows = omega (arith, length-take code.rows table) in
    let all : length rows ≡ code.rows = omega (arith, length-take code.rows code.taps) in
    let at : length rows * t + i ≡ code.rows * t + i = ap (λ r. r * t + i) all in
    let bit : get_or (get_or (take code.rows table) i []) w false ≡ x =
    ap (λ bs. get_or bs w false) (get_or-take code.rows table i [] there) ∙ c.args.self.now.coded i w (omega arith) (omega arith) in
    let grown : get_or c.match-met_at.costs w k.ZERO ≡ grown_by k before x (read k met (length rows * t + i)) =
    elim c.match-met_at.branch [
      | in-Some v ↦ ap (λ cs. get_or cs w k.ZERO) v.costs-is
          ∙ grown_sent k met (code.rows * t + i) before _ v.weighed.result (get_or (get_or (take code.rows table) i []) w false) x _
          v.in-Some.ensures v.weighed.ensures bit (v.grow_row.ensures w (omega arith))
          ∙ sym (ap (λ j. grown_by k before x (read k met j)) at)
      | in_default v ↦ ap (λ cs. get_or cs w k.ZERO) v.costs-is
          ∙ sym (ap (λ j. grown_by k before x (read k met j)) at ∙ grown_unsent k met _ before x v.in_default.ensures)
    ] in
    rows_left_more k (read k met) rows before _ (bits 8 w) (length rows * t) i (omega arith) grown ∙ c.loop-i.invariant w h

pub returns : goal.returns
returns g c w h =
    let k = g.C.Cost in
    let code = c.args.self.now.code in
    let met = read k (g.H.Received.met c.args.heard.now) in
    let long = length-take code.rows code.taps in
    let table = length-take code.rows c.args.self.now.table in
    sym (at_drop_all (λ rs. grown_rows k (rows_of code) met (get_or c.loop-i.costs w k.ZERO) (bits 8 w) (length (rows_of code) * c.args.t + c.loop-i.i) rs) (rows_of code) c.loop-i.i (omega arith))
    ∙ c.loop-i.invariant w h
