use Rattle.std.proofs.Common.{◌<◌, ◌≢◌, length, false, ◌∙◌, arith, length-set, get_or-set_other, get_or-set_same, below_more}
use Rattle.trellis.proofs.windows.row_bits.Goals as goal

pub loop-window-preserved : goal.loop-window-preserved
loop-window-preserved c =
    let xs = c.loop-window.bit-items in
    let w = c.loop-window.window in
    let here : w < length xs = omega arith in (
      length-set xs w c.row_bit.result ∙ c.loop-window.invariant.0,
      below_more _ _
          (λ v h. let ne : v ≢ w = omega arith in get_or-set_other xs w v c.row_bit.result false ne ∙ c.loop-window.invariant.1 v h)
          (get_or-set_same xs w c.row_bit.result false here ∙ c.row_bit.ensures),
    )
