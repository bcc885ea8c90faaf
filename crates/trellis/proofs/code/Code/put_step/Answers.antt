use Rattle.std.proofs.Common.{◌<◌, ◌≢◌, false, length, ◌∙◌, arith, get_or-set_other, get_or-set_same, below_more}
use Rattle.trellis.proofs.code.Code.put_step.Goals as goal

pub loop-i-preserved : goal.loop-i-preserved
loop-i-preserved c =
    let bits = c.loop-i.step in
    let i = c.loop-i.i in
    let here : i < length bits = omega arith in
    below_more _ _
    (λ k h. let ne : k ≢ i = omega arith in get_or-set_other bits i k c.row_bit.result false ne ∙ c.loop-i.invariant k h)
    (get_or-set_same bits i c.row_bit.result false here ∙ c.row_bit.ensures)
