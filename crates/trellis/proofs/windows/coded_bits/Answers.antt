use Rattle.std.proofs.Common.{◌<◌, ◌≢◌, [], length, get_or, false, ap, ◌∙◌, arith, length-set, get_or-set_other, get_or-set_same, below_more}
use Rattle.trellis.proofs.windows.coded_bits.Goals as goal

pub loop-i-preserved : goal.loop-i-preserved
loop-i-preserved c =
    let rows = c.loop-i.bits-items in
    let i = c.loop-i.i in
    let row = c.row_bits.result in
    let here : i < length rows = omega arith in (
      length-set rows i row ∙ c.loop-i.invariant.0,
      below_more _ _
          (λ j h w f. let ne : j ≢ i = omega arith in ap (λ r. get_or r w false) (get_or-set_other rows i j row [] ne) ∙ c.loop-i.invariant.1 j h w f)
          (λ w f. ap (λ r. get_or r w false) (get_or-set_same rows i row [] here) ∙ c.row_bits.ensures w f),
    )
