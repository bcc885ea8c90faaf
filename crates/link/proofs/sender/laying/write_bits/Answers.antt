use Rattle.std.proofs.Common.{◌∙◌, length-set, arith}
use Rattle.link.proofs.Writing.{written_more, written_all}
use Rattle.link.proofs.sender.laying.write_bits.Goals as goal

pub loop-place-preserved : goal.loop-place-preserved
loop-place-preserved c =
    let row = c.loop-place.row in
    let place = c.loop-place.place in (
      length-set row place _ ∙ c.loop-place.invariant.0,
      written_more c.args.number _ place row c.loop-place.invariant.0 (omega arith) c.loop-place.invariant.1,
    )

pub returns : goal.returns
returns c = written_all c.args.number _ c.loop-place.row c.loop-place.invariant.0 (λ i h. let past = c.loop-place-test.false in c.loop-place.invariant.1 i (omega arith))
