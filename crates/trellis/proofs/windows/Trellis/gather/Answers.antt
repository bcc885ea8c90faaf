use Rattle.std.proofs.Common.{◌≡◌, ◌*◌, ◌%◌, ◌^◌, ◌<◌, ◌≢◌, length, get_or, set, ap, ◌∙◌, arith, get_or-set_other, get_or-set_same, pow_pos, below_more}
use Rattle.trellis.proofs.Records.{row_exact, row_within, row_after}
use Rattle.trellis.proofs.Soundness.{sound_parts}
use Rattle.trellis.proofs.windows.Trellis.gather.Goals as goal

pub loop-i-preserved : goal.loop-i-preserved
loop-i-preserved c =
    let i = c.loop-i.i in
    let m = c.args.self.now.code.memory in
    let xs = c.loop-i.paths in
    let x = get_or xs ((i * 2 ^ m) % 2 ^ 64) 0 in
    let within : i < length xs = omega (arith, row_within m c.args.self.now.steps i 0 c.loop-i-test.true (pow_pos m), row_after i m) in
    let moved : x ≡ get_or c.args.paths.now (i * 2 ^ m) 0
    = ap (λ k. get_or xs k 0) (row_exact i m (omega arith) (sound_parts c.args.self.now.code c.args.self.now.checked).memory_few) ∙ c.loop-i.invariant.1 (i * 2 ^ m) (row_after i m) in (
      below_more (λ k. get_or (set xs i x) k 0 ≡ get_or c.args.paths.now (k * 2 ^ m) 0) i
          (λ k h. let ne : k ≢ i = omega arith in get_or-set_other xs i k x 0 ne ∙ c.loop-i.invariant.0 k h)
          (get_or-set_same xs i x 0 within ∙ moved),
      λ k h. let ne : k ≢ i = omega arith in get_or-set_other xs i k x 0 ne ∙ c.loop-i.invariant.1 k (omega arith),
    )
