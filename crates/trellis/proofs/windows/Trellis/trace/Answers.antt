use Rattle.std.proofs.Common.{◌≡◌, ◌+◌, ◌-◌, ◌*◌, ◌/◌, ◌%◌, ◌^◌, ◌<◌, ◌≢◌, length, get_or, set, sym, ap, ◌∙◌, subst, ap₂, arith, get_or-set_other, pow_pos}
use lib.Bits.{bit_and, and_mask}
use Rattle.trellis.specs.Bits.{odd, bit_of}
use Rattle.trellis.proofs.Bitwise.{bit_of_odd}
use Rattle.trellis.proofs.Records.{row_exact, row_within, register_back_below}
use Rattle.trellis.proofs.Tracebacks.{Back, back_more, back_all}
use Rattle.trellis.proofs.Soundness.{sound_parts}
use Rattle.trellis.proofs.windows.Trellis.trace.Goals as goal

pub loop-t-preserved : goal.loop-t-preserved
loop-t-preserved c =
    let m = c.args.self.now.code.memory in
    let steps = c.args.self.now.steps in
    let parts = sound_parts c.args.self.now.code c.args.self.now.checked in
    let r = c.loop-t.register in
    let xs = c.loop-t.paths in
    let before = c.args.paths.now in
    let t = c.loop-t.t - 1 in
    let on : c.loop-t.t ≡ t + 1 = omega arith in
    let row : (t * 2 ^ m) % 2 ^ 64 ≡ t * 2 ^ m = row_exact t m (omega arith) parts.memory_few in
    let mark = get_or before (t * 2 ^ m + r) 0 in
    let read : get_or xs ((t * 2 ^ m) % 2 ^ 64 + r) 0 ≡ mark
    = ap (λ n. get_or xs (n + r) 0) row ∙ c.loop-t.invariant.1 (t * 2 ^ m + r) (row_within m c.loop-t.t t r (omega arith) c.loop-t.invariant.0) in
    let low : bit_and r 1 ≡ bit_of (odd r) = and_mask r 1 ∙ sym (bit_of_odd r) in
    let written : set xs ((t * 2 ^ m) % 2 ^ 64) (bit_and r 1) ≡ set xs (t * 2 ^ m) (bit_of (odd r)) = ap₂ (set xs) row low in
    let back : c.shifted_back-register.result ≡ r / 2 + mark % 2 * 2 ^ (m - 1)
    = c.shifted_back-register.ensures ∙ ap (λ n. r / 2 + n * 2 ^ (m - 1)) (ap (λ n. bit_and n 1) read ∙ and_mask mark 1) in (
      subst (λ n. n < 2 ^ m) (sym back) (register_back_below m r (mark % 2) parts.some_memory c.loop-t.invariant.0 (omega arith)),
      (λ k h. let ne : k ≢ t * 2 ^ m = omega arith in
          let earlier : k < c.loop-t.t * 2 ^ m = omega (arith, row_within m c.loop-t.t t 0 (omega arith) (pow_pos m)) in
          ap (λ l. get_or l k 0) written ∙ get_or-set_other xs (t * 2 ^ m) k (bit_of (odd r)) 0 ne ∙ c.loop-t.invariant.1 k earlier),
      (λ kept path recorded.
          let came = subst (λ n. Back m steps kept path xs n r) on (c.loop-t.invariant.2 kept path recorded) in
          let inside : t * 2 ^ m < length xs = omega (arith, row_within m steps t 0 (omega arith) (pow_pos m)) in
          let more = back_more m steps kept path before recorded xs t r (omega arith) c.loop-t.invariant.0 inside came in
          subst (λ n. Back m steps kept path (set xs ((t * 2 ^ m) % 2 ^ 64) (bit_and r 1)) t n) (sym back)
          (subst (λ l. Back m steps kept path l t (r / 2 + mark % 2 * 2 ^ (m - 1))) (sym written) more)),
    )

pub returns : goal.returns
returns c kept path recorded =
    let none : c.loop-t.t ≡ 0 = omega arith in
    back_all c.args.self.now.code.memory c.args.self.now.steps kept path c.args.paths.now recorded c.loop-t.paths c.loop-t.register
    (subst (λ n. Back c.args.self.now.code.memory c.args.self.now.steps kept path c.loop-t.paths n c.loop-t.register) none (c.loop-t.invariant.2 kept path recorded))
