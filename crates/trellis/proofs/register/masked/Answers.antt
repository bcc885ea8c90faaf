use Rattle.std.proofs.Common.{◌≡◌, ◌-◌, ◌*◌, ◌%◌, ◌^◌, ap, ◌∙◌, arith}
use lib.Bits.{bit_and, and_mask}
use Rattle.std.proofs.lemmas.Nat.{shl_whole}
use Rattle.trellis.proofs.register.masked.Goals as goal

pub returns : goal.returns
returns c =
    let m = c.args.memory in
    let w = c.args.window in
    let power : (1 * 2 ^ m) % 2 ^ 64 ≡ 2 ^ m = shl_whole 1 1 m 64 (omega arith) (omega arith) ∙ omega arith in
    ap (λ n. bit_and w (n - 1)) power ∙ and_mask w m
