use Rattle.std.proofs.Common.{◌≡◌, ◌*◌, ◌/◌, ◌%◌, get_or, ◌∙◌, arith, rules}
use Rattle.line.specs.Scrambler.{register}
use Rattle.line.proofs.Registers.{values, values_at, words, words_at}
use Rattle.line.proofs.scrambler.masked.Goals as goal

-- the words of the table are, by computation, those that the register gives
pub returns-in-Some : goal.returns-in-Some
returns-in-Some c =
    let k = c.args.k in
    let first = k / 64 * 64 in
    let found : c.in-Some.word.now ≡ get_or (words 16 (register 0)) (k / 64) 0 = search rules in
    c.bit.ensures (values 64 (register first)) (found ∙ words_at 16 (k / 64) 0 first (search rules) (omega arith))
    ∙ values_at 64 (k % 64) first k (omega arith) (omega arith)
