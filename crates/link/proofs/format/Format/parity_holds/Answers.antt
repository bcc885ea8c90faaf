use Rattle.std.proofs.Common.{◌≡◌, ◌+◌, ◌-◌, ◌||◌, eqb, map, reverse, take, sym, ap, ◌∙◌, arith}
use Rattle.std.proofs.lemmas.Bool.{ne_eqb}
use Rattle.trellis.specs.Bits.{odd}
use Rattle.trellis.specs.Parity.{remainder}
use Rattle.link.specs.Calls.{protected}
use Rattle.link.proofs.Deciding.{front_remainder}
use Rattle.link.proofs.format.Format.parity_holds.Goals as goal

pub returns-else-self-eq0 : goal.returns-else-self-eq0
returns-else-self-eq0 g c path long traced =
    let f = c.args.self.now in
    let paths = c.args.paths.now in
    let n : f.message + f.parity - 0 ≡ f.message + f.parity = omega arith in
    ap (λ r. eqb r 0) (c.remainder_of.ensures ∙ ap (λ m. remainder (reverse (map odd (take m paths)))) n ∙ front_remainder f paths path traced long)
    ∙ sym (ap (λ t. t || eqb (remainder (protected f path)) 0) (ne_eqb f.parity 0 c.if-self-eq0.false))
