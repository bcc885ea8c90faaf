use Rattle.std.proofs.Common.{◌≡◌, ℕ, ◌+◌, ◌*◌, ◌≤◌, Bool, true, ◌&&◌, leb, eqb, arith, rules}
use Rattle.std.proofs.lemmas.Bool.{and_parts, leb-true, eqb-true}
use Rattle.link.specs.Rules.{between, line_suits}
use Rattle.link.proofs.format.Format.agree.Goals as goal

-- a line that suits tells 2,048 coded bits at most, and as many as the code makes
coded_few : (suited sent : Bool) (told coded : ℕ) → suited && (between 1 2048 told && (sent && eqb told coded)) ≡ true → coded ≤ 2048
coded_few suited sent told coded e =
    let lengths = (and_parts suited (between 1 2048 told && (sent && eqb told coded)) e).1 in
    let parts = and_parts (between 1 2048 told) (sent && eqb told coded) lengths in
    omega (arith, leb-true told 2048 (and_parts (leb 1 told) (leb told 2048) parts.0).1, eqb-true told coded (and_parts sent (eqb told coded) parts.1).1)

pub invariant_of-result-clause-most_coded : goal.invariant_of-result-clause-most_coded
invariant_of-result-clause-most_coded g c =
    let a = c.args.proposal in
    let line = g.L.Line in
    let coded = a.code.rows * (a.message + a.parity + a.code.memory) in
    let suits : line_suits line a.line coded ≡ true = search rules in
    coded_few (line.suited a.line) (between 1 1024 (line.sent a.line)) (line.coded a.line) coded suits
