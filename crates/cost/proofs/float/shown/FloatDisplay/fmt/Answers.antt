use Rattle.std.proofs.Common.{◌-◌, ◌^◌, [], true, false, to_bits, rules}
use Rattle.std.proofs.Output.{has_written_of_eq}
use Rattle.std.specs.Float.{binary32}
use Rattle.std.specs.Fmt.{IsPlainFormatter, HasWritten, digits, format_spec, padded_integral}
use Rattle.std.specs.Result.{IsOk}
use Rattle.cost.specs.SumLaws.{cost_bits}
use Rattle.cost.proofs.Hexadecimal.{eight_digits}
use Rattle.cost.proofs.float.shown.FloatDisplay.fmt.Goals as goal

pub returns-clause-writes : goal.returns-clause-writes
returns-clause-writes g c =
    let took = g.W.Write.write_str_gives in
    let n = to_bits binary32 c.args.self.now.value in
    let wrote : IsPlainFormatter c.args.f.now → IsOk c.write.result →
    HasWritten took c.args.f.now (padded_integral (format_spec 32 0 4 8 (2 ^ 64 - 1)) false [] (digits 16 true n)) c.write.new.self = search rules in
    λ plain ok. has_written_of_eq took _ _ _ _ (eight_digits n (cost_bits c.args.self.now.value c.args.self.now.cost)) (wrote plain ok)
