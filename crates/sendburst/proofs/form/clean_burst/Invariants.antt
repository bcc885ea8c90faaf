use Rattle.std.proofs.Common.{◌≡◌, ◌*◌, length, take}
use Rattle.records.specs.Records.{width}
use Rattle.sendburst.specs.Written.{clean_burst}
use Rattle.sendburst.proofs.form.clean_burst.Given as goal

abbrev pub invariant-loop-bit : goal.invariant-loop-bit
invariant-loop-bit l = (l.samples.items ≡ clean_burst l.fn.kind (take l.bit-index l.fn.burst)) × (length l.samples.items ≡ width l.fn.kind * l.bit-index)
