use Rattle.std.proofs.Common.{length, ap, arith}
use Rattle.std.proofs.lemmas.List.{length-append, length-drop, length-map}
use Rattle.puncture.specs.Packing.{length_bits}
use Rattle.puncture.proofs.mask.strip.Strip.with_column.Goals as goal

pub with_entry-strip-requires : goal.with_entry-strip-requires
with_entry-strip-requires c = omega (arith, simp (length-append, length-map, length-drop, length_bits) at (ap length c.loop-row.invariant))
