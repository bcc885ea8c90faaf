use Rattle.std.proofs.Common.{◌+◌, ◌-◌, ◌++◌, map, length, sym, ap, ◌∙◌, arith}
use Rattle.std.proofs.lemmas.List.{append_assoc, length-append, length-map}
use Rattle.puncture.specs.Packing.{length_bits}
use Rattle.puncture.proofs.Tables.{columns_from}
use Rattle.puncture.proofs.mask.strip.Strip.packed.Goals as goal
use Rattle.puncture.specs.Masks.{column, columns, width}
use Rattle.puncture.specs.Strips.{held}

pub with_column-strip-requires : goal.with_column-strip-requires
with_column-strip-requires c =
    let t = map (λ x. x.now) c.args.table.now in
    let e = c.loop-c.invariant in
    let more = columns_from t c.loop-c.c (width t) (omega arith) in
    omega (arith, simp (length-append, length-map, length_bits) at (ap length (ap (λ p. held c.loop-c.strip ++ p) (sym more) ∙ e)))

pub loop-c-preserved : goal.loop-c-preserved
loop-c-preserved c =
    let t = map (λ x. x.now) c.args.table.now in
    let i = c.loop-c.c in
    let rest = columns t (i + 1) (width t - (i + 1)) in
    ap (λ p. p ++ rest) c.with_column-strip.ensures
    ∙ append_assoc (held c.loop-c.strip) (column t i) rest
    ∙ ap (λ p. held c.loop-c.strip ++ p) (sym (columns_from t i (width t) (omega arith)))
    ∙ c.loop-c.invariant
