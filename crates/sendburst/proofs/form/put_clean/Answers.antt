use Rattle.std.proofs.Common.{◌≡◌, ◌++◌, ◌∙◌, Bool, true, false, if◌then◌else◌, refl, sym, ap, subst}
use Rattle.std.specs.Float.{binary32, float_one, minus_one, NotNan}
use Rattle.std.specs.Float.Ieee.{is_nan, to_bits}
use Rattle.std.specs.Int.{w32, to_be_bytes}
use Rattle.records.specs.declared.record.Kind.TheVariants.{Float}
use Rattle.sendburst.specs.Written.{clean_bytes}
use Rattle.sendburst.proofs.form.put_clean.Goals as goal

-- the clean samples of the float kind are numbers, and these are their bytes
clean_number : (bit : Bool) → NotNan (if bit then minus_one else float_one)
unfolding is_nan
clean_number true = tt
clean_number false = tt

clean_spelt : (bit : Bool) → to_be_bytes w32 (to_bits binary32 (if bit then minus_one else float_one)) ≡ clean_bytes Float bit
unfolding to_bits
clean_spelt true = refl
clean_spelt false = refl

pub to_be_bytes-requires : goal.to_be_bytes-requires
to_be_bytes-requires c = subst NotNan (sym c.clean_sample-in-Float.ensures) (clean_number c.args.bit)

pub returns-in_ok-extend_from_slice-in-Float : goal.returns-in_ok-extend_from_slice-in-Float
returns-in_ok-extend_from_slice-in-Float c =
    let before = c.args.samples.now.items in
    let bit = c.args.bit in
    c.in_ok-extend_from_slice-in-Float.ensures.items
    ∙ ap (λ t. before ++ t) (c.to_be_bytes.ensures ∙ ap (λ s. to_be_bytes w32 (to_bits binary32 s)) c.clean_sample-in-Float.ensures ∙ clean_spelt bit)
    ∙ ap (λ k. before ++ clean_bytes k bit) (sym c.in-Float.is)
