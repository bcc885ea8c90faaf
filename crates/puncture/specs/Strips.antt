-- Tables packed into numbers, and the pattern that a mask holds.
use Rattle.std.specs.Prelude.{ℕ, zero, suc, ◌/◌, ◌%◌, Bool, true, false, List, [], ◌∷◌, ◌++◌, replicate, ◌==◌}
use Rattle.puncture.specs.declared.mask.Mask.{Mask}
use Rattle.puncture.specs.declared.mask.Mask.TheVariants.{Sound, Faulty}
use Rattle.puncture.specs.declared.mask.Packed.{Packed}
use Rattle.puncture.specs.declared.mask.strip.Strip.{Strip}
use Rattle.puncture.specs.Patterns.{times_over}

-- the n lowest bits of a number, the lowest first; the trellis has the same word, and neither crate knows the other
abbrev pub bits : ℕ → ℕ → List Bool
bits zero v = []
bits (suc n) v = (v % 2 == 1) ∷ bits n (v / 2)

-- the table that a strip holds, read column by column
abbrev pub held : Strip → List Bool
held s = bits s.length s.bits

-- what follows the middles: the bits left over, and the suffix
abbrev pub past_middles : Packed → List Bool
past_middles p = replicate p.left true ++ held p.suffix

-- what follows the prefix
abbrev pub past_prefix : Packed → List Bool
past_prefix p = times_over p.times (held p.middle) ++ past_middles p

-- which coded bits a mask keeps, in coded order: every one where its tables have a fault
abbrev pub pattern_of : Mask → List Bool
pattern_of (Sound p) = held p.prefix ++ past_prefix p
pattern_of (Faulty n) = replicate n true

-- whether its tables have no fault
abbrev pub suits : Mask → Bool
suits (Sound p) = true
suits (Faulty n) = false
