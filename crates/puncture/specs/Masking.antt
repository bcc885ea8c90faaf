-- What a mask holds: the length of its pattern, and the laws of its line.
use Rattle.std.specs.Prelude.{◌≡◌, ℕ, ◌+◌, ◌*◌, ◌/◌, ◌^◌, ◌<◌, ◌≤◌, true, length, replicate}
use Rattle.std.proofs.Common.{ap, ◌∙◌, mul-le-mul_left, mul-le-mul_right, arith}
use Rattle.std.proofs.lemmas.Nat.{div_below}
use Rattle.line.specs.Lawful.{Laws}
use Rattle.puncture.specs.Packing.{length_bits}
use Rattle.puncture.specs.PatternsLemmas.{kept_append, kept_ones, kept_times, kept_within, length_laid_out, numbered_left, numbered_past, numbered_in_turns, numbered_past_turns, numbered_among_ones, numbered_past_ones, numbered_within, numbered_apart, numbered_filled, numbered_ended, numbered_off, raised_none, raised_twice, turns_some}
use Rattle.puncture.specs.Patterns.{kept, laid_out, times_over}
use Rattle.puncture.specs.MaskLine.{mask_line}
use Rattle.puncture.specs.Strips.{held, past_middles, past_prefix, pattern_of}
use Rattle.puncture.specs.declared.mask.Mask.TheVariants.{Sound}
use Rattle.puncture.specs.declared.mask.Packed.{Packed}
use Rattle.puncture.specs.declared.mask.strip.Strip.{Strip}

-- a strip keeps no more than its entries
pub held_within : (s : Strip) → kept (held s) ≤ s.length
held_within s = omega (arith, kept_within (held s), length_bits s.length s.bits)

-- all the turns, of k kept bits each, keep no more than the middles have
pub turns_fit : (p : Packed) (k : ℕ) → k ≡ kept (held p.middle) → p.times * k ≤ p.times * p.middle.length
turns_fit p k e = mul-le-mul_left p.times (omega (arith, held_within p.middle))

-- after the kept bits of the prefix and of the turns before bit j, a whole turn still lies within the range
pub turn_fits : (p : Packed) (j k : ℕ) → k ≡ kept (held p.middle) → j < p.times * p.middle.length → p.prefix.length + j / p.middle.length * k + p.middle.length < 2 ^ 64
turn_fits p j k e h =
    let w = p.middle.length in
    let i : j / w < p.times = div_below j w p.times (turns_some p.times w j h) h in
    let less : k ≤ w = omega (arith, held_within p.middle) in
    omega (arith, mul-le-mul_left (j / w) less, mul-le-mul_right w i, p.small)

-- strips laid out have the entries of each
pub length_strips : (a b d : Strip) (n k : ℕ) → length (laid_out (held a) n (held b) k (held d)) ≡ a.length + n * b.length + k + d.length
length_strips a b d n k =
    length_laid_out (held a) n (held b) k (held d)
    ∙ (λ i. length_bits a.length a.bits i + n * length_bits b.length b.bits i + k + length_bits d.length d.bits i)

-- the pattern keeps what its parts keep, k bits in each turn
pub kept_pattern : (p : Packed) (k : ℕ) → k ≡ kept (held p.middle) → kept (pattern_of (Sound p)) ≡ kept (held p.prefix) + p.times * k + p.left + kept (held p.suffix)
kept_pattern p k e =
    let m = held p.middle in
    omega (
      arith,
      kept_append (held p.prefix) (past_prefix p),
      kept_append (times_over p.times m) (past_middles p),
      kept_append (replicate p.left true) (held p.suffix),
      kept_times p.times m,
      ap (λ n. p.times * n) e,
      kept_ones p.left,
    )

-- how the entries of one strip are numbered
pub ruleset numbering = (length_bits, kept_within, numbered_off, numbered_ended)

-- how the bits of one part are numbered among all
pub ruleset parts = (length_bits, held_within, turn_fits, turns_fit, numbered_left, numbered_past, numbered_in_turns, numbered_past_turns, numbered_among_ones, numbered_past_ones, raised_none, raised_twice)

-- the laws of the mask's line, as of any pattern
pub mask_laws : Laws mask_line
mask_laws = record {
  within = λ l j k t. numbered_within (pattern_of l) j k t;
  apart = λ l i j k t u. numbered_apart (pattern_of l) i j k t u;
  filled = λ l k. numbered_filled (pattern_of l) k;
  ended = λ l j. numbered_ended (pattern_of l) j;
}
