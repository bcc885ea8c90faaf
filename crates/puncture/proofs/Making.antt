-- Sound masks: what their tables hold, and how long their pattern is.
use Rattle.std.proofs.Common.{◌≡◌, ℕ, ◌+◌, ◌-◌, ◌*◌, ◌^◌, ◌<◌, ◌≤◌, true, false, length, Some, None, Option, sym, refl, ap, ◌∙◌, mul_assoc, mul_comm, mul-add, arith}
use Rattle.std.proofs.lemmas.Nat.{mul-le}
use Rattle.std.proofs.lemmas.List.{length-replicate}
use Rattle.std.proofs.lemmas.Bool.Decides.{nat_tests}
use Rattle.std.proofs.lemmas.Bool.{cond-false, cond-true}
use Rattle.puncture.proofs.Tables.{length_columns}
use Rattle.puncture.specs.Masking.{length_strips}
use Rattle.puncture.specs.PatternsLemmas.{length_laid_out}
use Rattle.puncture.specs.Patterns.{kept, laid_out, numbered}
use Rattle.puncture.specs.MaskLine.{Lays}
use Rattle.puncture.specs.Masks.{Masks, Table, coded_of, covered, end_flat, end_width, flat, pattern, sound, sound_end, sound_period, width}
use Rattle.puncture.specs.Strips.{held, pattern_of, suits}
use Rattle.puncture.specs.declared.mask.Mask.{Mask}
use Rattle.puncture.specs.declared.mask.strip.Strip.{Strip}

-- what is so of sound masks: how many entries their tables have, and that these lie within the steps
pub record Fits (m : Masks) : Type 0 where
  pub short : length (flat m.middle) ≤ 60
  pub front : length (end_flat m.prefix) ≡ length m.middle * end_width m.prefix
  pub front_short : length (end_flat m.prefix) ≤ 60
  pub back : length (end_flat m.suffix) ≡ length m.middle * end_width m.suffix
  pub back_short : length (end_flat m.suffix) ≤ 60
  pub within : covered m ≤ m.steps
  pub ranged : length m.middle * m.steps ≤ 18446744073709551615

-- a table has the entries of its columns
flat_long : (t : Table) → length (flat t) ≡ length t * width t
flat_long t = length_columns t 0 (width t) ∙ mul_comm (width t) (length t)

-- five rows of a sound period have 60 entries at most
flat_short : (t : Table) → length t ≤ 5 → sound_period t ≡ true → length (flat t) ≤ 60
flat_short t few e = omega (arith, flat_long t, mul-le (length t) (width t) 5 12 few (grind (arith, nat_tests)))

-- a sound table before or after the middle has as many rows
end_long : (rows : ℕ) (o : Option Table) → rows ≤ 5 → sound_end rows o ≡ true → (length (end_flat o) ≡ rows * end_width o) × (length (end_flat o) ≤ 60)
end_long rows None few e = (omega arith, omega arith)
end_long rows (Some t) few e =
    let same : length t ≡ rows = grind (arith, nat_tests) in
    let sound : sound_period t ≡ true = grind (arith, nat_tests) in
    (flat_long t ∙ ap (λ n. n * width t) same, flat_short t (omega arith) sound)

pub fits : (m : Masks) → sound m ≡ true → Fits m
fits m e =
    let rows = length m.middle in
    let few : rows ≤ 5 = grind (arith, nat_tests) in
    let period : sound_period m.middle ≡ true = grind (arith, nat_tests) in
    let before : sound_end rows m.prefix ≡ true = grind (arith, nat_tests) in
    let after : sound_end rows m.suffix ≡ true = grind (arith, nat_tests) in
    let front = end_long rows m.prefix few before in
    let back = end_long rows m.suffix few after in
    record {
      short = flat_short m.middle few period;
      front = front.0;
      front_short = front.1;
      back = back.0;
      back_short = back.1;
      within = grind (arith, nat_tests);
      ranged = grind (arith, nat_tests);
    }

-- by rows of prefix p, k middles w, suffix s and what is left of n columns, the entries are those of n columns
entries_of_steps : (rows p k w n s : ℕ) → p + s + k * w ≤ n → rows * p + k * (rows * w) + rows * (n - (p + s + k * w)) + rows * s ≡ rows * n
entries_of_steps rows p k w n s h =
    let turn : rows * (k * w) ≡ k * (rows * w) = sym (mul_assoc rows k w) ∙ ap (λ n. n * w) (mul_comm rows k) ∙ mul_assoc k rows w in
    let all : n ≡ (p + s + k * w) + (n - (p + s + k * w)) = omega arith in
    omega (arith, ap (λ x. rows * x) all, mul-add rows (p + s + k * w) (n - (p + s + k * w)), mul-add rows (p + s) (k * w), mul-add rows p s)

-- the pattern has every coded bit
pub length_pattern : (m : Masks) → length (pattern m) ≡ coded_of m
length_pattern m = by (sound m) refl
  where
    by : (b : _) → sound m ≡ b → length (pattern m) ≡ coded_of m
    by false e = ap length (cond-false _ _ _ e) ∙ length-replicate (coded_of m) true
    by true e =
        let f = fits m e in
        let rows = length m.middle in
        let w = width m.middle in
        ap length (cond-true _ _ _ e)
        ∙ length_laid_out (end_flat m.prefix) m.times (flat m.middle) (rows * (m.steps - covered m)) (end_flat m.suffix)
        ∙ omega (arith, f.ranged, f.front, f.back, ap (λ k. m.times * k) (flat_long m.middle), entries_of_steps rows (end_width m.prefix) m.times w m.steps (end_width m.suffix) f.within)

-- a mask lays a block out by tables if it has their suiting and their pattern
pub lays : (m : Masks) (r : Mask) → suits r ≡ sound m → pattern_of r ≡ pattern m → Lays m r
lays m r s p = record { coded = ap length p ∙ length_pattern m; suited = s; sent = ap kept p; places = λ j. ap (λ q. numbered q j) p }

-- strips that hold the tables of a sound mask, with so many bits left over
module _ (m : Masks) (ok : sound m ≡ true) (a b d : Strip) (left : ℕ) (front : held a ≡ end_flat m.prefix) (middle : held b ≡ flat m.middle) (back : held d ≡ end_flat m.suffix)
    (over : left ≡ length m.middle * (m.steps - covered m)) where
  -- make its pattern
  strips_pattern : laid_out (held a) m.times (held b) left (held d) ≡ pattern m
  strips_pattern = (λ i. laid_out (front i) m.times (middle i) (over i) (back i)) ∙ sym (cond-true (sound m) _ _ ok)

  -- and lie within the range
  pub strips_small : a.length + m.times * b.length + left + d.length < 2 ^ 64
  strips_small = omega (arith, length_strips a b d m.times left, ap length strips_pattern, length_pattern m)
