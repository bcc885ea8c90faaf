-- Windows and registers as numbers.
use Rattle.std.proofs.Common.{◌≡◌, ℕ, zero, suc, ◌+◌, ◌*◌, ◌/◌, ◌%◌, ◌^◌, ◌<◌, ◌≤◌, min, Bool, true, false, not, ◌&&◌, eqb, ◌⊎◌, List, [], ◌∷◌, ◌++◌, length, get_or, set, sym, refl, ap, ◌∙◌, ap₂, inl, inr, div-one, pow-suc, arith, length-set, get_or-set_other, get_or-set_same}
use lib.Bits.{bit_and, and_step, and_zero_l}
use lib.Count.{ones, ones_step}
use Rattle.std.proofs.lemmas.Nat.{div-mul-add, mod-mul-add, shr-shr}
use Rattle.std.proofs.lemmas.Bool.{cases_eq, eq-eqb, ne_eqb, and_left, and_right}
use Rattle.trellis.specs.Bits.{odd, xor, bit_of, bits, empty}
use Rattle.trellis.specs.Codes.{summed}
use Rattle.trellis.specs.Paths.{register}
use Rattle.trellis.proofs.Bitwise.{bit_below, bit_of_odd, half_below, min_bits, odd_add, ones_none}

-- the bits of a window under the taps, counted, are odd where the row's sum is 1
pub odd_ones_summed : (n w taps : ℕ) → w < 2 ^ n → odd (ones (bit_and w taps)) ≡ summed taps (bits n w)
odd_ones_summed zero w taps h =
    let e : w ≡ 0 = omega arith in ap (λ x. odd (ones (bit_and x taps))) e ∙ ap (λ x. odd (ones x)) (and_zero_l taps) ∙ ap odd ones_none
odd_ones_summed (suc n) w taps h =
    let a = bit_and (w / 2) (taps / 2) in
    let d = odd taps && odd w in
    let low : min (w % 2) (taps % 2) ≡ bit_of d = ap₂ min (sym (bit_of_odd w)) (sym (bit_of_odd taps)) ∙ min_bits (odd w) (odd taps) in
    ap (λ x. odd (ones x)) (and_step w taps ∙ ap (λ x. a * 2 + x) low)
    ∙ ap odd (ones_step (a * 2 + bit_of d) ∙ ap₂ (λ (x y : ℕ). x + ones y) (mod-mul-add a 2 (bit_of d) (bit_below d)) (div-mul-add a 2 (bit_of d) (bit_below d)))
    ∙ odd_add d (ones a)
    ∙ ap (xor d) (odd_ones_summed n (w / 2) (taps / 2) (half_below n w h))

-- both windows of a register are written
pub window_written : {C : Type 0} (costs : List C) (p w : ℕ) (c d : C) → 2 * p + 1 < length costs → w / 2 ≡ p → get_or (set (set costs (2 * p) c) (2 * p + 1) c) w d ≡ c
window_written costs p w c d room e = elim (cases_eq w (2 * p + 1)) [
  | inl f ↦ ap (λ v. get_or (set (set costs (2 * p) c) (2 * p + 1) c) v d) f
      ∙ get_or-set_same (set costs (2 * p) c) (2 * p + 1) c d (omega (arith, length-set costs (2 * p) c))
  | inr f ↦ get_or-set_other (set costs (2 * p) c) (2 * p + 1) w c d f
      ∙ ap (λ v. get_or (set costs (2 * p) c) v d) (let h : w ≡ 2 * p = omega arith in h)
      ∙ get_or-set_same costs (2 * p) c d (omega arith)
]

-- the windows of the other registers are as they were
pub window_other : {C : Type 0} (costs : List C) (p w : ℕ) (c d : C) → (w / 2 ≡ p → ⊥) → get_or (set (set costs (2 * p) c) (2 * p + 1) c) w d ≡ get_or costs w d
window_other costs p w c d ne =
    get_or-set_other (set costs (2 * p) c) (2 * p + 1) w c d (λ e. ne (omega arith)) ∙ get_or-set_other costs (2 * p) w c d (λ e. ne (omega arith))

-- so many bits of a number
pub bits_length : (n v : ℕ) → length (bits n v) ≡ n
bits_length zero v = refl
bits_length (suc n) v = ap suc (bits_length n (v / 2))

-- bit i of a number
pub bits_at : (n v i : ℕ) → i < n → get_or (bits n v) i false ≡ odd (v / 2 ^ i)
bits_at zero v i h = absurd (omega arith)
bits_at (suc n) v zero h = ap odd (sym (div-one v))
bits_at (suc n) v (suc i) h =
    let on : 1 + i ≡ suc i = omega arith in
    bits_at n (v / 2) i (omega arith) ∙ ap odd (shr-shr v 1 i ∙ ap (λ k. v / 2 ^ k) on)

-- the register behind a number's bits has its lowest ones
pub register_bits : (n k v : ℕ) → n ≤ k → register n (bits k v) ≡ bits n v
register_bits zero k v h = refl
register_bits (suc n) zero v h = absurd (omega arith)
register_bits (suc n) (suc k) v h = ap (λ r. odd v ∷ r) (register_bits n k (v / 2) (omega arith))

-- an older bit stands above the others
pub bits_older : (n v : ℕ) (b : Bool) → v < 2 ^ n → bits n v ++ b ∷ [] ≡ bits (suc n) (v + bit_of b * 2 ^ n)
bits_older zero v true h = let e : v ≡ 0 = omega arith in ap (λ x. odd (x + 1 * 2 ^ 0) ∷ []) (sym e)
bits_older zero v false h = let e : v ≡ 0 = omega arith in ap (λ x. odd (x + 0 * 2 ^ 0) ∷ []) (sym e)
bits_older (suc n) v b h =
    let x = bit_of b * 2 ^ n in
    let e : v + bit_of b * 2 ^ suc n ≡ v + 2 * x = bits_above b in
    let low : (v + 2 * x) % 2 ≡ v % 2 = omega arith in
    let high : (v + 2 * x) / 2 ≡ v / 2 + x = omega arith in
    ap₂ (λ (o : Bool) (r : List Bool). o ∷ r) (ap (λ m. eqb m 1) (sym low)) (bits_older n (v / 2) b (half_below n v h) ∙ ap (bits (suc n)) (sym high))
    ∙ ap (bits (suc (suc n))) (sym e)
  where
    bits_above : (b : Bool) → v + bit_of b * 2 ^ suc n ≡ v + 2 * (bit_of b * 2 ^ n)
    bits_above true = omega (arith, pow-suc 2 n)
    bits_above false = omega arith

-- a number's bits are all 0 where it is 0
pub bits_empty : (n v : ℕ) → v < 2 ^ n → empty (bits n v) ≡ eqb v 0
bits_empty zero v h = sym (eq-eqb v 0 (omega arith))
bits_empty (suc n) v h = ap (λ e. not (odd v) && e) (bits_empty n (v / 2) (half_below n v h)) ∙ by_halves (cases_eq v 0)
  where
    by_halves : ((v ≡ 0) ⊎ (v ≡ 0 → ⊥)) → not (odd v) && eqb (v / 2) 0 ≡ eqb v 0
    by_halves (inl e) = ap (λ x. not (odd x) && eqb (x / 2) 0) e ∙ sym (eq-eqb v 0 e)
    by_halves (inr f) = by_lowest (cases_eq (v % 2) 1) ∙ sym (ne_eqb v 0 f)
      where
        by_lowest : ((v % 2 ≡ 1) ⊎ (v % 2 ≡ 1 → ⊥)) → not (odd v) && eqb (v / 2) 0 ≡ false
        by_lowest (inl e) = and_left (not (odd v)) (eqb (v / 2) 0) (ap not (eq-eqb (v % 2) 1 e))
        by_lowest (inr e) = and_right (not (odd v)) (eqb (v / 2) 0) (ne_eqb (v / 2) 0 (λ z. f (omega arith)))
