-- Remainders of runs: with one bit more, of sums, and with the parity.
use Rattle.std.proofs.Common.{Bool, false, ◌≡◌, ℕ, zero, suc, ◌+◌, ◌-◌, ◌*◌, ◌/◌, ◌%◌, ◌^◌, ◌<◌, ◌≤◌, leb, List, [], ◌∷◌, ◌++◌, map, reverse, replicate, length, fold, sym, refl, ap, ◌∙◌, ap₂, inl, inr, mod-eq_of_lt, arith, pow_mono}
use mathlib.Core.List.{reverse_aux}
use lib.Bits.{bit_and, bit_or, bit_xor, and_mask, or_shifted, xor_assoc, xor_block, xor_comm, xor_lt, xor_self, xor_zero_r}
use Rattle.std.proofs.lemmas.List.{length-append, length-reverse, reverse-append, reverse-reverse}
use Rattle.std.proofs.lemmas.Bool.{cases_lt, cond-false, cond-true, cond_both, le-leb, leb-true, leb-false, lt-leb}
use Rattle.trellis.specs.Bits.{odd, bit_of, bits}
use Rattle.trellis.specs.Parity.{reduced, remainder, parity_of, with_parity}
use Rattle.trellis.specs.Polynomials.{plus}
use Rattle.trellis.proofs.Bitwise.{bit_below, bit_of_odd, bit_of_xor, half_below, xor_none}
use Rattle.trellis.proofs.Numbers.{bits_length}

-- two numbers with the power 16 and none above make one without it
pub xor_clears : (u v : ℕ) → 65536 ≤ u → u < 131072 → 65536 ≤ v → v < 131072 → bit_xor u v < 65536
xor_clears u v hu bu hv bv =
    let left : u ≡ 1 * 2 ^ 16 + (u - 65536) = omega arith in
    let right : v ≡ 1 * 2 ^ 16 + (v - 65536) = omega arith in
    let low : u - 65536 < 2 ^ 16 = omega arith in
    let low' : v - 65536 < 2 ^ 16 = omega arith in
    omega (arith, ap₂ bit_xor left right, xor_block 16 1 1 (u - 65536) (v - 65536) low low', xor_lt 16 (u - 65536) (v - 65536) low low')

-- where one of the two has none, the power 16 stays
xor_keeps : (u v : ℕ) → u < 65536 → 65536 ≤ v → v < 131072 → 65536 ≤ bit_xor u v
xor_keeps u v h hv bv =
    let left : u ≡ 0 * 2 ^ 16 + u = omega arith in
    let right : v ≡ 1 * 2 ^ 16 + (v - 65536) = omega arith in
    let low : v - 65536 < 2 ^ 16 = omega arith in
    omega (arith, ap₂ bit_xor left right, xor_block 16 0 1 u (v - 65536) h low)

pub reduced_low : (v : ℕ) → v < 65536 → reduced v ≡ v
reduced_low v h = cond-false (leb 65536 v) (bit_xor v 0x11021) v (lt-leb 65536 v h)

pub reduced_high : (v : ℕ) → 65536 ≤ v → reduced v ≡ bit_xor v 0x11021
reduced_high v h = cond-true (leb 65536 v) (bit_xor v 0x11021) v (le-leb 65536 v h)

-- taken away from both, a third number cancels
xor_cancels : (u v g : ℕ) → bit_xor (bit_xor u g) (bit_xor v g) ≡ bit_xor u v
xor_cancels u v g =
    xor_assoc u g (bit_xor v g) ∙ ap (bit_xor u) (xor_comm g (bit_xor v g) ∙ xor_assoc v g g ∙ ap (bit_xor v) (xor_self g) ∙ xor_zero_r v)

-- a sum is reduced as its parts are
reduced_sum : (u v : ℕ) → u < 131072 → v < 131072 → reduced (bit_xor u v) ≡ bit_xor (reduced u) (reduced v)
reduced_sum u v bu bv = elim (cases_lt u 65536) [
  | inl lu ↦ elim (cases_lt v 65536) [
    | inl lv ↦ reduced_low (bit_xor u v) (xor_lt 16 u v lu lv) ∙ sym (ap₂ bit_xor (reduced_low u lu) (reduced_low v lv))
    | inr hv ↦ one_high u v lu hv bv
  ]
  | inr hu ↦ elim (cases_lt v 65536) [
    | inl lv ↦ ap reduced (xor_comm u v) ∙ one_high v u lv hu bu ∙ xor_comm (reduced v) (reduced u)
    | inr hv ↦ reduced_low (bit_xor u v) (xor_clears u v hu bu hv bv) ∙ sym (ap₂ bit_xor (reduced_high u hu) (reduced_high v hv) ∙ xor_cancels u v 0x11021)
  ]
]
  where
    one_high : (a b : ℕ) → a < 65536 → 65536 ≤ b → b < 131072 → reduced (bit_xor a b) ≡ bit_xor (reduced a) (reduced b)
    one_high a b la hb bb =
        reduced_high (bit_xor a b) (xor_keeps a b la hb bb) ∙ xor_assoc a b 0x11021 ∙ sym (ap₂ bit_xor (reduced_low a la) (reduced_high b hb))

-- a remainder has no power from 16 on
pub remainder_below : (p : List Bool) → remainder p < 65536
unfolding remainder
remainder_below [] = omega arith
remainder_below (b ∷ p) =
    let v = remainder p * 2 + bit_of b in
    let room : v < 131072 = omega (arith, remainder_below p, bit_below b) in
    cond_both (leb 65536 v) (bit_xor v 0x11021) v (λ n. n < 65536) (λ t. xor_clears v 0x11021 (leb-true 65536 v t) room (omega arith) (omega arith)) (λ f. leb-false 65536 v f)

-- what the next byte of a run makes of the remainder before it
abbrev pub next : ℕ → ℕ → ℕ
next rem byte = reduced (bit_or (rem * 2 % 2 ^ 32) (bit_and byte 1))

next_remainder : (p : List Bool) (byte : ℕ) → next (remainder p) byte ≡ remainder (odd byte ∷ p)
unfolding remainder
next_remainder p byte =
    let small = remainder_below p in
    let bit : bit_and byte 1 ≡ bit_of (odd byte) = and_mask byte 1 ∙ sym (bit_of_odd byte) in
    ap reduced (ap₂ bit_or (mod-eq_of_lt (omega arith)) bit ∙ or_shifted (remainder p) 1 (bit_of (odd byte)) (bit_below (odd byte)))

-- the bytes of a run, taken in turn, make its remainder
pub run_remainder : (xs : List ℕ) → fold next 0 xs ≡ remainder (reverse (map odd xs))
unfolding remainder
run_remainder xs = from xs []
  where
    from : (xs : List ℕ) (p : List Bool) → fold next (remainder p) xs ≡ remainder (reverse_aux (map odd xs) p)
    from [] p = refl
    from (x ∷ xs) p = ap (λ r. fold next r xs) (next_remainder p x) ∙ from xs (odd x ∷ p)

-- the remainder of a sum is the sum of the remainders
pub remainder_plus : (p q : List Bool) → remainder (plus p q) ≡ bit_xor (remainder p) (remainder q)
unfolding remainder
remainder_plus [] q = refl
remainder_plus (a ∷ p) [] = sym (xor_zero_r (remainder (a ∷ p)))
remainder_plus (a ∷ p) (b ∷ q) =
    let u = remainder p in
    let v = remainder q in
    ap₂ (λ r d. reduced (r * 2 + d)) (remainder_plus p q) (bit_of_xor a b)
    ∙ ap reduced (sym (xor_block 1 u v (bit_of a) (bit_of b) (bit_below a) (bit_below b)))
    ∙ reduced_sum (u * 2 + bit_of a) (v * 2 + bit_of b) (omega (arith, remainder_below p, bit_below a)) (omega (arith, remainder_below q, bit_below b))

-- the remainder of so few bits is the number that they write
remainder_bits : (n v : ℕ) → n ≤ 16 → v < 2 ^ n → remainder (bits n v) ≡ v
unfolding remainder
remainder_bits zero v few h = omega arith
remainder_bits (suc n) v few h =
    let below : 2 ^ suc n ≤ 2 ^ 16 = pow_mono few in
    let split : v / 2 * 2 + bit_of (odd v) ≡ v = omega (arith, bit_of_odd v) in
    ap (λ r. reduced (r * 2 + bit_of (odd v))) (remainder_bits n (v / 2) (omega arith) (half_below n v h))
    ∙ ap reduced split ∙ reduced_low v (omega arith)

-- newer bits stand over a path as a sum
bits_over : (n v : ℕ) (p : List Bool) → bits n v ++ p ≡ plus (bits n v) (replicate n false ++ p)
bits_over zero v p = refl
bits_over (suc n) v p = ap₂ (λ (b : Bool) (r : List Bool). b ∷ r) (sym (xor_none (odd v))) (bits_over n (v / 2) p)

-- so the remainder of both is that of the path, as many powers up, with the number that they write taken away
pub remainder_over : (n v : ℕ) (p : List Bool) → n ≤ 16 → v < 2 ^ n → remainder (bits n v ++ p) ≡ bit_xor v (remainder (replicate n false ++ p))
remainder_over n v p few h =
    ap remainder (bits_over n v p) ∙ remainder_plus (bits n v) (replicate n false ++ p) ∙ ap (λ r. bit_xor r (remainder (replicate n false ++ p))) (remainder_bits n v few h)

-- a run with its parity, the newest bit first
with_parity_path : (width : ℕ) (run : List Bool) → reverse (with_parity width run) ≡ bits width (remainder (replicate width false ++ reverse run)) ++ reverse run
with_parity_path width run = reverse-append run (parity_of width run) ∙ ap (λ e. e ++ reverse run) (reverse-reverse (bits width (remainder (replicate width false ++ reverse run))))

pub with_parity_length : (width : ℕ) (run : List Bool) → length (with_parity width run) ≡ length run + width
with_parity_length width run = simp (length-append, length-reverse, bits_length)

-- a run with its parity leaves no remainder
pub parity_closes : (run : List Bool) → remainder (reverse (with_parity 16 run)) ≡ 0
parity_closes run =
    let before = remainder (replicate 16 false ++ reverse run) in
    ap remainder (with_parity_path 16 run) ∙ remainder_over 16 before (reverse run) (omega arith) (remainder_below (replicate 16 false ++ reverse run)) ∙ xor_self before
