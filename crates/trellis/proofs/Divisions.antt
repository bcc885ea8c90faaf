-- The remainder is that of the division by the generator: what leaves none is a multiple, and every multiple leaves none.
use Rattle.std.proofs.Common.{◌≡◌, ℕ, zero, suc, ◌+◌, ◌*◌, ◌/◌, ◌^◌, ◌<◌, Bool, true, false, cond, leb, List, [], ◌∷◌, ◌++◌, get_or, length, replicate, reverse, sym, refl, ap, ◌∙◌, subst, ap₂, inl, inr, arith}
use lib.Bits.{bit_xor, xor_assoc, xor_comm, xor_self, xor_zero_r, xor_shr}
use Rattle.std.proofs.lemmas.Nat.{div-mul-add}
use Rattle.std.proofs.lemmas.List.{length-reverse, reverse-append, reverse-reverse}
use Rattle.std.proofs.lemmas.Bool.{cases_lt, le-leb, lt-leb}
use Rattle.trellis.specs.Bits.{xor, bit_of, bits}
use Rattle.trellis.specs.Parity.{reduced, remainder, parity_of, with_parity}
use Rattle.trellis.specs.Polynomials.{plus, times, Same, Multiple, generator}
use Rattle.trellis.proofs.Bitwise.{bit_below, odd_below, odd_xor, xor_none, xor_over}
use Rattle.trellis.proofs.Coded.{zero_after}
use Rattle.trellis.proofs.Numbers.{bits_older}
use Rattle.trellis.proofs.Parities.{remainder_below, remainder_over, remainder_plus, parity_closes, reduced_high, reduced_low, xor_clears}
use Rattle.trellis.proofs.Taps.{packed, bits_packed, packed_below}

-- each coefficient of a sum is the sum of both
plus_at : (p q : List Bool) (i : ℕ) → get_or (plus p q) i false ≡ xor (get_or p i false) (get_or q i false)
plus_at [] q i = refl
plus_at (a ∷ p) [] i = sym (xor_none (get_or (a ∷ p) i false))
plus_at (a ∷ p) (b ∷ q) zero = refl
plus_at (a ∷ p) (b ∷ q) (suc i) = plus_at p q i

-- the bits of a sum are the sums of the bits
bits_sum : (n u v : ℕ) → bits n (bit_xor u v) ≡ plus (bits n u) (bits n v)
bits_sum zero u v = refl
bits_sum (suc n) u v = ap₂ (λ (b : Bool) (r : List Bool). b ∷ r) (odd_xor u v) (ap (bits n) (xor_shr u v 1) ∙ bits_sum n (u / 2) (v / 2))

-- a bit more of a number that has none there is 0
bits_past : (n v i : ℕ) → v < 2 ^ n → get_or (bits (suc n) v) i false ≡ get_or (bits n v) i false
bits_past n v i h =
    let none : v + bit_of false * 2 ^ n ≡ v = omega arith in
    ap (λ x. get_or (bits (suc n) x) i false) (sym none) ∙ ap (λ p. get_or p i false) (sym (bits_older n v false h)) ∙ zero_after (bits n v) i

-- polynomials that are one leave one remainder
same_remainder : (p q : List Bool) → Same p q → remainder p ≡ remainder q
unfolding remainder
same_remainder [] [] same = refl
same_remainder [] (c ∷ q) same = ap₂ (λ r b. reduced (r * 2 + bit_of b)) (same_remainder [] q (λ i. same (suc i))) (same 0)
same_remainder (b ∷ p) [] same = ap₂ (λ r b. reduced (r * 2 + bit_of b)) (same_remainder p [] (λ i. same (suc i))) (same 0)
same_remainder (b ∷ p) (c ∷ q) same = ap₂ (λ r b. reduced (r * 2 + bit_of b)) (same_remainder p q (λ i. same (suc i))) (same 0)

-- a product with the generator leaves none
times_remainder : (q : List Bool) → remainder (times q generator) ≡ 0
unfolding remainder
times_remainder [] = refl
times_remainder (b ∷ q) = remainder_plus (cond b generator []) (false ∷ times q generator) ∙ ap₂ (λ g r. bit_xor g (reduced (r * 2 + 0))) (generator_remainder b) (times_remainder q)
  where
    generator_remainder : (b : Bool) → remainder (cond b generator []) ≡ 0
    generator_remainder true = refl
    generator_remainder false = refl

-- so multiples leave none
multiple_remainder : (p : List Bool) → Multiple generator p → remainder p ≡ 0
multiple_remainder p (quotient, same) = same_remainder p (times quotient generator) same ∙ times_remainder quotient

-- 0 has no bit
bits_zero : (n i : ℕ) → get_or (bits n 0) i false ≡ false
bits_zero zero i = refl
bits_zero (suc n) zero = refl
bits_zero (suc n) (suc i) = bits_zero n i

-- a number with the power 16 is the generator and what is left when it is taken away
bits_reduced : (v : ℕ) → v < 131072 → Same (bits 17 v) (plus (cond (leb 65536 v) generator []) (bits 16 (reduced v)))
bits_reduced v room i = elim (cases_lt v 65536) [
  | inl h ↦ bits_past 16 v i h ∙ sym (ap₂ (λ t r. get_or (plus (cond t generator []) (bits 16 r)) i false) (lt-leb 65536 v h) (reduced_low v h))
  | inr h ↦
      let left = bit_xor v 0x11021 in
      let whole : bit_xor 0x11021 left ≡ v = xor_comm 0x11021 left ∙ xor_assoc v 0x11021 0x11021 ∙ xor_zero_r v in
      ap (λ x. get_or (bits 17 x) i false) (sym whole) ∙ ap (λ p. get_or p i false) (bits_sum 17 0x11021 left)
      ∙ plus_at generator (bits 17 left) i
      ∙ ap (xor (get_or generator i false)) (bits_past 16 left i (xor_clears v 0x11021 h room (omega arith) (omega arith)))
      ∙ sym (plus_at generator (bits 16 left) i)
      ∙ sym (ap₂ (λ t r. get_or (plus (cond t generator []) (bits 16 r)) i false) (le-leb 65536 v h) (reduced_high v h))
]

-- a path with one bit more, by the parts of the path
one_more : (n r : ℕ) (b : Bool) (p q : List Bool) → Same p (plus q (bits n r)) → Same (b ∷ p) (plus (false ∷ q) (bits (suc n) (r * 2 + bit_of b)))
one_more n r b p q same zero = sym (odd_below r b)
one_more n r b p q same (suc i) = same i ∙ ap (λ x. get_or (plus q (bits n x)) i false) (sym (div-mul-add r 2 (bit_of b) (bit_below b)))

-- a part of one summand goes over to the other
over : (p q r s : List Bool) → Same q (plus r s) → Same (plus p q) (plus (plus r p) s)
over p q r s same i =
    plus_at p q i ∙ ap (xor (get_or p i false)) (same i ∙ plus_at r s i) ∙ xor_over (get_or p i false) (get_or r i false) (get_or s i false)
    ∙ sym (plus_at (plus r p) s i ∙ ap (λ b. xor b (get_or s i false)) (plus_at r p i))

-- a path is the generator times a quotient, and its remainder
divided : (p : List Bool) → (quotient : List Bool) × Same p (plus (times quotient generator) (bits 16 (remainder p)))
unfolding remainder
divided [] = ([], λ i. sym (bits_zero 16 i))
divided (b ∷ p) = more (divided p)
  where
    v : ℕ
    v = remainder p * 2 + bit_of b

    more : (quotient : List Bool) × Same p (plus (times quotient generator) (bits 16 (remainder p))) →
        (quotient : List Bool) × Same (b ∷ p) (plus (times quotient generator) (bits 16 (reduced v)))
    more (q, same) = (
      leb 65536 v ∷ q,
      λ i. one_more 16 (remainder p) b p (times q generator) same i
          ∙ over (false ∷ times q generator) (bits 17 v) (cond (leb 65536 v) generator []) (bits 16 (reduced v)) (bits_reduced v (omega (arith, remainder_below p, bit_below b))) i,
    )

-- where a path leaves no remainder it is a multiple
multiple : (p : List Bool) → remainder p ≡ 0 → Multiple generator p
multiple p none =
    let (q, same) = divided p in (
      q,
      λ i. same i ∙ plus_at (times q generator) (bits 16 (remainder p)) i
          ∙ ap (xor (get_or (times q generator) i false)) (ap (λ r. get_or (bits 16 r) i false) none ∙ bits_zero 16 i) ∙ xor_none (get_or (times q generator) i false),
    )

-- a run with its parity is a multiple of the generator
pub parity_multiple : (run : List Bool) → Multiple generator (reverse (with_parity 16 run))
parity_multiple run = multiple (reverse (with_parity 16 run)) (parity_closes run)

-- two numbers whose sum is 0 are one
same_from_sum : (a b : ℕ) → bit_xor a b ≡ 0 → a ≡ b
same_from_sum a b none =
    sym (xor_zero_r a) ∙ ap (bit_xor a) (sym (xor_self b)) ∙ sym (xor_assoc a b b) ∙ ap (λ x. bit_xor x b) none

-- no other 16 bits after the run leave no remainder
pub closes_only : (run ending : List Bool) → length ending ≡ 16 → remainder (reverse (run ++ ending)) ≡ 0 → ending ≡ parity_of 16 run
closes_only run ending long leaves =
    let newest = reverse ending in
    let number = packed newest in
    let after = remainder (replicate 16 false ++ reverse run) in
    let size : length newest ≡ 16 = length-reverse ending ∙ long in
    let written : bits 16 number ≡ newest = ap (λ n. bits n number) (sym size) ∙ bits_packed newest in
    let below = subst (λ n. number < 2 ^ n) size (packed_below newest) in
    let path : bits 16 number ++ reverse run ≡ reverse (run ++ ending) = ap (λ r. r ++ reverse run) written ∙ sym (reverse-append run ending) in
    let none : bit_xor number after ≡ 0 = sym (remainder_over 16 number (reverse run) (omega arith) below) ∙ ap remainder path ∙ leaves in
    sym (reverse-reverse ending) ∙ ap reverse (sym written ∙ ap (bits 16) (same_from_sum number after none))

-- so no other 16 bits make it a multiple
pub parity_only : (run ending : List Bool) → length ending ≡ 16 → Multiple generator (reverse (run ++ ending)) → ending ≡ parity_of 16 run
parity_only run ending long whole = closes_only run ending long (multiple_remainder (reverse (run ++ ending)) whole)
