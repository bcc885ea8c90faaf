-- Bits as numbers, and odd numbers.
use Rattle.std.proofs.Common.{◌≡◌, ℕ, suc, ◌+◌, ◌*◌, ◌/◌, ◌%◌, ◌^◌, ◌<◌, min, Bool, true, false, not, ◌&&◌, eqb, List, [], ◌∷◌, map, sym, refl, ap, ◌∙◌, subst, ap₂, inl, inr, arith}
use lib.Bits.{bit_xor, xor_mod}
use lib.Count.{ones}
use Rattle.std.proofs.lemmas.Nat.{mod-mul-add, shr_below}
use Rattle.std.proofs.lemmas.Bool.Decides.{eqb_tells, nat_tests}
use Rattle.trellis.specs.Bits.{odd, xor, bit_of}

-- a bit is 0 or 1
pub bit_below : (b : Bool) → bit_of b < 2
bit_below true = omega arith
bit_below false = omega arith

-- the lower of two bits is set where both are
pub min_bits : (b t : Bool) → min (bit_of b) (bit_of t) ≡ bit_of (t && b)
min_bits true true = refl
min_bits true false = refl
min_bits false true = refl
min_bits false false = refl

-- two bits that make one sum with a third are one
pub xor_same : (a b t : Bool) → xor a t ≡ xor b t → a ≡ b
xor_same true true t e = refl
xor_same false false t e = refl
xor_same true false true e = sym e
xor_same true false false e = e
xor_same false true true e = sym e
xor_same false true false e = e

-- a bit and 0 make the bit
pub xor_none : (b : Bool) → xor b false ≡ b
xor_none true = refl
xor_none false = refl

-- a sum is the same either way
pub xor_comm : (a b : Bool) → xor a b ≡ xor b a
xor_comm true b = other b
  where
    other : (b : Bool) → not b ≡ xor b true
    other true = refl
    other false = refl
xor_comm false b = sym (xor_none b)

-- the sum of two bits as numbers
pub bit_of_xor : (a b : Bool) → bit_of (xor a b) ≡ bit_xor (bit_of a) (bit_of b)
bit_of_xor true true = refl
bit_of_xor true false = refl
bit_of_xor false b = refl

-- of three bits the second goes over to the first
pub xor_over : (a b c : Bool) → xor a (xor b c) ≡ xor (xor b a) c
xor_over true true true = refl
xor_over true true false = refl
xor_over true false c = refl
xor_over false b c = ap (λ x. xor x c) (sym (xor_none b))

-- a bit that is written as 1 is 1
bit_is : (b : Bool) → eqb (bit_of b) 1 ≡ b
bit_is true = refl
bit_is false = refl

-- so is one that is read off its byte
pub odd_bit : (b : Bool) → odd (bit_of b) ≡ b
odd_bit true = refl
odd_bit false = refl

-- and so are the bits of a list
pub odd_bits : (bs : List Bool) → map odd (map bit_of bs) ≡ bs
odd_bits [] = refl
odd_bits (b ∷ bs) = ap₂ (λ (x : Bool) (xs : List Bool). x ∷ xs) (odd_bit b) (odd_bits bs)

-- a bit below a number's bits is its lowest
pub odd_below : (v : ℕ) (b : Bool) → odd (v * 2 + bit_of b) ≡ b
odd_below v b = ap (λ r. eqb r 1) (mod-mul-add v 2 (bit_of b) (bit_below b)) ∙ bit_is b

-- one more turns odd over
odd_more : (n : ℕ) → odd (1 + n) ≡ not (odd n)
odd_more n = grind (arith, nat_tests)

-- a bit more is a sum modulo 2
pub odd_add : (b : Bool) (n : ℕ) → odd (bit_of b + n) ≡ xor b (odd n)
odd_add true n = odd_more n
odd_add false n = let e : 0 + n ≡ n = omega arith in ap odd e

-- the bit of a number that tells whether it is odd is its remainder by 2
pub bit_of_odd : (n : ℕ) → bit_of (odd n) ≡ n % 2
bit_of_odd n = elim (eqb_tells (n % 2) 1) [ inl h ↦ ap bit_of h.0 ∙ sym h.1 | inr h ↦ let z : 0 ≡ n % 2 = omega (arith, h.1) in ap bit_of h.0 ∙ z ]

-- of the sum of two numbers the lowest bit is the sum of theirs
pub odd_xor : (u v : ℕ) → odd (bit_xor u v) ≡ xor (odd u) (odd v)
odd_xor u v =
    ap (λ r. eqb r 1) (xor_mod u v 1 ∙ ap₂ bit_xor (sym (bit_of_odd u)) (sym (bit_of_odd v)) ∙ sym (bit_of_xor (odd u) (odd v)))
    ∙ bit_is (xor (odd u) (odd v))

-- half of a number of one bit more
pub half_below : (m n : ℕ) → n < 2 ^ suc m → n / 2 < 2 ^ m
half_below m n h = let on : suc m ≡ m + 1 = omega arith in shr_below n m 1 (subst (λ k. n < 2 ^ k) on h)

-- 0 has no ones
pub ones_none : ones 0 ≡ 0
unfolding ones
ones_none = refl
