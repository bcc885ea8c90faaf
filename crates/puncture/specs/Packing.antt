-- Entries packed into the bits of a number: reading one, counting the kept ones, and adding one.
use Rattle.std.specs.Prelude.{◌≡◌, ℕ, zero, suc, ◌+◌, ◌-◌, ◌*◌, ◌/◌, ◌%◌, ◌^◌, ◌<◌, ◌≤◌, Bool, true, false, cond, List, [], ◌∷◌, ◌++◌, length, take, ◌==◌, bit_and, bit_or, nat_eq, slice_index_or, refl}
use Rattle.std.proofs.Common.{sym, ap, ap₂, ◌∙◌, div-one, mod-eq_of_lt, mul_assoc, add-one, arith}
use Rattle.std.proofs.Math.Nat.{mod-one, pow-suc}
use Rattle.std.specs.Int.Count.{ones, ones_step}
use mir.Val.{bool_byte}
use Rattle.std.proofs.lemmas.Nat.{and_mask, div-mul-add, mod-mul-add, mod-pow-add, one_shl, or_shifted, pow_below, pow-add, shr-shr}
use Rattle.std.proofs.lemmas.Bool.Decides.{nat_tests}
use Rattle.std.proofs.lemmas.List.Sums.{sum_by-cons}
use Rattle.puncture.specs.Patterns.{kept}
use Rattle.puncture.specs.Strips.{bits}

-- that many lowest bits
pub length_bits : (n v : ℕ) → length (bits n v) ≡ n
length_bits zero v = refl
length_bits (suc n) v = ap suc (length_bits n _)

-- entry i is bit i
bits_at : (n v i : ℕ) → i < n → slice_index_or (bits n v) i false ≡ (v / 2 ^ i % 2 == 1)
bits_at zero v i h = absurd (omega arith)
bits_at (suc n) v zero h = ap (λ a. nat_eq (a % 2) 1) (sym (div-one v))
bits_at (suc n) v (suc i) h =
    let on : 1 + i ≡ suc i = omega arith in
    bits_at n (v / 2) i (omega arith) ∙ ap (λ a. nat_eq (a % 2) 1) (shr-shr v 1 i ∙ ap (λ k. v / 2 ^ k) on)

-- reading bit i
pub read_bit : (n v i : ℕ) → i < n → (bit_and (v / 2 ^ i) 1 == 1) ≡ slice_index_or (bits n v) i false
read_bit n v i h = ap (λ a. nat_eq a 1) (and_mask (v / 2 ^ i) 1) ∙ sym (bits_at n v i h)

-- the first of the lowest bits are lowest bits
take_bits : (i n v : ℕ) → i ≤ n → take i (bits n v) ≡ bits i v
take_bits zero n v h = refl
take_bits (suc i) zero v h = absurd (omega arith)
take_bits (suc i) (suc n) v h = ap (λ p. (v % 2 == 1) ∷ p) (take_bits i n (v / 2) (omega arith))

-- an entry that is the lowest bit counts as that bit
kept_low : (v : ℕ) (p : List Bool) → kept ((v % 2 == 1) ∷ p) ≡ v % 2 + kept p
kept_low v p = omega (arith, sum_by-cons (λ on. cond on 1 0) (v % 2 == 1) p, low (v % 2) (omega arith))
  where
    low : (r : ℕ) → r < 2 → cond (r == 1) 1 0 ≡ r
    low r h = grind (arith, nat_tests)

-- no bits, no ones
ones_none : ones 0 ≡ 0
unfolding ones
ones_none = refl

-- the lowest bits keep as many as they have ones
kept_bits : (n v : ℕ) → kept (bits n v) ≡ ones (v % 2 ^ n)
kept_bits zero v = sym (ap ones (mod-one v) ∙ ones_none)
kept_bits (suc n) v =
    let a = v / 2 % 2 ^ n in
    let low : v % 2 < 2 = omega arith in
    let split : v % 2 ^ suc n ≡ a * 2 + v % 2 = ap (λ k. v % 2 ^ k) (sym (add-one n)) ∙ mod-pow-add v n 1 in
    kept_low v (bits n (v / 2))
    ∙ ap (λ k. v % 2 + k) (kept_bits n (v / 2))
    ∙ sym (ap ones split ∙ ones_step (a * 2 + v % 2) ∙ ap₂ (λ (x y : ℕ). x + ones y) (mod-mul-add a 2 (v % 2) low) (div-mul-add a 2 (v % 2) low))

-- counting all the kept entries
pub count_all : (n v : ℕ) → v < 2 ^ n → ones v ≡ kept (bits n v)
count_all n v h = sym (kept_bits n v ∙ ap ones (mod-eq_of_lt h))

-- counting the kept entries before entry i, by a mask of as many ones
pub count_before : (n v i : ℕ) → i ≤ n → i < 64 → ones (bit_and v ((1 * 2 ^ i) % 2 ^ 64 - 1)) ≡ kept (take i (bits n v))
count_before n v i h o =
    ap (λ k. ones (bit_and v (k - 1))) (one_shl i 64 o)
    ∙ ap ones (and_mask v i)
    ∙ sym (ap kept (take_bits i n v h) ∙ kept_bits i v)

-- an entry above n bits, by 2 ^ n
abbrev above : ℕ → Bool → ℕ
above n b = bool_byte b * 2 ^ n

-- which is no more than that
above_low : (n : ℕ) (b : Bool) → above n b ≤ 2 ^ n
above_low n true = omega arith
above_low n false = omega arith

-- an entry shifted in above the others is a sum
shifted_in : (n v : ℕ) (b : Bool) → n < 60 → v < 2 ^ n → bit_or (above n b % 2 ^ 64) v ≡ above n b + v
shifted_in n v b h o =
    ap (λ a. bit_or a v) (mod-eq_of_lt (omega (arith, above_low n b, pow_below n 60 h))) ∙ or_shifted (bool_byte b) n v o

-- and the last bit
bits_below : (n v : ℕ) (b : Bool) → v < 2 ^ n → bits (suc n) (above n b + v) ≡ bits n v ++ b ∷ []
bits_below zero v true h = let none : v ≡ 0 = omega arith in ap (λ a. ((1 + a) % 2 == 1) ∷ []) none
bits_below zero v false h = let none : v ≡ 0 = omega arith in ap (λ a. ((0 + a) % 2 == 1) ∷ []) none
bits_below (suc n) v b h =
    let x = above (suc n) b + v in
    let double : above (suc n) b ≡ above n b * 2 = ap (λ k. bool_byte b * k) (pow-suc 2 n) ∙ sym (mul_assoc (bool_byte b) (2 ^ n) 2) in
    let low : x % 2 ≡ v % 2 = omega arith in
    let high : x / 2 ≡ above n b + v / 2 = omega arith in
    ap₂ (λ (r y : ℕ). (r == 1) ∷ bits (suc n) y) low high ∙ ap (λ p. (v % 2 == 1) ∷ p) (bits_below n (v / 2) b (omega (arith, pow-suc 2 n)))

-- it is the last entry then
pub entry_last : (n v : ℕ) (b : Bool) → n < 60 → v < 2 ^ n → bits (n + 1) (bit_or (above n b % 2 ^ 64) v) ≡ bits n v ++ b ∷ []
entry_last n v b h o = ap₂ bits (add-one n) (shifted_in n v b h o) ∙ bits_below n v b o

-- and no bit lies above the entries
pub entry_whole : (n v : ℕ) (b : Bool) → n < 60 → v < 2 ^ n → bit_or (above n b % 2 ^ 64) v < 2 ^ (n + 1)
entry_whole n v b h o = omega (arith, shifted_in n v b h o, above_low n b, pow-add 2 n 1)
