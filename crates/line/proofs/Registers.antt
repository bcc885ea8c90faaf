-- The scrambler's register as a number, and the table of its first values.
use Rattle.std.proofs.Common.{◌≡◌, ℕ, zero, suc, ◌+◌, ◌*◌, ◌/◌, ◌%◌, ◌^◌, ◌<◌, Bool, true, false, cond, eqb, List, [], ◌∷◌, get_or, take, sym, refl, ap, ◌∙◌, ap₂, mod-eq_of_lt, div-one, add-one, arith}
use native.Mathlib.Nat.{mod-one, zero-mod, zero-div}
use lib.Bits.{bit_and, bit_or, and_mask, or_shifted}
use mir.Val.{bool_byte}
use Rattle.std.proofs.lemmas.Nat.{div-mul-add, mod-mul-add, mod-pow-add, shr-shr}
use Rattle.line.specs.Scrambler.{value, clocked, register, masking, number}

-- a bit is 0 or 1
bit_below : (b : Bool) → cond b 1 0 < 2
bit_below = grind arith

-- without its first bit a number is half of it
number_half : (b : Bool) (bs : List Bool) → number (b ∷ bs) / 2 ≡ number bs
number_half b bs = div-mul-add (number bs) 2 (cond b 1 0) (bit_below b)

-- the first bit is the remainder by 2
number_low : (b : Bool) (bs : List Bool) → number (b ∷ bs) % 2 ≡ cond b 1 0
number_low b bs = mod-mul-add (number bs) 2 (cond b 1 0) (bit_below b)

-- the first k bits are the remainder by 2 ^ k
number_take : (k : ℕ) (bs : List Bool) → number (take k bs) ≡ number bs % 2 ^ k
number_take zero bs = sym (mod-one (number bs))
number_take (suc k) [] = sym (zero-mod (2 ^ suc k))
number_take (suc k) (b ∷ bs) =
    ap (λ n. n * 2 + cond b 1 0) (number_take k bs)
    ∙ ap₂ (λ (x y : ℕ). (x % 2 ^ k) * 2 + y) (sym (number_half b bs)) (sym (number_low b bs))
    ∙ sym (mod-pow-add (number (b ∷ bs)) k 1)
    ∙ ap (λ n. number (b ∷ bs) % 2 ^ n) (add-one k)

-- bit k of the number is the bit at k
pub number_at : (bs : List Bool) (k : ℕ) → eqb ((number bs / 2 ^ k) % 2) 1 ≡ get_or bs k false
number_at [] k = ap (λ n. eqb (n % 2) 1) (zero-div (2 ^ k))
number_at (true ∷ bs) zero = rw (div-one, number_low)
number_at (false ∷ bs) zero = rw (div-one, number_low)
number_at (b ∷ bs) (suc k) =
    let on : suc k ≡ 1 + k = omega arith in
    ap (λ n. eqb (n % 2) 1) (ap (λ n. number (b ∷ bs) / 2 ^ n) on ∙ sym (shr-shr (number (b ∷ bs)) 1 k) ∙ ap (λ n. n / 2 ^ k) (number_half b bs))
    ∙ number_at bs k

-- the byte of a bit
byte_bit : (b : Bool) → bool_byte b ≡ cond b 1 0
byte_bit true = refl
byte_bit false = refl

-- the number of a register one clock later
pub number_clocked : (r : List Bool) → bit_or ((bit_and (number r) 16383 * 2) % 2 ^ 64) (bool_byte (value r)) ≡ number (clocked r)
number_clocked r =
    let kept : bit_and (number r) 16383 ≡ number (take 14 r) = and_mask (number r) 14 ∙ sym (number_take 14 r) in
    let small : number (take 14 r) < 2 ^ 14 = omega (arith, number_take 14 r) in
    ap₂ bit_or (ap (λ n. (n * 2) % 2 ^ 64) kept ∙ mod-eq_of_lt (omega arith)) (byte_bit (value r)) ∙ or_shifted (number (take 14 r)) 1 (cond (value r) 1 0) (bit_below (value r))

-- the values of a register in its next n clocks
abbrev pub values : ℕ → List Bool → List Bool
values zero r = []
values (suc n) r = value r ∷ values n (clocked r)

-- the register n clocks later
abbrev later : ℕ → List Bool → List Bool
later zero r = r
later (suc n) r = later n (clocked r)

-- the values of a register in n words of 64
abbrev pub words : ℕ → List Bool → List ℕ
words zero r = []
words (suc n) r = number (values 64 r) ∷ words n (later 64 r)

-- the values from clock i on are those of the masking sequence
pub values_at : (n k i j : ℕ) → k < n → j ≡ i + k → get_or (values n (register i)) k false ≡ masking j
values_at zero k i j h e = absurd (omega arith)
values_at (suc n) zero i j h e = grind arith
values_at (suc n) (suc k) i j h e = values_at n k (suc i) j (omega arith) (omega arith)

-- n clocks after clock i
later_register : (n i j : ℕ) → j ≡ i + n → later n (register i) ≡ register j
later_register zero i j e = grind arith
later_register (suc n) i j e = later_register n (suc i) j (omega arith)

-- from clock i on, word w holds 64 values
pub words_at : (n w i j : ℕ) → w < n → j ≡ i + w * 64 → get_or (words n (register i)) w 0 ≡ number (values 64 (register j))
words_at zero w i j h e = absurd (omega arith)
words_at (suc n) zero i j h e = let d : i ≡ j = omega arith in ap (λ k. number (values 64 (register k))) d
words_at (suc n) (suc w) i j h e =
    ap (λ r. get_or (words n r) w 0) (later_register 64 i (i + 64) refl)
    ∙ words_at n w (i + 64) j (omega arith) (omega arith)
