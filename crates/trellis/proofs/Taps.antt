-- Sums over taps, by the numbers that hold the taps and the window.
use Rattle.std.proofs.Common.{◌≡◌, ℕ, zero, suc, ◌+◌, ◌-◌, ◌*◌, ◌/◌, ◌%◌, ◌^◌, ◌<◌, ◌≤◌, Bool, false, List, [], ◌∷◌, ◌++◌, length, get_or, sym, refl, ap, ◌∙◌, subst, ap₂, pow-suc, arith}
use Rattle.std.proofs.lemmas.Nat.{div-mul-add, mod-mul-add, pow-add}
use Rattle.std.proofs.lemmas.List.{get_or_past}
use Rattle.trellis.specs.Bits.{bit_of, bits}
use Rattle.trellis.specs.Codes.{summed}
use Rattle.trellis.specs.Coding.{entered}
use Rattle.trellis.specs.Paths.{register}
use Rattle.trellis.proofs.Bitwise.{bit_below, odd_below}
use Rattle.trellis.proofs.Numbers.{register_bits}
use Rattle.trellis.proofs.Registers.{register_length, register_more, summed_register}

-- the number that bits write, the first lowest
abbrev pub packed : List Bool → ℕ
packed [] = 0
packed (b ∷ bs) = packed bs * 2 + bit_of b

-- the number that bits write has those bits
pub bits_packed : (r : List Bool) → bits (length r) (packed r) ≡ r
bits_packed [] = refl
bits_packed (b ∷ r) =
    let high : packed (b ∷ r) / 2 ≡ packed r = div-mul-add (packed r) 2 (bit_of b) (bit_below b) in
    ap₂ (λ (x : Bool) (xs : List Bool). x ∷ xs) (odd_below (packed r) b) (ap (bits (length r)) high ∙ bits_packed r)

-- bits write a number below the power of their count
pub packed_below : (r : List Bool) → packed r < 2 ^ length r
packed_below [] = omega arith
packed_below (b ∷ r) =
    let low = bit_below b in
    let high = packed_below r in
    let double = pow-add 2 (length r) 1 in
    let on : suc (length r) ≡ length r + 1 = omega arith in
    subst (λ n. packed (b ∷ r) < 2 ^ n) (sym on) (omega (arith, double))

-- an older bit stands above the others
packed_push : (r : List Bool) (x : Bool) → packed (r ++ x ∷ []) ≡ bit_of x * 2 ^ length r + packed r
packed_push [] x = omega arith
packed_push (b ∷ r) x = omega (arith, ap (λ v. bit_of x * v) (pow-suc 2 (length r)), packed_push r x)

-- a window without its oldest bit is the register after it
pub packed_masked : (m : ℕ) (p : List Bool) → packed (register (suc m) p) % 2 ^ m ≡ packed (register m p)
packed_masked m p =
    let r = register m p in
    let oldest = get_or p m false in
    let below : packed r < 2 ^ m = subst (λ n. packed r < 2 ^ n) (register_length m p) (packed_below r) in
    let written : packed (register (suc m) p) ≡ bit_of oldest * 2 ^ m + packed r
    = ap packed (register_more m p) ∙ packed_push r oldest ∙ ap (λ n. bit_of oldest * 2 ^ n + packed r) (register_length m p) in
    ap (λ n. n % 2 ^ m) written ∙ mod-mul-add (bit_of oldest) (2 ^ m) (packed r) below

-- a row that taps none but a window's bits sums them
pub window_summed : (m taps : ℕ) (p : List Bool) → suc m ≤ 8 → taps < 2 ^ suc m → summed taps (bits 8 (packed (register (suc m) p))) ≡ summed taps p
window_summed m taps p few h =
    let window = packed (register (suc m) p) in
    let same : bits (suc m) window ≡ register (suc m) p
    = subst (λ n. bits n window ≡ register (suc m) p) (register_length (suc m) p) (bits_packed (register (suc m) p)) in
    summed_register (suc m) taps (bits 8 window) h
    ∙ ap (summed taps) (register_bits (suc m) 8 window few ∙ same)
    ∙ sym (summed_register (suc m) taps p h)

-- the bit of an age, counted from the newest
pub get_or_entered : (run : List Bool) (t age : ℕ) → age ≤ t → get_or (entered run t) age false ≡ get_or run (t - age) false
get_or_entered run zero zero h = refl
get_or_entered run zero (suc age) h = absurd (omega arith)
get_or_entered run (suc t) zero h = let e : suc t ≡ suc t - 0 = omega arith in ap (λ n. get_or run n false) e
get_or_entered run (suc t) (suc age) h = let e : t - age ≡ suc t - suc age = omega arith in get_or_entered run t age (omega arith) ∙ ap (λ n. get_or run n false) e

-- one more bit has entered than the newest's place
length_entered : (run : List Bool) (t : ℕ) → length (entered run t) ≡ suc t
length_entered run zero = refl
length_entered run (suc t) = ap suc (length_entered run t)

-- before the run nothing has entered
pub get_or_entered_none : (run : List Bool) (t age : ℕ) → t < age → get_or (entered run t) age false ≡ false
get_or_entered_none run t age h = get_or_past (entered run t) age false (omega (arith, length_entered run t))
