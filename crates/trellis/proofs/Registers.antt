-- The register behind a path, and the coded bits, which read no further back than the register.
use Rattle.std.proofs.Common.{◌≡◌, ℕ, zero, suc, ◌/◌, ◌^◌, ◌<◌, ◌≤◌, Bool, true, false, ◌&&◌, List, [], ◌∷◌, ◌++◌, length, get_or, take, replicate, sym, refl, ap, ◌∙◌, pow-suc, arith}
use Rattle.std.proofs.lemmas.List.{length_push, same_from_push}
use Rattle.std.proofs.lemmas.Bool.{and_right}
use Rattle.trellis.specs.Bits.{odd, xor, empty}
use Rattle.trellis.specs.Codes.{summed}
use Rattle.trellis.specs.Paths.{register}

-- a register has as many bits as it is wide
pub register_length : (m : ℕ) (p : List Bool) → length (register m p) ≡ m
register_length zero p = refl
register_length (suc m) [] = ap suc (register_length m [])
register_length (suc m) (b ∷ p) = ap suc (register_length m p)

-- a register that is one bit wider has one older bit, a 0 before the path's beginning
pub register_more : (m : ℕ) (p : List Bool) → register (suc m) p ≡ register m p ++ get_or p m false ∷ []
register_more zero [] = refl
register_more zero (b ∷ p) = refl
register_more (suc m) [] = ap (λ r. false ∷ r) (register_more m [])
register_more (suc m) (b ∷ p) = ap (λ r. b ∷ r) (register_more m p)

-- a path that stands in a register stands in it still where the oldest bit is dropped
pub register_less : (r p : List Bool) (x : Bool) → register (length (r ++ x ∷ [])) p ≡ r ++ x ∷ [] → register (length r) p ≡ r
register_less r p x e =
    let wider : length (r ++ x ∷ []) ≡ suc (length r) = omega (arith, length_push r x) in
    (same_from_push (register (length r) p) r (get_or p (length r) false) x (sym (register_more (length r) p) ∙ (rw wider at e))).0

-- an empty register is the one that a path begins in
pub register_empty : (r : List Bool) → empty r ≡ true → register (length r) [] ≡ r
register_empty [] e = refl
register_empty (true ∷ r) e = absurd (let z : ◌≡◌ {A = ℕ} 0 1 = cc in omega arith)
register_empty (false ∷ r) e = ap (λ s. false ∷ s) (register_empty r e)

-- the register that a path begins in is empty
pub empty_register : (m : ℕ) → empty (register m []) ≡ true
empty_register zero = refl
empty_register (suc m) = empty_register m

-- of a path that is long enough the register is the newest bits
pub register_take : (m : ℕ) (p : List Bool) → m ≤ length p → register m p ≡ take m p
register_take zero p h = refl
register_take (suc m) [] h = absurd (omega arith)
register_take (suc m) (b ∷ p) h = ap (λ r. b ∷ r) (register_take m p (omega arith))

-- after as many zeros as the register is wide, it holds nothing else
pub register_closed : (m : ℕ) (u : List Bool) → register m (replicate m false ++ u) ≡ replicate m false
register_closed zero u = refl
register_closed (suc m) u = ap (λ r. false ∷ r) (register_closed m u)

-- a row without taps sums to 0
summed_none : (p : List Bool) → summed 0 p ≡ false
summed_none [] = refl
summed_none (b ∷ p) = summed_none p

-- a row whose taps fit the register sums the register
pub summed_register : (n taps : ℕ) (p : List Bool) → taps < 2 ^ n → summed taps p ≡ summed taps (register n p)
summed_register zero taps p h = let none : taps ≡ 0 = omega arith in ap (λ v. summed v p) none ∙ summed_none p
summed_register (suc n) taps [] h =
    let rest : taps / 2 < 2 ^ n = omega (arith, pow-suc 2 n) in
    let none : (odd taps && false) ≡ false = and_right (odd taps) false refl in
    summed_register n (taps / 2) [] rest ∙ ap (λ x. xor x (summed (taps / 2) (register n []))) (sym none)
summed_register (suc n) taps (b ∷ p) h =
    let rest : taps / 2 < 2 ^ n = omega (arith, pow-suc 2 n) in
    ap (xor (odd taps && b)) (summed_register n (taps / 2) p rest)

-- so two paths with the same register have the same sum
pub summed_same : (n taps : ℕ) (p q : List Bool) → taps < 2 ^ n → register n p ≡ register n q → summed taps p ≡ summed taps q
summed_same n taps p q h e = summed_register n taps p h ∙ ap (summed taps) e ∙ sym (summed_register n taps q h)
