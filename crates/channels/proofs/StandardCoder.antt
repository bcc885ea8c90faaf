-- The linear equations of a code are the sums of its rows, so the coded bits of a block's steps are the code's.
use Rattle.std.proofs.Common.{◌≡◌, ℕ, zero, suc, ◌+◌, ◌-◌, ◌*◌, ◌/◌, ◌%◌, ◌^◌, ◌<◌, leb, Bool, true, false, ◌&&◌, List, [], ◌∷◌, map, length, get_or, sym, refl, ap, ap₂, ◌∙◌, inl, inr, arith}
use Rattle.std.proofs.lemmas.Bool.{cases_lt, le-leb, lt-leb, ltb-true, and_parts, and_left}
use Rattle.std.proofs.lemmas.List.{length-append, length-map, get_or_append_left, get_or-append_right, get_or-map}
use Rattle.std.proofs.lemmas.Nat.{div-mul-add, mod-mul-add}
use Rattle.trellis.specs.Codes.{all_below, rows_of, summed}
use Rattle.trellis.specs.Coding.{coded_bit, entered}
use Rattle.trellis.specs.Paths.{register}
use Rattle.trellis.specs.declared.code.Code.{Code}
use Rattle.trellis.proofs.Bitwise.{xor_none}
use Rattle.trellis.proofs.Registers.{summed_register}
use Rattle.trellis.proofs.Taps.{get_or_entered, get_or_entered_none}
use Rattle.channels.specs.Standard.{Equations, delayed, bench_equations, half_equations, fifth_equations, coded}
use Rattle.channels.specs.Tables.{bench_code, half_code, fifth_code}

-- the first n bits of a sequence
abbrev front : ℕ → (ℕ → Bool) → List Bool
front zero u = []
front (suc n) u = u 0 ∷ front n (λ d. u (suc d))

-- the register behind a path has the path's newest bits
register_front : (n : ℕ) (p : List Bool) → register n p ≡ front n (λ d. get_or p d false)
register_front zero p = refl
register_front (suc n) [] = ap (λ r. false ∷ r) (register_front n [])
register_front (suc n) (b ∷ p) = ap (λ r. b ∷ r) (register_front n p)

-- the bit of a block that entered d steps before
entered_delayed : (u : List Bool) (k d : ℕ) → get_or (entered u k) d false ≡ delayed u k d
entered_delayed u k d = elim (cases_lt k d) [
  | inl h ↦ get_or_entered_none u k d h ∙ sym (and_left (leb d k) (get_or u (k - d) false) (lt-leb d k h))
  | inr h ↦ get_or_entered u k d h ∙ ap (λ b. b && get_or u (k - d) false) (sym (le-leb d k h))
]

-- the sum of a row that taps none but the five newest bits
row_sum : (taps : ℕ) (u : List Bool) (k : ℕ) → taps < 2 ^ 5 → summed taps (entered u k) ≡ summed taps (front 5 (delayed u k))
row_sum taps u k h =
    summed_register 5 taps (entered u k) h
    ∙ ap (summed taps) (register_front 5 (entered u k) ∙ ap (front 5) (λ i d. entered_delayed u k d i))

-- equations that tell the sums of a code's rows
abbrev pub Tells : Code → Equations → Type 0
Tells code equations = (u : List Bool) (k : ℕ) → equations (delayed u k) ≡ map (λ taps. summed taps (entered u k)) (rows_of code)

-- they do where no row taps more than the five newest bits, of which they tell the sums
tells : (code : Code) (equations : Equations) → all_below (2 ^ 5) (rows_of code) ≡ true →
    ((v : ℕ → Bool) → equations v ≡ map (λ taps. summed taps (front 5 v)) (rows_of code)) → Tells code equations
tells code equations few newest u k = newest (delayed u k) ∙ sums (rows_of code) few
  where
    sums : (rows : List ℕ) → all_below (2 ^ 5) rows ≡ true →
        map (λ taps. summed taps (front 5 (delayed u k))) rows ≡ map (λ taps. summed taps (entered u k)) rows
    sums [] h = refl
    sums (taps ∷ rows) h =
        let a = and_parts _ _ h in
        ap₂ (λ (b : Bool) (bs : List Bool). b ∷ bs) (sym (row_sum taps u k (ltb-true taps (2 ^ 5) a.0))) (sums rows a.1)

pub bench_tells : Tells bench_code bench_equations
bench_tells = tells bench_code bench_equations refl (λ v. simp xor_none)

pub half_tells : Tells half_code half_equations
half_tells = tells half_code half_equations refl (λ v. simp xor_none)

pub fifth_tells : Tells fifth_code fifth_equations
fifth_tells = tells fifth_code fifth_equations refl (λ v. simp xor_none)

module _ (code : Code) (equations : Equations) (rows : length (rows_of code) ≡ code.rows) (told : Tells code equations) where
  -- each step has as many coded bits as the code has rows
  length_step : (u : List Bool) (k : ℕ) → length (equations (delayed u k)) ≡ code.rows
  length_step u k = ap length (told u k) ∙ length-map (rows_of code) (λ taps. summed taps (entered u k)) ∙ rows

  -- and so many steps have so many times as many
  pub length_coded : (u : List Bool) (k : ℕ) → length (coded equations u k) ≡ k * code.rows
  length_coded u zero = omega arith
  length_coded u (suc k) =
      omega (arith, length-append (coded equations u k) (equations (delayed u k)), length_coded u k, length_step u k)

  -- each of them is the code's
  pub coded_bits : (u : List Bool) (k j : ℕ) → j < k * code.rows → get_or (coded equations u k) j false ≡ coded_bit code u j
  coded_bits u zero j h = absurd (omega arith)
  coded_bits u (suc k) j h = elim (cases_lt j (k * code.rows)) [
    | inl o ↦
        get_or_append_left (coded equations u k) (equations (delayed u k)) false j (omega (arith, length_coded u k)) ∙ coded_bits u k j o
    | inr o ↦
        let i = j - k * code.rows in
        let less : i < code.rows = omega arith in
        let at : j ≡ k * code.rows + i = omega arith in
        let step : j / code.rows ≡ k = ap (λ n. n / code.rows) at ∙ div-mul-add k code.rows i less in
        let row : j % code.rows ≡ i = ap (λ n. n % code.rows) at ∙ mod-mul-add k code.rows i less in
        get_or-append_right (coded equations u k) (equations (delayed u k)) (k * code.rows) j false (length_coded u k) o
        ∙ ap (λ s. get_or s i false) (told u k)
        ∙ get_or-map (λ taps. summed taps (entered u k)) (rows_of code) i 0 false (omega arith)
        ∙ ap₂ (λ r t. summed (get_or (rows_of code) r 0) (entered u t)) (sym row) (sym step)
  ]
