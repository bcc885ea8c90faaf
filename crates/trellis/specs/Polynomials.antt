-- Polynomials modulo 2: lists of coefficients, the lowest power first, and 0 past the last. So a path is one, its newest bit the lowest power.
use Rattle.std.specs.Prelude.{◌≡◌, ℕ, Bool, true, false, cond, List, [], ◌∷◌, ◌++◌, replicate, slice_index_or}
use Rattle.trellis.specs.Bits.{xor}

-- D to the power n
abbrev pub power : ℕ → List Bool
power n = replicate n false ++ (true ∷ [])

abbrev pub plus : List Bool → List Bool → List Bool
plus [] q = q
plus (a ∷ p) [] = a ∷ p
plus (a ∷ p) (b ∷ q) = xor a b ∷ plus p q

abbrev pub times : List Bool → List Bool → List Bool
times [] q = []
times (a ∷ p) q = plus (cond a q []) (false ∷ times p q)

-- one polynomial: at each power the same coefficient
abbrev pub Same : List Bool → List Bool → Type 0
Same p q = (i : ℕ) → slice_index_or p i false ≡ slice_index_or q i false

-- p is g times a quotient
abbrev pub Multiple : List Bool → List Bool → Type 0
Multiple g p = (quotient : List Bool) × Same p (times quotient g)

-- 1 + D^5 + D^12 + D^16
abbrev pub generator : List Bool
generator = plus (power 0) (plus (power 5) (plus (power 12) (power 16)))
