-- Bits, and the numbers that hold them.
use Rattle.std.specs.Prelude.{ℕ, zero, suc, ◌/◌, ◌%◌, Bool, true, false, not, ◌&&◌, List, [], ◌∷◌, ◌==◌}

abbrev pub odd : ℕ → Bool
odd n = n % 2 == 1

-- the sum modulo 2; a word of its own, since the library's does not compute in a proof
abbrev pub xor : Bool → Bool → Bool
xor true b = not b
xor false b = b

abbrev pub bit_of : Bool → ℕ
bit_of true = 1
bit_of false = 0

-- the n lowest bits of a number, the lowest first
abbrev pub bits : ℕ → ℕ → List Bool
bits zero v = []
bits (suc n) v = odd v ∷ bits n (v / 2)

-- every bit is 0
abbrev pub empty : List Bool → Bool
empty [] = true
empty (b ∷ r) = not b && empty r
