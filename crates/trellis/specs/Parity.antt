-- Parity of 16 bits: the plain remainder by 1 + D^5 + D^12 + D^16, polynomials being numbers whose bit i is the coefficient of D^i.
use Rattle.std.specs.Prelude.{ℕ, ◌+◌, ◌*◌, Bool, cond, false, List, [], ◌∷◌, ◌++◌, reverse, replicate, bit_xor, nat_le}
use Rattle.trellis.specs.Bits.{bit_of, bits}

-- the generator is taken away where the power 16 stands
abbrev pub reduced : ℕ → ℕ
reduced v = cond (nat_le 65536 v) (bit_xor v 0x11021) v

-- the remainder of a run whose newest bit, the lowest power, stands first
unfoldable pub remainder : List Bool → ℕ
remainder [] = 0
remainder (b ∷ p) = reduced (remainder p * 2 + bit_of b)

-- the parity of a run, 16 bits or none, the highest power first: the remainder that the run leaves with as many zeros after it
abbrev pub parity_of : ℕ → List Bool → List Bool
parity_of width run = reverse (bits width (remainder (replicate width false ++ reverse run)))

-- a run and its parity
abbrev pub with_parity : ℕ → List Bool → List Bool
with_parity width run = run ++ parity_of width run
