-- Convolutional codes: the sum of a row, and which codes are sound.
use Rattle.std.specs.Prelude.{ℕ, ◌+◌, ◌/◌, ◌^◌, Bool, false, ◌&&◌, List, [], ◌∷◌, take, nat_le, nat_lt, slice_index}
use Rattle.std.specs.List.{list_all}
use Rattle.trellis.specs.Bits.{odd, xor}
use Rattle.trellis.specs.declared.code.Code.{Code}

-- a row's sum modulo 2 over a path whose newest bit stands first
abbrev pub summed : ℕ → List Bool → Bool
summed taps [] = false
summed taps (b ∷ p) = xor (odd taps && b) (summed (taps / 2) p)

abbrev pub rows_of : Code → List ℕ
rows_of c = take c.rows c.taps

abbrev pub all_below : ℕ → List ℕ → Bool
all_below n = list_all (λ x. nat_lt x n)

-- 1 to 5 rows, a memory of 1 to 4 bits, no tap older than the memory, and the newest bit in the first row
abbrev pub sound : Code → Bool
sound c =
    (nat_le 1 c.rows && nat_le c.rows 5)
    && ((nat_le 1 c.memory && nat_le c.memory 4)
    && (all_below (2 ^ (c.memory + 1)) (rows_of c) && odd (slice_index c.taps 0)))
