-- The interleaver: a burst of 8 N bits is written by rows of eight and sent by columns, the columns in steps of five.
use Rattle.std.specs.Prelude.{ℕ, ◌+◌, ◌*◌, ◌/◌, ◌%◌, Bool, cond, Some, None, Option, ◌==◌}

-- whether a burst of that many bits has whole rows of eight
abbrev pub whole_rows : ℕ → Bool
whole_rows bits = bits % 8 == 0

-- where the bit at place k goes, in N rows
abbrev pub spread : ℕ → ℕ → ℕ
spread N k = k / 8 + N * ((5 * k) % 8)

-- where it goes in a burst of that many bits: without whole rows nothing moves
abbrev pub moved : ℕ → ℕ → ℕ
moved bits k = cond (whole_rows bits) (spread (bits / 8) k) k

-- what becomes of the answer of the line below: its place moves, its turn stays
abbrev pub interleaved : ℕ → Option (ℕ × Bool) → Option (ℕ × Bool)
interleaved bits None = None
interleaved bits (Some (k, t)) = Some (moved bits k, t)
