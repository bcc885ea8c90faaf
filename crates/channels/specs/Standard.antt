-- What each burst of a channel holds, told as the standard of the channels tells it: what enters the coder, the linear equations of the coded
-- bits, the masks, the matrix, the bursts that carry a block, and the scrambler.
use Rattle.std.specs.Prelude.{◌≡◌, ℕ, zero, suc, ◌+◌, ◌-◌, ◌*◌, ◌/◌, ◌%◌, ◌<◌, Bool, true, false, cond, ◌&&◌, List, [], ◌∷◌, ◌++◌, map, reverse, length, Some, None, Option, ◌==◌, nat_le, nat_lt, slice_index_or}
use Rattle.std.specs.List.{range_with_len}
use Rattle.line.specs.Scrambler.{masking}
use Rattle.puncture.specs.Masks.{Masks, Table, width}
use Rattle.trellis.specs.Bits.{xor, bit_of}
use Rattle.trellis.specs.Polynomials.{Multiple, generator}
use Rattle.channels.specs.Tables.{data24_masks, data96_masks}
use Rattle.channels.specs.declared.channel.Channel.{Channel}
use Rattle.channels.specs.declared.channel.Channel.TheVariants.{Bench, Bcch, Data24, Data96}

-- the sum modulo 2
infixr 65 ◌⊕◌
abbrev pub ◌⊕◌ : Bool → Bool → Bool
a ⊕ b = xor a b

-- what enters the coder for a message: the message, followed where there is parity by 16 bits that make both together a multiple of
-- 1 + D^5 + D^12 + D^16, the first bit being the highest power
abbrev pub Protected : Bool → List Bool → List Bool → Type 0
Protected false message block = block ≡ message
Protected true message block =
    (parity : List Bool) × (length parity ≡ 16) × (block ≡ message ++ parity) × Multiple generator (reverse block)

-- bit u(k - d) of a block, 0 before the block and after its end
abbrev pub delayed : List Bool → ℕ → ℕ → Bool
delayed u k d = nat_le d k && slice_index_or u (k - d) false

-- the linear equations of a code: the coded bits of step k, where u d stands for u(k - d)
abbrev pub Equations : Type 0
Equations = (ℕ → Bool) → List Bool

-- the bench: 1 + D + D² and 1 + D²
abbrev pub bench_equations : Equations
bench_equations u = (u 0 ⊕ u 1 ⊕ u 2) ∷ (u 0 ⊕ u 2) ∷ []

-- rate 1/2: 1 + D³ + D⁴ and 1 + D + D² + D⁴
abbrev pub half_equations : Equations
half_equations u = (u 0 ⊕ u 3 ⊕ u 4) ∷ (u 0 ⊕ u 1 ⊕ u 2 ⊕ u 4) ∷ []

-- rate 1/5: 1 + D² + D⁴, 1 + D + D³ + D⁴, 1 + D + D² + D³ + D⁴, 1 + D² + D³ + D⁴ and 1 + D + D² + D⁴
abbrev pub fifth_equations : Equations
fifth_equations u =
    (u 0 ⊕ u 2 ⊕ u 4)
    ∷ (u 0 ⊕ u 1 ⊕ u 3 ⊕ u 4)
    ∷ (u 0 ⊕ u 1 ⊕ u 2 ⊕ u 3 ⊕ u 4)
    ∷ (u 0 ⊕ u 2 ⊕ u 3 ⊕ u 4)
    ∷ (u 0 ⊕ u 1 ⊕ u 2 ⊕ u 4)
    ∷ []

-- the coded bits of a block's steps before step k, in order
abbrev pub coded : Equations → List Bool → ℕ → List Bool
coded equations u zero = []
coded equations u (suc k) = coded equations u k ++ equations (delayed u k)

-- the table before or after the middles; without columns where there is none
abbrev pub end_table : Option Table → Table
end_table None = []
end_table (Some t) = t

-- whether a table has a one at row i of column c
abbrev pub one_at : Table → ℕ → ℕ → Bool
one_at t i c = slice_index_or (slice_index_or t i []) c 0 == 1

module _ (m : Masks) where
  -- the prefix stands over the first steps
  abbrev pub first_steps : ℕ
  first_steps = width (end_table m.prefix)

  -- the suffix stands over the last ones, from this step on
  abbrev pub last_steps : ℕ
  last_steps = m.steps - width (end_table m.suffix)

  -- the entry for row i of step t: after the prefix the middle stands over and over, its number of times, and what lies between is kept whole
  abbrev pub entry : ℕ → ℕ → Bool
  entry i t =
      cond (nat_lt t first_steps) (one_at (end_table m.prefix) i t)
      (cond (nat_le last_steps t) (one_at (end_table m.suffix) i (t - last_steps))
      (cond (nat_lt (t - first_steps) (m.times * width m.middle)) (one_at m.middle i ((t - first_steps) % width m.middle))
      true))

  -- the entries in the order of the coded bits, of which number rows * t + i is that of row i at step t
  abbrev pub entries : List Bool
  entries = map (λ j. entry (j % length m.middle) (j / length m.middle)) (range_with_len 0 (length m.middle * m.steps))

-- coded bits held against entries, one after another: a bit is sent where the entry is one
abbrev pub walk : List Bool → List Bool → List Bool
walk [] bits = []
walk (entry ∷ more) [] = []
walk (entry ∷ more) (bit ∷ bits) = cond entry (bit ∷ walk more bits) (walk more bits)

-- the bits sent: all of them where there are no masks
abbrev pub punctured : Option Masks → List Bool → List Bool
punctured None bits = bits
punctured (Some m) bits = walk (entries m) bits

-- a matrix of N rows and eight columns, which the bits fill by rows; column j then goes to column 5 j mod 8
pub record Filled (N : ℕ) (bits : List Bool) (matrix : ℕ → ℕ → Bool) : Type 0 where
  -- no place and no bit is left over
  pub whole : length bits ≡ 8 * N
  pub rows : (i j : ℕ) → i < N → j < 8 → matrix i ((5 * j) % 8) ≡ slice_index_or bits (8 * i + j) false

-- bit k of a matrix of N rows that is read out by columns
abbrev pub read_out : ℕ → (ℕ → ℕ → Bool) → ℕ → Bool
read_out N matrix k = matrix (k % N) (k / N)

-- what burst n takes at place k, where block b has bit `block b k`: that of block n - (k mod depth), and 0 where there is no such block
abbrev pub taken : ℕ → (ℕ → ℕ → Bool) → ℕ → ℕ → Bool
taken depth block n k = nat_le (k % depth) n && block (n - k % depth) k

-- what the standard sets for a channel
pub record Description : Type 0 where
  -- how many bits a message has
  pub message : ℕ
  -- whether parity follows it
  pub parity : Bool
  pub equations : Equations
  -- how many zeros follow what enters the coder
  pub tail : ℕ
  -- none where every coded bit is sent
  pub masks : Option Masks
  -- how many rows the matrix has
  pub rows : ℕ
  -- how many bursts carry a block
  pub depth : ℕ
  pub scrambled : Bool

-- of each channel; the bench is a channel of our own, set in the same terms
abbrev pub standard : Channel → Description
standard Bench = record { message = 6; parity = false; equations = bench_equations; tail = 2; masks = None; rows = 2; depth = 1; scrambled = false }
standard Bcch = record { message = 192; parity = true; equations = half_equations; tail = 4; masks = None; rows = 53; depth = 1; scrambled = true }
standard Data24 = record { message = 144; parity = false; equations = fifth_equations; tail = 4; masks = Some data24_masks; rows = 81; depth = 3; scrambled = true }
standard Data96 = record { message = 480; parity = false; equations = half_equations; tail = 4; masks = Some data96_masks; rows = 81; depth = 3; scrambled = true }

-- the bits sent of what enters the coder
abbrev pub sent_bits : Description → List Bool → List Bool
sent_bits d block = punctured d.masks (coded d.equations block (length block + d.tail))

-- the matrix of a message's block
pub record Block (d : Description) (message : List Bool) (matrix : ℕ → ℕ → Bool) : Type 0 where
  pub whole : length message ≡ d.message
  -- what enters the coder
  pub block : List Bool
  pub protected : Protected d.parity message block
  pub filled : Filled d.rows (sent_bits d block) matrix

-- burst n of a stream of messages, one byte to a bit
pub record StandardBurst (d : Description) (messages : List (List Bool)) (n : ℕ) (burst : List ℕ) : Type 0 where
  pub whole : length burst ≡ 8 * d.rows
  -- the matrix of each block
  pub matrix : ℕ → ℕ → ℕ → Bool
  pub blocks : (b : ℕ) → b < length messages → Block d (slice_index_or messages b []) (matrix b)
  -- each place has the masking sequence, where the channel is scrambled, added to the bit taken there
  pub places : (k : ℕ) → k < 8 * d.rows →
      slice_index_or burst k 0 ≡ bit_of ((d.scrambled && masking k) ⊕ taken d.depth (λ b. read_out d.rows (matrix b)) n k)
