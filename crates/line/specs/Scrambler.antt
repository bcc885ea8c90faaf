-- The scrambler: a burst's bits are turned over where the masking sequence, begun anew at each burst, has a one.
use Rattle.std.specs.Prelude.{ℕ, zero, suc, ◌+◌, ◌*◌, Bool, true, false, cond, not, List, [], ◌∷◌, take, Some, None, Option, slice_index_or}

-- the sum modulo 2; a word of its own, since the library's does not compute in a proof
abbrev pub sum : Bool → Bool → Bool
sum true b = not b
sum false b = b

-- what the fifteen elements hold at first, element 1 first: 1 + D + D^3 + D^6 + D^8 + D^10 + D^11 + D^14
abbrev pub loaded : List Bool
loaded = true ∷ true ∷ false ∷ true ∷ false ∷ false ∷ true ∷ false ∷ true ∷ false ∷ true ∷ true ∷ false ∷ false ∷ true ∷ []

-- the value of a register: the sum of its elements 1 and 15, by the feedback polynomial 1 + D + D^15
abbrev pub value : List Bool → Bool
value r = sum (slice_index_or r 0 false) (slice_index_or r 14 false)

-- the register one clock later: all move on by one, and the value enters at element 1
abbrev pub clocked : List Bool → List Bool
clocked r = value r ∷ take 14 r

-- the register after that many clocks
abbrev pub register : ℕ → List Bool
register zero = loaded
register (suc n) = clocked (register n)

-- the masking sequence
abbrev pub masking : ℕ → Bool
masking k = value (register k)

-- what becomes of the answer of the line below: its place stays, its turn changes where the sequence has a one
abbrev pub scrambled : Option (ℕ × Bool) → Option (ℕ × Bool)
scrambled None = None
scrambled (Some (k, t)) = Some (k, sum t (masking k))

-- the number that holds the bits, the first one lowest
abbrev pub number : List Bool → ℕ
number [] = 0
number (b ∷ bs) = number bs * 2 + cond b 1 0
