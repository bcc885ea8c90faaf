-- Puncturing masks: tables of ones and noughts, by rows. A one keeps the bit.
use Rattle.std.specs.Prelude.{ℕ, zero, suc, ◌+◌, ◌-◌, ◌*◌, min, Bool, true, cond, ◌&&◌, List, [], ◌++◌, map, length, replicate, Some, None, Option, ◌==◌, nat_eq, nat_le, slice_index, slice_index_or}
use Rattle.std.specs.Borrow.{Bor}
use Rattle.std.specs.List.{list_all}
use Rattle.puncture.specs.Patterns.{laid_out}
use Rattle.puncture.specs.declared.mask.tables.Tables.{Tables}

-- entries by rows, 0 or 1 where there is no fault
abbrev pub Table : Type 0
Table = List (List ℕ)

-- the prefix is applied once, the middle a number of times, the suffix at the very end of the steps
pub record Masks : Type 0 where
  pub steps : ℕ
  pub prefix : Option Table
  pub middle : Table
  -- how often the middle is applied
  pub times : ℕ
  pub suffix : Option Table

-- a table as it is lent, by rows
abbrev pub Lent : Type 0
Lent = Bor (List (Bor (List ℕ)))

-- the table that is lent
abbrev pub lent : Lent → Table
lent t = map (λ x. x.now) t.now

-- a prefix or a suffix, if any is lent
abbrev pub lent_end : Option Lent → Option Table
lent_end None = None
lent_end (Some t) = Some (lent t)

-- the masks that are lent
abbrev pub lent_masks : Tables → Masks
lent_masks m = record { steps = m.steps; prefix = lent_end m.prefix; middle = lent m.middle; times = m.times; suffix = lent_end m.suffix }

-- the columns of a table, by its first row
abbrev pub width : Table → ℕ
width t = length (slice_index_or t 0 [])

-- which bits column c keeps, from its first row on
abbrev pub column : Table → ℕ → List Bool
column t c = map (λ row. nat_eq (slice_index row c) 1) t

-- n columns from column c on
abbrev pub columns : Table → ℕ → ℕ → List Bool
columns t c zero = []
columns t c (suc n) = column t c ++ columns t (suc c) n

-- a table read column by column
abbrev pub flat : Table → List Bool
flat t = columns t 0 (width t)

-- 0 or 1
abbrev pub is_bit : ℕ → Bool
is_bit x = nat_le x 1

-- a row of n entries, each 0 or 1
abbrev pub sound_row : ℕ → List ℕ → Bool
sound_row n row = length row == n && list_all is_bit row

-- a period of 1 to 12 columns, alike in every row
abbrev pub sound_period : Table → Bool
sound_period t = (nat_le 1 (width t) && nat_le (width t) 12) && list_all (sound_row (width t)) t

-- the middle: 1 to 5 rows
abbrev pub sound_middle : Table → Bool
sound_middle t = (nat_le 1 (length t) && nat_le (length t) 5) && sound_period t

-- a table before or after it: as many rows
abbrev pub sound_end : ℕ → Option Table → Bool
sound_end rows None = true
sound_end rows (Some t) = length t == rows && sound_period t

-- the entries of a table before or after the middle, which may be left out
abbrev pub end_flat : Option Table → List Bool
end_flat None = []
end_flat (Some t) = flat t

-- its columns
abbrev pub end_width : Option Table → ℕ
end_width None = 0
end_width (Some t) = width t

-- the columns of prefix, suffix and middles together
abbrev pub covered : Masks → ℕ
covered m = end_width m.prefix + end_width m.suffix + m.times * width m.middle

-- the bits of the middle's rows over all steps, at most what the range holds
abbrev pub coded_of : Masks → ℕ
coded_of m = min (length m.middle * m.steps) 18446744073709551615

-- tables without a fault, and alike in their rows
abbrev pub sound_tables : Masks → Bool
sound_tables m = sound_middle m.middle && (sound_end (length m.middle) m.prefix && sound_end (length m.middle) m.suffix)

-- no fault: sound tables within the steps, and coded bits within the range
abbrev pub sound : Masks → Bool
sound m =
    sound_tables m && (nat_le (covered m) m.steps && nat_le (length m.middle * m.steps) 18446744073709551615)

-- which coded bits are kept, in coded order: every one where there is a fault
abbrev pub pattern : Masks → List Bool
pattern m = cond (sound m)
    (laid_out (end_flat m.prefix) m.times (flat m.middle) (length m.middle * (m.steps - covered m)) (end_flat m.suffix))
    (replicate (coded_of m) true)
