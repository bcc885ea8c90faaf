-- How costs are written.
use Rattle.std.specs.Prelude.{ℕ, zero, suc, ◌/◌, ◌%◌, true, List, [], ◌∷◌, ◌++◌, codes, decimal, to_bits}
use Rattle.std.specs.Float.{binary32}
use Rattle.std.specs.Fmt.{digit_glyph}
use Rattle.cost.specs.declared.count.Count.{Count}
use Rattle.cost.specs.declared.float.Float as cost
use Rattle.cost.specs.declared.ranked.Ranked.{Ranked}

abbrev pub count_figures : Count → List ℕ
count_figures c = decimal c.value

-- count/strength
abbrev pub ranked_figures : Ranked → List ℕ
ranked_figures c = decimal c.count ++ (codes "/" ++ decimal c.strength)

-- the last so many hexadecimal digits of a number, in capitals
unfoldable pub hexadecimal : ℕ → ℕ → List ℕ
hexadecimal zero n = []
hexadecimal (suc k) n = hexadecimal k (n / 16) ++ (digit_glyph true (n % 16) ∷ [])

-- the bits of the float
abbrev pub float_figures : cost.Float → List ℕ
float_figures c = hexadecimal 8 (to_bits binary32 c.value)
