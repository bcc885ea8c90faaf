-- The float kind of cost: which floats are costs, which samples are overruled, and what they add.
use Rattle.std.specs.Prelude.{Bool, true, false, cond, not, ◌&&◌, pos}
use Rattle.std.specs.Float.{Float, binary32, fin, float_zero, float_with_sign, is_sign_negative}
use Rattle.std.specs.Float.Ieee.{is_nan, fits, lt, add}

-- a number without a sign that the format holds
unfoldable pub is_cost : Float → Bool
is_cost v = not (is_nan v) && not (is_sign_negative v) && fits binary32 v

-- that float, or zero where it is no cost
abbrev pub or_zero : Float → Float
or_zero v = cond (is_cost v) v float_zero

-- without its sign
abbrev pub size : Float → Float
size s = float_with_sign false s

-- the sample favours the other bit: above 0 it favours 0, below 0 it favours 1
abbrev pub float_overruled : Float → Bool → Bool
float_overruled s true = lt float_zero s
float_overruled s false = lt s float_zero

-- an overruled sample adds its size, with one rounding, to nearest and of two as near to the even one
abbrev pub summed : Float → Float → Bool → Float
summed c s x = cond (float_overruled s x) (add binary32 c (size s)) c

-- 1000.0, which is 125 * 2 ^ 3
abbrev pub thousand : Float
thousand = fin false 125 (pos 3)
