-- Proofs of the laws of the float kind, on plain floats.
use Rattle.std.specs.Prelude.{◌≡◌, ◌^◌, ◌<◌, to_bits, Bool, true, false, not, ◌&&◌, T, if◌then◌else◌}
use Rattle.std.specs.Bool.{passes, fails}
use Rattle.std.specs.Float.{Float, binary32, nan, inf, fin, float_zero, float_one, minus_one, float_with_sign, is_sign_negative, NotNan}
use Rattle.std.specs.Float.Ieee.{is_nan, of_bits, neg, add, le, lt, eq, fits}
use Rattle.std.proofs.Common.{refl, arith}
use Rattle.std.proofs.lemmas.Float.{le_refl, le_of_lt, lt_of_not-le, eq-not_lt, eq_flip}
use lib.Dec.{not_T}
use lib.Ieee.Bits.{is_true, is_false, to_bits-lt}
use lib.Ieee.Fits.{and_l, and_r, add-fits}
use Rattle.cost.specs.Rounding.{FromZero, endless, finite, add_from_zero, add_keeps, add_raises}
use Rattle.cost.specs.Sums.{is_cost, or_zero, size, float_overruled, summed, thousand}

-- ---- costs
-- a cost is a number, which the format holds; its bits are 32, and it is no less than zero
pub cost_number : (v : Float) → is_cost v ≡ true → NotNan v
unfolding is_cost
cost_number v h = and_l (not (is_nan v)) _ (and_l _ (fits binary32 v) (passes _ h))

cost_fits : (v : Float) → is_cost v ≡ true → T (fits binary32 v)
unfolding is_cost
cost_fits v h = and_r (not (is_nan v) && not (is_sign_negative v)) (fits binary32 v) (passes _ h)

pub cost_bits : (v : Float) → is_cost v ≡ true → to_bits binary32 v < 2 ^ 32
cost_bits v h = to_bits-lt binary32 v (cost_fits v h)

cost_from_zero : (v : Float) → is_cost v ≡ true → FromZero v
unfolding is_cost is_nan is_sign_negative
cost_from_zero nan h = absurd (passes false h)
cost_from_zero (inf true) h = absurd (passes false h)
cost_from_zero (inf false) h = endless
cost_from_zero (fin true m e) h = absurd (passes false h)
cost_from_zero (fin false m e) h = finite m e

-- and a float from zero up that the format holds is a cost
from_zero_cost : {v : Float} → FromZero v → T (fits binary32 v) → is_cost v ≡ true
unfolding is_cost is_nan is_sign_negative
from_zero_cost endless t = is_true _ t
from_zero_cost (finite m e) t = is_true _ t

-- of a float that the format holds the two tests tell whether it is a cost
pub is_cost_where : (v : Float) → T (fits binary32 v) → is_cost v ≡ (not (is_nan v) && not (is_sign_negative v))
unfolding is_cost
is_cost_where v t = let e : fits binary32 v ≡ true = is_true _ t in grind arith

-- zero is a cost, and so is what stands in for a form of none
pub zero_is_cost : is_cost float_zero ≡ true
unfolding is_cost is_nan is_sign_negative fits
zero_is_cost = refl

pub or_zero_is_cost : (v : Float) → is_cost (or_zero v) ≡ true
or_zero_is_cost v = grind (arith, zero_is_cost)

-- ---- growth
-- an overruled sample is a number, and its size is from zero up
size_from_zero : (s : Float) (x : Bool) → float_overruled s x ≡ true → FromZero (size s)
unfolding lt float_with_sign
size_from_zero nan true h = absurd (passes false h)
size_from_zero nan false h = absurd (passes false h)
size_from_zero (inf t) x h = endless
size_from_zero (fin t m e) x h = finite m e

-- a cost grown is a cost
pub summed_is_cost : (c s : Float) (x : Bool) → is_cost c ≡ true → is_cost (summed c s x) ≡ true
summed_is_cost c s x p =
    let up : float_overruled s x ≡ true → is_cost (add binary32 c (size s)) ≡ true =
    λ o. from_zero_cost (add_from_zero binary32 (cost_from_zero c p) (size_from_zero s x o)) (add-fits binary32 c (size s)) in
    grind arith

-- law 1
pub sums_total : (a b : Float) → is_cost a ≡ true → is_cost b ≡ true → le a b ≡ false → le b a ≡ true
sums_total a b p q h = is_true _ (le_of_lt b a (lt_of_not-le a b (cost_number a p) (cost_number b q) (fails _ h)))

-- law 2: where a sample is added to both, rounding keeps the order of the exact sums
pub sums_keep : (a b s : Float) (x : Bool) → is_cost a ≡ true → is_cost b ≡ true → le a b ≡ true → le (summed a s x) (summed b s x) ≡ true
sums_keep a b s x p q h =
    let up : float_overruled s x ≡ true → le (add binary32 a (size s)) (add binary32 b (size s)) ≡ true =
    λ o. is_true _ (add_keeps binary32 (cost_from_zero a p) (cost_from_zero b q) (size_from_zero s x o) (passes _ h)) in
    grind arith

-- law 3: the exact sum is no lower, and a cost is its own rounding
pub sums_raise : (a s : Float) (x : Bool) → is_cost a ≡ true → le a (summed a s x) ≡ true
sums_raise a s x p =
    let up : float_overruled s x ≡ true → le a (add binary32 a (size s)) ≡ true =
    λ o. is_true _ (add_raises binary32 (cost_from_zero a p) (size_from_zero s x o) (cost_fits a p)) in
    let same : le a a ≡ true = is_true _ (le_refl a (cost_number a p)) in
    grind arith

-- law 4: a zero, with a sign or without, favours no bit
silent_not-overruled : (s : Float) (x : Bool) → eq s float_zero ≡ true → float_overruled s x ≡ false
silent_not-overruled s true h = is_false _ (not_T _ (eq-not_lt _ _ (eq_flip _ _ (passes _ h))))
silent_not-overruled s false h = is_false _ (not_T _ (eq-not_lt _ _ (passes _ h)))

pub silent_adds_nothing : (a s : Float) (x : Bool) → eq s float_zero ≡ true → summed a s x ≡ a
silent_adds_nothing a s x h = let e = silent_not-overruled s x h in grind arith

-- law 5
pub clean_adds_nothing : (a : Float) (x : Bool) → summed a (if x then minus_one else float_one) x ≡ a
unfolding lt
clean_adds_nothing a true = refl
clean_adds_nothing a false = refl

pub clean_raises_zero : (x : Bool) → le (summed float_zero (if x then minus_one else float_one) (not x)) float_zero ≡ false
unfolding le lt eq add float_with_sign
clean_raises_zero true = refl
clean_raises_zero false = refl

-- ---- samples
-- a zero is fit and means nothing, and the clean samples are fit
pub zero_is_silent : eq float_zero float_zero ≡ true
unfolding eq
zero_is_silent = refl

pub zero_is_fit : le (size float_zero) thousand ≡ true
unfolding le lt eq float_with_sign
zero_is_fit = refl

pub clean_is_fit : (x : Bool) → le (size (if x then minus_one else float_one)) thousand ≡ true
unfolding le lt eq float_with_sign
clean_is_fit true = refl
clean_is_fit false = refl

-- ---- the literals 0.0, -1.0 and 1000.0: what their bits are
pub zero_is : of_bits binary32 0 ≡ float_zero
unfolding of_bits
zero_is = refl

pub minus_one_is : neg (of_bits binary32 0x3f800000) ≡ minus_one
unfolding of_bits neg
minus_one_is = refl

pub thousand_is : of_bits binary32 0x447a0000 ≡ thousand
unfolding of_bits
thousand_is = refl
