-- The float kind of cost: what a sample makes of a cost, and the plain form.
use Rattle.std.specs.Prelude.{Bool}
use Rattle.std.specs.Float.{Float, float_zero}
use Rattle.cost.specs.SumLaws.{zero_is_cost, or_zero_is_cost, summed_is_cost}
use Rattle.cost.specs.Sums.{or_zero, summed}
use Rattle.cost.specs.declared.float.Float as cost

abbrev pub zero_cost : cost.Float
zero_cost = record { value = float_zero; cost = zero_is_cost }

-- an overruled sample adds its size
abbrev pub float_grown : cost.Float → Float → Bool → cost.Float
float_grown c s x = record { value = summed c.value s x; cost = summed_is_cost c.value s x c.cost }

-- the cost in a plain form; a form that no cost lays down is taken up as zero
abbrev pub float_lifted : Float → cost.Float
float_lifted p = record { value = or_zero p; cost = or_zero_is_cost p }
