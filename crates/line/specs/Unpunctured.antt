-- The unpunctured line: every coded bit is sent, in coded order.
use Rattle.std.specs.Prelude.{ℕ, Bool, false, cond, Some, None, Option, nat_lt}

-- every one of the bits at its own place, none turned over
abbrev pub in_order : ℕ → ℕ → Option (ℕ × Bool)
in_order bits j = cond (nat_lt j bits) (Some (j, false)) None
