-- What a mask means as a line, and how it lays a block by its tables.
use Rattle.std.specs.Prelude.{◌≡◌, ℕ, length}
use Rattle.line.specs.declared.laying.Line.{Ghosts}
use Rattle.puncture.specs.Masks.{Masks, sound, coded_of, pattern}
use Rattle.puncture.specs.Patterns.{kept, numbered}
use Rattle.puncture.specs.Strips.{pattern_of, suits}
use Rattle.puncture.specs.declared.mask.Mask.{Mask}

abbrev pub mask_line : Ghosts Mask
mask_line = record {
  coded = λ l. length (pattern_of l);
  sent = λ l. kept (pattern_of l);
  suited = λ l. suits l;
  place = λ l j. numbered (pattern_of l) j;
}

-- a mask lays a block out by these tables
pub record Lays (m : Masks) (r : Mask) : Type 0 where
  pub coded : mask_line.coded r ≡ coded_of m
  -- it suits where they have no fault
  pub suited : mask_line.suited r ≡ sound m
  pub sent : mask_line.sent r ≡ kept (pattern m)
  -- a bit kept goes to the place of its number among those kept
  pub places : (j : ℕ) → mask_line.place r j ≡ numbered (pattern m) j
