-- Blank memory is as large as a receiver asks for.
use Rattle.std.proofs.Common.{◌≡◌, ℕ, None, Option}
use lib.ListN.{length-replicate}
use Rattle.cost.specs.declared.kind.Cost as cost
use Rattle.link.specs.Calls.{sizes}
use Rattle.link.specs.Rules.{needed}
use Rattle.link.specs.declared.format.Format.{Format}
use Rattle.stations.specs.Stations.{blank}

pub blank_room : {C S P L : Type 0} (k : cost.Ghosts C S P) (f : Format L) → sizes (blank k f) ≡ needed f
blank_room {C} {S} {P} k f i = record {
  ring = length-replicate (needed f).ring k.NOTHING i;
  costs = length-replicate {A = Option P} (needed f).costs None i;
  paths = length-replicate {A = ℕ} (needed f).paths 0 i;
  block = length-replicate {A = ℕ} (needed f).block 0 i;
}
