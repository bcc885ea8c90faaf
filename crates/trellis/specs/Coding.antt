-- The coded bits of a run.
use Rattle.std.specs.Prelude.{ℕ, zero, suc, ◌/◌, ◌%◌, Bool, false, List, [], ◌∷◌, slice_index, slice_index_or}
use Rattle.trellis.specs.Codes.{summed, rows_of}
use Rattle.trellis.specs.declared.code.Code.{Code}

-- the path after t + 1 bits of the run have entered, zeros entering after its end
abbrev pub entered : List Bool → ℕ → List Bool
entered run zero = slice_index_or run 0 false ∷ []
entered run (suc t) = slice_index_or run (suc t) false ∷ entered run t

-- the rows of one step stand side by side; a row that is not there has no taps
abbrev pub coded_bit : Code → List Bool → ℕ → Bool
coded_bit c run j = summed (slice_index (rows_of c) (j % c.rows)) (entered run (j / c.rows))
