-- The cost of a path. A path is a list of bits, the newest first.
use Rattle.std.specs.Prelude.{ℕ, zero, suc, ◌*◌, Bool, false, List, [], ◌∷◌, length}
use Rattle.cost.specs.declared.kind.Cost.{Ghosts}
use Rattle.trellis.specs.Bits.{xor}
use Rattle.trellis.specs.Codes.{summed}

-- the register behind a path: its newest bits, and zeros before its beginning
abbrev pub register : ℕ → List Bool → List Bool
register zero p = []
register (suc m) [] = false ∷ register m []
register (suc m) (b ∷ p) = b ∷ register m p

module _ {C S P : Type 0} (k : Ghosts C S P) where
  -- a cost grown by the samples that one coded bit meets; a bit turned over is compared as its opposite
  abbrev pub grown_by : C → Bool → List (S × Bool) → C
  grown_by c x [] = c
  grown_by c x ((s, turned) ∷ ms) = grown_by (k.grow c s (xor x turned)) x ms

  module _ (rows : List ℕ) (met : ℕ → List (S × Bool)) where
    -- a cost grown by the coded bits of the path's newest step, which stand from place j on
    abbrev pub grown_rows : C → List Bool → ℕ → List ℕ → C
    grown_rows c p j [] = c
    grown_rows c p j (taps ∷ rest) = grown_rows (grown_by c (summed taps p) (met j)) p (suc j) rest

    -- zero, grown by each sample of a bit sent, in coded order
    unfoldable pub cost_of : List Bool → C
    cost_of [] = k.ZERO
    cost_of (b ∷ p) = grown_rows (cost_of p) (b ∷ p) (length rows * length p) rows
