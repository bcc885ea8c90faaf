-- What it is that a run is heard clean, and what the trellis rule then answers.
use Rattle.std.proofs.Common.{◌≡◌, ◌≢◌, ℕ, ◌*◌, ◌<◌, Bool, false, List, [], ◌++◌, reverse, replicate}
use Rattle.std.specs.List.{AllByRecursion}
use Rattle.cost.specs.declared.kind.Cost.{Ghosts}
use Rattle.cost.specs.Samples.{clean}
use Rattle.trellis.specs.Bits.{xor}
use Rattle.trellis.specs.Codes.{rows_of}
use Rattle.trellis.specs.Coding.{coded_bit}
use Rattle.trellis.specs.Paths.{cost_of}
use Rattle.trellis.specs.declared.code.Code.{Code}

-- below place n, each coded bit that meets something is the one that was sent there
abbrev pub SendsAs : {X : Type 0} → (ℕ → List X) → (ℕ → Bool) → (ℕ → Bool) → ℕ → Type 0
SendsAs met sent coded n = (j : ℕ) → j < n → met j ≢ [] → coded j ≡ sent j

module _ {C S P : Type 0} (k : Ghosts C S P) where
  -- each sample met at a place is the clean one of the bit that was sent there, turned where it is turned
  abbrev pub CleanOf : (ℕ → Bool) → (ℕ → List (S × Bool)) → Type 0
  CleanOf sent met = (j : ℕ) → AllByRecursion (λ m. m.0 ≡ clean k (xor (sent j) m.1)) (met j)

  -- the path answered after so many steps where the run that was sent is heard clean
  pub record CleanAnswer (code : Code) (met : ℕ → List (S × Bool)) (steps : ℕ) (run path : List Bool) : Type 0 where
    pub costless : cost_of k (rows_of code) met path ≡ k.ZERO
    pub as_sent : SendsAs met (coded_bit code run) (coded_bit code (reverse path)) (code.rows * steps)
    -- where the first coded bit of every step meets something, it is the path of that run
    pub whole : ((t : ℕ) → t < steps → met (code.rows * t) ≢ []) → path ≡ replicate code.memory false ++ reverse run
