-- Unfit samples are read as nothing, so that all that is read is fit.
use Rattle.std.proofs.Common.{◌≡◌, ℕ, Bool, true, List, [], ◌∷◌, map}
use Rattle.std.specs.List.{AllByRecursion}
use Rattle.std.proofs.lemmas.Bool.{cond_both}
use Rattle.cost.specs.declared.kind.Cost.{Ghosts}
use Rattle.cost.proofs.Lawful.{Laws}
use Rattle.trellis.specs.Met.{weighed, read, Fit}

module _ {C S P : Type 0} {k : Ghosts C S P} (laws : Laws k) where
  -- what is read of a sample is fit
  weighed_fit : (s : S) → k.fit (weighed k s) ≡ true
  weighed_fit s = cond_both (k.fit s) s k.NOTHING (λ w. k.fit w ≡ true) (λ f. f) (λ _. laws.nothing_fit)

  -- reading makes all fit
  pub read_fit : (met : ℕ → List (S × Bool)) → Fit k (read k met)
  read_fit met j = each (met j)
    where
      each : (ms : List (S × Bool)) → AllByRecursion {X = S × Bool} (λ m. k.fit m.0 ≡ true) (map (λ m. (weighed k m.0, m.1)) ms)
      each [] = tt
      each ((s, turned) ∷ ms) = (weighed_fit s, each ms)
