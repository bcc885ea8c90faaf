-- What a coded bit meets: the samples of the places that carry it, each with whether the bit was turned over there.
use Rattle.std.specs.Prelude.{◌≡◌, ℕ, Bool, true, cond, List, [], ◌∷◌, map, Some, None, Option}
use Rattle.std.specs.List.{AllByRecursion}
use Rattle.cost.specs.declared.kind.Cost.{Ghosts}

-- none, or the one
abbrev pub listed : {X : Type 0} → Option X → List X
listed None = []
listed (Some x) = x ∷ []

module _ {C S P : Type 0} (k : Ghosts C S P) where
  -- an unfit sample is read as nothing
  abbrev pub weighed : S → S
  weighed s = cond (k.fit s) s k.NOTHING

  -- what is met, with unfit samples read as nothing
  abbrev pub read : (ℕ → List (S × Bool)) → ℕ → List (S × Bool)
  read met j = map (λ m. (weighed m.0, m.1)) (met j)

  -- each sample met is fit
  abbrev pub Fit : (ℕ → List (S × Bool)) → Type 0
  Fit met = (j : ℕ) → AllByRecursion (λ m. k.fit m.0 ≡ true) (met j)
