-- The trellis rule: which path each register keeps, and what is claimed of the one that is answered.
use Rattle.std.specs.Prelude.{◌≡◌, ℕ, zero, suc, Bool, true, false, cond, List, [], ◌∷◌, ◌++◌, length, replicate, Some, None, Option}
use Rattle.cost.specs.declared.kind.Cost.{Ghosts}
use Rattle.trellis.specs.Bits.{empty}
use Rattle.trellis.specs.Paths.{register, cost_of}

-- a path with one bit more, if there is one
abbrev pub extended : Bool → Option (List Bool) → Option (List Bool)
extended b None = None
extended b (Some p) = Some (b ∷ p)

module _ {C S P : Type 0} (k : Ghosts C S P) (rows : List ℕ) (met : ℕ → List (S × Bool)) where
  -- of two paths that meet the cheaper stays, and the first where neither is dearer
  abbrev pub kept : Option (List Bool) → Option (List Bool) → Option (List Bool)
  kept None q = q
  kept (Some p) None = Some p
  kept (Some p) (Some q) = cond (k.le (cost_of k rows met p) (cost_of k rows met q)) (Some p) (Some q)

  -- the path that a register keeps after t steps: all start in the empty register, and
  -- the two that meet differ in the oldest bit, which is dropped, the first being the one that drops a 0
  unfoldable pub survivor : ℕ → List Bool → Option (List Bool)
  survivor zero r = cond (empty r) (Some []) None
  survivor (suc t) [] = None
  survivor (suc t) (b ∷ r) =
      kept (extended b (survivor t (r ++ (false ∷ [])))) (extended b (survivor t (r ++ (true ∷ []))))

  -- the path that ends in the empty register
  abbrev pub answer : ℕ → ℕ → Option (List Bool)
  answer memory steps = survivor steps (replicate memory false)

  -- in its own register every path meets a survivor that costs no more
  abbrev pub Least : ℕ → Type 0
  Least memory =
      (q : List Bool) → (p : List Bool) × (survivor (length q) (register memory q) ≡ Some p)
      × (k.le (cost_of k rows met p) (cost_of k rows met q) ≡ true)
