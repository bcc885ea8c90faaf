-- No path costs less than the survivor of its register, from the laws of a cost.
use Rattle.std.proofs.Common.{◌≡◌, ℕ, zero, suc, ◌+◌, ◌-◌, ◌*◌, ◌^◌, ◌<◌, ◌≤◌, Bool, true, false, ltb, List, [], ◌∷◌, ◌++◌, length, get_or, replicate, Some, None, Option, refl, ap, subst, add-one, arith, length-append}
use lib.ListN.{length-replicate}
use Rattle.std.specs.List.{AllByRecursion}
use Rattle.std.proofs.lemmas.Bool.{and_parts, cond-true, cond_both, ltb-true}
use Rattle.cost.specs.declared.kind.Cost.{Ghosts}
use Rattle.cost.proofs.Lawful.{Laws, le_refl}
use Rattle.trellis.specs.Bits.{empty, xor}
use Rattle.trellis.specs.Codes.{summed, all_below}
use Rattle.trellis.specs.Met.{Fit}
use Rattle.trellis.specs.Paths.{register, grown_by, grown_rows, cost_of}
use Rattle.trellis.specs.Rule.{extended, kept, survivor, answer, Least}
use Rattle.trellis.proofs.Registers.{register_length, register_more, register_closed, empty_register, summed_same}
use Rattle.trellis.proofs.Survivors.{survivor_length, survivor_register}

module _ {C S P : Type 0} {k : Ghosts C S P} (laws : Laws k) (rows : List ℕ) (met : ℕ → List (S × Bool)) where
  -- what a path costs
  abbrev cost : List Bool → C
  cost p = cost_of k rows met p

  -- there is a path, and it costs no more than q
  abbrev Meets : Option (List Bool) → List Bool → Type 0
  Meets o q = (p : List Bool) × (o ≡ Some p) × (k.le (cost p) (cost q) ≡ true)

  -- the path kept costs no more than the first of the two
  kept_first : (p : List Bool) (o : Option (List Bool)) → Meets (kept k rows met (Some p) o) p
  kept_first p None = (p, refl, le_refl laws (cost p))
  kept_first p (Some q) =
      cond_both (k.le (cost p) (cost q)) (Some p) (Some q) (λ o. Meets o p) (λ _. (p, refl, le_refl laws (cost p))) (λ h. (q, refl, laws.total (cost p) (cost q) h))

  -- nor than the second
  kept_second : (o : Option (List Bool)) (q : List Bool) → Meets (kept k rows met o (Some q)) q
  kept_second None q = (q, refl, le_refl laws (cost q))
  kept_second (Some p) q =
      cond_both (k.le (cost p) (cost q)) (Some p) (Some q) (λ o. Meets o q) (λ h. (p, refl, h)) (λ _. (q, refl, le_refl laws (cost q)))

  -- a survivor that is extended, whichever oldest bit it drops, meets one that costs no more
  extended_meets : (t : ℕ) (b x : Bool) (r p : List Bool) → survivor k rows met t (r ++ x ∷ []) ≡ Some p → Meets (survivor k rows met (suc t) (b ∷ r)) (b ∷ p)
  unfolding survivor
  extended_meets t b false r p e = rw e (kept_first (b ∷ p) (extended b (survivor k rows met t (r ++ true ∷ []))))
  extended_meets t b true r p e = rw e (kept_second (extended b (survivor k rows met t (r ++ false ∷ []))) (b ∷ p))

  -- what one coded bit meets keeps the order of two costs
  grown_by_keeps : (x : Bool) (ms : List (S × Bool)) → AllByRecursion (λ m. k.fit m.0 ≡ true) ms → (c d : C) →
      k.le c d ≡ true → k.le (grown_by k c x ms) (grown_by k d x ms) ≡ true
  grown_by_keeps x [] f c d h = h
  grown_by_keeps x ((s, turned) ∷ ms) f c d h = grown_by_keeps x ms f.1 _ _ (laws.keeps c d s (xor x turned) f.0 h)

  module _ (fit : Fit k met) where
    -- so does a step of two paths with the same register, since they send the same coded bits
    grown_rows_keeps : (n : ℕ) (p q : List Bool) → register n p ≡ register n q → (rs : List ℕ) → all_below (2 ^ n) rs ≡ true → (j : ℕ) (c d : C) →
        k.le c d ≡ true → k.le (grown_rows k rows met c p j rs) (grown_rows k rows met d q j rs) ≡ true
    grown_rows_keeps n p q e [] below j c d h = h
    grown_rows_keeps n p q e (taps ∷ rs) below j c d h =
        let parts = and_parts (ltb taps (2 ^ n)) (all_below (2 ^ n) rs) below in
        let same = summed_same n taps p q (ltb-true taps (2 ^ n) parts.0) e in
        rw same (grown_rows_keeps n p q e rs parts.1 (suc j) _ _ (grown_by_keeps (summed taps q) (met j) (fit j) c d h))

    -- two paths of one length and register keep their order when the same bit follows
    next_keeps : (memory : ℕ) → all_below (2 ^ (memory + 1)) rows ≡ true → (b : Bool) (p q : List Bool) → length p ≡ length q → register memory p ≡ register memory q →
        k.le (cost p) (cost q) ≡ true → k.le (cost (b ∷ p)) (cost (b ∷ q)) ≡ true
    unfolding cost_of
    next_keeps memory below b p q l e h =
        rw l (grown_rows_keeps (suc memory) (b ∷ p) (b ∷ q) (ap (λ r. b ∷ r) e) rows (rw add-one at below) (length rows * length q) (cost p) (cost q) h)

    -- where a path's front meets such a survivor, the path does
    next_meets : (m : ℕ) → all_below (2 ^ (suc m + 1)) rows ≡ true → (b : Bool) (q : List Bool) →
        Meets (survivor k rows met (length q) (register (suc m) q)) q → Meets (survivor k rows met (suc (length q)) (register (suc m) (b ∷ q))) (b ∷ q)
    next_meets m below b q (p, e, h) =
        let long = survivor_length k rows met (length q) (register (suc m) q) p e in
        let here : register (suc m) p ≡ register (suc m) q = rw register_length at (survivor_register k rows met (length q) (register (suc m) q) p e) in
        let next = extended_meets (length q) b (get_or q m false) (register m q) p (rw register_more at e) in
        (next.0, next.1, laws.trans _ _ _ next.2 (next_keeps (suc m) below b p q long here h))

    -- in its own register every path meets a survivor that costs no more
    pub least : (memory : ℕ) → all_below (2 ^ (memory + 1)) rows ≡ true → 0 < memory → Least k rows met memory
    unfolding survivor
    least zero below pos q = absurd (omega arith)
    least (suc m) below pos [] = ([], cond-true (empty (register m [])) (Some []) None (empty_register m), le_refl laws (cost []))
    least (suc m) below pos (b ∷ q) = next_meets m below b q (least (suc m) below pos q)

    -- the answer costs no more than any run that zeros close
    pub answer_least : (memory : ℕ) → all_below (2 ^ (memory + 1)) rows ≡ true → 0 < memory → (steps : ℕ) → memory ≤ steps →
        (p : List Bool) × (answer k rows met memory steps ≡ Some p)
        × ((u : List Bool) → length u + memory ≡ steps → k.le (cost_of k rows met p) (cost_of k rows met (replicate memory false ++ u)) ≡ true)
    answer_least memory below pos steps h = (some.0, some.1, no_dearer)
      where
        meets : (u : List Bool) → length u + memory ≡ steps → Meets (answer k rows met memory steps) (replicate memory false ++ u)
        meets u l =
            let long : length (replicate memory false ++ u) ≡ steps = simp (length-append, length-replicate) (omega arith) in
            let closed = register_closed memory u in
            rw (long, closed) at (least memory below pos (replicate memory false ++ u))

        -- there are runs, so there is an answer, and it is the one that each run meets
        some : Meets (answer k rows met memory steps) (replicate memory false ++ replicate (steps - memory) false)
        some = meets (replicate (steps - memory) false) (simp length-replicate (omega arith))

        no_dearer : (u : List Bool) → length u + memory ≡ steps → k.le (cost some.0) (cost (replicate memory false ++ u)) ≡ true
        no_dearer u l =
            let each = meets u l in
            let same : each.0 ≡ some.0 = cc (each.1, some.1) in
            rw same at each.2

    -- so whichever path is answered does
    pub answered_least : (memory : ℕ) → all_below (2 ^ (memory + 1)) rows ≡ true → 0 < memory → (steps : ℕ) → memory ≤ steps →
        (path : List Bool) → answer k rows met memory steps ≡ Some path → (u : List Bool) → length u + memory ≡ steps →
        k.le (cost_of k rows met path) (cost_of k rows met (replicate memory false ++ u)) ≡ true
    answered_least memory below pos steps h path answered u long =
        let best = answer_least memory below pos steps h in
        let same : best.0 ≡ path = cc best.1 in
        subst (λ p. k.le (cost p) (cost (replicate memory false ++ u)) ≡ true) same (best.2 u long)
