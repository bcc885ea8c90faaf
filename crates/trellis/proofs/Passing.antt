-- From the first cells to the last: what stands before the first step, the rows of marks that a step leaves, and the cost at the end.
use Rattle.std.proofs.Common.{◌≡◌, ℕ, suc, ◌+◌, ◌-◌, ◌*◌, ◌^◌, ◌<◌, ◌≤◌, Bool, true, false, cond, eqb, ◌⊎◌, List, [], ◌++◌, length, get_or, take, Some, None, Option, sym, refl, ap, ◌∙◌, subst, inl, inr, add-one, arith, length-take-le, get_or-take}
use Rattle.std.proofs.lemmas.List.{get_or_append_left, get_or-append_right}
use Rattle.std.proofs.lemmas.Bool.{cases_eq}
use Rattle.cost.specs.declared.kind.Cost.{Ghosts}
use Rattle.trellis.specs.Cells.{Marked, MarkedBelow, cost_kept, laid_cost, Cells}
use Rattle.trellis.specs.Paths.{cost_of}
use Rattle.trellis.specs.Rule.{survivor}
use Rattle.trellis.specs.Windows.{first_cell, lifted}
use Rattle.trellis.proofs.Numbers.{bits_empty}
use Rattle.trellis.proofs.Records.{row_within}

-- a step adds its row of marks, written at the row's place in the path record, to those below
pub marks_more : (m t a : ℕ) (kept : ℕ → ℕ → Option (List Bool)) (before row rest : List ℕ) → a ≡ t * 2 ^ m → a ≤ length before → length row ≡ 2 ^ m →
    MarkedBelow m kept before t → ((s : ℕ) → s < 2 ^ m → Marked m kept (get_or row s 0) t s) → MarkedBelow m kept (take a before ++ (row ++ rest)) (t + 1)
marks_more m t a kept before row rest place room wide below here u s h f = by_row (cases_eq u t)
  where
    long : length (take a before) ≡ a
    long = length-take-le a before room

    by_row : ((u ≡ t) ⊎ (u ≡ t → ⊥)) → Marked m kept (get_or (take a before ++ (row ++ rest)) (u * 2 ^ m + s) 0) u s
    by_row (inl e) =
        let same : u * 2 ^ m ≡ a = ap (λ n. n * 2 ^ m) e ∙ sym place in
        let back : u * 2 ^ m + s - a ≡ s = omega (arith, same) in
        let mark = get_or-append_right (take a before) (row ++ rest) a (u * 2 ^ m + s) 0 long (omega (arith, same))
        ∙ ap (λ n. get_or (row ++ rest) n 0) back ∙ get_or_append_left row rest 0 s (omega arith) in
        subst (λ v. Marked m kept v u s) (sym mark) (subst (λ r. Marked m kept (get_or row s 0) r s) (sym e) (here s f))
    by_row (inr e) =
        let less : u < t = omega arith in
        let within : u * 2 ^ m + s < a = omega (arith, row_within m t u s less f) in
        let mark = get_or_append_left (take a before) (row ++ rest) 0 (u * 2 ^ m + s) (omega (arith, long, within)) ∙ get_or-take a before (u * 2 ^ m + s) 0 within in
        subst (λ v. Marked m kept v u s) (sym mark) (below u s less f)

module _ {C S P : Type 0} (k : Ghosts C S P) (rows : List ℕ) (met : ℕ → List (S × Bool)) where
  -- the path without bits has no cost
  laid_first : (t : Bool) → cond t (Some (k.lay k.ZERO)) None ≡ laid_cost k rows met (cond t (Some []) None)
  unfolding cost_of
  laid_first true = refl
  laid_first false = refl

  -- the cells before the first step
  pub cells_first : (m : ℕ) (cells : List (Option P)) → ((s : ℕ) → s < 2 ^ m → get_or cells s None ≡ first_cell k s) → Cells k rows met m 0 cells
  unfolding survivor
  cells_first m cells f s h = f s h ∙ laid_first (eqb s 0) ∙ ap (λ t. laid_cost k rows met (cond t (Some []) None)) (sym (bits_empty m s h))

  -- one step more, in whichever row they stand
  pub cells_after : (m t : ℕ) (row cells : List (Option P)) → cells ≡ row → Cells k rows met m (suc t) row → Cells k rows met m (t + 1) cells
  cells_after m t row cells e h = subst (λ n. Cells k rows met m n cells) (sym (add-one t)) (subst (Cells k rows met m (suc t)) (sym e) h)

  -- a cell taken up has the cost of the path kept
  pub lifted_kept : ((a : C) → k.lift (k.lay a) ≡ a) → (o : Option (List Bool)) → lifted k (laid_cost k rows met o) ≡ cost_kept k rows met o
  lifted_kept lifts None = refl
  lifted_kept lifts (Some p) = ap Some (lifts (cost_of k rows met p))
