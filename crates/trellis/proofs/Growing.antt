-- Growing a path's cost by the coded bits of one step.
use Rattle.std.proofs.Common.{◌≡◌, ℕ, suc, ◌+◌, ◌<◌, Bool, List, [], ◌∷◌, map, length, get_or, drop, sym, ap, ◌∙◌, ap₂, arith}
use Rattle.std.proofs.lemmas.List.{at_drop_more}
use Rattle.cost.specs.declared.kind.Cost.{Ghosts}
use Rattle.trellis.specs.Bits.{xor}
use Rattle.trellis.specs.Codes.{summed}
use Rattle.trellis.specs.Met.{weighed, read}
use Rattle.trellis.specs.Paths.{grown_by, grown_rows}

module _ {C S P : Type 0} (k : Ghosts C S P) (met : ℕ → List (S × Bool)) where
  -- a bit that is not sent grows nothing
  pub grown_unsent : (j : ℕ) (c : C) (x : Bool) → [] ≡ met j → grown_by k c x (read k met j) ≡ c
  grown_unsent j c x e = ap (λ ms. grown_by k c x (map (λ m. (weighed k m.0, m.1)) ms)) (sym e)

  -- a bit that is sent grows a cost by its sample
  pub grown_sent : (j : ℕ) (c d : C) (s : S) (b x : Bool) (m : S × Bool) → m ∷ [] ≡ met j → s ≡ weighed k m.0 → b ≡ x → d ≡ k.grow c s (xor b m.1) →
      d ≡ grown_by k c x (read k met j)
  grown_sent j c d s b x m e f g h =
      h ∙ ap₂ (λ r y. k.grow c r (xor y m.1)) f g ∙ ap (λ ms. grown_by k c x (map (λ m. (weighed k m.0, m.1)) ms)) e

  -- the rows from i on give what those past it give a cost that row i has grown
  pub rows_left_more : (rows : List ℕ) (c d : C) (p : List Bool) (j i : ℕ) → i < length rows → d ≡ grown_by k c (summed (get_or rows i 0) p) (met (j + i)) →
      grown_rows k rows met d p (j + (i + 1)) (drop (i + 1) rows) ≡ grown_rows k rows met c p (j + i) (drop i rows)
  rows_left_more rows c d p j i h e =
      let next : j + (i + 1) ≡ suc (j + i) = omega arith in
      ap₂ (λ x n. grown_rows k rows met x p n (drop (i + 1) rows)) e next
      ∙ sym (at_drop_more (λ rs. grown_rows k rows met c p (j + i) rs) rows i 0 h)
