-- One step of the trellis: windows grown and met are the paths that the rule keeps.
use Rattle.std.proofs.Common.{◌≡◌, ℕ, zero, suc, ◌+◌, ◌-◌, ◌*◌, ◌/◌, ◌%◌, ◌^◌, ◌<◌, ◌≤◌, Bool, true, false, not, cond, eqb, ltb, List, [], ◌∷◌, length, get_or, Some, None, Option, sym, refl, ap, ◌∙◌, ap₂, pow-suc, arith}
use Rattle.std.proofs.lemmas.Bool.{and_parts, ltb-true}
use Rattle.cost.specs.declared.kind.Cost.{Ghosts}
use Rattle.trellis.specs.Bits.{odd, bit_of, bits}
use Rattle.trellis.specs.Codes.{summed, all_below}
use Rattle.trellis.specs.Paths.{register, grown_by, grown_rows, cost_of}
use Rattle.trellis.specs.Rule.{extended, kept, survivor}
use Rattle.trellis.specs.Cells.{Marked, kept_at, cost_kept, laid_cost, Cells}
use Rattle.trellis.specs.Windows.{arrived, window_cost, Spread, Grown, lower, second_kept, laid, LaidLower, MarkedLower}
use Rattle.trellis.proofs.Bitwise.{bit_below}
use Rattle.trellis.proofs.Numbers.{bits_length, bits_older, register_bits}
use Rattle.trellis.proofs.Registers.{summed_same}
use Rattle.trellis.proofs.Survivors.{survivor_length, survivor_register}

module _ {C S P : Type 0} (k : Ghosts C S P) (rows : List ℕ) (met : ℕ → List (S × Bool)) where
  -- two paths with the same register grow a cost alike
  grown_rows_same : (n : ℕ) (p q : List Bool) → register n p ≡ register n q → (rs : List ℕ) → all_below (2 ^ n) rs ≡ true → (j : ℕ) (c : C) →
      grown_rows k rows met c p j rs ≡ grown_rows k rows met c q j rs
  grown_rows_same n p q e [] below j c = refl
  grown_rows_same n p q e (taps ∷ rs) below j c =
      let parts = and_parts (ltb taps (2 ^ n)) (all_below (2 ^ n) rs) below in
      ap (λ x. grown_rows k rows met (grown_by k c x (met j)) p (suc j) rs) (summed_same n taps p q (ltb-true taps (2 ^ n) parts.0) e)
      ∙ grown_rows_same n p q e rs parts.1 (suc j) (grown_by k c (summed taps q) (met j))

  -- a survivor's cost grown in its window is the cost of the path with the window's newest bit
  window_grown : (m t w : ℕ) (p : List Bool) → m ≤ 7 → all_below (2 ^ suc m) rows ≡ true → kept_at k rows met m t (w / 2) ≡ Some p →
      grown_rows k rows met (cost_of k rows met p) (bits 8 w) (length rows * t) rows ≡ cost_of k rows met (odd w ∷ p)
  unfolding cost_of
  window_grown m t w p few below e =
      let long = survivor_length k rows met t (bits m (w / 2)) p e in
      let here : register m p ≡ bits m (w / 2) = ap (λ n. register n p) (sym (bits_length m (w / 2))) ∙ survivor_register k rows met t (bits m (w / 2)) p e in
      grown_rows_same (suc m) (bits 8 w) (odd w ∷ p) (register_bits (suc m) 8 w (omega arith) ∙ ap (λ r. odd w ∷ r) (sym here)) rows below (length rows * t) (cost_of k rows met p)
      ∙ ap (λ n. grown_rows k rows met (cost_of k rows met p) (odd w ∷ p) (length rows * n) rows) (sym long)

  -- the lower of two paths' costs is the cost of the one that is kept
  cost_of_kept : (a b : Option (List Bool)) → lower k (cost_kept k rows met a) (cost_kept k rows met b) ≡ cost_kept k rows met (kept k rows met a b)
  cost_of_kept None None = refl
  cost_of_kept None (Some q) = refl
  cost_of_kept (Some p) None = refl
  cost_of_kept (Some p) (Some q) = by_test (k.le (cost_of k rows met p) (cost_of k rows met q))
    where
      by_test : (t : Bool) → cond t (Some (cost_of k rows met p)) (Some (cost_of k rows met q)) ≡ cost_kept k rows met (cond t (Some p) (Some q))
      by_test true = refl
      by_test false = refl

  -- a cost that is there is laid down
  laid_kept : (o : Option (List Bool)) → laid k (cost_kept k rows met o) ≡ laid_cost k rows met o
  laid_kept None = refl
  laid_kept (Some p) = refl

  -- of two extended paths the mark tells which is kept
  mark_kept : (b : Bool) (f : ℕ → Option (List Bool)) (x y : Option (List Bool)) → x ≡ f 0 → y ≡ f 1 →
      kept k rows met (extended b x) (extended b y) ≡ extended b (f (bit_of (second_kept k (cost_kept k rows met (extended b x)) (cost_kept k rows met (extended b y)))))
  mark_kept b f None None e g = ap (extended b) e
  mark_kept b f None (Some q) e g = ap (extended b) g
  mark_kept b f (Some p) None e g = ap (extended b) e
  mark_kept b f (Some p) (Some q) e g = by_test (k.le (cost_of k rows met (b ∷ p)) (cost_of k rows met (b ∷ q)))
    where
      by_test : (t : Bool) → cond t (Some (b ∷ p)) (Some (b ∷ q)) ≡ extended b (f (bit_of (not t)))
      by_test true = ap (extended b) e
      by_test false = ap (extended b) g

  -- the two registers that become s: the first dropped a 0, the second a 1
  abbrev dropping : ℕ → ℕ → ℕ → ℕ → Option (List Bool)
  dropping m t s v = kept_at k rows met m t (s / 2 + v * 2 ^ (m - 1))

  -- the rule, of registers that are numbers
  kept_next : (m t s : ℕ) → 0 < m → s < 2 ^ m →
      kept_at k rows met m (suc t) s ≡ kept k rows met (extended (odd s) (dropping m t s 0)) (extended (odd s) (dropping m t s 1))
  unfolding survivor
  kept_next zero t s pos h = absurd (omega arith)
  kept_next (suc m) t s pos h =
      let half : s / 2 < 2 ^ m = omega (arith, pow-suc 2 m) in
      let less : m ≡ suc m - 1 = omega arith in
      ap₂ (λ u v. kept k rows met (extended (odd s) (survivor k rows met t u)) (extended (odd s) (survivor k rows met t v)))
      (bits_older m (s / 2) false half ∙ ap (λ n. bits (suc m) (s / 2 + 0 * 2 ^ n)) less)
      (bits_older m (s / 2) true half ∙ ap (λ n. bits (suc m) (s / 2 + 1 * 2 ^ n)) less)

  -- window s + 2 ^ m has the newest bit of window s
  upper_odd : (m s : ℕ) → 0 < m → odd (s + 2 ^ m) ≡ odd s
  upper_odd zero s pos = absurd (omega arith)
  upper_odd (suc m) s pos = ap (λ r. eqb r 1) (let e : (s + 2 ^ suc m) % 2 ≡ s % 2 = omega (arith, pow-suc 2 m) in e)

  -- and comes from the register that drops a 1
  upper_half : (m s : ℕ) → 0 < m → (s + 2 ^ m) / 2 ≡ s / 2 + 1 * 2 ^ (m - 1)
  upper_half zero s pos = absurd (omega arith)
  upper_half (suc m) s pos =
      let less : m ≡ suc m - 1 = omega arith in
      let e : (s + 2 ^ suc m) / 2 ≡ s / 2 + 1 * 2 ^ m = omega (arith, pow-suc 2 m) in
      e ∙ ap (λ n. s / 2 + 1 * 2 ^ n) less

  module _ (lifts : (a : C) → k.lift (k.lay a) ≡ a) (m t : ℕ) (pos : 0 < m) (few : m ≤ 4) (below : all_below (2 ^ (m + 1)) rows ≡ true)
      (old : List (Option P)) (spread grown : List C) (cells : Cells k rows met m t old) (each : Spread k old spread)
      (wide : length spread ≡ 2 * 2 ^ m) (more : Grown k rows met t spread grown) where
    -- the cost in a window is that of the survivor of its old register with the window's newest bit
    window_kept : (w : ℕ) → w < 2 * 2 ^ m → window_cost k old grown w ≡ cost_kept k rows met (extended (odd w) (kept_at k rows met m t (w / 2)))
    window_kept w h = by_path (kept_at k rows met m t (w / 2)) refl
      where
        by_path : (o : Option (List Bool)) → kept_at k rows met m t (w / 2) ≡ o → window_cost k old grown w ≡ cost_kept k rows met (extended (odd w) o)
        by_path None e = ap (λ x. arrived x (get_or grown w k.ZERO)) (cells (w / 2) (omega arith) ∙ ap (laid_cost k rows met) e)
        by_path (Some p) e =
            let cell : get_or old (w / 2) None ≡ Some (k.lay (cost_of k rows met p)) = cells (w / 2) (omega arith) ∙ ap (laid_cost k rows met) e in
            let start : get_or spread w k.ZERO ≡ cost_of k rows met p = each w (k.lay (cost_of k rows met p)) cell ∙ lifts (cost_of k rows met p) in
            let next : m + 1 ≡ suc m = omega arith in
            ap (λ x. arrived x (get_or grown w k.ZERO)) cell
            ∙ ap Some (more w (omega arith) ∙ ap (λ c. grown_rows k rows met c (bits 8 w) (length rows * t) rows) start
            ∙ window_grown m t w p (omega arith) (ap (λ n. all_below (2 ^ n) rows) (sym next) ∙ below) e)

    -- of the two windows of register s the first dropped a 0
    window_first : (s : ℕ) → s < 2 ^ m → window_cost k old grown s ≡ cost_kept k rows met (extended (odd s) (dropping m t s 0))
    window_first s h =
        let e : s / 2 ≡ s / 2 + 0 * 2 ^ (m - 1) = omega arith in
        window_kept s (omega arith) ∙ ap (λ r. cost_kept k rows met (extended (odd s) (kept_at k rows met m t r))) e

    -- and the second a 1
    window_second : (s : ℕ) → s < 2 ^ m → window_cost k old grown (s + 2 ^ m) ≡ cost_kept k rows met (extended (odd s) (dropping m t s 1))
    window_second s h =
        window_kept (s + 2 ^ m) (omega arith)
        ∙ ap₂ (λ b r. cost_kept k rows met (extended b (kept_at k rows met m t r))) (upper_odd m s pos) (upper_half m s pos)

    module _ (long : length old ≡ 2 ^ m) where
      -- the lower of each two windows, laid down, are the cells after one more step
      pub cells_next : (new : List (Option P)) → LaidLower k old grown new → Cells k rows met m (suc t) new
      cells_next new lays s h =
          let a = extended (odd s) (dropping m t s 0) in
          let b = extended (odd s) (dropping m t s 1) in
          lays s (omega arith)
          ∙ ap₂ (λ x y. laid k (lower k x y)) (window_first s h) (ap (λ n. window_cost k old grown (s + n)) long ∙ window_second s h)
          ∙ ap (laid k) (cost_of_kept a b) ∙ laid_kept (kept k rows met a b) ∙ ap (laid_cost k rows met) (sym (kept_next m t s pos h))

      -- and their marks are those of the paths kept
      pub marks_next : (marks : List ℕ) → MarkedLower k old grown marks → (s : ℕ) → s < 2 ^ m → Marked m (kept_at k rows met m) (get_or marks s 0) t s
      marks_next marks lower s h =
          let a = cost_kept k rows met (extended (odd s) (dropping m t s 0)) in
          let b = cost_kept k rows met (extended (odd s) (dropping m t s 1)) in
          let here : get_or marks s 0 ≡ bit_of (second_kept k a b) =
          lower s (omega arith) ∙ ap₂ (λ x y. bit_of (second_kept k x y)) (window_first s h) (ap (λ n. window_cost k old grown (s + n)) long ∙ window_second s h) in
          record {
            bit = omega (arith, bit_below (second_kept k a b), here);
            from = kept_next m t s pos h ∙ mark_kept (odd s) (dropping m t s) (dropping m t s 0) (dropping m t s 1) refl refl ∙ ap (λ v. extended (odd s) (dropping m t s v)) (sym here);
          }
