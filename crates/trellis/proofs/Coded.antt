-- The coded bits of runs and of paths, by the bits that have entered.
use Rattle.std.proofs.Common.{◌≡◌, ℕ, zero, suc, ◌+◌, ◌*◌, ◌/◌, ◌%◌, ◌<◌, ◌≤◌, Bool, true, false, ◌&&◌, List, [], ◌∷◌, ◌++◌, reverse, length, get_or, replicate, sym, refl, ap, ◌∙◌, ap₂, mul_comm, arith}
use Rattle.std.proofs.Math.Nat.{mul-lt-mul_of_pos_left}
use Rattle.std.proofs.lemmas.List.{get_or_append_left, get_or_push, length-reverse, reverse-append, reverse-reverse}
use Rattle.std.proofs.lemmas.Nat.{div-mul-add, mod-mul-add, div_below}
use Rattle.trellis.specs.Bits.{odd, xor}
use Rattle.trellis.specs.Codes.{summed, rows_of}
use Rattle.trellis.specs.Coding.{entered, coded_bit}
use Rattle.trellis.specs.declared.code.Code.{Code}
use Rattle.trellis.proofs.Bitwise.{xor_same}

-- of runs with the same bits up to a step, the same has entered
entered_same : (u v : List Bool) (t : ℕ) → ((i : ℕ) → i ≤ t → get_or u i false ≡ get_or v i false) → entered u t ≡ entered v t
entered_same u v zero same = ap (λ b. b ∷ []) (same 0 (omega arith))
entered_same u v (suc t) same = ap₂ (λ (b : Bool) (p : List Bool). b ∷ p) (same (suc t) (omega arith)) (entered_same u v t (λ i h. same i (omega arith)))

-- the run of a path with one bit more
reverse_more : (b : Bool) (p : List Bool) → reverse (b ∷ p) ≡ reverse p ++ b ∷ []
reverse_more b p = reverse-append (b ∷ []) p

-- a bit that enters later is not there yet
entered_before : (run : List Bool) (b : Bool) (t : ℕ) → t < length run → entered (run ++ b ∷ []) t ≡ entered run t
entered_before run b t h = entered_same (run ++ b ∷ []) run t (λ i le. get_or_append_left run (b ∷ []) false i (omega arith))

-- a path is what has entered of its own run
entered_path : (b : Bool) (p : List Bool) → entered (reverse (b ∷ p)) (length p) ≡ b ∷ p
entered_path b [] = refl
entered_path b (c ∷ p) =
    let long : length (reverse (c ∷ p)) ≡ suc (length p) = length-reverse (c ∷ p) in
    ap (λ run. entered run (suc (length p))) (reverse_more b (c ∷ p))
    ∙ ap₂ (λ (x : Bool) (q : List Bool). x ∷ q) (get_or_push (reverse (c ∷ p)) b false (suc (length p)) long)
    (entered_before (reverse (c ∷ p)) b (length p) (omega arith) ∙ entered_path c p)

-- a zero after the end of a run is what enters without it
pub zero_after : (run : List Bool) (i : ℕ) → get_or (run ++ false ∷ []) i false ≡ get_or run i false
zero_after [] zero = refl
zero_after [] (suc i) = refl
zero_after (b ∷ run) zero = refl
zero_after (b ∷ run) (suc i) = zero_after run i

module _ (code : Code) where
  -- a bit that enters later changes no coded bit before it
  pub coded_before : (b : Bool) (p : List Bool) (j : ℕ) → j < code.rows * length p → coded_bit code (reverse (b ∷ p)) j ≡ coded_bit code (reverse p) j
  coded_before b p j h =
      let some : 0 < code.rows = grind arith in
      let early = div_below j code.rows (length p) some (omega (arith, mul_comm code.rows (length p))) in
      ap (λ run. coded_bit code run j) (reverse_more b p)
      ∙ ap (summed (get_or (rows_of code) (j % code.rows) 0)) (entered_before (reverse p) b (j / code.rows) (simp length-reverse early))

  -- nor do the closing zeros change any
  pub coded_closed : (run : List Bool) (m j : ℕ) → coded_bit code (reverse (replicate m false ++ reverse run)) j ≡ coded_bit code run j
  coded_closed run zero j = ap (λ r. coded_bit code r j) (reverse-reverse run)
  coded_closed run (suc m) j =
      let path = replicate m false ++ reverse run in
      ap (λ r. coded_bit code r j) (reverse_more false path)
      ∙ ap (summed (get_or (rows_of code) (j % code.rows) 0)) (entered_same (reverse path ++ false ∷ []) (reverse path) (j / code.rows) (λ i _. zero_after (reverse path) i))
      ∙ coded_closed run m j

  -- the coded bits of a path's newest step are the sums of the rows over it
  pub coded_newest : (b : Bool) (p : List Bool) (i : ℕ) → i < code.rows →
      coded_bit code (reverse (b ∷ p)) (code.rows * length p + i) ≡ summed (get_or (rows_of code) i 0) (b ∷ p)
  coded_newest b p i h =
      let place : code.rows * length p + i ≡ length p * code.rows + i = omega (arith, mul_comm code.rows (length p)) in
      let row = mod-mul-add (length p) code.rows i h in
      let step = div-mul-add (length p) code.rows i h in
      ap (coded_bit code (reverse (b ∷ p))) place
      ∙ ap₂ (λ r t. summed (get_or (rows_of code) r 0) (entered (reverse (b ∷ p)) t)) row step
      ∙ ap (summed (get_or (rows_of code) i 0)) (entered_path b p)

  -- two paths of one length with the same bits coded first at each step are one, since the first row has the newest bit
  pub same_first_row : 0 < code.rows → odd (get_or (rows_of code) 0 0) ≡ true → (p q : List Bool) → length p ≡ length q →
      ((t : ℕ) → t < length p → coded_bit code (reverse p) (code.rows * t) ≡ coded_bit code (reverse q) (code.rows * t)) → p ≡ q
  same_first_row some newest [] [] l same = refl
  same_first_row some newest [] (c ∷ q) l same = absurd (omega arith)
  same_first_row some newest (b ∷ p) [] l same = absurd (omega arith)
  same_first_row some newest (b ∷ p) (c ∷ q) l same =
      let long : length p ≡ length q = omega arith in
      let earlier : (n : ℕ) → length p ≡ n → (t : ℕ) → t < length p → code.rows * t < code.rows * n = λ n e t h. mul-lt-mul_of_pos_left {k = code.rows} (omega arith) some in
      let before : p ≡ q = same_first_row some newest p q long
      (λ t h. sym (coded_before b p (code.rows * t) (earlier (length p) refl t h)) ∙ same t (omega arith) ∙ coded_before c q (code.rows * t) (earlier (length q) long t h)) in
      let now = sym (first b p) ∙ same (length p) (omega arith) ∙ ap (λ n. coded_bit code (reverse (c ∷ q)) (code.rows * n)) long ∙ first c q in
      let sum = ap (summed (taps / 2)) before in
      ap₂ (λ (x : Bool) (r : List Bool). x ∷ r) (xor_same b c (summed (taps / 2) q) (ap (xor b) (sym sum) ∙ now)) before
    where
      taps : ℕ
      taps = get_or (rows_of code) 0 0

      first : (x : Bool) (r : List Bool) → coded_bit code (reverse (x ∷ r)) (code.rows * length r) ≡ xor x (summed (taps / 2) r)
      first x r =
          let place : code.rows * length r ≡ code.rows * length r + 0 = omega arith in
          ap (coded_bit code (reverse (x ∷ r))) place ∙ coded_newest x r 0 some ∙ ap (λ o. xor (o && x) (summed (taps / 2) r)) newest
