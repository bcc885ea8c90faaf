-- The steps of the encoder: the register as a number, and the bits that are put.
use Rattle.std.proofs.Common.{◌≡◌, ℕ, zero, suc, ◌+◌, ◌-◌, ◌*◌, ◌/◌, ◌%◌, ◌^◌, ◌<◌, ◌≤◌, min, ltb, Bool, true, false, List, [], ◌∷◌, ◌++◌, length, get_or, take, sym, refl, ap, ◌∙◌, subst, ap₂, mul_comm, inl, inr, add-one, arith, get_or-take, pow_pos, pow_mono}
use Rattle.std.proofs.lemmas.Bool.{cases_lt, ltb-true, and_parts}
use Rattle.std.proofs.lemmas.List.{get_or_append_left, get_or-append_right, get_or_past, length-take-le}
use Rattle.std.proofs.lemmas.Grind.{div_ceil_times}
use Rattle.std.proofs.lemmas.Nat.{div-mul-add, mod-mul-add, mul-le, le-div}
use Rattle.std.specs.Int.{div_ceil}
use Rattle.trellis.specs.Bits.{bit_of, bits}
use Rattle.trellis.specs.Codes.{summed, rows_of, all_below}
use Rattle.trellis.specs.Coding.{coded_bit, entered}
use Rattle.trellis.specs.Paths.{register}
use Rattle.trellis.specs.declared.code.Code.{Code}
use Rattle.trellis.proofs.Registers.{register_length, summed_same}
use Rattle.trellis.proofs.Soundness.{Sound}
use Rattle.trellis.proofs.Taps.{packed, packed_below, packed_masked, window_summed}

-- where all rows are below a power each is, and so is one that is not there
row_below : (n : ℕ) (rows : List ℕ) (i : ℕ) → all_below (2 ^ n) rows ≡ true → get_or rows i 0 < 2 ^ n
row_below n [] i below = pow_pos n
row_below n (taps ∷ rows) zero below = ltb-true taps (2 ^ n) (and_parts (ltb taps (2 ^ n)) (all_below (2 ^ n) rows) below).0
row_below n (taps ∷ rows) (suc i) below = row_below n rows i (and_parts (ltb taps (2 ^ n)) (all_below (2 ^ n) rows) below).1

-- the register before the run is 0
packed_none : (m : ℕ) → packed (register m []) ≡ 0
packed_none zero = refl
packed_none (suc m) = omega (arith, packed_none m)

-- a step that has room begins before the end of the room
pub step_begins : (room rows t : ℕ) → 0 < rows → t < div_ceil room rows → t * rows < room
step_begins room rows t some h =
    omega (arith, (div_ceil_times room rows some).1, mul-le (t + 1) rows (div_ceil room rows) rows (omega arith) (omega arith))

-- so many steps leave no room over
pub steps_fill : (room rows t : ℕ) → 0 < rows → div_ceil room rows ≤ t → room ≤ t * rows
steps_fill room rows t some h = omega (arith, (div_ceil_times room rows some).0, mul-le (div_ceil room rows) rows t rows h (omega arith))

-- where the newest bits are zeros after the run's end, as many as the memory has and one more, the window is empty
entered_closed : (run : List Bool) (m t : ℕ) → length run + m ≤ t → register (suc m) (entered run t) ≡ register (suc m) []
entered_closed run zero zero h = ap (λ b. b ∷ []) (get_or_past run 0 false (omega arith))
entered_closed run zero (suc t) h = ap (λ b. b ∷ []) (get_or_past run (suc t) false (omega arith))
entered_closed run (suc m) zero h = absurd (omega arith)
entered_closed run (suc m) (suc t) h =
    ap₂ (λ (b : Bool) (r : List Bool). b ∷ r) (get_or_past run (suc t) false (omega arith)) (entered_closed run m t (omega arith))

module _ (code : Code) (run : List Bool) where
  -- the number of the window of step t
  abbrev pub window_at : ℕ → ℕ
  window_at t = packed (register (suc code.memory) (entered run t))

  -- of the first n places those that there is room for have their coded bits
  abbrev pub Encoded : ℕ → ℕ → List Bool → Type 0
  Encoded room n coded = (j : ℕ) → j < n → j < room → get_or coded j false ≡ coded_bit code run j

  -- at first the register is empty
  pub window_first : 0 * 2 + bit_of (get_or run 0 false) ≡ window_at 0
  window_first = sym (ap (λ n. n * 2 + bit_of (get_or run 0 false)) (packed_none code.memory))

  -- a window that is masked makes the next with the next bit
  pub window_next : (t window : ℕ) → window ≡ window_at t → window % 2 ^ code.memory * 2 + bit_of (get_or run (t + 1) false) ≡ window_at (t + 1)
  window_next t window e =
      let b = bit_of (get_or run (suc t) false) in
      subst (λ n. window % 2 ^ code.memory * 2 + bit_of (get_or run n false) ≡ window_at n) (sym (add-one t))
      (ap (λ n. n * 2 + b) (ap (λ w. w % 2 ^ code.memory) e ∙ packed_masked code.memory (entered run t)))

  module _ (sound : Sound code) where
    -- a window has at most five bits
    pub window_few : (t : ℕ) → window_at t < 32
    window_few t =
        let m = code.memory in
        let path = register (suc m) (entered run t) in
        let short : suc m ≤ 5 = omega (arith, sound.memory_few) in
        let few : 2 ^ suc m ≤ 2 ^ 5 = pow_mono short in
        let below : packed path < 2 ^ suc m = subst (λ n. packed path < 2 ^ n) (register_length (suc m) (entered run t)) (packed_below path) in
        omega arith

    -- no row taps a bit older than a window's
    row_short : (i : ℕ) → get_or (rows_of code) i 0 < 2 ^ suc code.memory
    row_short i = subst (λ n. get_or (rows_of code) i 0 < 2 ^ n) (add-one code.memory) (row_below (code.memory + 1) (rows_of code) i sound.taps_below)

    -- the sum of a row over a window is a coded bit of its step
    row_coded : (t i : ℕ) → i < code.rows → summed (get_or code.taps i 0) (bits 8 (window_at t)) ≡ coded_bit code run (t * code.rows + i)
    row_coded t i h =
        ap (λ n. summed n (bits 8 (window_at t))) (sym (get_or-take code.rows code.taps i 0 h))
        ∙ window_summed code.memory (get_or (rows_of code) i 0) (entered run t) (omega (arith, sound.memory_few)) (row_short i)
        ∙ sym (ap₂ (λ r s. summed (get_or (rows_of code) r 0) (entered run s)) (mod-mul-add t code.rows i h) (div-mul-add t code.rows i h))

    -- one step more
    pub encoded_more : (room t a window : ℕ) (before step rest : List Bool) → window ≡ window_at t → a ≡ t * code.rows → a ≤ length before → a + length step ≡ min room (a + code.rows) →
        Encoded room a before → ((i : ℕ) → i < length step → get_or step i false ≡ summed (get_or code.taps i 0) (bits 8 window)) →
        Encoded room ((t + 1) * code.rows) (take a before ++ (step ++ rest))
    encoded_more room t a window before step rest e place within wide below here j h inside = elim (cases_lt j a) [
      | inl o ↦
          get_or_append_left (take a before) (step ++ rest) false j (omega (arith, long)) ∙ get_or-take a before j false o ∙ below j o inside
      | inr o ↦
          let i = j - a in
          let after : (t + 1) * code.rows ≡ a + code.rows = omega (arith, place) in
          let at : t * code.rows + i ≡ j = omega arith in
          let less : i < length step = omega arith in
          get_or-append_right (take a before) (step ++ rest) a j false long o
          ∙ get_or_append_left step rest false i less
          ∙ here i less
          ∙ ap (λ w. summed (get_or code.taps i 0) (bits 8 w)) e
          ∙ row_coded t i (omega arith)
          ∙ ap (coded_bit code run) at
    ]
      where
        long : length (take a before) ≡ a
        long = length-take-le a before within

    -- past the steps of a run and its closing zeros every coded bit is 0
    coded_past : (j : ℕ) → code.rows * (length run + code.memory) ≤ j → coded_bit code run j ≡ false
    coded_past j h =
        let m = code.memory in
        let t = j / code.rows in
        let late : length run + m ≤ t = le-div (length run + m) j code.rows sound.some_rows (omega (arith, mul_comm code.rows (length run + m))) in
        summed_same (suc m) (get_or (rows_of code) (j % code.rows) 0) (entered run t) [] (row_short (j % code.rows)) (entered_closed run m t late)

    -- so coded bits that reach so far have each coded bit, those past their end too
    pub encoded_whole : (coded : List Bool) → code.rows * (length run + code.memory) ≤ length coded →
        ((j : ℕ) → j < length coded → get_or coded j false ≡ coded_bit code run j) → (j : ℕ) → get_or coded j false ≡ coded_bit code run j
    encoded_whole coded room below j = elim (cases_lt j (length coded)) [
      | inl h ↦ below j h
      | inr o ↦ get_or_past coded j false o ∙ sym (coded_past j (omega arith))
    ]
