-- A run heard clean costs nothing, and a path that costs nothing sends the same coded bits wherever they meet something.
use Rattle.std.proofs.Common.{◌≡◌, ◌≢◌, ℕ, zero, suc, ◌+◌, ◌-◌, ◌*◌, ◌<◌, Bool, true, false, List, [], ◌∷◌, ◌++◌, reverse, length, get_or, replicate, Some, sym, refl, ap, ◌∙◌, subst, inl, inr, mul-suc, arith, length-append}
use Rattle.std.specs.List.{AllByRecursion}
use Rattle.std.proofs.Math.Nat.{mul-lt-mul_of_pos_left}
use Rattle.std.proofs.lemmas.List.{length-replicate, length-reverse}
use Rattle.std.proofs.lemmas.Bool.{both_ways, cases_lt}
use Rattle.cost.specs.declared.kind.Cost.{Ghosts}
use Rattle.cost.specs.Samples.{clean}
use Rattle.cost.proofs.Lawful.{Laws, le_refl}
use Rattle.trellis.specs.Bits.{xor}
use Rattle.trellis.proofs.Clean.{SendsAs, CleanOf, CleanAnswer}
use Rattle.trellis.specs.Codes.{summed, rows_of, sound}
use Rattle.trellis.specs.Coding.{coded_bit}
use Rattle.trellis.specs.Paths.{grown_by, grown_rows, cost_of}
use Rattle.trellis.specs.Rule.{answer}
use Rattle.trellis.specs.declared.code.Code.{Code}
use Rattle.trellis.proofs.Bitwise.{xor_same}
use Rattle.trellis.proofs.Coded.{coded_before, coded_closed, coded_newest, same_first_row}
use Rattle.trellis.proofs.Leasts.{answered_least}
use Rattle.trellis.proofs.Soundness.{sound_parts}
use Rattle.trellis.proofs.Survivors.{answer_length}

module _ {C S P : Type 0} {k : Ghosts C S P} (laws : Laws k) where
  -- against the other bit the clean sample of a bit raises zero
  clean_tells : (x y : Bool) → k.le (k.grow k.ZERO (clean k y) x) k.ZERO ≡ true → x ≡ y
  clean_tells true true h = refl
  clean_tells false false h = refl
  clean_tells false true h = absurd (both_ways _ laws.differs_one h)
  clean_tells true false h = absurd (both_ways _ laws.differs_zero h)

  -- each sample is the clean one of bit y
  abbrev Clean : Bool → List (S × Bool) → Type 0
  Clean y = AllByRecursion (λ m. m.0 ≡ clean k (xor y m.1))

  -- clean samples are fit
  clean_fits : (y : Bool) (ms : List (S × Bool)) → Clean y ms → AllByRecursion (λ m. k.fit m.0 ≡ true) ms
  clean_fits y [] heard = tt
  clean_fits y ((s, turned) ∷ ms) heard = (ap k.fit heard.0 ∙ laws.clean_fit (xor y turned), clean_fits y ms heard.1)

  -- they never lower a cost
  grown_by_raises : (x y : Bool) (ms : List (S × Bool)) → Clean y ms → (c : C) → k.le c (grown_by k c x ms) ≡ true
  grown_by_raises x y [] heard c = le_refl laws c
  grown_by_raises x y ((s, turned) ∷ ms) heard c =
      laws.trans _ _ _ (laws.raises c s (xor x turned) (clean_fits y ((s, turned) ∷ ms) heard).0) (grown_by_raises x y ms heard.1 (k.grow c s (xor x turned)))

  -- they leave every cost against their own bit
  grown_by_agrees : (x y : Bool) (ms : List (S × Bool)) → Clean y ms → (ms ≢ [] → x ≡ y) → (c : C) → grown_by k c x ms ≡ c
  grown_by_agrees x y [] heard same c = refl
  grown_by_agrees x y ((s, turned) ∷ ms) heard same c =
      let bit : x ≡ y = same (λ e. absurd (omega (arith, ap length e))) in
      let own : s ≡ clean k (xor x turned) = heard.0 ∙ ap (λ z. clean k (xor z turned)) (sym bit) in
      let left : k.grow c s (xor x turned) ≡ c = ap (λ r. k.grow c r (xor x turned)) own ∙ laws.agrees c (xor x turned) in
      ap (λ d. grown_by k d x ms) left ∙ grown_by_agrees x y ms heard.1 (λ _. bit) c

  -- and where they leave zero, there are none or the bit is theirs
  grown_by_tells : (x y : Bool) (ms : List (S × Bool)) → Clean y ms → k.le (grown_by k k.ZERO x ms) k.ZERO ≡ true → ms ≢ [] → x ≡ y
  grown_by_tells x y [] heard h some = absurd (some refl)
  grown_by_tells x y ((s, turned) ∷ ms) heard h some =
      let next = grown_by_raises x y ms heard.1 (k.grow k.ZERO s (xor x turned)) in
      let stays = laws.trans _ _ _ next h in
      xor_same x y turned (clean_tells (xor x turned) (xor y turned) (subst (λ r. k.le (k.grow k.ZERO r (xor x turned)) k.ZERO ≡ true) heard.0 stays))

  -- each row of the code is given its taps
  module _ (code : Code) (given : length (rows_of code) ≡ code.rows) (met : ℕ → List (S × Bool)) (sent : ℕ → Bool) (heard : CleanOf k sent met) where
    abbrev rows : List ℕ
    rows = rows_of code

    -- the cost of a path
    abbrev cost : List Bool → C
    cost p = cost_of k rows met p

    -- the rows that stand from place j on send over a path as was sent
    abbrev RowsAs : List Bool → ℕ → List ℕ → Type 0
    RowsAs p j rs = (i n : ℕ) → i < length rs → n ≡ j + i → met n ≢ [] → summed (get_or rs i 0) p ≡ sent n

    -- a step never lowers a cost
    grown_rows_raises : (p : List Bool) (j : ℕ) (rs : List ℕ) (c : C) → k.le c (grown_rows k rows met c p j rs) ≡ true
    grown_rows_raises p j [] c = le_refl laws c
    grown_rows_raises p j (taps ∷ rs) c =
        laws.trans _ _ _ (grown_by_raises (summed taps p) (sent j) (met j) (heard j) c) (grown_rows_raises p (suc j) rs (grown_by k c (summed taps p) (met j)))

    -- it leaves every cost where its rows send as was sent
    grown_rows_agrees : (p : List Bool) (j : ℕ) (rs : List ℕ) → RowsAs p j rs → (c : C) → grown_rows k rows met c p j rs ≡ c
    grown_rows_agrees p j [] same c = refl
    grown_rows_agrees p j (taps ∷ rs) same c =
        ap (λ d. grown_rows k rows met d p (suc j) rs) (grown_by_agrees (summed taps p) (sent j) (met j) (heard j) (same 0 j (omega arith) (omega arith)) c)
        ∙ grown_rows_agrees p (suc j) rs (λ i n h e. same (suc i) n (omega arith) (omega arith)) c

    -- where it leaves zero, its first row sends as was sent
    grown_rows_first : (p : List Bool) (j taps : ℕ) (rs : List ℕ) → k.le (grown_rows k rows met k.ZERO p j (taps ∷ rs)) k.ZERO ≡ true → met j ≢ [] →
        summed taps p ≡ sent j
    grown_rows_first p j taps rs h =
        let later = grown_rows_raises p (suc j) rs (grown_by k k.ZERO (summed taps p) (met j)) in
        grown_by_tells (summed taps p) (sent j) (met j) (heard j) (laws.trans _ _ _ later h)

    -- and so do the others
    grown_rows_tells : (p : List Bool) (j : ℕ) (rs : List ℕ) → k.le (grown_rows k rows met k.ZERO p j rs) k.ZERO ≡ true → RowsAs p j rs
    grown_rows_tells p j [] h i n below e some = absurd (omega arith)
    grown_rows_tells p j (taps ∷ rs) h zero n below e some =
        subst (λ m. met m ≢ [] → summed taps p ≡ sent m) (let same : j ≡ n = omega arith in same) (grown_rows_first p j taps rs h) some
    grown_rows_tells p j (taps ∷ rs) h (suc i) n below e some =
        let left = grown_by_agrees (summed taps p) (sent j) (met j) (heard j) (grown_rows_first p j taps rs h) k.ZERO in
        grown_rows_tells p (suc j) rs (subst (λ c. k.le (grown_rows k rows met c p (suc j) rs) k.ZERO ≡ true) left h) i n (omega arith) (omega arith) some

    -- the coded bits of a path's newest step
    newest_row : (b : Bool) (p : List Bool) (i n : ℕ) → i < length rows → n ≡ length rows * length p + i →
        coded_bit code (reverse (b ∷ p)) n ≡ summed (get_or rows i 0) (b ∷ p)
    newest_row b p i n h e =
        let place : n ≡ code.rows * length p + i = e ∙ ap (λ r. r * length p + i) given in
        ap (coded_bit code (reverse (b ∷ p))) place ∙ coded_newest code b p i (omega arith)

    -- a path that sends as was sent costs nothing
    clean_costs_nothing : (p : List Bool) → SendsAs met sent (coded_bit code (reverse p)) (code.rows * length p) → cost p ≡ k.ZERO
    unfolding cost_of
    clean_costs_nothing [] same = refl
    clean_costs_nothing (b ∷ p) same =
        let on = mul-suc code.rows (length p) in
        let here : length rows * length p ≡ code.rows * length p = ap (λ r. r * length p) given in
        ap (λ c. grown_rows k rows met c (b ∷ p) (length rows * length p) rows)
        (clean_costs_nothing p (λ j h some. sym (coded_before code b p j h) ∙ same j (omega arith) some))
        ∙ grown_rows_agrees (b ∷ p) (length rows * length p) rows (λ i n h e some. sym (newest_row b p i n h e) ∙ same n (omega arith) some) k.ZERO

    -- and only such a path does
    costless_sends_same : (p : List Bool) → k.le (cost p) k.ZERO ≡ true → SendsAs met sent (coded_bit code (reverse p)) (code.rows * length p)
    unfolding cost_of
    costless_sends_same [] h j below some = absurd (omega arith)
    costless_sends_same (b ∷ p) h j below some =
        let on = mul-suc code.rows (length p) in
        let here : length rows * length p ≡ code.rows * length p = ap (λ r. r * length p) given in
        let before : k.le (cost p) k.ZERO ≡ true = laws.trans _ _ _ (grown_rows_raises (b ∷ p) (length rows * length p) rows (cost p)) h in
        let same = costless_sends_same p before in
        elim (cases_lt j (code.rows * length p)) [
          | inl e ↦ coded_before code b p j e ∙ same j e some
          | inr e ↦
              let i = j - code.rows * length p in
              let place : j ≡ length rows * length p + i = omega arith in
              let now = subst (λ c. k.le (grown_rows k rows met c (b ∷ p) (length rows * length p) rows) k.ZERO ≡ true) (clean_costs_nothing p same) h in
              newest_row b p i j (omega arith) place ∙ grown_rows_tells (b ∷ p) (length rows * length p) rows now i j (omega arith) place some
        ]

  -- where the run that was sent is heard clean, the rule answers a path that costs nothing, and so sends as was sent
  pub heard_clean : (code : Code) → sound code ≡ true → length (rows_of code) ≡ code.rows → (met : ℕ → List (S × Bool)) (steps : ℕ) (run path : List Bool) →
      length run + code.memory ≡ steps → CleanOf k (coded_bit code run) met → answer k (rows_of code) met code.memory steps ≡ Some path → CleanAnswer k code met steps run path
  heard_clean code ok given met steps run path long heard answered =
      let parts = sound_parts code ok in
      let sent = coded_bit code run in
      let own = replicate code.memory false ++ reverse run in
      let least = answered_least laws (rows_of code) met (λ j. clean_fits (sent j) (met j) (heard j)) code.memory parts.taps_below parts.some_memory steps (omega arith)
      path answered (reverse run) (simp length-reverse long) in
      let free = clean_costs_nothing code given met sent heard own (λ j _ _. coded_closed code run code.memory j) in
      let sends = costless_sends_same code given met sent heard path (subst (λ c. k.le (cost_of k (rows_of code) met path) c ≡ true) free least) in
      let size = answer_length k (rows_of code) met code.memory steps path answered in
      let size_own : length own ≡ steps = simp (length-append, length-replicate, length-reverse) (omega arith) in
      let as_sent = subst (λ n. SendsAs met sent (coded_bit code (reverse path)) (code.rows * n)) size sends in
      record {
        costless = clean_costs_nothing code given met sent heard path sends;
        as_sent = as_sent;
        whole = λ some. same_first_row code parts.some_rows parts.newest_first path own (size ∙ sym size_own)
            (λ t h. let within : t < steps = omega (arith, size) in
            as_sent (code.rows * t) (mul-lt-mul_of_pos_left {k = code.rows} within parts.some_rows) (some t within) ∙ sym (coded_closed code run code.memory (code.rows * t)));
      }
