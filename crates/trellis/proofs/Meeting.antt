-- Windows that go on into their registers in ascending order: of the two that meet the lower stays.
use Rattle.std.proofs.Common.{◌≡◌, ℕ, ◌+◌, ◌-◌, ◌*◌, ◌/◌, ◌%◌, ◌<◌, ◌≤◌, Bool, true, false, not, cond, ltb, ◌≢◌, ◌⊎◌, List, length, get_or, set, Some, None, Option, sym, refl, ap, ◌∙◌, subst, ap₂, inl, inr, mod-eq_of_lt, arith, get_or-set_other, get_or-set_same}
use Rattle.std.proofs.lemmas.Bool.{cases_eq, cases_lt, lt-ltb, le-ltb}
use Rattle.std.proofs.lemmas.Nat.{div-mul-add, mod-mul-add, mod_below}
use Rattle.std.specs.Option.{is_some}
use Rattle.cost.specs.declared.kind.Cost.{Ghosts}
use Rattle.trellis.specs.Bits.{bit_of}
use Rattle.trellis.specs.Windows.{arrived, enters, laid, lower, second_kept, window_cost}

-- a window's register and oldest bit: the first n windows drop a 0
halves : (n w : ℕ) → w < 2 * n → ((w % n ≡ w) × (w / n ≡ 0) × (w < n)) ⊎ ((w % n + n ≡ w) × (w / n ≡ 1))
halves n w h = elim (cases_lt w n) [
  | inl f ↦ let e : 0 * n + w ≡ w = omega arith in inl (mod-eq_of_lt f, ap (λ v. v / n) (sym e) ∙ div-mul-add 0 n w f, f)
  | inr f ↦
      let e : 1 * n + (w - n) ≡ w = omega arith in
      let r : w % n ≡ w - n = ap (λ v. v % n) (sym e) ∙ mod-mul-add 1 n (w - n) (omega arith) in
      inr (omega arith, ap (λ v. v / n) (sym e) ∙ div-mul-add 1 n (w - n) (omega arith))
]

module _ {C S P : Type 0} (k : Ghosts C S P) where
  -- a cell holds the lower of two costs that meet, laid down, and a mark tells which it is
  abbrev Kept : Option P → ℕ → Option C → Option C → Type 0
  Kept cell mark first second = (cell ≡ laid k (lower k first second)) × (mark ≡ bit_of (second_kept k first second))

  -- of equal costs the same is kept
  kept_same : (cell : Option P) (mark : ℕ) {a b c d : Option C} → a ≡ c → b ≡ d → Kept cell mark a b → Kept cell mark c d
  kept_same cell mark e f h = (h.0 ∙ ap₂ (λ x y. laid k (lower k x y)) e f, h.1 ∙ ap₂ (λ x y. bit_of (second_kept k x y)) e f)

  -- the first of two costs goes on into a cell that is free
  first_enters : (cell : Option P) (mark : ℕ) (c : C) → Kept cell mark None None → Kept (cond (enters k cell c) (Some (k.lay c)) cell) (cond (enters k cell c) 0 mark) (Some c) None
  first_enters cell mark c h = (ap (λ x. cond (enters k x c) (Some (k.lay c)) x) h.0, ap (λ x. cond (enters k x c) 0 mark) h.0)

  -- and the second where the first is not there or is dearer
  second_enters : ((a : C) → k.lift (k.lay a) ≡ a) → (cell : Option P) (mark : ℕ) (a : Option C) (c : C) → Kept cell mark a None →
      Kept (cond (enters k cell c) (Some (k.lay c)) cell) (cond (enters k cell c) 1 mark) a (Some c)
  second_enters lifts cell mark None c h = (ap (λ x. cond (enters k x c) (Some (k.lay c)) x) h.0, ap (λ x. cond (enters k x c) 1 mark) h.0)
  second_enters lifts cell mark (Some a) c h =
      let dearer : enters k cell c ≡ not (k.le a c) = ap (λ x. enters k x c) h.0 ∙ ap (λ x. not (k.le x c)) (lifts a) in (
        ap₂ (λ t x. cond t (Some (k.lay c)) x) dearer h.0 ∙ cell_by (k.le a c),
        ap₂ (λ t x. cond t 1 x) dearer h.1 ∙ mark_by (k.le a c),
      )
    where
      cell_by : (t : Bool) → cond (not t) (Some (k.lay c)) (Some (k.lay a)) ≡ laid k (cond t (Some a) (Some c))
      cell_by true = refl
      cell_by false = refl

      mark_by : (t : Bool) → cond (not t) 1 0 ≡ bit_of (not t)
      mark_by true = refl
      mark_by false = refl

  -- a window whose old register was reached has a cost
  arrived_some : (cell : Option P) (c : C) → is_some cell ≡ true → arrived cell c ≡ Some c
  arrived_some None c e = absurd (let z : ◌≡◌ {A = ℕ} 0 1 = cc in omega arith)
  arrived_some (Some x) c e = refl

  -- any other has none
  arrived_none : (cell : Option P) (c : C) → is_some cell ≡ false → arrived cell c ≡ None
  arrived_none None c e = refl
  arrived_none (Some x) c e = absurd (let z : ◌≡◌ {A = ℕ} 0 1 = cc in omega arith)

  module _ (old : List (Option P)) (costs : List C) where
    -- the cost of a window, if it is below w and a path has reached it
    abbrev cost_below : ℕ → ℕ → Option C
    cost_below w v = cond (ltb v w) (window_cost k old costs v) None

    -- the windows below w have gone on into their registers
    abbrev pub Met : ℕ → List (Option P) → List ℕ → Type 0
    Met w cells marks = (s : ℕ) → s < length old → Kept (get_or cells s None) (get_or marks s 0) (cost_below w s) (cost_below w (s + length old))

    -- the same cells and marks have met the same
    pub met_same : (w : ℕ) {cells cells' : List (Option P)} {marks marks' : List ℕ} → cells' ≡ cells → marks' ≡ marks → Met w cells marks → Met w cells' marks'
    met_same w e f met s h = (ap (λ xs. get_or xs s None) e ∙ (met s h).0, ap (λ xs. get_or xs s 0) f ∙ (met s h).1)

    module _ (w : ℕ) where
      -- a window that is not below has no cost yet
      not_below : (v : ℕ) → w ≤ v → cost_below w v ≡ None
      not_below v h = ap (λ t. cond t (window_cost k old costs v) None) (le-ltb v w h)

      -- one more window is below
      now_below : (v : ℕ) → v ≡ w → cost_below (w + 1) v ≡ window_cost k old costs w
      now_below v e = let h : v < w + 1 = omega arith in ap (λ t. cond t (window_cost k old costs v) None) (lt-ltb v (w + 1) h) ∙ ap (window_cost k old costs) e

      -- and no other
      as_below : (v : ℕ) → v ≢ w → cost_below w v ≡ cost_below (w + 1) v
      as_below v ne = elim (cases_lt v w) [
        | inl h ↦ ap (λ t. cond t (window_cost k old costs v) None) (lt-ltb v w h ∙ sym (lt-ltb v (w + 1) (omega arith)))
        | inr h ↦ ap (λ t. cond t (window_cost k old costs v) None) (le-ltb v w h ∙ sym (le-ltb v (w + 1) (omega arith)))
      ]

      -- a window that no path has reached goes nowhere
      pub passes : (cells : List (Option P)) (marks : List ℕ) → is_some (get_or old (w / 2) None) ≡ false → Met w cells marks → Met (w + 1) cells marks
      passes cells marks none met s h = kept_same (get_or cells s None) (get_or marks s 0) (unreached s) (unreached (s + length old)) (met s h)
        where
          unreached : (v : ℕ) → cost_below w v ≡ cost_below (w + 1) v
          unreached v = elim (cases_eq v w) [
            | inl e ↦ not_below v (omega arith) ∙ sym (now_below v e ∙ arrived_none (get_or old (w / 2) None) (get_or costs w k.ZERO) none)
            | inr ne ↦ as_below v ne
          ]

      module _ (lifts : (a : C) → k.lift (k.lay a) ≡ a) (some : is_some (get_or old (w / 2) None) ≡ true) (within : w < 2 * length old) where
        abbrev cost : C
        cost = get_or costs w k.ZERO

        abbrev register : ℕ
        register = w % length old

        -- what the cell of its register and the mark become
        abbrev new_cell : Option P → Option P
        new_cell cell = cond (enters k cell cost) (Some (k.lay cost)) cell

        abbrev new_mark : Option P → ℕ → ℕ
        new_mark cell mark = cond (enters k cell cost) (w / length old) mark

        -- in its register the window meets the other one, if a path has reached that and it is below
        entered : (cell : Option P) (mark : ℕ) → Kept cell mark (cost_below w register) (cost_below w (register + length old)) →
            Kept (new_cell cell) (new_mark cell mark) (cost_below (w + 1) register) (cost_below (w + 1) (register + length old))
        entered cell mark kept = elim (halves (length old) w within) [
          | inl e ↦
              let none = kept_same cell mark (not_below register (omega arith)) (not_below upper (omega arith)) kept in
              subst (λ b. Kept (new_cell cell) (cond (enters k cell cost) b mark) (cost_below (w + 1) register) (cost_below (w + 1) upper)) (sym e.1)
              (kept_same (new_cell cell) (cond (enters k cell cost) 0 mark) (sym (here register e.0))
              (sym (not_below upper (omega arith)) ∙ as_below upper (λ f. omega arith)) (first_enters cell mark cost none))
          | inr e ↦
              let first = kept_same cell mark refl (not_below upper (omega arith)) kept in
              subst (λ b. Kept (new_cell cell) (cond (enters k cell cost) b mark) (cost_below (w + 1) register) (cost_below (w + 1) upper)) (sym e.1)
              (kept_same (new_cell cell) (cond (enters k cell cost) 1 mark) (as_below register (λ f. omega arith)) (sym (here upper e.0)) (second_enters lifts cell mark (cost_below w register) cost first))
        ]
          where
            upper : ℕ
            upper = register + length old

            here : (v : ℕ) → v ≡ w → cost_below (w + 1) v ≡ Some cost
            here v e = now_below v e ∙ arrived_some (get_or old (w / 2) None) cost some

        -- the windows of the other registers are other windows
        others : (s : ℕ) → s < length old → s ≢ register → (s ≢ w) × (s + length old ≢ w)
        others s h ne = elim (halves (length old) w within) [ inl e ↦ (λ f. ne (omega arith), λ f. omega arith) | inr e ↦ (λ f. omega arith, λ f. ne (omega arith)) ]

        -- so a register that the window does not go into is as it was
        other : (cell : Option P) (mark : ℕ) (s : ℕ) → s < length old → s ≢ register → Kept cell mark (cost_below w s) (cost_below w (s + length old)) →
            Kept cell mark (cost_below (w + 1) s) (cost_below (w + 1) (s + length old))
        other cell mark s h ne = let apart = others s h ne in kept_same cell mark (as_below s apart.0) (as_below (s + length old) apart.1)

        -- one window more, where its register is written so and the others are left
        met_more : (cells cells' : List (Option P)) (marks marks' : List ℕ) →
            (get_or cells' register None ≡ new_cell (get_or cells register None)) × (get_or marks' register 0 ≡ new_mark (get_or cells register None) (get_or marks register 0)) →
            ((s : ℕ) → s ≢ register → (get_or cells' s None ≡ get_or cells s None) × (get_or marks' s 0 ≡ get_or marks s 0)) →
            Met w cells marks → Met (w + 1) cells' marks'
        met_more cells cells' marks marks' written left met s h = elim (cases_eq s register) [
          | inl e ↦
              let at = entered (get_or cells register None) (get_or marks register 0) (met register (subst (λ n. n < length old) e h)) in
              subst (λ n. Kept (get_or cells' n None) (get_or marks' n 0) (cost_below (w + 1) n) (cost_below (w + 1) (n + length old))) (sym e)
              (written.0 ∙ at.0, written.1 ∙ at.1)
          | inr ne ↦ let at = other (get_or cells s None) (get_or marks s 0) s h ne (met s h) in ((left s ne).0 ∙ at.0, (left s ne).1 ∙ at.1)
        ]

        -- where the cell of its register holds a cost that is not dearer, the window changes nothing
        pub stays : (cells : List (Option P)) (marks : List ℕ) → enters k (get_or cells register None) cost ≡ false → Met w cells marks → Met (w + 1) cells marks
        stays cells marks out =
            let x = get_or cells register None in
            let m = get_or marks register 0 in
            met_more cells cells marks marks (ap (λ t. cond t (Some (k.lay cost)) x) (sym out), ap (λ t. cond t (w / length old) m) (sym out)) (λ s ne. (refl, refl))

        -- else it goes on into the cell
        pub goes_on : (cells : List (Option P)) (marks : List ℕ) → length cells ≡ length old → length marks ≡ length old →
            enters k (get_or cells register None) cost ≡ true → Met w cells marks → Met (w + 1) (set cells register (Some (k.lay cost))) (set marks register (w / length old))
        goes_on cells marks long wide goes =
            let x = get_or cells register None in
            let m = get_or marks register 0 in
            let cell = Some (k.lay cost) in
            let mark = w / length old in
            let below = mod_below w (length old) (omega arith) in
            met_more cells (set cells register cell) marks (set marks register mark) (
              get_or-set_same cells register cell None (omega (arith, below)) ∙ ap (λ t. cond t cell x) (sym goes),
              get_or-set_same marks register mark 0 (omega (arith, below)) ∙ ap (λ t. cond t mark m) (sym goes),
            )
            (λ s ne. (get_or-set_other cells register s cell None ne, get_or-set_other marks register s mark 0 ne))
