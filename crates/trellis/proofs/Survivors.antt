-- A survivor has a bit for each step and stands in the register that keeps it, so the answer ends in the closing zeros.
use Rattle.std.proofs.Common.{◌≡◌, ℕ, zero, suc, ◌≤◌, Bool, true, false, ◌⊎◌, List, [], ◌∷◌, ◌++◌, length, take, drop, replicate, Some, None, Option, sym, refl, ap, ◌∙◌, inl, inr, arith, take-append-drop}
use lib.ListN.{length-replicate}
use Rattle.std.proofs.lemmas.Bool.{cond_both}
use Rattle.cost.specs.declared.kind.Cost.{Ghosts}
use Rattle.trellis.specs.Bits.{empty}
use Rattle.trellis.specs.Paths.{register, cost_of}
use Rattle.trellis.specs.Rule.{extended, kept, survivor, answer}
use Rattle.trellis.proofs.Registers.{register_less, register_empty, register_take}

-- no path is not a path
none_some : {X : Type 0} {x : X} → None ≡ Some x → ⊥
none_some e = let z : ◌≡◌ {A = ℕ} 0 1 = cc in omega arith

-- an extended path is a path and its new bit
pub extended_from : (b : Bool) (o : Option (List Bool)) (p : List Bool) → extended b o ≡ Some p → (q : List Bool) × (o ≡ Some q) × (p ≡ b ∷ q)
extended_from b None p e = absurd (none_some e)
extended_from b (Some q) p e = (q, refl, cc)

module _ {C S P : Type 0} (k : Ghosts C S P) (rows : List ℕ) (met : ℕ → List (S × Bool)) where
  -- the path kept is one of the two that meet
  kept_from : (o u : Option (List Bool)) (p : List Bool) → kept k rows met o u ≡ Some p → (o ≡ Some p) ⊎ (u ≡ Some p)
  kept_from None u p e = inr e
  kept_from (Some a) None p e = inl e
  kept_from (Some a) (Some b) p e =
      cond_both (k.le (cost_of k rows met a) (cost_of k rows met b)) (Some a) (Some b) (λ o. o ≡ Some p → (Some a ≡ Some p) ⊎ (Some b ≡ Some p)) (λ _. inl) (λ _. inr) e

  -- at the beginning the empty register alone keeps a path, which has no bit
  first_from : (r p : List Bool) → survivor k rows met 0 r ≡ Some p → (empty r ≡ true) × (p ≡ [])
  unfolding survivor
  first_from r p e =
      cond_both (empty r) (Some []) None (λ o. o ≡ Some p → (empty r ≡ true) × (p ≡ [])) (λ t e. (t, cc)) (λ _ e. absurd (none_some e)) e

  -- later a survivor is a survivor of one step before and the newest bit of its register
  record From (t : ℕ) (b : Bool) (r p : List Bool) : Type 0 where
    oldest : Bool
    front : List Bool
    before : survivor k rows met t (r ++ oldest ∷ []) ≡ Some front
    newest : p ≡ b ∷ front

  survivor_from : (t : ℕ) (b : Bool) (r p : List Bool) → survivor k rows met (suc t) (b ∷ r) ≡ Some p → From t b r p
  unfolding survivor
  survivor_from t b r p e = elim (kept_from (extended b (before false)) (extended b (before true)) p e) [ inl h ↦ by_oldest false h | inr h ↦ by_oldest true h ]
    where
      before : Bool → Option (List Bool)
      before x = survivor k rows met t (r ++ x ∷ [])

      by_oldest : (x : Bool) → extended b (before x) ≡ Some p → From t b r p
      by_oldest x h = let f = extended_from b (before x) p h in record { oldest = x; front = f.0; before = f.1; newest = f.2 }

  -- a register of no bits keeps no path after a step
  none_without_register : (t : ℕ) (p : List Bool) → survivor k rows met (suc t) [] ≡ Some p → ⊥
  unfolding survivor
  none_without_register t p e = none_some e

  -- a survivor after t steps has t bits
  pub survivor_length : (t : ℕ) (r p : List Bool) → survivor k rows met t r ≡ Some p → length p ≡ t
  survivor_length zero r p e = ap length (first_from r p e).1
  survivor_length (suc t) [] p e = absurd (none_without_register t p e)
  survivor_length (suc t) (b ∷ r) p e =
      let f = survivor_from t b r p e in
      ap length f.newest ∙ ap suc (survivor_length t (r ++ f.oldest ∷ []) f.front f.before)

  -- a survivor stands in the register that keeps it
  pub survivor_register : (t : ℕ) (r p : List Bool) → survivor k rows met t r ≡ Some p → register (length r) p ≡ r
  survivor_register zero r p e = ap (register (length r)) (first_from r p e).1 ∙ register_empty r (first_from r p e).0
  survivor_register (suc t) [] p e = refl
  survivor_register (suc t) (b ∷ r) p e =
      let f = survivor_from t b r p e in
      let wide = survivor_register t (r ++ f.oldest ∷ []) f.front f.before in
      ap (register (suc (length r))) f.newest ∙ ap (λ s. b ∷ s) (register_less r f.front f.oldest wide)

  -- the answer has a bit for each step
  pub answer_length : (memory steps : ℕ) (p : List Bool) → answer k rows met memory steps ≡ Some p → length p ≡ steps
  answer_length memory steps p e = survivor_length steps (replicate memory false) p e

  -- the newest bits of the answer are the closing zeros
  pub answer_closes : (memory steps : ℕ) (p : List Bool) → memory ≤ steps → answer k rows met memory steps ≡ Some p → p ≡ replicate memory false ++ drop memory p
  answer_closes memory steps p h e =
      let long = answer_length memory steps p e in
      let zeros = survivor_register steps (replicate memory false) p e in
      let closed : take memory p ≡ replicate memory false = sym (register_take memory p (omega arith)) ∙ ap (λ n. register n p) (sym (length-replicate memory false)) ∙ zeros in
      sym (take-append-drop memory p) ∙ ap (λ s. s ++ drop memory p) closed
