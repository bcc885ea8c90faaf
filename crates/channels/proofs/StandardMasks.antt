-- Coded bits that are walked against the entries of masks: each kept bit is sent to the place of its number.
use Rattle.std.proofs.Common.{◌≡◌, ℕ, zero, suc, ◌<◌, ltb, Bool, true, false, cond, List, [], ◌∷◌, length, get_or, take, Some, None, Option, sym, refl, ap, ◌∙◌, inl, inr, arith}
use Rattle.std.proofs.lemmas.Bool.{cases_lt, cond_both, cond-true, false≢true, ltb-true}
use Rattle.std.proofs.lemmas.List.{get_or_past}
use Rattle.std.proofs.lemmas.List.Sums.{sum_by-cons}
use Rattle.line.specs.Unpunctured.{in_order}
use Rattle.puncture.specs.Patterns.{kept, numbered}
use Rattle.puncture.specs.PatternsLemmas.{numbered_within}
use Rattle.channels.specs.Standard.{walk}

-- what an entry adds to the bits sent
abbrev one : Bool → ℕ
one on = cond on 1 0

-- as many bits are sent as the entries keep
pub length_walk : (entries bits : List Bool) → length bits ≡ length entries → length (walk entries bits) ≡ kept entries
length_walk [] bits e = refl
length_walk (on ∷ entries) [] e = absurd (omega arith)
length_walk (true ∷ entries) (bit ∷ bits) e = omega (arith, sum_by-cons one true entries, length_walk entries bits (omega arith))
length_walk (false ∷ entries) (bit ∷ bits) e = omega (arith, sum_by-cons one false entries, length_walk entries bits (omega arith))

-- a bit that is kept is sent, after those kept before it
walk_kept : (entries bits : List Bool) (j : ℕ) → length bits ≡ length entries → get_or entries j false ≡ true →
    get_or (walk entries bits) (kept (take j entries)) false ≡ get_or bits j false
walk_kept [] bits j e on = absurd (false≢true on)
walk_kept (entry ∷ entries) [] j e on = absurd (omega arith)
walk_kept (true ∷ entries) (bit ∷ bits) zero e on = refl
walk_kept (false ∷ entries) (bit ∷ bits) zero e on = absurd (false≢true on)
walk_kept (true ∷ entries) (bit ∷ bits) (suc j) e on =
    let more : kept (true ∷ take j entries) ≡ suc (kept (take j entries)) = omega (arith, sum_by-cons one true (take j entries)) in
    ap (λ n. get_or (bit ∷ walk entries bits) n false) more ∙ walk_kept entries bits j (omega arith) on
walk_kept (false ∷ entries) (bit ∷ bits) (suc j) e on =
    let same : kept (false ∷ take j entries) ≡ kept (take j entries) = omega (arith, sum_by-cons one false (take j entries)) in
    ap (λ n. get_or (walk entries bits) n false) same ∙ walk_kept entries bits j (omega arith) on

-- a bit stands at an answer's place among the bits sent, unturned
abbrev pub Stands : List Bool → Bool → Option (ℕ × Bool) → Type 0
Stands sent bit None = Unit {0}
Stands sent bit (Some (k, turned)) = (k < length sent) × (turned ≡ false) × (get_or sent k false ≡ bit)

-- each bit that is walked stands where the entries number it
pub walk_stands : (entries bits : List Bool) (j : ℕ) (bit : Bool) → length bits ≡ length entries → (j < length bits → get_or bits j false ≡ bit) →
    Stands (walk entries bits) bit (numbered entries j)
walk_stands entries bits j bit e same =
    cond_both
    (get_or entries j false)
    (Some (kept (take j entries), false))
    None
    (Stands (walk entries bits) bit)
    (λ on. (
      omega (arith, length_walk entries bits e, numbered_within entries j _ _ (cond-true _ _ _ on)),
      refl,
      walk_kept entries bits j e on ∙ same (within on),
    ))
    (λ off. tt)
  where
    within : get_or entries j false ≡ true → j < length bits
    within on = elim (cases_lt j (length bits)) [
      | inl h ↦ h
      | inr h ↦ absurd (false≢true (sym (get_or_past entries j false (omega arith)) ∙ on))
    ]

-- without masks each bit stands in its own place
pub whole_stands : (bits : List Bool) (n j : ℕ) (bit : Bool) → length bits ≡ n → (j < length bits → get_or bits j false ≡ bit) → Stands bits bit (in_order n j)
whole_stands bits n j bit e same =
    cond_both
    (ltb j n)
    (Some (j, false))
    None
    (Stands bits bit)
    (λ h. let less : j < length bits = omega (arith, ltb-true j n h) in (less, refl, same less))
    (λ _. tt)
