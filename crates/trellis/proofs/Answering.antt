-- What the forward pass and the traceback leave is the rule's answer.
use Rattle.std.proofs.Common.{◌≡◌, ℕ, zero, suc, ◌*◌, ◌^◌, ◌≤◌, Bool, true, false, List, ◌∷◌, ◌++◌, map, reverse, length, take, replicate, Some, Option, refl, ap, ◌∙◌, mul-le-mul_left, mul-one, arith, pow_pos}
use Rattle.std.proofs.lemmas.List.{length-reverse, nil_from_length, take-append-le}
use Rattle.cost.specs.declared.kind.Cost.{Ghosts}
use Rattle.cost.proofs.Lawful.{Laws}
use Rattle.trellis.specs.Bits.{bit_of, bits}
use Rattle.trellis.specs.Cells.{MarkedBelow, cost_kept, kept_at}
use Rattle.trellis.specs.Codes.{rows_of, sound}
use Rattle.trellis.specs.declared.code.Code.{Code}
use Rattle.trellis.specs.Decoding.{Answered}
use Rattle.trellis.specs.Met.{Fit}
use Rattle.trellis.specs.Rule.{survivor}
use Rattle.trellis.specs.Tracing.{Recorded}
use Rattle.trellis.proofs.Leasts.{answer_least}
use Rattle.trellis.proofs.Soundness.{sound_parts}
use Rattle.trellis.proofs.Survivors.{survivor_length}

-- the empty register is the number 0
bits_none : (n : ℕ) → bits n 0 ≡ replicate n false
bits_none zero = refl
bits_none (suc n) = ap (λ r. false ∷ r) (bits_none n)

-- each row has at least one place
pub steps_within : (memory steps : ℕ) → steps ≤ steps * 2 ^ memory
steps_within memory steps = omega (arith, mul-le-mul_left steps (pow_pos memory), mul-one steps)

module _ {C S P : Type 0} {k : Ghosts C S P} (laws : Laws k) (code : Code) (met : ℕ → List (S × Bool)) (fit : Fit k met) where
  -- with every mark right and the path of register 0 traced back, what is left is the rule's answer
  pub answers : sound code ≡ true → (steps : ℕ) → code.memory ≤ steps → (cost : Option C) (marked traced : List ℕ) →
      cost ≡ cost_kept k (rows_of code) met (kept_at k (rows_of code) met code.memory steps 0) →
      MarkedBelow code.memory (kept_at k (rows_of code) met code.memory) marked steps →
      ((kept : ℕ → ℕ → Option (List Bool)) (path : List Bool) → Recorded code.memory steps kept path marked → take steps traced ≡ map bit_of (reverse path)) →
      Answered k (rows_of code) met code.memory steps cost traced
  answers ok steps long cost marked traced value marks back =
      let rows = rows_of code in
      let m = code.memory in
      let parts = sound_parts code ok in
      let best = answer_least laws rows met fit m parts.taps_below parts.some_memory steps long in
      let path = best.0 in
      let last : kept_at k rows met m steps 0 ≡ Some path = ap (survivor k rows met steps) (bits_none m) ∙ best.1 in
      record {
        path = path;
        answered = best.1;
        least = λ run h. best.2 (reverse run) (simp length-reverse h);
        own = value ∙ ap (cost_kept k rows met) last;
        traced = back (kept_at k rows met m) path (record {
          first = λ s p e. nil_from_length p (survivor_length k rows met 0 (bits m s) p e);
          marks = marks;
          last = last;
        });
      }

-- a path record that goes on holds the answer at its front too
pub answered_longer : {C S P : Type 0} (k : Ghosts C S P) (rows : List ℕ) (met : ℕ → List (S × Bool)) (memory steps : ℕ) (cost : Option C) (paths more : List ℕ) → steps ≤ length paths →
    Answered k rows met memory steps cost paths → Answered k rows met memory steps cost (paths ++ more)
answered_longer k rows met memory steps cost paths more room d = record {
  path = d.path;
  answered = d.answered;
  least = d.least;
  own = d.own;
  traced = take-append-le steps paths more room ∙ d.traced;
}
