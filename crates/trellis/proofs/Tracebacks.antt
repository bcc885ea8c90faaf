-- The way back along the marks of a path record.
use Rattle.std.proofs.Common.{◌≡◌, ℕ, suc, ◌+◌, ◌-◌, ◌*◌, ◌/◌, ◌%◌, ◌^◌, ◌<◌, ◌≤◌, Bool, false, ◌≢◌, List, [], ◌∷◌, length, get_or, drop, set, Some, Option, sym, ap, ◌∙◌, inl, inr, mod-eq_of_lt, mul-lt-mul_of_pos_right, arith, get_or-set_other, get_or-set_same, pow_pos}
use Rattle.std.proofs.lemmas.List.{drop_more, length-drop, get_or-reverse}
use Rattle.std.proofs.lemmas.Bool.{cases_eq}
use Rattle.trellis.specs.Bits.{odd, bit_of}
use Rattle.trellis.specs.Rule.{extended}
use Rattle.trellis.proofs.Survivors.{extended_from}
use Rattle.trellis.specs.Tracing.{Recorded, Headed}

-- how far the way back has come: the register keeps the older bits of the path, and the rows from t on have the newer ones at their heads
pub record Back (memory steps : ℕ) (kept : ℕ → ℕ → Option (List Bool)) (path : List Bool) (paths : List ℕ) (t register : ℕ) : Type 0 where
  pub there : kept t register ≡ Some (drop (steps - t) path)
  pub long : steps - t ≤ length path
  pub heads : (i : ℕ) → t ≤ i → i < steps → get_or paths (i * 2 ^ memory) 0 ≡ bit_of (get_or path (steps - 1 - i) false)

-- where a list goes on with an element and a rest, so do its places
drop_parts : (path : List Bool) (n : ℕ) (b : Bool) (q : List Bool) → drop n path ≡ b ∷ q → (n < length path) × (get_or path n false ≡ b) × (drop (n + 1) path ≡ q)
drop_parts path n b q e =
    let size = length-drop n path in
    let some : length (drop n path) ≡ suc (length q) = ap length e in
    let lt : n < length path = omega arith in
    let parts : get_or path n false ∷ drop (n + 1) path ≡ b ∷ q = sym (drop_more path n false lt) ∙ e in
    let here : get_or path n false ≡ b = cc in
    let after : drop (n + 1) path ≡ q = cc in
    (lt, here, after)

module _ (memory steps : ℕ) (kept : ℕ → ℕ → Option (List Bool)) (path : List Bool) (before : List ℕ) (recorded : Recorded memory steps kept path before) where
  -- one step back
  pub back_more : (paths : List ℕ) (t register : ℕ) → t < steps → register < 2 ^ memory → t * 2 ^ memory < length paths → Back memory steps kept path paths (t + 1) register →
      Back memory steps kept path (set paths (t * 2 ^ memory) (bit_of (odd register))) t (register / 2 + get_or before (t * 2 ^ memory + register) 0 % 2 * 2 ^ (memory - 1))
  back_more paths t register h k within back =
      let mark = get_or before (t * 2 ^ memory + register) 0 in
      let on : suc t ≡ t + 1 = omega arith in
      let marked = recorded.marks t register h k in
      let bit : mark % 2 ≡ mark = mod-eq_of_lt (omega (arith, marked.bit)) in
      let came = extended_from (odd register) (kept t (register / 2 + mark % 2 * 2 ^ (memory - 1))) (drop (steps - (t + 1)) path)
      (ap (λ n. extended (odd register) (kept t (register / 2 + n * 2 ^ (memory - 1)))) bit ∙ sym marked.from ∙ ap (λ n. kept n register) on ∙ back.there) in
      let parts = drop_parts path (steps - (t + 1)) (odd register) came.0 came.2 in
      let far : steps - (t + 1) + 1 ≡ steps - t = omega arith in
      let lt = parts.0 in
      record {
        there = came.1 ∙ ap Some (sym parts.2 ∙ ap (λ n. drop n path) far);
        long = omega arith;
        heads = λ i a b. elim (cases_eq i t) [
          | inl e ↦
              let place : steps - (t + 1) ≡ steps - 1 - i = omega arith in
              ap (λ n. get_or (set paths (t * 2 ^ memory) (bit_of (odd register))) (n * 2 ^ memory) 0) e
              ∙ get_or-set_same paths (t * 2 ^ memory) (bit_of (odd register)) 0 within
              ∙ ap bit_of (sym parts.1 ∙ ap (λ n. get_or path n false) place)
          | inr n ↦
              let later : t < i = omega arith in
              let apart = mul-lt-mul_of_pos_right {k = 2 ^ memory} later (pow_pos memory) in
              let ne : i * 2 ^ memory ≢ t * 2 ^ memory = omega arith in
              get_or-set_other paths (t * 2 ^ memory) (i * 2 ^ memory) (bit_of (odd register)) 0 ne ∙ back.heads i (omega arith) b
        ];
      }

  -- at the end the heads are the path's bits, the first first
  pub back_all : (paths : List ℕ) (register : ℕ) → Back memory steps kept path paths 0 register →
      (length path ≡ steps) × Headed memory steps path paths
  back_all paths register back =
      let none : drop (steps - 0) path ≡ [] = recorded.first register (drop (steps - 0) path) back.there in
      let size = length-drop (steps - 0) path in
      let empty : length (drop (steps - 0) path) ≡ 0 = ap length none in
      let least = back.long in
      let long : length path ≡ steps = omega arith in (
        long,
        λ i h. let place : steps - 1 - i ≡ length path - 1 - i = omega arith in
            back.heads i (omega arith) h ∙ ap bit_of (ap (λ n. get_or path n false) place ∙ sym (get_or-reverse path i false (omega arith))),
      )
