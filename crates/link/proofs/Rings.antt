-- The cells of a ring: a burst that is stored stands in its own cells, and the cells of the bursts shortly before it are left.
use Rattle.std.proofs.Common.{◌≡◌, ℕ, ◌+◌, ◌-◌, ◌*◌, ◌/◌, ◌%◌, ◌<◌, ◌≤◌, List, ◌++◌, length, get_or, take, drop, refl, ap, ◌∙◌, inl, inr, add-mul, mod-lt, mul-le-mul_right, suc-mul, arith}
use Rattle.std.proofs.lemmas.Nat.{div-add-mod', mul-le}
use Rattle.std.proofs.lemmas.List.{length-take-le, get_or_append_left, get_or-append_right, get_or-take, get_or-drop}
use Rattle.std.proofs.lemmas.Bool.{cases_lt, cases_order}
use Rattle.link.specs.declared.format.Format.{Format}
use Rattle.link.specs.Due.{laid_at, cell, stored}

-- the cells of one burst lie within a ring of `depth` bursts
burst_within : (n depth burst : ℕ) → 1 ≤ depth → n % depth * burst + burst ≤ depth * burst
burst_within n depth burst h =
    let m : n % depth < depth = mod-lt n (omega arith) in
    omega (arith, mul-le-mul_right burst m, suc-mul (n % depth) burst)

-- two numbers that differ by less than d leave different remainders by d
remainders_differ : (d i n : ℕ) → i < n → n < i + d → i % d ≡ n % d → ⊥
remainders_differ d i n h near e = elim (cases_lt (i / d) (n / d)) [
  | inl more ↦ let far = mul-le (i / d + 1) d (n / d) d (omega arith) (omega arith) in omega (arith, own_i, own_n, far, add-mul (i / d) 1 d, e)
  | inr less ↦ let below = mul-le (n / d) d (i / d) d less (omega arith) in omega (arith, own_i, own_n, below, e)
]
  where
    own_i : i / d * d + i % d ≡ i
    own_i = div-add-mod' i d

    own_n : n / d * d + n % d ≡ n
    own_n = div-add-mod' n d

module _ {S : Type 0} (xs ys : List S) (at : ℕ) (d : S) (within : at ≤ length xs) where
  -- where ys is laid over xs, ys is read at its own places
  laid_inside : (i p : ℕ) → i ≡ at + p → p < length ys → get_or (laid_at at ys xs) i d ≡ get_or ys p d
  laid_inside i p is h =
      let after : i - at ≡ p = omega arith in
      get_or-append_right (take at xs) (ys ++ drop (at + length ys) xs) at i d (length-take-le at xs within) (omega arith)
      ∙ ap (λ j. get_or (ys ++ drop (at + length ys) xs) j d) after ∙ get_or_append_left ys (drop (at + length ys) xs) d p h

  -- before them xs is
  laid_before : (i : ℕ) → i < at → get_or (laid_at at ys xs) i d ≡ get_or xs i d
  laid_before i h =
      let front = length-take-le at xs within in
      get_or_append_left (take at xs) (ys ++ drop (at + length ys) xs) d i (omega arith) ∙ get_or-take at xs i d h

  -- and after them
  laid_after : (i : ℕ) → at + length ys ≤ i → get_or (laid_at at ys xs) i d ≡ get_or xs i d
  laid_after i h =
      let there : at + length ys + (i - at - length ys) ≡ i = omega arith in
      get_or-append_right (take at xs) (ys ++ drop (at + length ys) xs) at i d (length-take-le at xs within) (omega arith)
      ∙ get_or-append_right ys (drop (at + length ys) xs) (length ys) (i - at) d refl (omega arith)
      ∙ get_or-drop (at + length ys) xs (i - at - length ys) d ∙ ap (λ j. get_or xs j d) there

module _ {S L : Type 0} (f : Format L) (n : ℕ) (samples ring : List S) (d : S)
    (whole : length samples ≡ f.burst) (enough : f.depth * f.burst ≤ length ring) where
  -- the first cell of the burst lies within the ring
  cell_within : cell f n 0 ≤ length ring
  cell_within = omega (arith, burst_within n f.depth f.burst f.least_depth)

  -- a burst that is stored stands in its own cells
  pub stored_own : (p : ℕ) → p < f.burst → get_or (stored f n samples ring) (cell f n p) d ≡ get_or samples p d
  stored_own p h = laid_inside ring samples (cell f n 0) d cell_within (cell f n p) p (omega arith) (omega arith)

  -- and the cells of another of the last `depth` bursts are left
  pub stored_other : (i p : ℕ) → i < n → n < i + f.depth → p < f.burst → get_or (stored f n samples ring) (cell f i p) d ≡ get_or ring (cell f i p) d
  stored_other i p h near inside = elim (cases_order (i % f.depth) (n % f.depth)) [
    | inl e ↦ absurd (remainders_differ f.depth i n h near e)
    | inr (inl before) ↦
        let up = mul-le (i % f.depth + 1) f.burst (n % f.depth) f.burst (omega arith) (omega arith) in
        laid_before ring samples (cell f n 0) d cell_within (cell f i p) (omega (arith, up, add-mul (i % f.depth) 1 f.burst))
    | inr (inr after) ↦
        let up = mul-le (n % f.depth + 1) f.burst (i % f.depth) f.burst (omega arith) (omega arith) in
        laid_after ring samples (cell f n 0) d cell_within (cell f i p) (omega (arith, up, add-mul (n % f.depth) 1 f.burst))
  ]
