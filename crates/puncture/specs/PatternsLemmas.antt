-- Patterns of kept bits: how many they keep, and how the kept ones are numbered.
use Rattle.std.specs.Prelude.{◌≡◌, ℕ, zero, suc, ◌+◌, ◌-◌, ◌*◌, ◌/◌, ◌%◌, ◌<◌, ◌≤◌, Bool, true, false, cond, List, [], ◌∷◌, ◌++◌, length, take, replicate, Some, None, Option, slice_index_or, refl}
use Rattle.std.proofs.Common.{sym, ap, ap₂, ◌∙◌, inl, inr, ltb, mul-zero, arith, rules}
use Rattle.std.proofs.Math.Seq.{take-append-add}
use Rattle.std.proofs.lemmas.Nat.{div-add-mod', div_below, mod_below}
use Rattle.std.proofs.lemmas.List.{length-append, length-replicate, get_or_append_left, get_or-append-add, get_or-take, get_or_past, take-take, take-append-le, get_or-replicate, take-replicate}
use Rattle.std.proofs.lemmas.Bool.{cases_lt, cases_order, cond-true, false≢true, le-ltb, lt-ltb}
use Rattle.std.specs.Bool.{then_some}
use Rattle.std.proofs.lemmas.List.Folds.{sum_by-replicate}
use Rattle.std.proofs.lemmas.List.Sums.{count_by-le-length, sum_by-append, sum_by-cons, sum_by_more_le}
use Rattle.puncture.specs.Patterns.{kept, laid_out, numbered, raised, times_over}

-- a bit's answer, by whether it is kept and by its number
abbrev answer : Bool → ℕ → Option (ℕ × Bool)
answer b n = cond b (Some (n, false)) None

-- what a bit adds to the kept ones
abbrev one : Bool → ℕ
one on = cond on 1 0

-- two parts keep what each keeps
pub kept_append : (p q : List Bool) → kept (p ++ q) ≡ kept p + kept q
kept_append p q = sum_by-append one p q

-- a pattern n times over keeps n times as much
pub kept_times : (n : ℕ) (p : List Bool) → kept (times_over n p) ≡ n * kept p
kept_times zero p = omega arith
kept_times (suc n) p = omega (arith, kept_append p (times_over n p), kept_times n p)

-- a pattern of ones keeps every bit
pub kept_ones : (n : ℕ) → kept (replicate n true) ≡ n
kept_ones n = omega (arith, sum_by-replicate one n true)

-- no pattern keeps more than it has
pub kept_within : (p : List Bool) → kept p ≤ length p
kept_within p = count_by-le-length (λ on. on) p

-- a pattern n times over is n times as long
pub length_times : (n : ℕ) (p : List Bool) → length (times_over n p) ≡ n * length p
length_times zero p = omega arith
length_times (suc n) p = omega (arith, length-append p (times_over n p), length_times n p)

-- a laid out pattern has the bits of its parts
pub length_laid_out : (a : List Bool) (n : ℕ) (b : List Bool) (k : ℕ) (d : List Bool) → length (laid_out a n b k d) ≡ length a + n * length b + k + length d
length_laid_out a n b k d = simp (length-append, length_times, length-replicate) (omega arith)

-- before a kept bit there are fewer than all the kept ones
fewer_before : (p : List Bool) (j : ℕ) → slice_index_or p j false ≡ true → kept (take j p) < kept p
fewer_before p j e = elim (cases_lt j (length p)) [
  | inl h ↦ omega (arith, sum_by_more_le one p j false h, ap one e)
  | inr h ↦ absurd (false≢true (sym (get_or_past p j false h) ∙ e))
]

-- a later bit has more kept ones before it than a kept one has
later_more : (p : List Bool) (i j : ℕ) → i < j → slice_index_or p i false ≡ true → kept (take i p) < kept (take j p)
later_more p i j h e =
    let f : kept (take i (take j p)) < kept (take j p) = fewer_before (take j p) i (get_or-take j p i false h ∙ e) in
    omega (arith, ap kept (take-take i j p (omega arith)))

-- below the number of kept bits each number belongs to a kept bit
kept_place : (p : List Bool) (k : ℕ) → k < kept p → (j : ℕ) × (slice_index_or p j false ≡ true) × (kept (take j p) ≡ k)
kept_place [] k h = absurd (omega arith)
kept_place (true ∷ p) zero h = (0, refl, refl)
kept_place (true ∷ p) (suc k) h =
    let a = kept_place p k (omega (arith, sum_by-cons one true p)) in
    (suc a.0, a.1, omega (arith, sum_by-cons one true (take a.0 p), a.2))
kept_place (false ∷ p) k h =
    let a = kept_place p k (omega (arith, sum_by-cons one false p)) in
    (suc a.0, a.1, omega (arith, sum_by-cons one false (take a.0 p), a.2))

-- only a kept bit is sent, to the number of kept ones before it
numbered_from : (p : List Bool) (j k : ℕ) (t : Bool) → numbered p j ≡ Some (k, t) → (slice_index_or p j false ≡ true) × (kept (take j p) ≡ k)
numbered_from p j k t e = by (slice_index_or p j false) (kept (take j p)) e
  where
    by : (b : Bool) (n : ℕ) → answer b n ≡ Some (k, t) → (b ≡ true) × (n ≡ k)
    by true n e = (refl, search rules)
    by false n e = let z : ◌≡◌ {A = ℕ} 0 1 = cc in absurd (omega arith)

-- every number answered is one of the kept bits'
pub numbered_within : (p : List Bool) (j k : ℕ) (t : Bool) → numbered p j ≡ Some (k, t) → k < kept p
numbered_within p j k t e = let a = numbered_from p j k t e in omega (arith, fewer_before p j a.0, a.1)

-- no two bits have one number
pub numbered_apart : (p : List Bool) (i j k : ℕ) (t u : Bool) → numbered p i ≡ Some (k, t) → numbered p j ≡ Some (k, u) → i ≡ j
numbered_apart p i j k t u e f =
    let a = numbered_from p i k t e in
    let b = numbered_from p j k u f in
    elim (cases_order i j) [
      | inl same ↦ same
      | inr other ↦ elim other [
        | inl h ↦ absurd (omega (arith, later_more p i j h a.0, a.1, b.1))
        | inr h ↦ absurd (omega (arith, later_more p j i h b.0, a.1, b.1))
      ]
    ]

-- every number of a kept bit is answered
pub numbered_filled : (p : List Bool) (k : ℕ) → k < kept p → (j : ℕ) × (t : Bool) × (numbered p j ≡ Some (k, t))
numbered_filled p k h =
    let a = kept_place p k h in
    (a.0, false, cond-true _ _ _ a.1 ∙ ap (λ n. Some (n, false)) a.2)

-- a bit that is not kept is not sent
pub numbered_off : (p : List Bool) (j : ℕ) → slice_index_or p j false ≡ false → numbered p j ≡ None
numbered_off p j e = ap (λ b. answer b (kept (take j p))) e

-- past its end a pattern sends nothing
pub numbered_ended : (p : List Bool) (j : ℕ) → length p ≤ j → numbered p j ≡ None
numbered_ended p j h = numbered_off p j (get_or_past p j false h)

-- the first of two parts is numbered as it is alone
pub numbered_left : (p q : List Bool) (j : ℕ) → j < length p → numbered (p ++ q) j ≡ numbered p j
numbered_left p q j h =
    ap₂ (λ b r. answer b (kept r)) (get_or_append_left p q false j h) (take-append-le j p q (omega arith))

-- the second of two parts is numbered after all that the first keeps
numbered_right : (p q : List Bool) (j : ℕ) → numbered (p ++ q) (length p + j) ≡ raised (kept p) (numbered q j)
numbered_right p q j =
    ap₂ answer (get_or-append-add p q j false) (ap kept (take-append-add p q j) ∙ kept_append p (take j q))
    ∙ by (slice_index_or q j false)
  where
    by : (b : Bool) → answer b (kept p + kept (take j q)) ≡ raised (kept p) (answer b (kept (take j q)))
    by true = refl
    by false = refl

-- among ones each bit has its own number
pub numbered_ones : (n j : ℕ) → j < n → numbered (replicate n true) j ≡ Some (j, false)
numbered_ones n j h =
    ap₂ answer (get_or-replicate n j true false h) (ap kept (take-replicate j n true (omega arith)) ∙ kept_ones j)

-- and so where more bits follow
pub numbered_among_ones : (n : ℕ) (q : List Bool) (j : ℕ) → j < n → numbered (replicate n true ++ q) j ≡ Some (j, false)
numbered_among_ones n q j h = numbered_left (replicate n true) q j (omega (arith, length-replicate n true)) ∙ numbered_ones n j h

-- past the ones there are no more
pub numbered_whole : (n j : ℕ) → numbered (replicate n true) j ≡ then_some (ltb j n) (j, false)
numbered_whole n j = elim (cases_lt j n) [
  | inl h ↦ numbered_ones n j h ∙ sym (ap (λ b. then_some b (j, false)) (lt-ltb j n h))
  | inr h ↦ numbered_ended (replicate n true) j (omega (arith, length-replicate n true)) ∙ sym (ap (λ b. then_some b (j, false)) (le-ltb j n h))
]

-- kept bits before kept bits
pub raised_twice : (m n : ℕ) (o : Option (ℕ × Bool)) → raised m (raised n o) ≡ raised (m + n) o
raised_twice m n None = refl
raised_twice m n (Some (k, t)) = let e : m + (n + k) ≡ (m + n) + k = omega arith in ap (λ a. Some (a, t)) e

-- no kept bits before
pub raised_none : (o : Option (ℕ × Bool)) → raised 0 o ≡ o
raised_none None = refl
raised_none (Some (k, t)) = let e : 0 + k ≡ k = omega arith in ap (λ a. Some (a, t)) e

-- in turn i of n the kept bits of i turns stand before
numbered_times : (n : ℕ) (p : List Bool) (i r : ℕ) → i < n → r < length p → numbered (times_over n p) (i * length p + r) ≡ raised (i * kept p) (numbered p r)
numbered_times zero p i r h o = absurd (omega arith)
numbered_times (suc n) p zero r h o =
    let at : 0 * length p + r ≡ r = omega arith in
    let none : 0 * kept p ≡ 0 = omega arith in
    ap (numbered (p ++ times_over n p)) at ∙ numbered_left p (times_over n p) r o ∙ sym (raised_none (numbered p r)) ∙ ap (λ k. raised k (numbered p r)) (sym none)
numbered_times (suc n) p (suc i) r h o =
    let at : suc i * length p + r ≡ length p + (i * length p + r) = omega arith in
    let more : kept p + i * kept p ≡ suc i * kept p = omega arith in
    ap (numbered (p ++ times_over n p)) at
    ∙ numbered_right p (times_over n p) (i * length p + r)
    ∙ ap (raised (kept p)) (numbered_times n p i r (omega arith) o)
    ∙ raised_twice (kept p) (i * kept p) (numbered p r)
    ∙ ap (λ k. raised k (numbered p r)) more

-- past the first n bits, of which so many are kept
pub numbered_past : (p q : List Bool) (n j : ℕ) → length p ≡ n → n ≤ j → numbered (p ++ q) j ≡ raised (kept p) (numbered q (j - n))
numbered_past p q n j e h =
    let at : j ≡ length p + (j - n) = omega arith in
    ap (numbered (p ++ q)) at ∙ numbered_right p q (j - n)

-- past bits that are kept whole
pub numbered_past_ones : (n : ℕ) (q : List Bool) (j : ℕ) → n ≤ j → numbered (replicate n true ++ q) j ≡ raised n (numbered q (j - n))
numbered_past_ones n q j h =
    numbered_past (replicate n true) q n j (length-replicate n true) h ∙ ap (λ k. raised k (numbered q (j - n))) (kept_ones n)

-- turns that have bits are of some bits
pub turns_some : (n w j : ℕ) → j < n * w → 0 < w
turns_some n zero j h = absurd (omega (arith, mul-zero n))
turns_some n (suc w) j h = omega arith

-- among the turns of a pattern of w bits
pub numbered_in_turns : (n : ℕ) (p q : List Bool) (w j : ℕ) → length p ≡ w → j < n * w → numbered (times_over n p ++ q) j ≡ raised (j / w * kept p) (numbered p (j % w))
numbered_in_turns n p q w j e h =
    let some : 0 < w = turns_some n w j h in
    let long : length (times_over n p) ≡ n * w = length_times n p ∙ ap (λ k. n * k) e in
    let at : j ≡ j / w * length p + j % w = sym (ap (λ k. j / w * k + j % w) e ∙ div-add-mod' j w) in
    numbered_left (times_over n p) q j (omega arith)
    ∙ ap (numbered (times_over n p)) at
    ∙ numbered_times n p (j / w) (j % w) (div_below j w n some h) (omega (arith, mod_below j w some))

-- past all of the turns
pub numbered_past_turns : (n : ℕ) (p q : List Bool) (w j : ℕ) → length p ≡ w → n * w ≤ j → numbered (times_over n p ++ q) j ≡ raised (n * kept p) (numbered q (j - n * w))
numbered_past_turns n p q w j e h =
    numbered_past (times_over n p) q (n * w) j (length_times n p ∙ ap (λ k. n * k) e) h ∙ ap (λ k. raised k (numbered q (j - n * w))) (kept_times n p)
