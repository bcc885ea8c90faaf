-- Writing the lowest bits of a number, the highest first.
use Rattle.std.proofs.Common.{◌≡◌, ℕ, zero, suc, ◌+◌, ◌-◌, ◌/◌, ◌^◌, ◌<◌, false, List, [], ◌∷◌, ◌++◌, length, get_or, map, reverse, set, take, drop, replicate, ap₂, refl, add-one, length-append, ◌≢◌, sym, ap, ◌∙◌, arith, below_more}
use lib.Bits.{bit_and, and_mask}
use Rattle.std.proofs.lemmas.List.{get_or-set_other, get_or-set_same, get_or-reverse, get_or-map, ext_get_or, length-map, map-append, reverse-append, append-nil, drop-replicate, drop_all, length-take-le, length-reverse}
use Rattle.std.proofs.Math.Seq.{take-append_seam, drop-append_seam}
use Rattle.std.proofs.lemmas.Grind.{replicate_next}
use lib.ListN.{length-replicate}
use Rattle.trellis.specs.Parity.{remainder, parity_of, with_parity}
use Rattle.trellis.specs.Bits.{odd, bit_of, bits}
use Rattle.trellis.proofs.Bitwise.{bit_of_odd, odd_bits}
use Rattle.trellis.proofs.Numbers.{bits_at, bits_length}

module _ (v n : ℕ) where
  -- the n lowest bits, the highest first
  abbrev written : List ℕ
  written = map bit_of (reverse (bits n v))

  -- the first of them are written
  abbrev pub WrittenBelow : ℕ → List ℕ → Type 0
  WrittenBelow place row = (i : ℕ) → i < place → get_or row i 0 ≡ get_or written i 0

  -- the one at a place, read off the number
  written_at : (place : ℕ) → place < n → bit_and (v / 2 ^ (n - 1 - place)) 1 ≡ get_or written place 0
  written_at place h =
      let long : length (bits n v) ≡ n = bits_length n v in
      let inside : place < length (reverse (bits n v)) = simp length-reverse (omega arith) in
      let from : length (bits n v) - 1 - place ≡ n - 1 - place = omega arith in
      let i = n - 1 - place in
      and_mask (v / 2 ^ i) 1
      ∙ sym (bit_of_odd (v / 2 ^ i))
      ∙ ap bit_of (sym (bits_at n v i (omega arith)))
      ∙ ap (λ m. bit_of (get_or (bits n v) m false)) (sym from)
      ∙ ap bit_of (sym (get_or-reverse (bits n v) place false (omega arith)))
      ∙ sym (get_or-map bit_of (reverse (bits n v)) place false 0 inside)

  -- one more
  pub written_more : (place : ℕ) (row : List ℕ) → length row ≡ n → place < n → WrittenBelow place row →
      WrittenBelow (place + 1) (set row place (bit_and (v / 2 ^ (n - 1 - place)) 1))
  written_more place row whole h below =
      let here : place < length row = omega arith in
      let bit = bit_and (v / 2 ^ (n - 1 - place)) 1 in
      below_more _ _
      (λ i g. let other : i ≢ place = omega arith in get_or-set_other row place i bit 0 other ∙ below i g)
      (get_or-set_same row place bit 0 here ∙ written_at place h)

  -- all of them
  pub written_all : (row : List ℕ) → length row ≡ n → WrittenBelow n row → row ≡ written
  written_all row whole below =
      let long : length written ≡ n = simp (length-map, length-reverse) (bits_length n v) in
      ext_get_or 0 row written (omega arith) (λ i h. below i (omega arith))

-- zeros are even
odd_zeros : (n : ℕ) → map odd (replicate n 0) ≡ replicate n false
odd_zeros zero = refl
odd_zeros (suc n) = ap (λ r. false ∷ r) (odd_zeros n)

-- and are the same from the other end
zeros_reversed : (n : ℕ) → reverse (replicate n false) ≡ replicate n false
zeros_reversed zero = refl
zeros_reversed (suc n) =
    reverse-append (false ∷ []) (replicate n false)
    ∙ ap (λ r. r ++ false ∷ []) (zeros_reversed n)
    ∙ sym (replicate_next n false)
    ∙ ap (λ m. replicate m false) (add-one n)

module _ (message : List ℕ) (width : ℕ) where
  -- a message with as many zeros after it as it has parity bits
  abbrev spaced : List ℕ
  spaced = message ++ replicate width 0

  -- what it leaves is what its message leaves with as many zeros
  spaced_reversed : reverse (map odd spaced) ≡ replicate width false ++ reverse (map odd message)
  spaced_reversed =
      ap reverse (map-append odd message (replicate width 0) ∙ ap (λ r. map odd message ++ r) (odd_zeros width))
      ∙ reverse-append (map odd message) (replicate width false)
      ∙ ap (λ r. r ++ reverse (map odd message)) (zeros_reversed width)

  -- a run with the message written over its front, the places after the message, and how many they are
  module _ (run front : List ℕ) where
    abbrev pub begun : List ℕ
    begun = front ++ drop (length message) run

    abbrev pub after : List ℕ
    after = drop (length message) begun

    abbrev pub left_over : ℕ
    left_over = length begun - length message

    -- where there were zeros, and what the run leaves is written there, bit by bit, it is the message and its parity
    pub run_written : (row : List ℕ) (left : ℕ) → run ≡ replicate (length message + width) 0 → front ≡ message → left ≡ remainder (reverse (map odd begun)) →
        row ≡ map bit_of (reverse (bits (length (take left_over after)) left)) →
        map odd (take (length message) begun ++ (row ++ drop left_over after)) ≡ with_parity width (map odd message)
    run_written row left zeros copied leaves bits_are =
        let m = length message in
        let none : List ℕ = replicate width 0 in
        let wide : length none ≡ width = length-replicate {A = ℕ} width 0 in
        let on : m + width - m ≡ width = omega arith in
        let space : drop m run ≡ none = ap (drop m) zeros ∙ drop-replicate m (m + width) 0 ∙ ap (λ n. replicate n 0) on in
        let whole : begun ≡ spaced = λ i. copied i ++ space i in
        let back : after ≡ none = ap (drop m) whole ∙ drop-append_seam message none in
        let long : left_over ≡ width = ap (λ xs. length xs - m) whole ∙ simp (length-append, length-replicate) on in
        let part : length (take left_over after) ≡ width =
        (λ i. length (take (long i) (back i))) ∙ length-take-le width none (omega (arith, wide)) in
        let past : drop left_over after ≡ [] = (λ i. drop (long i) (back i)) ∙ drop_all width none (omega (arith, wide)) in
        let parity = parity_of width (map odd message) in
        let value : left ≡ remainder (replicate width false ++ reverse (map odd message)) =
        leaves ∙ ap (λ xs. remainder (reverse (map odd xs))) whole ∙ ap remainder spaced_reversed in
        let bytes : row ≡ map bit_of parity = bits_are ∙ (λ i. map bit_of (reverse (bits (part i) (value i)))) in
        ap₂ (λ xs ys. map odd (xs ++ (row ++ ys))) (ap (take m) whole ∙ take-append_seam message none) past
        ∙ ap (λ xs. map odd (message ++ xs)) (append-nil row ∙ bytes)
        ∙ map-append odd message (map bit_of parity)
        ∙ ap (λ r. map odd message ++ r) (odd_bits parity)
