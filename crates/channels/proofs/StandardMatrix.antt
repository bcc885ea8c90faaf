-- The matrix of a block: the bits sent fill one, and it is read out as the interleaver lays them.
use Rattle.std.proofs.Common.{◌≡◌, ℕ, ◌+◌, ◌*◌, ◌/◌, ◌%◌, ◌<◌, Bool, true, false, cond, ◌&&◌, List, length, get_or, Some, None, Option, ap, ap₂, ◌∙◌, mul_comm, arith}
use Rattle.std.proofs.lemmas.Bool.{cond-true, eq-eqb}
use Rattle.std.proofs.lemmas.Nat.{div-mul-add, mod-mul-add}
use Rattle.line.specs.Interleaver.{interleaved, moved, spread}
use Rattle.line.specs.Scrambler.{sum, masking, scrambled}
use Rattle.channels.specs.Standard.{Filled, read_out}
use Rattle.channels.proofs.StandardMasks.{Stands}

-- a bit is read out at an answer's place, where the answer tells that the mask turns it
abbrev pub Reads : (ℕ → Bool) → (ℕ → Bool) → Bool → Option (ℕ × Bool) → Type 0
Reads mask read bit None = Unit {0}
Reads mask read bit (Some (k, turned)) = (turned ≡ mask k) × (read k ≡ bit)

-- a scrambler, where there is one, turns what was not turned by its masking sequence
pub scrambler_reads : (on : Bool) (read : ℕ → Bool) (bit : Bool) (o : Option (ℕ × Bool)) → Reads (λ k. false) read bit o →
    Reads (λ k. on && masking k) read bit (cond on (scrambled o) o)
scrambler_reads true read bit None r = tt
scrambler_reads true read bit (Some (k, turned)) r = (ap (λ t. sum t (masking k)) r.0, r.1)
scrambler_reads false read bit None r = tt
scrambler_reads false read bit (Some (k, turned)) r = r

module _ (N : ℕ) (sent : List Bool) where
  -- what the bits sent fill
  abbrev pub matrix_of : ℕ → ℕ → Bool
  matrix_of i j = get_or sent (8 * i + (5 * j) % 8) false

  -- they fill it, since five times a column, taken twice, comes back to the column
  pub matrix_filled : length sent ≡ 8 * N → Filled N sent matrix_of
  matrix_filled e = record {
    whole = e;
    rows = λ i j h o. let back : (5 * ((5 * j) % 8)) % 8 ≡ j = omega arith in ap (λ c. get_or sent (8 * i + c) false) back;
  }

  -- the interleaver moves over whole rows
  moved_rows : (k : ℕ) → moved (8 * N) k ≡ spread N k
  moved_rows k =
      let rows : 8 * N / 8 ≡ N = omega arith in
      cond-true _ _ _ (eq-eqb ((8 * N) % 8) 0 (omega arith)) ∙ ap (λ n. spread n k) rows

  module _ (matrix : ℕ → ℕ → Bool) (filled : Filled N sent matrix) where
    -- each bit sent is read out where the interleaver moves it
    read_moved : (k : ℕ) → k < length sent → read_out N matrix (moved (8 * N) k) ≡ get_or sent k false
    read_moved k h =
        let i = k / 8 in
        let c = (5 * k) % 8 in
        let less : i < N = omega (arith, filled.whole) in
        let place : spread N k ≡ c * N + i = omega (arith, mul_comm N c) in
        let row : spread N k % N ≡ i = ap (λ p. p % N) place ∙ mod-mul-add c N i less in
        let column : spread N k / N ≡ c = ap (λ p. p / N) place ∙ div-mul-add c N i less in
        let from : c ≡ (5 * (k % 8)) % 8 = omega arith in
        let at : 8 * i + k % 8 ≡ k = omega arith in
        ap (read_out N matrix) (moved_rows k)
        ∙ ap₂ matrix row (column ∙ from)
        ∙ filled.rows i (k % 8) less (omega arith)
        ∙ ap (λ n. get_or sent n false) at

    -- so a bit that stands among those sent is read out where the interleaver lays it
    pub matrix_reads : (bit : Bool) (o : Option (ℕ × Bool)) → Stands sent bit o → Reads (λ k. false) (read_out N matrix) bit (interleaved (8 * N) o)
    matrix_reads bit None s = tt
    matrix_reads bit (Some (k, turned)) s = (s.1, read_moved k s.0 ∙ s.2)
