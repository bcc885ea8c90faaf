-- Parity is right exactly where the run that was found is a message and its parity.
use Rattle.std.proofs.Common.{◌≡◌, ◌≢◌, ℕ, ◌+◌, ◌≤◌, Bool, true, false, ◌||◌, eqb, ◌⊎◌, List, ◌++◌, map, reverse, length, take, drop, replicate, sym, ap, ◌∙◌, inl, inr, arith}
use lib.ListN.{length-replicate}
use lib.Seq.{drop_at}
use Rattle.std.proofs.Math.Bool.{or-true}
use Rattle.std.proofs.lemmas.Bool.{both_ways, eqb-true}
use Rattle.std.proofs.lemmas.List.{append-nil, length-drop, reverse-append, reverse-reverse, take-append-drop, take-append-le, take_all}
use Rattle.trellis.specs.Bits.{bit_of}
use Rattle.trellis.specs.Parity.{remainder, with_parity}
use Rattle.trellis.proofs.Divisions.{closes_only}
use Rattle.trellis.proofs.Parities.{parity_closes}
use Rattle.link.specs.declared.format.Format.{Format}
use Rattle.link.specs.Calls.{protected, right, written}
use Rattle.link.specs.Sending.{run_of}

-- parity is of 16 bits or of none
abbrev pub Widths : ℕ → Type 0
Widths width = (width ≡ 0) ⊎ (width ≡ 16)

module _ {L : Type 0} (f : Format L) (path run : List Bool) (own : path ≡ replicate f.code.memory false ++ reverse run) where
  -- the protected bits are the run
  protected_run : protected f path ≡ reverse run
  protected_run = ap (drop f.code.memory) own ∙ drop_at (replicate f.code.memory false) (reverse run) f.code.memory (length-replicate f.code.memory false)

  -- and the message that is written is what the run begins with
  pub written_run : f.message ≤ length run → (block : List ℕ) → written f path block ≡ map bit_of (take f.message run) ++ drop f.message block
  written_run long block =
      let back : reverse path ≡ run ++ reverse (replicate f.code.memory false) =
      ap reverse own ∙ reverse-append (replicate f.code.memory false) (reverse run) ∙ ap (λ r. r ++ reverse (replicate f.code.memory false)) (reverse-reverse run) in
      ap (λ bits. map bit_of bits ++ drop f.message block) (ap (take f.message) back ∙ take-append-le f.message run (reverse (replicate f.code.memory false)) long)

  -- parity is right where the run leaves no remainder
  right_leaves : remainder (reverse run) ≡ 0 → right f path ≡ true
  right_leaves leaves = ap (λ n. eqb f.parity 0 || eqb n 0) (ap remainder protected_run ∙ leaves) ∙ or-true (eqb f.parity 0)

  -- so it is right for a message and its parity
  pub run_right : Widths f.parity → (message : List Bool) → run ≡ run_of f message → right f path ≡ true
  run_right (inl none) message is = ap (λ n. eqb n 0 || eqb (remainder (protected f path)) 0) none
  run_right (inr wide) message is = right_leaves (ap (λ r. remainder (reverse r)) is ∙ ap (λ w. remainder (reverse (with_parity w message))) wide ∙ parity_closes message)

  module _ (long : length run ≡ f.message + f.parity) where
    -- the message, and what follows it
    abbrev message : List Bool
    message = take f.message run

    abbrev ending : List Bool
    ending = drop f.message run

    -- where parity is right, the run is its message and that message's parity
    pub right_run : Widths f.parity → right f path ≡ true → run ≡ run_of f message
    right_run (inl none) holds =
        sym (take_all f.message run (omega arith)) ∙ sym (append-nil message) ∙ ap (λ w. with_parity w message) (sym none)
    right_run (inr wide) holds =
        let leaves : remainder (reverse run) ≡ 0 = ap remainder (sym protected_run)
        ∙ eqb-true (remainder (protected f path)) 0 (ap (λ n. eqb n 0 || eqb (remainder (protected f path)) 0) (sym wide) ∙ holds) in
        let parts : message ++ ending ≡ run = take-append-drop f.message run in
        let sixteen : length ending ≡ 16 = length-drop f.message run ∙ omega arith in
        sym parts
        ∙ ap (λ e. message ++ e) (closes_only message ending sixteen (ap (λ r. remainder (reverse r)) parts ∙ leaves))
        ∙ ap (λ w. with_parity w message) (sym wide)

    -- and where it is wrong, it is not
    pub wrong_run : Widths f.parity → right f path ≡ false → run ≢ run_of f message
    wrong_run widths fails is = both_ways (right f path) fails (run_right widths message is)
