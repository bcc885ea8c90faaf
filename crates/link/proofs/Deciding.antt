-- What the bits at the front of the path record say of the path: its parity, and its message.
use Rattle.std.proofs.Common.{◌≡◌, ℕ, ◌+◌, ◌≤◌, Bool, true, false, List, ◌++◌, map, reverse, length, take, drop, Some, None, Ok, Err, sym, ap, ◌∙◌, arith}
use Rattle.std.proofs.lemmas.List.{length-drop, length-reverse, reverse-append, reverse-reverse, take-append-drop, take_at, take-map, take-take}
use Rattle.std.proofs.lemmas.Bool.{cond-true, cond-false}
use Rattle.cost.specs.declared.kind.Cost as cost
use Rattle.line.specs.declared.laying.Line as line
use Rattle.trellis.proofs.Bitwise.{odd_bits}
use Rattle.trellis.specs.Bits.{odd, bit_of}
use Rattle.trellis.specs.Codes.{rows_of}
use Rattle.trellis.specs.Parity.{remainder}
use Rattle.trellis.proofs.Answering as answering
use Rattle.trellis.proofs.Survivors.{answer_length}
use Rattle.link.specs.declared.format.Format.{Format}
use Rattle.link.specs.declared.refusal.Group.TheVariants.{Air}
use Rattle.link.specs.declared.refusal.Refusal.TheVariants.{WrongParity}
use Rattle.link.specs.declared.report.Answer.TheVariants.{Block}
use Rattle.link.specs.declared.report.Report.{Report}
use Rattle.link.specs.Calls.{Decides, Finds, protected, right}
use Rattle.link.specs.Due.{met_on}
use Rattle.link.specs.Refusals.{tells}
use Rattle.link.specs.Rules.{needed, steps}

-- all but the last n of a list turned round
take_reverse : {X : Type 0} (n k : ℕ) (xs : List X) → length xs ≡ k + n → take k (reverse xs) ≡ reverse (drop n xs)
take_reverse n k xs h =
    ap (λ ys. take k (reverse ys)) (sym (take-append-drop n xs))
    ∙ ap (take k) (reverse-append (take n xs) (drop n xs))
    ∙ take_at (reverse (drop n xs)) (reverse (take n xs)) k (simp (length-reverse, length-drop) (omega arith))

module _ {L : Type 0} (f : Format L) where
  -- a path record of the size that a format asks for has a place for every step
  pub steps_within : (paths : ℕ) → (needed f).paths ≤ paths → steps f ≤ paths
  steps_within paths h = omega (arith, answering.steps_within f.code.memory (steps f))

  module _ (paths : List ℕ) (path : List Bool) (traced : take (steps f) paths ≡ map bit_of (reverse path)) where
    -- the first bits of the record are the path's first bits
    pub front_bits : (n : ℕ) → n ≤ steps f → take n paths ≡ map bit_of (take n (reverse path))
    front_bits n h = sym (take-take n (steps f) paths h) ∙ ap (take n) traced ∙ take-map bit_of n (reverse path)

    -- the remainder of the protected bits as they lie in the record is that of the path
    pub front_remainder : length path ≡ steps f → remainder (reverse (map odd (take (f.message + f.parity) paths))) ≡ remainder (protected f path)
    front_remainder long =
        let n = f.message + f.parity in
        ap (λ xs. remainder (reverse xs))
        (ap (map odd) (front_bits n (omega arith)) ∙ odd_bits (take n (reverse path)) ∙ take_reverse f.code.memory n path long)
        ∙ ap remainder (reverse-reverse (protected f path))

module _ {C S P L : Type 0} (k : cost.Ghosts C S P) (l : line.Ghosts L) (f : Format L) (due : ℕ → S) (b : ℕ) (report : Report C S P) (paths : List ℕ) (finds : Finds k l f due b report paths) where
  -- the path found has a bit for every step
  pub found_long : length finds.path ≡ steps f
  found_long = answer_length k (rows_of f.code) (met_on l f.line due) f.code.memory (steps f) finds.path finds.answered

  -- with parity right, what was found is reported and its message written
  pub reports : (block : List ℕ) → right f finds.path ≡ true →
      Decides k l f due b block (Ok (Block report)) (take f.message paths ++ drop f.message block)
  reports block holds = record {
    path = finds.path;
    answered = finds.answered;
    told = ap Some finds.told;
    refused = sym (cond-true (right f finds.path) None (Some (tells 11 Air 0)) holds);
    wrote = ap (λ bits. bits ++ drop f.message block) (front_bits f paths finds.path finds.traced f.message (omega arith))
        ∙ sym (cond-true (right f finds.path) _ _ holds);
  }

  -- with parity wrong, it is refused and nothing is written
  pub refuses : (block : List ℕ) → right f finds.path ≡ false → Decides k l f due b block (Err (WrongParity report)) block
  refuses block fails = record {
    path = finds.path;
    answered = finds.answered;
    told = ap Some finds.told;
    refused = sym (cond-false (right f finds.path) None (Some (tells 11 Air 0)) fails);
    wrote = sym (cond-false (right f finds.path) _ _ fails);
  }
