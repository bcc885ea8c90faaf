-- The lines by name keep the laws of a line, each layer where the line below keeps them.
use Rattle.std.specs.Prelude.{◌≡◌, ℕ, Bool, false, Some, None, Option}
use Rattle.std.proofs.Common.{sym, ap, ◌∙◌, rules}
use Rattle.std.proofs.lemmas.Bool.{cond_below}
use Rattle.line.specs.declared.laying.Line.{Ghosts}
use Rattle.line.specs.Interleaver.{moved, interleaved}
use Rattle.line.specs.Lines.{unpunctured_line, interleaved_line, scrambled_line}
use Rattle.line.specs.Scrambler.{sum, masking, scrambled}
use Rattle.line.specs.Interleaving.{moved_within, moved_apart, moved_onto}
use Rattle.line.specs.Lawful.{Laws}

-- an answer of the interleaver is one of the line below, at a place that moves to the answered one
interleaved_from : (bits : ℕ) (o : Option (ℕ × Bool)) (p : ℕ) (t : Bool) → interleaved bits o ≡ Some (p, t) → (k : ℕ) × (o ≡ Some (k, t)) × (moved bits k ≡ p)
interleaved_from bits None p t e = absurd cc
interleaved_from bits (Some (k, u)) p t e = (k, search rules, search rules)

-- an answer of the scrambler is one of the line below, at the same place
scrambled_from : (o : Option (ℕ × Bool)) (k : ℕ) (t : Bool) → scrambled o ≡ Some (k, t) → (u : Bool) × (o ≡ Some (k, u))
scrambled_from None k t e = absurd cc
scrambled_from (Some (p, u)) k t e = (u, search rules)

-- every coded bit has its own place
pub unpunctured_laws : Laws unpunctured_line
unpunctured_laws = record {
  within = λ l j k t e. search rules;
  apart = λ l i j k t u e f. search rules;
  filled = λ l k h. (k, false, sym (cond_below k l.bits _ _ h));
  ended = λ l j h. search rules;
}

module _ {L : Type 0} {below : Ghosts L} (laws : Laws below) where
  -- the places move among themselves
  pub interleaved_laws : Laws (interleaved_line below)
  interleaved_laws = record {
    within = λ l j p t e.
        let a = interleaved_from _ _ p t e in
        rw (← a.2) (moved_within _ _ (laws.within l.0 j a.0 t a.1));
    apart = λ l i j p t u e f.
        let a = interleaved_from _ _ p t e in
        let b = interleaved_from _ _ p u f in
        let s : a.0 ≡ b.0 = moved_apart _ _ _ (laws.within l.0 i a.0 t a.1) (laws.within l.0 j b.0 u b.1) (a.2 ∙ sym b.2) in
        laws.apart l.0 i j a.0 t u a.1 (rw s b.1);
    filled = λ l p h.
        let from = moved_onto _ p h in
        let at = laws.filled l.0 from.0 from.1 in
        (at.0, at.1, rw (at.2, from.2));
    ended = λ l j h. rw laws.ended;
  }

  -- the places stay
  pub scrambled_laws : Laws (scrambled_line below)
  scrambled_laws = record {
    within = λ l j k t e. let a = scrambled_from _ k t e in laws.within l.0 j k a.0 a.1;
    apart = λ l i j k t u e f.
        let a = scrambled_from _ k t e in
        let b = scrambled_from _ k u f in
        laws.apart l.0 i j k a.0 b.0 a.1 b.1;
    filled = λ l k h. let at = laws.filled l.0 k h in (at.0, sum at.1 (masking k), ap scrambled at.2);
    ended = λ l j h. ap scrambled (laws.ended l.0 j h);
  }
