-- A block that is decided on the samples due in the list of bursts is told as claimed: by the rule's answer, which costs least.
use Rattle.std.proofs.Common.{◌≡◌, ℕ, ◌+◌, Bool, true, false, List, ◌++◌, reverse, length, drop, replicate, Some, sym, ap, ◌∙◌, arith}
use Rattle.std.proofs.lemmas.List.{length-drop, length-reverse, reverse-reverse}
use Rattle.std.proofs.lemmas.Bool.{cond-true, cond-false}
use Rattle.cost.specs.declared.kind.Cost as cost
use Rattle.cost.proofs.Lawful.{Laws}
use Rattle.line.specs.declared.laying.Line as line
use Rattle.trellis.specs.Codes.{rows_of}
use Rattle.trellis.proofs.Leasts.{answered_least}
use Rattle.trellis.proofs.Soundness.{sound_parts}
use Rattle.trellis.proofs.Survivors.{answer_length, answer_closes}
use Rattle.link.specs.declared.format.Format.{Format}
use Rattle.link.specs.Calls.{right, Reply, cost_due, answer_due, Decides}
use Rattle.link.specs.Due.{met_on, in_bursts}
use Rattle.link.specs.Histories.{Best, WholeBursts}
use Rattle.link.specs.Rules.{steps}
use Rattle.link.proofs.KeptBursts.{met_fit, due_fit}
use Rattle.link.proofs.Parity.{Widths, written_run, right_run, wrong_run}

module _ {C S P L : Type 0} {k : cost.Ghosts C S P} (laws : Laws k) (l : line.Ghosts L) (f : Format L) where
  -- where what is due is fit, no run costs less than the rule's answer
  answer_cheapest : (due : ℕ → S) → ((p : ℕ) → k.fit (due p) ≡ true) → (path : List Bool) → answer_due k l f due ≡ Some path →
      (run : List Bool) → length run ≡ f.message + f.parity →
      k.le (cost_due k l f due path) (cost_due k l f due (replicate f.code.memory false ++ reverse run)) ≡ true
  answer_cheapest due fit path answered run long =
      let code = sound_parts f.code f.codes in
      answered_least laws (rows_of f.code) (met_on l f.line due) (met_fit k l f.line due fit) f.code.memory code.taps_below code.some_memory (steps f) (omega arith)
      path answered (reverse run) (simp length-reverse (omega arith))

  -- the rule's answer is the path of a run that zeros close
  record Own (path : List Bool) : Type 0 where
    run : List Bool
    long : length run ≡ f.message + f.parity
    own : path ≡ replicate f.code.memory false ++ reverse run

  answer_own : (due : ℕ → S) (path : List Bool) → answer_due k l f due ≡ Some path → Own path
  answer_own due path answered =
      let rows = rows_of f.code in
      let met = met_on l f.line due in
      let bits = answer_length k rows met f.code.memory (steps f) path answered in
      let closes = answer_closes k rows met f.code.memory (steps f) path (omega arith) answered in
      let left = drop f.code.memory path in
      record {
        run = reverse left;
        long = simp (length-reverse, length-drop) (omega arith);
        own = closes ∙ ap (λ run. replicate f.code.memory false ++ run) (sym (reverse-reverse left));
      }

  -- a block decided on what is due in whole bursts is told as claimed
  pub best : Widths f.parity → (bursts : List (List S)) → WholeBursts k l f bursts → (b : ℕ) (block : List ℕ) (reply : Reply k l) (block' : List ℕ) →
      Decides k l f (in_bursts k f bursts b) b block reply block' → Best k l f bursts b block reply block'
  best widths bursts whole b block reply block' d =
      let due = in_bursts k f bursts b in
      let mine = answer_own due d.path d.answered in
      record {
        path = d.path;
        rule = d.answered;
        run = mine.run;
        long = mine.long;
        own = mine.own;
        least = answer_cheapest due (due_fit k l f laws bursts whole b) d.path d.answered;
        told = d.told;
        reported = λ h. (
          right_run f d.path mine.run mine.own mine.long widths h,
          d.refused ∙ cond-true (right f d.path) _ _ h,
          d.wrote ∙ cond-true (right f d.path) _ _ h ∙ written_run f d.path mine.run mine.own (omega (arith, mine.long)) block,
        );
        refused = λ h. (
          wrong_run f d.path mine.run mine.own mine.long widths h,
          d.refused ∙ cond-false (right f d.path) _ _ h,
          d.wrote ∙ cond-false (right f d.path) _ _ h,
        );
      }
