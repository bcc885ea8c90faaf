-- What a call that takes a burst in replies: that it waits, or the block that the burst ends, with its parity right or wrong.
use Rattle.std.proofs.Common.{◌≡◌, ℕ, ◌+◌, ◌-◌, ◌<◌, ◌≤◌, true, false, eqb, ◌⊎◌, List, [], ◌∷◌, ◌++◌, length, Some, None, Ok, Err, sym, refl, ap, ◌∙◌, subst, inl, inr, arith}
use Rattle.std.proofs.lemmas.List.{length_push}
use Rattle.std.proofs.lemmas.Bool.{both_ways, cases_lt, cases_Bool, cond-true, cond-false}
use Rattle.cost.specs.declared.kind.Cost as cost
use Rattle.cost.proofs.Lawful.{Laws}
use Rattle.line.specs.declared.laying.Line as line
use Rattle.trellis.specs.Decoding.{Freed}
use Rattle.link.specs.declared.format.Format.{Format}
use Rattle.link.specs.declared.receiver.Receiver.{Receiver}
use Rattle.link.specs.declared.refusal.Group.TheVariants.{Air}
use Rattle.link.specs.declared.refusal.Refusal.{Refusal}
use Rattle.link.specs.declared.refusal.Refusal.TheVariants.{WrongParity}
use Rattle.link.specs.declared.report.Report.{Report}
use Rattle.link.specs.Calls.{Memory, right, Reply, cost_due, Decides, Waits, Takes}
use Rattle.link.specs.Due.{stored, in_ring, heard_of}
use Rattle.link.specs.Histories.{counts, Best}
use Rattle.link.specs.Outcomes.{Outcome, tells_burst, tells_block, of_refusal, outcome}
use Rattle.link.specs.Refusals.{Told, tells, told, refusal}
use Rattle.link.proofs.Best.{best}
use Rattle.link.proofs.FirstRule.{Uncounted, some_none}
use Rattle.link.proofs.KeptBursts.{Keeps, due_same}
use Rattle.link.proofs.Parity.{Widths}

module _ {C S P : Type 0} where
  -- a refusal tells of a block where it is of parity
  refused_parity : (x : Refusal (Report C S P)) (o : Outcome C) → of_refusal x ≡ Some o → told x ≡ tells 11 Air 0
  refused_parity (WrongParity report) o e = refl
  refused_parity _ o e = absurd (some_none (sym e))

  -- and of none where it is not
  refused_untold : (x : Refusal (Report C S P)) → Uncounted (told x) → of_refusal x ≡ None
  refused_untold (WrongParity report) other = absurd (both_ways true other refl)
  refused_untold _ other = refl

  -- none tells a burst
  no_burst : (x : Refusal (Report C S P)) (n : ℕ) → of_refusal x ≡ Some (tells_burst n) → ⊥
  no_burst (WrongParity report) n e = let z : ◌≡◌ {A = ℕ} 0 1 = cc in omega arith
  no_burst _ n e = some_none (sym e)

module _ {C S P L : Type 0} (k : cost.Ghosts C S P) (l : line.Ghosts L) where
  -- a reply that tells something counts the burst
  told_counts : (reply : Reply k l) (o : Outcome C) → outcome reply ≡ Some o → counts k l reply ≡ true
  told_counts (Ok answer) o e = refl
  told_counts (Err x) o e = ap (λ t. eqb t.number 11) (refused_parity x o e)

  -- one that tells a burst refuses nothing
  burst_accepted : (reply : Reply k l) (n : ℕ) → outcome reply ≡ Some (tells_burst n) → refusal reply ≡ None
  burst_accepted (Ok answer) n e = refl
  burst_accepted (Err x) n e = absurd (no_burst x n e)

  -- one that is refused, and not for parity, does not count it
  pub refused_counts : (reply : Reply k l) (t : Told) → Uncounted t → refusal reply ≡ Some t → counts k l reply ≡ false
  refused_counts (Ok answer) t other e = absurd (some_none (sym e))
  refused_counts (Err x) t other e = let same : told x ≡ t = cc in ap (λ u. eqb u.number 11) same ∙ other

  -- and tells nothing
  pub refused_tells : (reply : Reply k l) (t : Told) → Uncounted t → refusal reply ≡ Some t → outcome reply ≡ None
  refused_tells (Ok answer) t other e = absurd (some_none (sym e))
  refused_tells (Err x) t other e = let same : told x ≡ t = cc in refused_untold x (ap (λ u. eqb u.number 11) same ∙ other)

  -- what a call that takes a burst in does, by the format and the number of bursts counted before it
  pub record Taken (f : Format L) (n : ℕ) (samples : List S) (m : Memory S P) (reply : Reply k l) (m' : Memory S P) : Type 0 where
    pub ring : m'.ring ≡ stored f n samples m.ring
    pub waits : n + 1 < f.depth → Waits k l n m reply m'
    pub decides : f.depth ≤ n + 1 → Decides k l f (in_ring k f m'.ring (n + 1 - f.depth)) (n + 1 - f.depth) m.block reply m'.block
    pub frees : f.depth ≤ n + 1 → Freed m.costs m'.costs × Freed m.paths m'.paths

  -- that is what it does, where it is the receiver's format and count
  pub taken : (f : Format L) (n : ℕ) (samples : List S) (r r' : Receiver C L S P) (m m' : Memory S P) (reply : Reply k l) →
      r.format ≡ f → r.counted ≡ n → Takes k l samples r m reply r' m' → Taken f n samples m reply m'
  taken f n samples r r' m m' reply same count t =
      subst (λ c. Taken f c samples m reply m') count
      (subst (λ g. Taken g r.counted samples m reply m') same (record {
        ring = t.ring;
        waits = λ h. let w = t.counts.waits h in record { told = w.told; costs = w.costs; paths = w.paths; block = w.block };
        decides = t.counts.decides;
        frees = t.counts.frees;
      }))

  -- the two replies to a burst that was taken in: that it waits, and the block that it ends, refused if its parity is wrong
  pub data Replied (f : Format L) (n : ℕ) (reply : Reply k l) : Type 0 where
    waiting : n + 1 < f.depth → outcome reply ≡ Some (tells_burst n) → refusal reply ≡ None → Replied f n reply
    decided : (b : ℕ) (cost : C) (heard : ℕ) → b + f.depth ≡ n + 1 → outcome reply ≡ Some (tells_block b cost heard) →
        (refusal reply ≡ None) ⊎ (refusal reply ≡ Some (tells 11 Air 0)) → Replied f n reply

  -- one of them is given
  pub replied : (f : Format L) (n : ℕ) (samples : List S) (m m' : Memory S P) (reply : Reply k l) → Taken f n samples m reply m' → Replied f n reply
  replied f n samples m m' reply t = elim (cases_lt (n + 1) f.depth) [
    | inl h ↦ let told = (t.waits h).told in waiting h told (burst_accepted reply n told)
    | inr h ↦ by_parity h (t.decides h)
  ]
    where
      by_parity : f.depth ≤ n + 1 → Decides k l f (in_ring k f m'.ring (n + 1 - f.depth)) (n + 1 - f.depth) m.block reply m'.block → Replied f n reply
      by_parity h d =
          let due = in_ring k f m'.ring (n + 1 - f.depth) in
          decided (n + 1 - f.depth) (cost_due k l f due d.path) (heard_of k due f.burst) (omega arith) d.told (elim (cases_Bool (right f d.path)) [
            | inl e ↦ inl (d.refused ∙ cond-true _ _ _ e)
            | inr e ↦ inr (d.refused ∙ cond-false _ _ _ e)
          ])

  -- each of them counts the burst
  pub replied_counts : (f : Format L) (n : ℕ) (reply : Reply k l) → Replied f n reply → counts k l reply ≡ true
  replied_counts f n reply (waiting h e none) = told_counts reply (tells_burst n) e
  replied_counts f n reply (decided b cost heard at e by) = told_counts reply (tells_block b cost heard) e

  -- the only refusal among them is that of parity
  pub replied_refuses : (f : Format L) (n : ℕ) (reply : Reply k l) → Replied f n reply → (t : Told) → refusal reply ≡ Some t → t ≡ tells 11 Air 0
  replied_refuses f n reply (waiting h e none) t q = absurd (some_none (sym q ∙ none))
  replied_refuses f n reply (decided b cost heard at e (inl none)) t q = absurd (some_none (sym q ∙ none))
  replied_refuses f n reply (decided b cost heard at e (inr parity)) t q = cc

  -- the block told is the one that the burst ends
  pub replied_timely : (f : Format L) (n : ℕ) (reply : Reply k l) → Replied f n reply → (b : ℕ) (cost : C) (heard : ℕ) →
      outcome reply ≡ Some (tells_block b cost heard) → b + f.depth ≡ n + 1
  replied_timely f n reply (waiting h e none) b cost heard q = let z : ◌≡◌ {A = ℕ} 0 1 = cc in absurd (omega arith)
  replied_timely f n reply (decided b cost heard at e by) b' cost' heard' q = let same : b' ≡ b = cc in ap (λ n. n + f.depth) same ∙ at

  -- it waits only while the first block's bursts are not all there, and tells the burst's number
  pub replied_waits : (f : Format L) (n : ℕ) (reply : Reply k l) → Replied f n reply → (burst : ℕ) → outcome reply ≡ Some (tells_burst burst) → (burst ≡ n) × (n + 1 < f.depth)
  replied_waits f n reply (waiting h e none) burst q = (cc, h)
  replied_waits f n reply (decided b cost heard at e by) burst q = let z : ◌≡◌ {A = ℕ} 0 1 = cc in absurd (omega arith)

  -- where the burst has been stored, the block that it ends is told as claimed
  pub taken_best : Laws k → (f : Format L) → Widths f.parity → (bursts : List (List S)) (samples : List S) (m m' : Memory S P) (reply : Reply k l) →
      Taken f (length bursts) samples m reply m' → Keeps k l f m'.ring (bursts ++ (samples ∷ [])) →
      (b : ℕ) → b + f.depth ≡ length bursts + 1 → Best k l f (bursts ++ (samples ∷ [])) b m.block reply m'.block
  taken_best laws f widths bursts samples m m' reply t keeps b ends =
      let all = bursts ++ (samples ∷ []) in
      let same : length bursts + 1 - f.depth ≡ b = omega arith in
      let here = subst (λ c. Decides k l f (in_ring k f m'.ring c) c m.block reply m'.block) same (t.decides (omega arith)) in
      let due = due_same k l f m'.ring all keeps b (ends ∙ sym (length_push bursts samples)) in
      best laws l f widths all keeps.whole b m.block reply m'.block (subst (λ d. Decides k l f d b m.block reply m'.block) due here)
