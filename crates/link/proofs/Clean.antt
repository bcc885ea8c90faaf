-- A block that is heard as it was sent is answered as it was sent.
use Rattle.std.proofs.Common.{◌≡◌, ℕ, zero, suc, ◌+◌, ◌*◌, ◌%◌, ◌<◌, ◌≤◌, Bool, true, false, ◌||◌, cond, not, eqb, List, [], ◌∷◌, ◌++◌, map, reverse, length, get_or, drop, replicate, Some, None, Option, ◌⊎◌, ◌≢◌, sym, refl, ap, ◌∙◌, subst, ap₂, inl, inr, mod-lt, arith}
use Rattle.std.specs.List.{AllByRecursion, range_with_len, count_by}
use lib.Seq.{take_at}
use Rattle.std.proofs.lemmas.Bool.{and_parts, cases_lt, eqb-true, or_cases}
use Rattle.std.proofs.lemmas.List.{length-take-le}
use Rattle.std.proofs.lemmas.List.Sums.{sum_by-cons}
use Rattle.cost.specs.declared.kind.Cost as cost
use Rattle.cost.specs.Samples.{clean}
use Rattle.cost.proofs.Lawful.{Laws, clean_heard}
use Rattle.line.specs.declared.laying.Line as line
use Rattle.line.specs.Lawful as lines
use Rattle.trellis.specs.Bits.{odd, xor, bit_of}
use Rattle.trellis.proofs.Clean.{CleanOf, CleanAnswer}
use Rattle.trellis.specs.Coding.{coded_bit}
use Rattle.trellis.specs.Codes.{rows_of}
use Rattle.trellis.specs.Parity.{parity_of, with_parity}
use Rattle.trellis.proofs.Bitwise.{odd_bit, xor_comm}
use Rattle.trellis.proofs.Cleans.{heard_clean}
use Rattle.trellis.proofs.Parities.{with_parity_length}
use Rattle.trellis.proofs.Soundness.{sound_parts}
use Rattle.link.specs.declared.format.Format.{Format}
use Rattle.link.specs.declared.proposal.Proposal.{Proposal}
use Rattle.link.specs.declared.receiver.Receiver.{Receiver}
use Rattle.link.specs.declared.refusal.Group.TheVariants.{Air}
use Rattle.link.specs.BothEnds.{Alike, FirstRowSent, HeardClean, AsSent, AsSentBy, AllAsSent}
use Rattle.link.specs.Calls.{Memory, right, written, Reply, answer_due, silence}
use Rattle.link.specs.Due.{burst_of, placed, met_on, in_bursts, heard_of}
use Rattle.link.specs.Histories.{Best, AllSound}
use Rattle.link.specs.Opening.{Holds}
use Rattle.link.specs.Rules.{first, open_rules, between, steps_of, steps}
use Rattle.link.specs.Sending.{run_of}
use Rattle.link.specs.Streams.{BurstOf}
use Rattle.link.specs.Outcomes.{tells_block}
use Rattle.link.specs.Refusals.{tells, refusal}
use Rattle.link.proofs.FirstRule.{first_none, unless_none}
use Rattle.link.proofs.Parity.{Widths, run_right, written_run}
use Rattle.link.proofs.Streaming.{within}

-- what both ends agree on, beside the format: what opening has checked of it
pub record Agreed {L : Type 0} (l : line.Ghosts L) (f : Format L) : Type 0 where
  pub rows : length (rows_of f.code) ≡ f.code.rows
  pub lays : f.burst ≡ l.sent f.line
  pub coded : l.coded f.line ≡ f.code.rows * steps f
  pub parity : Widths f.parity

-- of numbers that all pass, all are counted
count_all : (test : ℕ → Bool) (from n : ℕ) → ((i : ℕ) → i < from + n → test i ≡ true) → count_by test (range_with_len from n) ≡ n
count_all test from zero all = refl
count_all test from (suc n) all =
    sum_by-cons (λ i. cond (test i) 1 0) from (range_with_len (from + 1) n)
    ∙ ap₂ (λ (t : Bool) (m : ℕ). cond t 1 0 + m) (all from (omega arith)) (count_all test (from + 1) n (λ i h. all i (omega arith))) ∙ omega arith

module _ {C S P L : Type 0} {k : cost.Ghosts C S P} (laws : Laws k) {l : line.Ghosts L} (line_laws : lines.Laws l) (f : Format L) (agreed : Agreed l f) where
  module _ (bursts : List (List S)) (b : ℕ) (sent : List (List ℕ)) (c : ℕ) (messages : List (List Bool))
      (right_bursts : (n : ℕ) → n < length sent → BurstOf l f messages n (get_or sent n [])) (heard : HeardClean k l f bursts b sent c) where
    -- the samples due to the block
    abbrev due : ℕ → S
    due = in_bursts k f bursts b

    -- the run sent
    abbrev run : List Bool
    run = run_of f (get_or messages c [])

    -- the sample due where a coded bit is sent is the clean one of that bit, turned where it is turned
    due_clean : (j p : ℕ) (turned : Bool) → l.place f.line j ≡ Some (p, turned) → due p ≡ clean k (xor (coded_bit f.code run j) turned)
    due_clean j p turned e =
        let inside = within line_laws f agreed.lays j p turned e in
        let low : p % f.depth < f.depth = mod-lt p (omega (arith, f.least_depth)) in
        let n = burst_of f c p in
        let carried = (right_bursts n (omega (arith, heard.ended))).carries j p c turned e refl in
        heard.clean p inside
        ∙ ap (λ byte. clean k (odd byte)) carried
        ∙ ap (clean k) (odd_bit (xor turned (coded_bit f.code run j)) ∙ xor_comm turned (coded_bit f.code run j))

    -- so what is met is clean
    met_clean : CleanOf k (coded_bit f.code run) (met_on l f.line due)
    met_clean j = by_place (l.place f.line j) refl
      where
        by_place : (at : Option (ℕ × Bool)) → l.place f.line j ≡ at → AllByRecursion (λ m. m.0 ≡ clean k (xor (coded_bit f.code run j) m.1)) (placed due at)
        by_place None e = tt
        by_place (Some (p, turned)) e = (due_clean j p turned e, tt)

    -- what a coded bit that is sent meets is not nothing
    met_some : (j p : ℕ) (turned : Bool) → l.place f.line j ≡ Some (p, turned) → met_on l f.line due j ≢ []
    met_some j p turned e none =
        let is : ◌≡◌ {A = List (S × Bool)} ((due p, turned) ∷ []) [] = sym (ap (placed due) e) ∙ none in
        absurd (let z : ◌≡◌ {A = ℕ} 0 1 = cc in omega arith)

    -- every place was heard
    all_heard : heard_of k due f.burst ≡ f.burst
    all_heard = count_all (λ p. not (k.silent (due p))) 0 f.burst (λ p below.
        let h : p < f.burst = omega arith in
        let bit = odd (get_or (get_or sent (burst_of f c p) []) p 0) in
        ap (λ s. not (k.silent s)) (heard.clean p h) ∙ ap not (clean_heard laws bit))

    module _ (whole : length (get_or messages c []) ≡ f.message) where
      -- the message sent
      abbrev message : List Bool
      message = get_or messages c []

      -- the run has its length
      run_long : length run + f.code.memory ≡ steps f
      run_long = let long = with_parity_length f.parity message in omega (arith, long, whole)

      module _ (path : List Bool) (answered : answer_due k l f due ≡ Some path) where
        -- what the rule's answer is
        answer : CleanAnswer k f.code (met_on l f.line due) (steps f) run path
        answer = heard_clean laws f.code f.codes agreed.rows (met_on l f.line due) (steps f) run path run_long met_clean answered

        -- it sends the same bits
        same_bits : (j p : ℕ) (turned : Bool) → l.place f.line j ≡ Some (p, turned) → coded_bit f.code (reverse path) j ≡ coded_bit f.code run j
        same_bits j p turned e = answer.as_sent j (below (cases_lt j (l.coded f.line))) (met_some j p turned e)
          where
            below : ((j < l.coded f.line) ⊎ (l.coded f.line ≤ j)) → j < f.code.rows * steps f
            below (inl h) = omega (arith, h, agreed.coded)
            below (inr h) = let unsent = line_laws.ended f.line j h in absurd (let z : ◌≡◌ {A = ℕ} 0 1 = cc in omega arith)

        -- where every first-row bit is sent, it is the run
        same_run : FirstRowSent l f → path ≡ replicate f.code.memory false ++ reverse run
        same_run first_row = answer.whole (λ t h. let at = first_row t h in met_some (f.code.rows * t) at.0 at.1 at.2)

        module _ (is : path ≡ replicate f.code.memory false ++ reverse run) where
          -- the message is the one that is written
          run_message : (block : List ℕ) → written f path block ≡ map bit_of message ++ drop f.message block
          run_message block =
              let long : f.message ≤ length run = let wide = with_parity_length f.parity message in omega (arith, wide, whole) in
              written_run f path run is long block
              ∙ ap (λ bits. map bit_of bits ++ drop f.message block) (take_at message (parity_of f.parity message) f.message whole)

      -- so it is answered as it was sent
      pub as_sent : (block : List ℕ) (reply : Reply k l) (block' : List ℕ) → Best k l f bursts b block reply block' →
          AsSent k l f bursts b message block reply block'
      as_sent block reply block' best = record {
        path = best.path;
        rule = best.rule;
        costless = own.costless;
        same = same_bits best.path best.rule;
        told = best.told ∙ (λ i. Some (tells_block b (own.costless i) (all_heard i)));
        refused = (replies (right f best.path) refl).0;
        wrote = (replies (right f best.path) refl).1;
        whole = λ first_row. let is = same_run best.path best.rule first_row in (is, right_path is);
        reported = λ first_row.
            let is = same_run best.path best.rule first_row in
            let now = replies true (right_path is) in
            (now.0, now.1 ∙ run_message best.path best.rule is block);
      }
        where
          own : CleanAnswer k f.code (met_on l f.line due) (steps f) run best.path
          own = answer best.path best.rule

          right_path : best.path ≡ replicate f.code.memory false ++ reverse run → right f best.path ≡ true
          right_path is = run_right f best.path run is agreed.parity message refl

          replies : (t : Bool) → right f best.path ≡ t →
              (refusal reply ≡ cond t None (Some (tells 11 Air 0))) × (block' ≡ cond t (written f best.path block) block)
          replies true e = let now = best.reported e in (now.1, now.2 ∙ sym (written_run f best.path best.run best.own (omega (arith, best.long)) block))
          replies false e = let now = best.refused e in (now.1, now.2)

-- the burst of one format is that of another like it
burst_alike : {L : Type 0} (l : line.Ghosts L) (f g : Format L) → Alike l f g → (messages : List (List Bool)) (n : ℕ) (burst : List ℕ) →
    BurstOf l f messages n burst →
    BurstOf l g messages n burst
burst_alike l f g alike messages n burst o = record {
  whole = o.whole ∙ alike.burst;
  carries = λ j k b turned e due.
      o.carries j k b turned (alike.places j ∙ e) (ap (λ d. b + k % d) alike.depth ∙ due)
      ∙ ap₂ (λ code width. bit_of (xor turned (coded_bit code (with_parity width (get_or messages b [])) j))) alike.code alike.parity;
  before = λ j k turned e h. o.before j k turned (alike.places j ∙ e) (subst (λ d. n < k % d) (sym alike.depth) h);
}

-- what opening has checked is what both ends agree on
pub agreed_on : {L : Type 0} (l : line.Ghosts L) (a : Proposal L) (f : Format L) → length a.code.taps ≡ 5 → first (open_rules l a) ≡ None →
    Holds l a f → Agreed l f
agreed_on l a f five none holds =
    let rules = first_none (open_rules l a) none in
    let coded = a.code.rows * steps_of a.code a.message a.parity in
    let lengths = and_parts (between 1 512 a.message) _ (unless_none _ _ rules.1.0) in
    let parity = and_parts (eqb a.parity 0 || eqb a.parity 16) _ lengths.1 in
    let lays = and_parts (l.suited a.line) _ (unless_none _ _ rules.1.1.0) in
    let sizes = and_parts (between 1 2048 (l.coded a.line)) _ lays.1 in
    let size = and_parts (between 1 1024 (l.sent a.line)) (eqb (l.coded a.line) coded) sizes.1 in
    let code = sound_parts f.code f.codes in
    let taps : length f.code.taps ≡ 5 = ap (λ c. length c.taps) holds.code ∙ five in
    record {
      rows = length-take-le f.code.rows f.code.taps (omega (arith, code.rows_few, taps));
      lays = holds.burst ∙ ap l.sent (sym holds.line);
      coded = ap l.coded holds.line ∙ eqb-true (l.coded a.line) coded size.1
          ∙ (λ i. (sym holds.code i).rows * steps_of (sym holds.code i) (sym holds.message i) (sym holds.parity i));
      parity = elim (or_cases (eqb a.parity 0) (eqb a.parity 16) parity.0) [
        | inl e ↦ inl (holds.parity ∙ eqb-true a.parity 0 e)
        | inr e ↦ inr (holds.parity ∙ eqb-true a.parity 16 e)
      ];
    }

module _ {C S P L : Type 0} {k : cost.Ghosts C S P} (laws : Laws k) {l : line.Ghosts L} (line_laws : lines.Laws l) (opened : Receiver C L S P)
    (agreed : Agreed l opened.format) (sound : AllSound k l opened) where
  -- where a call decides the block that it ends as claimed, it answers what was heard clean as it was sent
  decided_as_sent : (bursts : List (List S)) (samples : List S) (m m' : Memory S P) (reply : Reply k l) →
      ((b : ℕ) → b + opened.format.depth ≡ length bursts + 1 → Best k l opened.format (bursts ++ (samples ∷ [])) b m.block reply m'.block) →
      AsSentBy k l opened bursts samples m reply m'
  decided_as_sent bursts samples m m' reply decides f messages sent alike stream b c ends heard =
      let g = opened.format in
      let some = g.least_depth in
      let within : c < length messages = omega (arith, stream.as_many, heard.ended) in
      as_sent laws line_laws g agreed (bursts ++ (samples ∷ [])) b sent c messages
      (λ n h. let early : n < length messages = omega (arith, stream.as_many) in burst_alike l f g alike messages n (get_or sent n []) (stream.each n early))
      heard (stream.lengths c within ∙ alike.message) m.block reply m'.block (decides b ends)

  -- every block that is heard clean is answered as it was sent
  pub all_as_sent : AllAsSent k l opened
  all_as_sent = record {
    hears = λ r r' bursts samples m m' reply past hears none.
        decided_as_sent bursts samples m m' reply ((sound.hears r r' bursts samples m m' reply past hears).decides none);
    misses = λ r r' bursts m m' reply past misses none.
        decided_as_sent bursts (silence k l opened.format) m m' reply ((sound.misses r r' bursts m m' reply past misses).decides none);
  }
