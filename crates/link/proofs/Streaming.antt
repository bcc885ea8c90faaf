-- Every history of a sender is sound: the ring keeps the bits of the last blocks, so each burst carries those of the blocks that it is due to.
use Rattle.std.proofs.Common.{◌≡◌, ℕ, ◌+◌, ◌-◌, ◌*◌, ◌%◌, ◌<◌, ◌≤◌, Bool, true, false, cond, ◌&&◌, leb, List, [], ◌∷◌, ◌++◌, map, length, get_or, take, drop, Some, None, Ok, Err, Option, sym, refl, ap, ◌∙◌, subst, inl, inr, mod-lt, arith}
use Rattle.std.proofs.Math.Seq.{take-append_seam}
use Rattle.std.proofs.lemmas.Bool.{cases_eq, cases_lt, eqb-true, leb-true, le-leb, lt-leb}
use Rattle.std.proofs.lemmas.List.{ext_get_or, get_or_append_left, get_or_push, length-map, length_push}
use Rattle.line.specs.declared.laying.Line as line
use Rattle.line.specs.Lawful.{Laws}
use Rattle.trellis.specs.Bits.{odd, xor, bit_of}
use Rattle.trellis.specs.Coding.{coded_bit}
use Rattle.trellis.proofs.Bitwise.{xor_none}
use Rattle.link.specs.declared.format.Format.{Format}
use Rattle.link.specs.declared.sender.Sender.{Sender}
use Rattle.link.specs.Due.{burst_of, cell, stored}
use Rattle.link.specs.Refusals.{Told, refusal}
use Rattle.link.specs.Rules.{first, send_rules}
use Rattle.link.specs.Sending.{SenderMemory, sender_sizes, SendReply, run_of, carried, BlockByPlace, BurstFromRing, Sent, SendsBy}
use Rattle.link.specs.Streams.{accepted, sending, Stream, begun, sends, BurstOf, StreamOf, StreamSound, AllStreams}
use Rattle.link.proofs.FirstRule.{first_none, unless_none, some_none}
use Rattle.link.proofs.Rings.{stored_own, stored_other}

-- a send that is refused is not accepted
refused_accepted : (reply : SendReply) (t : Told) → refusal reply ≡ Some t → accepted reply ≡ false
refused_accepted (Ok n) t e = absurd (some_none (sym e))
refused_accepted (Err x) t e = refl

-- a bit's byte is read as the bit
read_bit : (x : Bool) → leb 1 (bit_of x) ≡ x
read_bit true = refl
read_bit false = refl

module _ {L : Type 0} {l : line.Ghosts L} (laws : Laws l) (f : Format L) (lays : f.burst ≡ l.sent f.line) where
  -- a burst place that is answered is one of the burst's
  pub within : (j k : ℕ) (turned : Bool) → l.place f.line j ≡ Some (k, turned) → k < f.burst
  within j k turned e = let h = laws.within f.line j k turned e in omega (arith, lays)

  -- coded bit j of block b
  abbrev block_bit : List (List Bool) → ℕ → ℕ → Bool
  block_bit messages b j = coded_bit f.code (run_of f (get_or messages b [])) j

  -- the ring keeps the bits of the last `depth` blocks
  abbrev KeepsBlocks : List ℕ → List (List Bool) → Type 0
  KeepsBlocks ring messages =
      (i j k : ℕ) (turned : Bool) → i < length messages → length messages ≤ i + f.depth → l.place f.line j ≡ Some (k, turned) →
      get_or ring (cell f i k) 0 ≡ bit_of (block_bit messages i j)

  -- and of one more, where it is stored
  keeps_block : (ring block : List ℕ) (messages : List (List Bool)) (message : List Bool) → KeepsBlocks ring messages → f.depth * f.burst ≤ length ring →
      BlockByPlace l f message block → KeepsBlocks (stored f (length messages) block ring) (messages ++ (message ∷ []))
  keeps_block ring block messages message keeps enough laid i j k turned h near e = elim (cases_eq i (length messages)) [
    | inl same ↦
        ap (λ b. get_or (stored f n block ring) (cell f b k) 0) same
        ∙ stored_own f n block ring 0 laid.whole enough k inside
        ∙ laid.bits j k turned e inside
        ∙ ap (λ m. bit_of (coded_bit f.code (run_of f m) j)) (sym (get_or_push messages message [] i (sym same)))
    | inr other ↦
        stored_other f n block ring 0 laid.whole enough i k (omega (arith, more)) (omega (arith, more)) inside
        ∙ keeps i j k turned (omega (arith, more)) (omega (arith, more)) e
        ∙ ap (λ m. bit_of (coded_bit f.code (run_of f m) j)) (sym (get_or_append_left messages (message ∷ []) [] i (omega (arith, more))))
  ]
    where
      n : ℕ
      n = length messages

      more : length (messages ++ (message ∷ [])) ≡ length messages + 1
      more = length_push messages message

      inside : k < f.burst
      inside = within j k turned e

  -- what a burst carries of a block that the ring keeps
  carried_kept : (ring : List ℕ) (messages : List (List Bool)) (n b j k : ℕ) (turned : Bool) → KeepsBlocks ring messages → length messages ≡ n + 1 →
      l.place f.line j ≡ Some (k, turned) → burst_of f b k ≡ n → carried f ring n k ≡ block_bit messages b j
  carried_kept ring messages n b j k turned keeps many e due =
      let d = k % f.depth in
      let low : d < f.depth = mod-lt k (omega (arith, f.least_depth)) in
      let back : n - d ≡ b = omega arith in
      let read : get_or ring (cell f (n - d) k) 0 ≡ bit_of (block_bit messages b j) =
      ap (λ m. get_or ring (cell f m k) 0) back ∙ keeps b j k turned (omega arith) (omega arith) e in
      ap (λ t. t && leb 1 (get_or ring (cell f (n - d) k) 0)) (le-leb d n (omega arith)) ∙ ap (leb 1) read ∙ read_bit (block_bit messages b j)

  -- and of a block that is not there
  carried_none : (ring : List ℕ) (n k : ℕ) → n < k % f.depth → carried f ring n k ≡ false
  carried_none ring n k h = ap (λ t. t && leb 1 (get_or ring (cell f (n - k % f.depth) k) 0)) (lt-leb (k % f.depth) n h)

  -- so a burst that takes its bits from the ring is the burst of its number
  spread_burst : (ring burst : List ℕ) (messages : List (List Bool)) (n : ℕ) → KeepsBlocks ring messages → length messages ≡ n + 1 →
      BurstFromRing l f n ring burst → BurstOf l f messages n burst
  spread_burst ring burst messages n keeps many spread = record {
    whole = spread.whole;
    carries = λ j k b turned e due.
        spread.bits j k turned e (within j k turned e)
        ∙ ap (λ x. bit_of (xor turned x)) (carried_kept ring messages n b j k turned keeps many e due);
    before = λ j k turned e h.
        spread.bits j k turned e (within j k turned e)
        ∙ ap (λ x. bit_of (xor turned x)) (carried_none ring n k h) ∙ ap bit_of (xor_none turned);
  }

  -- which it stays when more messages are sent
  burst_stays : (messages more : List (List Bool)) (n : ℕ) (burst : List ℕ) → n < length messages → BurstOf l f messages n burst →
      BurstOf l f (messages ++ more) n burst
  burst_stays messages more n burst h b = record {
    whole = b.whole;
    carries = λ j k i turned e due.
        b.carries j k i turned e due
        ∙ ap (λ m. bit_of (xor turned (coded_bit f.code (run_of f m) j))) (sym (get_or_append_left messages more [] i (omega arith)));
    before = b.before;
  }

  -- what every history leaves
  record Invariant (s : Sender L) (ring : List ℕ) (messages : List (List Bool)) (bursts : List (List ℕ)) : Type 0 where
    format : s.format ≡ f
    counted : s.counted ≡ length messages
    keeps : KeepsBlocks ring messages
    puts : StreamOf l f messages bursts

  -- where no rule of a send is broken, the ring has room for the blocks
  room : (g : Format L) (m : SenderMemory) (counted : ℕ) (message : List ℕ) → first (send_rules g (sender_sizes m) counted message) ≡ None →
      g.depth * g.burst ≤ length m.ring
  room g m counted message e = leb-true (g.depth * g.burst) (length m.ring) (unless_none _ _ (first_none (send_rules g (sender_sizes m) counted message) e).0)

  -- and the message is as long as the format has it
  long : (g : Format L) (m : SenderMemory) (counted : ℕ) (message : List ℕ) → first (send_rules g (sender_sizes m) counted message) ≡ None →
      length (map odd message) ≡ g.message
  long g m counted message e =
      length-map message odd ∙ eqb-true (length message) g.message (unless_none _ _ (first_none (send_rules g (sender_sizes m) counted message) e).1.1.1.0)

  -- one send
  module _ (s s' : Sender L) (message : List ℕ) (m m' : SenderMemory) (reply : SendReply) (messages : List (List Bool)) (bursts : List (List ℕ))
      (before : Invariant s m.ring messages bursts) where
    -- the messages with this one
    abbrev messages' : List (List Bool)
    messages' = messages ++ (map odd message ∷ [])

    many : length messages' ≡ length messages + 1
    many = length_push messages (map odd message)

    module _ (none : first (send_rules s.format (sender_sizes m) s.counted message) ≡ None) (sent : Sent l message s m reply s' m') where
      -- the ring keeps its block
      kept : KeepsBlocks m'.ring messages'
      kept =
          let enough : f.depth * f.burst ≤ length m.ring = subst (λ g. g.depth * g.burst ≤ length m.ring) before.format (room s.format m s.counted message none) in
          let laid = subst (λ g. BlockByPlace l g (map odd message) sent.block) before.format sent.interleaved in
          let is : m'.ring ≡ stored f (length messages) sent.block m.ring = sent.ring ∙ (λ i. stored (before.format i) (before.counted i) sent.block m.ring) in
          subst (λ ring. KeepsBlocks ring messages') (sym is) (keeps_block m.ring sent.block messages (map odd message) before.keeps enough laid)

      -- and the burst is that of its number
      this_burst : BurstOf l f messages' (length messages) sent.burst
      this_burst = spread_burst m'.ring sent.burst messages' (length messages) kept many
          (subst (λ g. BurstFromRing l g (length messages) m'.ring sent.burst) before.format
          (subst (λ n. BurstFromRing l s.format n m'.ring sent.burst) before.counted sent.spread))

      -- which is read at the front of the burst memory
      front : take s.format.burst m'.burst ≡ sent.burst
      front = (λ i. take (sym sent.spread.whole i) (sent.put i)) ∙ take-append_seam sent.burst (drop (0 + length sent.burst) m.burst)

      -- each burst is that of its number
      right_more : (n : ℕ) → n < length messages' → BurstOf l f messages' n (get_or (bursts ++ (take s.format.burst m'.burst ∷ [])) n [])
      right_more n h = elim (cases_eq n (length messages)) [
        | inl same ↦
            let last : length bursts ≡ n = omega (arith, before.puts.as_many) in
            let read = get_or_push bursts (take s.format.burst m'.burst) [] n last ∙ front in
            subst (BurstOf l f messages' n) (sym read) (subst (λ k. BurstOf l f messages' k sent.burst) (sym same) this_burst)
        | inr other ↦
            let early : n < length messages = omega (arith, many) in
            let read = get_or_append_left bursts (take s.format.burst m'.burst ∷ []) [] n (omega (arith, before.puts.as_many)) in
            subst (BurstOf l f messages' n) (sym read) (burst_stays messages (map odd message ∷ []) n (get_or bursts n []) early (before.puts.each n early))
      ]

      -- each message is as long as the format has it
      lengths_more : (b : ℕ) → b < length messages' → length (get_or messages' b []) ≡ f.message
      lengths_more b h = elim (cases_eq b (length messages)) [
        | inl same ↦ ap length (get_or_push messages (map odd message) [] b (sym same)) ∙ long s.format m s.counted message none ∙ ap (λ g. g.message) before.format
        | inr other ↦
            let early : b < length messages = omega (arith, many) in
            ap length (get_or_append_left messages (map odd message ∷ []) [] b early) ∙ before.puts.lengths b early
      ]

      -- the invariant is kept
      sent_invariant : Invariant s' m'.ring messages' (bursts ++ (take s.format.burst m'.burst ∷ []))
      sent_invariant = record {
        format = sent.format ∙ before.format;
        counted = sent.counted ∙ ap (λ n. n + 1) before.counted ∙ sym many;
        keeps = kept;
        puts = record {
          lengths = lengths_more;
          as_many = length_push bursts (take s.format.burst m'.burst) ∙ ap (λ n. n + 1) before.puts.as_many ∙ sym many;
          each = right_more;
        };
      }

    -- a send keeps the invariant
    sends_invariant : (rules : Option Told) → first (send_rules s.format (sender_sizes m) s.counted message) ≡ rules →
        SendsBy l rules message s m reply s' m' →
        Invariant s' m'.ring (sending reply (map odd message) messages) (sending reply (take s.format.burst m'.burst) bursts)
    sends_invariant (Some t) is refused =
        subst (λ sent. Invariant s' m'.ring (cond sent messages' messages) (cond sent (bursts ++ (take s.format.burst m'.burst ∷ [])) bursts)) (sym (refused_accepted reply t refused.replied))
        (subst (λ y. Invariant y m'.ring messages bursts) (sym refused.sender) (subst (λ y. Invariant s y.ring messages bursts) (sym refused.memory) before))
    sends_invariant None is sent =
        subst (λ r. Invariant s' m'.ring (sending r (map odd message) messages) (sending r (take s.format.burst m'.burst) bursts)) (sym sent.replied)
        (sent_invariant is sent)

    -- and does what is claimed
    sends_sound : (rules : Option Told) → first (send_rules s.format (sender_sizes m) s.counted message) ≡ rules →
        SendsBy l rules message s m reply s' m' →
        StreamSound l f rules message messages s m reply s' m'
    sends_sound (Some t) is refused = record {
      refused = λ u e. (refused.replied ∙ e, refused.sender, refused.memory);
      sends = λ e. absurd (some_none e);
    }
    sends_sound None is sent = record {
      refused = λ u e. absurd (some_none (sym e));
      sends = λ e. (sent.replied ∙ ap Ok before.counted, (sent.burst, this_burst is sent, sent.put));
    }

-- a stream has no more than one burst of each number
burst_only : {L : Type 0} {l : line.Ghosts L} (laws : Laws l) (f : Format L) (lays : f.burst ≡ l.sent f.line) (messages : List (List Bool)) (n : ℕ) (one other : List ℕ) →
    BurstOf l f messages n one → BurstOf l f messages n other → one ≡ other
burst_only {L} {l} laws f lays messages n one other a b = ext_get_or 0 one other (a.whole ∙ sym b.whole) same
  where
    same : (k : ℕ) → k < length one → get_or one k 0 ≡ get_or other k 0
    same k h =
        let at = laws.filled f.line k (omega (arith, lays, a.whole)) in
        elim (cases_lt n (k % f.depth)) [
          | inl early ↦ a.before at.0 k at.1 at.2 early ∙ sym (b.before at.0 k at.1 at.2 early)
          | inr late ↦
              let due : burst_of f (n - k % f.depth) k ≡ n = omega arith in
              a.carries at.0 k (n - k % f.depth) at.1 at.2 due ∙ sym (b.carries at.0 k (n - k % f.depth) at.1 at.2 due)
        ]

module _ {L : Type 0} {l : line.Ghosts L} (laws : Laws l) (opened : Sender L) (lays : opened.format.burst ≡ l.sent opened.format.line) (fresh : opened.counted ≡ 0) where
  -- every history leaves the invariant
  invariant : (s : Sender L) (ring : List ℕ) (messages : List (List Bool)) (bursts : List (List ℕ)) →
      Stream l opened s ring messages bursts → Invariant laws opened.format lays s ring messages bursts
  invariant _ ring _ _ (begun _) = record {
    format = refl;
    counted = fresh;
    keeps = λ i j k turned h near e. absurd (omega arith);
    puts = record { lengths = λ b h. absurd (omega arith); as_many = refl; each = λ n h. absurd (omega arith) };
  }
  invariant _ _ _ _ (sends s s' messages bursts message m m' reply past step) =
      sends_invariant laws opened.format lays s s' message m m' reply messages bursts (invariant s m.ring messages bursts past)
      (first (send_rules s.format (sender_sizes m) s.counted message)) refl step

  -- every history of a sender that was opened is sound
  pub all_streams : AllStreams l opened
  all_streams = record {
    sends = λ s s' messages bursts message m m' reply past step.
        let before = invariant s m.ring messages bursts past in
        subst (λ rules. StreamSound l opened.format rules message messages s m reply s' m')
        (λ i. first (send_rules (before.format i) (sender_sizes m) (before.counted i) message))
        (sends_sound laws opened.format lays s s' message m m' reply messages bursts before
        (first (send_rules s.format (sender_sizes m) s.counted message)) refl step);
    puts = λ s ring messages bursts past. (invariant s ring messages bursts past).puts;
    only = λ s ring messages bursts n burst past h o.
        let puts = (invariant s ring messages bursts past).puts in
        burst_only laws opened.format lays messages n burst (get_or bursts n []) o (puts.each n h);
  }
