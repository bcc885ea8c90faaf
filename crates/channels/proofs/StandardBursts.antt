-- A sender's burst on a channel is the one that the standard describes.
use Rattle.std.proofs.Common.{◌≡◌, ℕ, ◌+◌, ◌-◌, ◌*◌, ◌%◌, ◌<◌, ◌≤◌, ◌⊎◌, ◌↔◌, Bool, true, false, cond, ◌&&◌, List, [], ◌++◌, reverse, length, get_or, Some, sym, refl, ap, ap₂, subst, ◌∙◌, inl, inr, arith}
use Rattle.std.proofs.lemmas.Bool.{cases_lt, and_left, le-leb, lt-leb}
use Rattle.std.proofs.lemmas.List.{append-nil, length-append}
use Rattle.line.specs.Scrambler.{masking}
use Rattle.link.specs.Opening.{Holds}
use Rattle.link.specs.Sending.{run_of}
use Rattle.link.specs.Streams.{BurstOf}
use Rattle.link.specs.declared.format.Format.{Format}
use Rattle.trellis.specs.Bits.{xor, bit_of}
use Rattle.trellis.specs.Coding.{coded_bit}
use Rattle.trellis.specs.Parity.{parity_of, with_parity}
use Rattle.trellis.specs.Polynomials.{Multiple, generator}
use Rattle.trellis.proofs.Bitwise.{xor_none}
use Rattle.trellis.proofs.Divisions.{parity_multiple, parity_only}
use Rattle.trellis.proofs.Parities.{with_parity_length}
use Rattle.channels.specs.Channels.{Terms, asked, terms}
use Rattle.channels.specs.Layings.{laying_line}
use Rattle.channels.specs.LayingsLemmas.{filled, within as placed_within}
use Rattle.channels.specs.Standard.{◌⊕◌, Description, Filled, Protected, Block, StandardBurst, coded, read_out, sent_bits, standard, taken}
use Rattle.channels.specs.declared.channel.Channel.{Channel}
use Rattle.channels.specs.declared.laying.Laying.{Laying}
use Rattle.channels.proofs.StandardChannels.{Described, described}
use Rattle.channels.proofs.StandardCoder.{coded_bits, length_coded}
use Rattle.channels.proofs.StandardMatrix.{Reads, matrix_of, matrix_filled, matrix_reads, scrambler_reads}

-- a message and its parity, if any, are what enters the coder
protects : (on : Bool) (message : List Bool) → Protected on message (with_parity (cond on 16 0) message)
protects false message = append-nil message
protects true message = (
  parity_of 16 message,
  omega (arith, length-append message (parity_of 16 message), with_parity_length 16 message),
  refl,
  parity_multiple message,
)

-- and nothing else is
protects_only : (on : Bool) (message block : List Bool) → Protected on message block → block ≡ with_parity (cond on 16 0) message
protects_only false message block e = e ∙ sym (append-nil message)
protects_only true message block (parity, long, e, multiple) =
    e ∙ ap (λ p. message ++ p) (parity_only message parity long (subst (λ u. Multiple generator (reverse u)) e multiple))

-- a place takes the bit of the block that it is due to
taken_due : (depth : ℕ) (block : ℕ → ℕ → Bool) (n k b : ℕ) → b + k % depth ≡ n → taken depth block n k ≡ block b k
taken_due depth block n k b due =
    let back : n - k % depth ≡ b = omega arith in
    ap₂ (λ t c. t && block c k) (le-leb (k % depth) n (omega arith)) back

-- where there is no such block it takes 0
taken_none : (depth : ℕ) (block : ℕ → ℕ → Bool) (n k : ℕ) → n < k % depth → taken depth block n k ≡ false
taken_none depth block n k early = and_left _ _ (lt-leb (k % depth) n early)

module _ (d : Description) (t : Terms) (a : Described d t) (u : List Bool) (long : length u ≡ t.message + t.parity) where
  -- the coded bits of what enters the coder
  abbrev bits : List Bool
  bits = coded d.equations u (length u + d.tail)

  all_coded : (length u + d.tail) * t.code.rows ≡ t.coded
  all_coded = ap (λ n. (n + d.tail) * t.code.rows) long ∙ a.coded

  -- there are as many as the channel sets
  length_bits : length bits ≡ t.coded
  length_bits = length_coded t.code d.equations a.rows a.told u (length u + d.tail) ∙ all_coded

  -- those sent fill a matrix
  fills : Filled d.rows (sent_bits d u) (matrix_of d.rows (sent_bits d u))
  fills = matrix_filled d.rows (sent_bits d u) (a.laid.fills bits length_bits)

  -- and what they fill is read out as the channel lays the code's bits
  block_reads : (matrix : ℕ → ℕ → Bool) → Filled d.rows (sent_bits d u) matrix → (j : ℕ) →
      Reads (λ k. d.scrambled && masking k) (read_out d.rows matrix) (coded_bit t.code u j) (t.place j)
  block_reads matrix f j =
      let bit = coded_bit t.code u j in
      let stands = a.laid.stands bits j bit length_bits
      (λ h. coded_bits t.code d.equations a.rows a.told u (length u + d.tail) j (omega (arith, all_coded, length_bits))) in
      subst
      (Reads (λ k. d.scrambled && masking k) (read_out d.rows matrix) bit)
      (sym (a.places j))
      (scrambler_reads d.scrambled (read_out d.rows matrix) bit _ (matrix_reads d.rows (sent_bits d u) matrix f bit (a.below j) stands))

-- a format that holds what a channel sets, with a line that lays a block as the channel sets
module _ (channel : Channel) (line : Laying) (f : Format Laying)
    (held : Holds laying_line (asked (terms channel) line) f)
    (burst_bits : laying_line.sent line ≡ (terms channel).burst)
    (places : (j : ℕ) → laying_line.place line j ≡ (terms channel).place j) where
  abbrev d : Description
  d = standard channel

  abbrev t : Terms
  t = terms channel

  a : Described d t
  a = described channel

  -- a burst has as many places as the matrix
  length_burst : f.burst ≡ 8 * d.rows
  length_burst = held.burst ∙ burst_bits ∙ a.burst

  -- the depth is the channel's
  depth_at : (k : ℕ) → k % f.depth ≡ k % d.depth
  depth_at k = ap (λ w. k % w) (held.depth ∙ a.depth)

  -- the format's line is this one
  place_at : (j : ℕ) → laying_line.place f.line j ≡ laying_line.place line j
  place_at j = ap (λ l. laying_line.place l j) held.line

  -- the matrix of a message
  abbrev matrix_for : List Bool → ℕ → ℕ → Bool
  matrix_for message = matrix_of d.rows (sent_bits d (with_parity t.parity message))

  -- it is that of the message's block
  block_for : (message : List Bool) → length message ≡ f.message → Block d message (matrix_for message)
  block_for message e = record {
    whole = e ∙ held.message ∙ sym a.message;
    block = with_parity t.parity message;
    protected = subst (λ w. Protected d.parity message (with_parity w message)) a.parity (protects d.parity message);
    filled = fills d t a (with_parity t.parity message) (omega (arith, with_parity_length t.parity message, held.message));
  }

  -- a block is read out as the sender lays its coded bits
  reads : (message : List Bool) (matrix : ℕ → ℕ → Bool) → Block d message matrix → (j k : ℕ) (turned : Bool) → laying_line.place line j ≡ Some (k, turned) →
      (turned ≡ (d.scrambled && masking k)) × (read_out d.rows matrix k ≡ coded_bit f.code (run_of f message) j)
  reads message matrix b j k turned e =
      let same : b.block ≡ with_parity t.parity message =
      protects_only d.parity message b.block b.protected ∙ ap (λ w. with_parity w message) a.parity in
      let long : length b.block ≡ t.message + t.parity =
      omega (arith, ap length same, with_parity_length t.parity message, b.whole, a.message) in
      let r = subst
      (Reads (λ k. d.scrambled && masking k) (read_out d.rows matrix) (coded_bit t.code b.block j))
      (sym (places j) ∙ e)
      (block_reads d t a b.block long matrix b.filled j) in (
        r.0,
        r.1 ∙ ap (λ u. coded_bit t.code u j) same ∙ sym (ap₂ (λ code w. coded_bit code (with_parity w message) j) held.code held.parity),
      )

  module _ (messages : List (List Bool)) (n : ℕ) (within : n < length messages) (burst : List ℕ) where
    abbrev message : ℕ → List Bool
    message b = get_or messages b []

    module _ (matrix : ℕ → ℕ → ℕ → Bool) (blocks : (b : ℕ) → b < length messages → Block d (message b) (matrix b)) where
      -- what the standard puts at a place
      abbrev put : ℕ → Bool
      put k = (d.scrambled && masking k) ⊕ taken d.depth (λ b. read_out d.rows (matrix b)) n k

      -- it is the coded bit of the block that is due, as the line turns it
      put_due : (j k b : ℕ) (turned : Bool) → laying_line.place line j ≡ Some (k, turned) → b + k % d.depth ≡ n →
          put k ≡ xor turned (coded_bit f.code (run_of f (message b)) j)
      put_due j k b turned e due =
          let r = reads (message b) (matrix b) (blocks b (omega arith)) j k turned e in
          ap₂ xor (sym r.0) (taken_due d.depth (λ c. read_out d.rows (matrix c)) n k b due ∙ r.1)

      -- and 0 as the line turns it where there is no such block
      put_none : (j k : ℕ) (turned : Bool) → laying_line.place line j ≡ Some (k, turned) → n < k % d.depth → put k ≡ turned
      put_none j k turned e early =
          ap (xor (d.scrambled && masking k)) (taken_none d.depth (λ c. read_out d.rows (matrix c)) n k early)
          ∙ xor_none (d.scrambled && masking k)
          ∙ sym (reads (message n) (matrix n) (blocks n within) j k turned e).0

    -- a burst that the sender puts is one that the standard describes
    standard_burst : ((b : ℕ) → b < length messages → length (message b) ≡ f.message) → BurstOf laying_line f messages n burst →
        StandardBurst d messages n burst
    standard_burst lengths o = record {
      whole = o.whole ∙ length_burst;
      matrix = matrices;
      blocks = blocks;
      places = λ k h.
          let at = filled line k (omega (arith, burst_bits, a.burst)) in by_block k at.0 at.1 at.2 (cases_lt n (k % d.depth));
    }
      where
        matrices : ℕ → ℕ → ℕ → Bool
        matrices b = matrix_for (message b)

        blocks : (b : ℕ) → b < length messages → Block d (message b) (matrices b)
        blocks b h = block_for (message b) (lengths b h)

        by_block : (k j : ℕ) (turned : Bool) → laying_line.place line j ≡ Some (k, turned) → (n < k % d.depth) ⊎ (k % d.depth ≤ n) →
            get_or burst k 0 ≡ bit_of (put matrices blocks k)
        by_block k j turned e (inl early) =
            o.before j k turned (place_at j ∙ e) (omega (arith, depth_at k))
            ∙ ap bit_of (sym (put_none matrices blocks j k turned e early))
        by_block k j turned e (inr late) =
            let b = n - k % d.depth in
            o.carries j k b turned (place_at j ∙ e) (omega (arith, depth_at k))
            ∙ ap bit_of (sym (put_due matrices blocks j k b turned e (omega arith)))

    -- and one that the standard describes is the one that the sender puts
    sender_burst : StandardBurst d messages n burst → BurstOf laying_line f messages n burst
    sender_burst s = record {
      whole = s.whole ∙ sym length_burst;
      carries = λ j k b turned e due.
          at j k turned e ∙ ap bit_of (put_due s.matrix s.blocks j k b turned (sym (place_at j) ∙ e) (omega (arith, depth_at k)));
      before = λ j k turned e early.
          at j k turned e ∙ ap bit_of (put_none s.matrix s.blocks j k turned (sym (place_at j) ∙ e) (omega (arith, depth_at k)));
    }
      where
        at : (j k : ℕ) (turned : Bool) → laying_line.place f.line j ≡ Some (k, turned) → get_or burst k 0 ≡ bit_of (put s.matrix s.blocks k)
        at j k turned e = s.places k (omega (arith, placed_within line j k turned (sym (place_at j) ∙ e), burst_bits, a.burst))

    -- so both say the same burst
    pub same_burst : ((b : ℕ) → b < length messages → length (message b) ≡ f.message) →
        BurstOf laying_line f messages n burst ↔ StandardBurst d messages n burst
    same_burst lengths = (standard_burst lengths, sender_burst)
