-- The first coded bit of every step is sent on the channels that say so.
use Rattle.std.proofs.Common.{◌≡◌, ℕ, ◌*◌, ◌<◌, Bool, true, false, List, get_or, take, Some, Option, refl, sym, ap, ◌∙◌, subst, arith}
use Rattle.std.specs.List.{list_all, range_with_len}
use Rattle.std.proofs.lemmas.Bool.{both_ways, cond_below, cond-true}
use Rattle.std.proofs.lemmas.List.Folds.{list_all_at}
use Rattle.std.proofs.lemmas.List.FromFn.{get_or-range_with_len, length-range_with_len}
use Rattle.line.specs.Interleaver.{moved, interleaved}
use Rattle.line.specs.Scrambler.{sum, masking, scrambled}
use Rattle.line.specs.Unpunctured.{in_order}
use Rattle.link.specs.BothEnds.{FirstRowSent}
use Rattle.link.specs.Opening.{Holds}
use Rattle.link.specs.Rules.{steps_of}
use Rattle.link.specs.declared.format.Format.{Format}
use Rattle.puncture.specs.Masks.{pattern}
use Rattle.puncture.specs.Patterns.{kept, numbered}
use Rattle.channels.specs.Channels.{Lays, terms, asked, first_row_sent}
use Rattle.channels.specs.Layings.{laying_line}
use Rattle.channels.specs.Tables.{data24_masks}
use Rattle.channels.specs.declared.channel.Channel.{Channel}
use Rattle.channels.specs.declared.channel.Channel.TheVariants.{Bench, Bcch, Data24, Data96}
use Rattle.channels.specs.declared.laying.Laying.{Laying}

-- a coded bit that is sent
abbrev Sent : Option (ℕ × Bool) → Type 0
Sent o = (k : ℕ) × (turned : Bool) × (o ≡ Some (k, turned))

-- the interleaver sends what is sent below
interleaved_sent : (bits : ℕ) (o : Option (ℕ × Bool)) → Sent o → Sent (interleaved bits o)
interleaved_sent bits o (k, turned, e) = (moved bits k, turned, ap (interleaved bits) e)

-- and so does the scrambler
scrambled_sent : (o : Option (ℕ × Bool)) → Sent o → Sent (scrambled o)
scrambled_sent o (k, turned, e) = (k, sum turned (masking k), ap scrambled e)

-- a bit that is laid in order
in_order_sent : (n j : ℕ) → j < n → Sent (in_order n j)
in_order_sent n j h = (j, false, sym (cond_below j n _ _ h))

-- a bit that a pattern keeps
numbered_sent : (p : List Bool) (j : ℕ) → get_or p j false ≡ true → Sent (numbered p j)
numbered_sent p j e = (kept (take j p), false, cond-true (get_or p j false) _ _ e)

-- the masks of the 2.4 kbit/s data channel keep the first of every five
firsts_kept : (t : ℕ) → t < 148 → get_or (pattern data24_masks) (5 * t) false ≡ true
firsts_kept t h = by_test (test t) refl
  where
    test : ℕ → Bool
    test i = get_or (pattern data24_masks) (5 * i) false

    all : list_all test (range_with_len 0 148) ≡ true
    all = refl

    by_test : (b : Bool) → test t ≡ b → test t ≡ true
    by_test true e = e
    by_test false e =
        let here : get_or (range_with_len 0 148) t 0 ≡ t = get_or-range_with_len 0 148 t 0 h ∙ omega arith in
        let fails = list_all_at test (range_with_len 0 148) t 0 (omega (arith, length-range_with_len 0 148)) (ap test here ∙ e) in
        absurd (both_ways (list_all test (range_with_len 0 148)) fails all)

-- the first coded bit of each of the channel's steps
first_sent : (channel : Channel) → first_row_sent channel ≡ true → (t : ℕ) → t < steps_of (terms channel).code (terms channel).message (terms channel).parity →
    Sent ((terms channel).place ((terms channel).code.rows * t))
first_sent Bench e t h = interleaved_sent 16 _ (in_order_sent 16 (2 * t) (omega arith))
first_sent Bcch e t h = scrambled_sent _ (interleaved_sent 424 _ (in_order_sent 424 (2 * t) (omega arith)))
first_sent Data24 e t h = scrambled_sent _ (interleaved_sent 648 _ (numbered_sent (pattern data24_masks) (5 * t) (firsts_kept t h)))
first_sent Data96 e t h = absurd (let z : ◌≡◌ {A = ℕ} 0 1 = cc in omega arith)

-- so it is sent by every format that holds what the channel sets
pub first_row : (channel : Channel) (line : Laying) → Lays (terms channel) line → (f : Format Laying) → Holds laying_line (asked (terms channel) line) f →
    first_row_sent channel ≡ true → FirstRowSent laying_line f
first_row channel line lays f held e t h =
    let c = terms channel in
    let within : t < steps_of c.code c.message c.parity = subst (λ n. t < n) (λ i. steps_of (held.code i) (held.message i) (held.parity i)) h in
    let sent = first_sent channel e t within in
    (sent.0, sent.1, (λ i. laying_line.place (held.line i) ((held.code i).rows * t)) ∙ lays.places (c.code.rows * t) ∙ sent.2)
