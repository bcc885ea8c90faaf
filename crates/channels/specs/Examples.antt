-- Worked examples of the definitions.
use Rattle.std.specs.Prelude.{◌≡◌, ℕ, ◌<◌, Bool, true, false, List, ◌++◌, map, reverse, length, get_or, replicate, ℤ, pos, negsuc, Some, None, Option, slice_index_or}
use Rattle.std.specs.List.{range_with_len}
use Rattle.cost.specs.Counting.{counted}
use Rattle.cost.specs.Samples.{clean}
use Rattle.cost.specs.Ranking.{ranked}
use Rattle.cost.specs.contracts.count.weigh.CountCost.TheImpl.{ghosts as count_kind}
use Rattle.cost.specs.contracts.ranked.weigh.RankedCost.TheImpl.{ghosts as ranked_kind}
use Rattle.cost.specs.declared.kind.Cost as cost
use Rattle.line.specs.Interleaver.{moved}
use Rattle.puncture.specs.Patterns.{numbered}
use Rattle.puncture.specs.Masks.{pattern}
use Rattle.line.specs.Scrambler.{sum}
use Rattle.link.specs.Due.{placed}
use Rattle.link.specs.Rules.{steps_of}
use Rattle.trellis.specs.Bits.{bits}
use Rattle.trellis.specs.Codes.{rows_of}
use Rattle.trellis.specs.Coding.{coded_bit}
use Rattle.trellis.specs.Paths.{cost_of}
use Rattle.trellis.specs.Rule.{answer}
use Rattle.channels.specs.Channels.{Terms, bench_terms, bcch_terms, data24_terms, data96_terms}
use Rattle.channels.specs.Tables.{bench_code, data96_masks}

-- the n bits that a number writes, the first one highest
abbrev pub written : ℕ → ℕ → List Bool
written n v = reverse (bits n v)

-- all coded bits of a run
abbrev pub coded_bits : Terms → List Bool → List Bool
coded_bits t run = map (coded_bit t.code run) (range_with_len 0 t.coded)

-- a burst that has each coded bit of the run at its place, turned over where the line turns it
pub record Carries (t : Terms) (run burst : List Bool) : Type 0 where
  pub whole : length burst ≡ t.burst
  pub bits : (j k : ℕ) (turned : Bool) → t.place j ≡ Some (k, turned) → slice_index_or burst k false ≡ sum (coded_bit t.code run j) turned
  -- and at every place it has one
  pub full : (k : ℕ) → k < t.burst → (j : ℕ) × (turned : Bool) × (t.place j ≡ Some (k, turned))

-- the path of a run: its bits and the closing zeros, the newest first
abbrev pub bench_path : List Bool → List Bool
bench_path run = replicate bench_code.memory false ++ reverse run

-- the bits of the burst heard
abbrev pub heard : List Bool
heard = written 16 0b1000000000100010

-- a one is heard with strength 50, a zero with strength 10
abbrev pub level : Bool → ℤ
level true = negsuc 49
level false = pos 10

module _ {C S P : Type 0} (k : cost.Ghosts C S P) (sample : Bool → S) where
  -- what coded place j of the bench meets
  abbrev pub bench_met : ℕ → List (S × Bool)
  bench_met j = placed (λ p. get_or (map sample heard) p k.NOTHING) (bench_terms.place j)

  -- what a run costs
  abbrev pub bench_cost : List Bool → C
  bench_cost run = cost_of k (rows_of bench_code) bench_met (bench_path run)

  -- the path that the rule answers after the bench's bits and closing zeros
  abbrev pub bench_answer : Option (List Bool)
  bench_answer =
      answer k (rows_of bench_code) bench_met bench_code.memory (steps_of bench_code bench_terms.message bench_terms.parity)

pub record WorkedExamples : Type 0 where
  -- the interleaver of the broadcast control channel, of 424 bits: place 1 goes to 265
  pub bcch_1 : moved bcch_terms.burst 1 ≡ 265
  -- place 8 goes to 1
  pub bcch_8 : moved bcch_terms.burst 8 ≡ 1
  -- place 423 goes to 211
  pub bcch_423 : moved bcch_terms.burst 423 ≡ 211
  -- the interleaver of the data channels, both of 648 bits: place 1 goes to 405
  pub data_1 : moved data24_terms.burst 1 ≡ 405
  -- place 647 goes to 323
  pub data_647 : moved data96_terms.burst 647 ≡ 323
  -- the mask of the 9.6 kbit/s data channel: coded bit 0 goes to place 0
  pub mask_0 : numbered (pattern data96_masks) 0 ≡ Some (0, false)
  -- coded bit 1 is not sent
  pub mask_1 : numbered (pattern data96_masks) 1 ≡ None
  -- coded bit 2 goes to place 1
  pub mask_2 : numbered (pattern data96_masks) 2 ≡ Some (1, false)
  -- coded bit 3 goes to place 2
  pub mask_3 : numbered (pattern data96_masks) 3 ≡ Some (2, false)
  -- coded bit 4 goes to place 3
  pub mask_4 : numbered (pattern data96_masks) 4 ≡ Some (3, false)
  -- coded bit 5 is not sent
  pub mask_5 : numbered (pattern data96_masks) 5 ≡ None
  -- on the bench 100000 codes to 1110110000000000
  pub codes : coded_bits bench_terms (written 6 0b100000) ≡ written 16 0b1110110000000000
  -- and is sent as 1010100010100000
  pub sends : Carries bench_terms (written 6 0b100000) (written 16 0b1010100010100000)
  -- 1000000000100010 heard and counted: 000000 costs 3
  pub counts_zeros : bench_cost count_kind (clean count_kind) (written 6 0b000000) ≡ counted 3
  -- 110000 costs 3 too
  pub counts_ones : bench_cost count_kind (clean count_kind) (written 6 0b110000) ≡ counted 3
  -- and the tie goes to 000000
  pub counts_answer : bench_answer count_kind (clean count_kind) ≡ Some (bench_path (written 6 0b000000))
  -- the same heard and ranked, with strength 50 where a one is heard and 10 elsewhere: 000000 costs 3 samples of strength 150
  pub ranks_zeros : bench_cost ranked_kind level (written 6 0b000000) ≡ ranked 3 150
  -- 110000 costs 3 samples of strength 30
  pub ranks_ones : bench_cost ranked_kind level (written 6 0b110000) ≡ ranked 3 30
  -- and is the answer
  pub ranks_answer : bench_answer ranked_kind level ≡ Some (bench_path (written 6 0b110000))
