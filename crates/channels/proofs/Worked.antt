-- The worked examples, by computation.
use Rattle.std.proofs.Common.{◌≡◌, ℕ, ◌<◌, Bool, false, ltb, List, get_or, Some, None, Option, sym, refl, ◌∙◌, subst, arith}
use Rattle.std.proofs.lemmas.List.FromFn.{get_or-map-range_with_len}
use Rattle.std.proofs.lemmas.Bool.{cond_both, ltb-true}
use denote.Struct.Record.{values_one}
use Rattle.cost.specs.contracts.count.Count as count
use Rattle.cost.specs.contracts.ranked.Ranked as rank
use Rattle.cost.specs.Counting.{counted}
use Rattle.cost.specs.Samples.{clean}
use Rattle.cost.specs.Ranking.{ranked}
use Rattle.cost.specs.contracts.count.weigh.CountCost.TheImpl.{ghosts as count_kind}
use Rattle.cost.specs.contracts.ranked.weigh.RankedCost.TheImpl.{ghosts as ranked_kind}
use Rattle.line.specs.Interleaver.{interleaved, moved}
use Rattle.line.specs.LinesLemmas.{unpunctured_laws, interleaved_laws}
use Rattle.line.specs.Scrambler.{sum}
use Rattle.trellis.specs.Coding.{coded_bit}
use Rattle.trellis.specs.Paths.{cost_of}
use Rattle.trellis.specs.Rule.{survivor}
use Rattle.channels.specs.Channels.{bench_terms}
use Rattle.channels.specs.Examples.{written, Carries, level, bench_cost, bench_answer, bench_path, WorkedExamples}
use Rattle.channels.specs.Tables.{bench_code}

-- the run 100000, and the burst that carries it
abbrev run : List Bool
run = written 6 0b100000

abbrev burst : List Bool
burst = written 16 0b1010100010100000

-- coded bit j as the bench sends it, unturned
abbrev as_sent : ℕ → Bool
as_sent j = sum (coded_bit bench_code run j) false

-- what the burst has at the place that coded bit j goes to
abbrev at_place : ℕ → Bool
at_place j = get_or burst (moved 16 j) false

-- the two agree, since their sixteen values do
read_back : (j : ℕ) → j < 16 → at_place j ≡ as_sent j
read_back j h = sym (get_or-map-range_with_len at_place 0 16 j j false h (omega arith)) ∙ get_or-map-range_with_len as_sent 0 16 j j false h (omega arith)

-- where a coded bit is sent, the burst has it
abbrev Sent : ℕ → Option (ℕ × Bool) → Type 0
Sent j None = Unit {0}
Sent j (Some (k, turned)) = get_or burst k false ≡ sum (coded_bit bench_code run j) turned

-- it is so of every coded bit
sent : (j : ℕ) → Sent j (bench_terms.place j)
sent j = cond_both (ltb j 16) (Some (j, false)) None (λ o. Sent j (interleaved 16 o)) (λ h. read_back j (ltb-true j 16 h)) (λ _. tt)

-- 100000 is sent so
sends : Carries bench_terms run burst
sends = record {
  whole = refl;
  bits = λ j k turned e. subst (Sent j) e (sent j);
  full = (interleaved_laws unpunctured_laws).filled (record { 0 = record { bits = 16 } });
}

-- counted, 000000 costs 3
counts_zeros : bench_cost count_kind (clean count_kind) (written 6 0b000000) ≡ counted 3
unfolding cost_of
counts_zeros = values_one count.struct count.the_propositions _ _ refl

-- counted, 110000 costs 3
counts_ones : bench_cost count_kind (clean count_kind) (written 6 0b110000) ≡ counted 3
unfolding cost_of
counts_ones = values_one count.struct count.the_propositions _ _ refl

-- ranked, 000000 costs 3 samples of strength 150
ranks_zeros : bench_cost ranked_kind level (written 6 0b000000) ≡ ranked 3 150
unfolding cost_of
ranks_zeros = values_one rank.struct rank.the_propositions _ _ refl

-- ranked, 110000 costs 3 samples of strength 30
ranks_ones : bench_cost ranked_kind level (written 6 0b110000) ≡ ranked 3 30
unfolding cost_of
ranks_ones = values_one rank.struct rank.the_propositions _ _ refl

-- counted, the answer is the path of 000000
counts_answer : bench_answer count_kind (clean count_kind) ≡ Some (bench_path (written 6 0b000000))
unfolding cost_of survivor
counts_answer = refl

-- ranked, the answer is the path of 110000
ranks_answer : bench_answer ranked_kind level ≡ Some (bench_path (written 6 0b110000))
unfolding cost_of survivor
ranks_answer = refl

pub worked : WorkedExamples
worked = record {
  bcch_1 = refl;
  bcch_8 = refl;
  bcch_423 = refl;
  data_1 = refl;
  data_647 = refl;
  mask_0 = refl;
  mask_1 = refl;
  mask_2 = refl;
  mask_3 = refl;
  mask_4 = refl;
  mask_5 = refl;
  codes = refl;
  sends = sends;
  counts_zeros = counts_zeros;
  counts_ones = counts_ones;
  counts_answer = counts_answer;
  ranks_zeros = ranks_zeros;
  ranks_ones = ranks_ones;
  ranks_answer = ranks_answer;
}
