-- What a sound code has: few rows, a short memory, no tap older than the memory, and the newest bit in the first row.
use Rattle.std.proofs.Common.{◌≡◌, ◌+◌, ◌^◌, ◌<◌, ◌≤◌, true, ◌&&◌, leb, get_or, ap, ◌∙◌, arith, pow_mono, get_or-take}
use Rattle.std.proofs.lemmas.Bool.{and_parts, leb-true}
use Rattle.trellis.specs.Bits.{odd}
use Rattle.trellis.specs.Codes.{rows_of, all_below, sound}
use Rattle.trellis.specs.declared.code.Code.{Code}

pub record Sound (c : Code) : Type 0 where
  pub some_rows : 0 < c.rows
  pub rows_few : c.rows ≤ 5
  pub some_memory : 0 < c.memory
  pub memory_few : c.memory ≤ 4
  pub registers_few : 2 ^ c.memory ≤ 16
  pub taps_below : all_below (2 ^ (c.memory + 1)) (rows_of c) ≡ true
  pub newest_first : odd (get_or (rows_of c) 0 0) ≡ true

-- the parts of the test
pub sound_parts : (c : Code) → sound c ≡ true → Sound c
sound_parts c e =
    let taps = all_below (2 ^ (c.memory + 1)) (rows_of c) && odd (get_or c.taps 0 0) in
    let memory = leb 1 c.memory && leb c.memory 4 in
    let rows = leb 1 c.rows && leb c.rows 5 in
    let whole = and_parts rows (memory && taps) e in
    let later = and_parts memory taps whole.1 in
    let few = and_parts (leb 1 c.rows) (leb c.rows 5) whole.0 in
    let short = and_parts (leb 1 c.memory) (leb c.memory 4) later.0 in
    let lowest = and_parts (all_below (2 ^ (c.memory + 1)) (rows_of c)) (odd (get_or c.taps 0 0)) later.1 in
    let some : 0 < c.rows = leb-true 1 c.rows few.0 in
    let most : c.memory ≤ 4 = leb-true c.memory 4 short.1 in
    let registers : 2 ^ c.memory ≤ 2 ^ 4 = pow_mono most in
    record {
      some_rows = some;
      rows_few = leb-true c.rows 5 few.1;
      some_memory = leb-true 1 c.memory short.0;
      memory_few = most;
      registers_few = omega arith;
      taps_below = lowest.0;
      newest_first = ap odd (get_or-take c.rows c.taps 0 0 some) ∙ lowest.1;
    }
