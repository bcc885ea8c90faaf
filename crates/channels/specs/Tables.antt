-- The codes and the puncturing masks of the channels.
use Rattle.std.specs.Prelude.{[], ◌∷◌, Some}
use Rattle.puncture.specs.Masks.{Masks}
use Rattle.trellis.specs.declared.code.Code.{Code}

-- rows 1 + D + D² and 1 + D²
abbrev pub bench_code : Code
bench_code = record { rows = 2; taps = 0b111 ∷ 0b101 ∷ 0 ∷ 0 ∷ 0 ∷ []; memory = 2 }

-- rows 1 + D³ + D⁴ and 1 + D + D² + D⁴
abbrev pub half_code : Code
half_code = record { rows = 2; taps = 0b11001 ∷ 0b10111 ∷ 0 ∷ 0 ∷ 0 ∷ []; memory = 4 }

-- rows 1 + D² + D⁴, 1 + D + D³ + D⁴, 1 + D + D² + D³ + D⁴, 1 + D² + D³ + D⁴ and 1 + D + D² + D⁴
abbrev pub fifth_code : Code
fifth_code = record { rows = 5; taps = 0b10101 ∷ 0b11011 ∷ 0b11111 ∷ 0b11101 ∷ 0b10111 ∷ []; memory = 4 }

-- the masks of the 2.4 kbit/s data channel
abbrev pub data24_masks : Masks
data24_masks = record {
  steps = 148;
  prefix = Some (
      (1 ∷ 1 ∷ 1 ∷ [])
      ∷ (1 ∷ 0 ∷ 1 ∷ [])
      ∷ (1 ∷ 0 ∷ 1 ∷ [])
      ∷ (0 ∷ 1 ∷ 0 ∷ [])
      ∷ (1 ∷ 1 ∷ 0 ∷ [])
      ∷ []);
  middle =
      (1 ∷ 1 ∷ 1 ∷ [])
      ∷ (1 ∷ 1 ∷ 1 ∷ [])
      ∷ (1 ∷ 0 ∷ 1 ∷ [])
      ∷ (1 ∷ 1 ∷ 1 ∷ [])
      ∷ (1 ∷ 1 ∷ 0 ∷ [])
      ∷ [];
  times = 41;
  suffix = Some (
      (1 ∷ 1 ∷ 1 ∷ [])
      ∷ (1 ∷ 0 ∷ 1 ∷ [])
      ∷ (1 ∷ 0 ∷ 1 ∷ [])
      ∷ (0 ∷ 1 ∷ 0 ∷ [])
      ∷ (0 ∷ 1 ∷ 1 ∷ [])
      ∷ []);
}

-- the masks of the 9.6 kbit/s data channel
abbrev pub data96_masks : Masks
data96_masks = record {
  steps = 484;
  prefix = Some ((1 ∷ 1 ∷ 1 ∷ 1 ∷ 1 ∷ []) ∷ (0 ∷ 1 ∷ 0 ∷ 1 ∷ 1 ∷ []) ∷ []);
  middle = (0 ∷ 1 ∷ 1 ∷ []) ∷ (1 ∷ 0 ∷ 1 ∷ []) ∷ [];
  times = 158;
  suffix = Some ((1 ∷ 1 ∷ 1 ∷ 1 ∷ 1 ∷ []) ∷ (1 ∷ 1 ∷ 0 ∷ 1 ∷ 0 ∷ []) ∷ []);
}
