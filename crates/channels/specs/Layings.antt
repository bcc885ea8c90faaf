-- What the laying of a channel means: what the one that it holds means.
use Rattle.std.specs.Prelude.{ℕ, Bool, Option, ◌≡◌, ◌&&◌}
use Rattle.line.specs.declared.laying.Line.{Ghosts}
use Rattle.line.specs.Interleaver.{interleaved, whole_rows}
use Rattle.line.specs.Scrambler.{scrambled}
use Rattle.puncture.specs.Masks.{Masks, sound, coded_of, pattern}
use Rattle.puncture.specs.Patterns.{kept, numbered}
use Rattle.line.specs.Lines.{interleaved_line, scrambled_line, unpunctured_line}
use Rattle.puncture.specs.MaskLine.{mask_line}
use Rattle.channels.specs.declared.laying.Laying.{Laying}
use Rattle.channels.specs.declared.laying.Laying.TheVariants.{Whole, Scrambled, Punctured}

abbrev pub laid_coded : Laying → ℕ
laid_coded (Whole l) = (interleaved_line unpunctured_line).coded l
laid_coded (Scrambled l) = (scrambled_line (interleaved_line unpunctured_line)).coded l
laid_coded (Punctured l) = (scrambled_line (interleaved_line mask_line)).coded l

abbrev pub laid_sent : Laying → ℕ
laid_sent (Whole l) = (interleaved_line unpunctured_line).sent l
laid_sent (Scrambled l) = (scrambled_line (interleaved_line unpunctured_line)).sent l
laid_sent (Punctured l) = (scrambled_line (interleaved_line mask_line)).sent l

abbrev pub laid_suited : Laying → Bool
laid_suited (Whole l) = (interleaved_line unpunctured_line).suited l
laid_suited (Scrambled l) = (scrambled_line (interleaved_line unpunctured_line)).suited l
laid_suited (Punctured l) = (scrambled_line (interleaved_line mask_line)).suited l

abbrev pub laid_place : Laying → ℕ → Option (ℕ × Bool)
laid_place (Whole l) = (interleaved_line unpunctured_line).place l
laid_place (Scrambled l) = (scrambled_line (interleaved_line unpunctured_line)).place l
laid_place (Punctured l) = (scrambled_line (interleaved_line mask_line)).place l

abbrev pub laying_line : Ghosts Laying
laying_line = record { coded = laid_coded; sent = laid_sent; suited = laid_suited; place = laid_place }

-- a laying that punctures by these masks, and then interleaves and scrambles
pub record Punctures (m : Masks) (l : Laying) : Type 0 where
  pub coded : laying_line.coded l ≡ coded_of m
  -- it suits where the masks have no fault and what they keep fills rows of eight
  pub suited : laying_line.suited l ≡ (sound m && whole_rows (kept (pattern m)))
  pub sent : laying_line.sent l ≡ kept (pattern m)
  -- a bit kept has its number, goes where the interleaver moves it, and is turned by the masking sequence
  pub places : (j : ℕ) → laying_line.place l j ≡ scrambled (interleaved (kept (pattern m)) (numbered (pattern m) j))
