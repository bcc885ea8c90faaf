-- The laying of a channel keeps the laws of a line, since the one that it holds does.
use Rattle.std.specs.Prelude.{◌≡◌, ℕ, ◌<◌, ◌≤◌, Bool, Some, None}
use Rattle.line.specs.Lawful.{Laws}
use Rattle.line.specs.LinesLemmas.{unpunctured_laws, interleaved_laws, scrambled_laws}
use Rattle.puncture.specs.Masking.{mask_laws}
use Rattle.line.specs.Lines.{unpunctured_line, interleaved_line, scrambled_line}
use Rattle.puncture.specs.MaskLine.{mask_line}
use Rattle.channels.specs.Layings.{laying_line}
use Rattle.channels.specs.declared.laying.Laying.{Laying}
use Rattle.channels.specs.declared.laying.Laying.TheVariants.{Whole, Scrambled, Punctured}

whole_laws : Laws (interleaved_line unpunctured_line)
whole_laws = interleaved_laws unpunctured_laws

scrambled_whole_laws : Laws (scrambled_line (interleaved_line unpunctured_line))
scrambled_whole_laws = scrambled_laws whole_laws

punctured_laws : Laws (scrambled_line (interleaved_line mask_line))
punctured_laws = scrambled_laws (interleaved_laws mask_laws)

pub within : (l : Laying) (j k : ℕ) (t : Bool) → laying_line.place l j ≡ Some (k, t) → k < laying_line.sent l
within (Whole l) = whole_laws.within l
within (Scrambled l) = scrambled_whole_laws.within l
within (Punctured l) = punctured_laws.within l

pub apart : (l : Laying) (i j k : ℕ) (t u : Bool) → laying_line.place l i ≡ Some (k, t) → laying_line.place l j ≡ Some (k, u) → i ≡ j
apart (Whole l) = whole_laws.apart l
apart (Scrambled l) = scrambled_whole_laws.apart l
apart (Punctured l) = punctured_laws.apart l

pub filled : (l : Laying) (k : ℕ) → k < laying_line.sent l → (j : ℕ) × (t : Bool) × (laying_line.place l j ≡ Some (k, t))
filled (Whole l) = whole_laws.filled l
filled (Scrambled l) = scrambled_whole_laws.filled l
filled (Punctured l) = punctured_laws.filled l

pub ended : (l : Laying) (j : ℕ) → laying_line.coded l ≤ j → laying_line.place l j ≡ None
ended (Whole l) = whole_laws.ended l
ended (Scrambled l) = scrambled_whole_laws.ended l
ended (Punctured l) = punctured_laws.ended l
