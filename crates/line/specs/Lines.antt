-- The lines by name: what each one means, for the crates that lay channels out of them.
use Rattle.std.specs.Prelude.{true, ◌&&◌}
use Rattle.line.specs.declared.interleaver.Interleaved.{Interleaved}
use Rattle.line.specs.declared.laying.Line.{Ghosts}
use Rattle.line.specs.declared.scrambler.Scrambled.{Scrambled}
use Rattle.line.specs.declared.unpunctured.Unpunctured.{Unpunctured}
use Rattle.line.specs.Interleaver.{interleaved, whole_rows}
use Rattle.line.specs.Unpunctured.{in_order}
use Rattle.line.specs.Scrambler.{scrambled}

abbrev pub unpunctured_line : Ghosts Unpunctured
unpunctured_line = record {
  coded = λ l. l.bits;
  sent = λ l. l.bits;
  suited = λ l. true;
  place = λ l j. in_order l.bits j;
}

abbrev pub interleaved_line : {L : Type 0} → Ghosts L → Ghosts (Interleaved L)
interleaved_line below = record {
  coded = λ l. below.coded l.0;
  sent = λ l. below.sent l.0;
  suited = λ l. below.suited l.0 && whole_rows (below.sent l.0);
  place = λ l j. interleaved (below.sent l.0) (below.place l.0 j);
}

abbrev pub scrambled_line : {L : Type 0} → Ghosts L → Ghosts (Scrambled L)
scrambled_line below = record {
  coded = λ l. below.coded l.0;
  sent = λ l. below.sent l.0;
  suited = λ l. below.suited l.0;
  place = λ l j. scrambled (below.place l.0 j);
}
