-- How bits are written, as figures and as the bytes that spell clean samples, and how a line of figures is read.
use Rattle.std.specs.Prelude.{◌≡◌, ℕ, ◌≤◌, ◌<◌, Bool, true, false, List, [], ◌∷◌, ◌++◌, map, length, All, nat_lt, if◌then◌else◌}
use Rattle.std.specs.List.{flat_map}
use Rattle.channels.specs.declared.channel.Channel.{Channel}
use Rattle.records.specs.Records.{opens, hears, spelling}
use Rattle.records.specs.declared.record.Kind.{Kind}
use Rattle.records.specs.declared.record.Kind.TheVariants.{Count, Ranked, Float}
use Rattle.records.specs.declared.spell.SpellError.{SpellError}
use Rattle.records.specs.declared.spell.SpellError.TheVariants.{TooLong, OutOfMemory}
use Rattle.sendburst.specs.declared.form.Form.{Form}
use Rattle.sendburst.specs.declared.form.Form.TheVariants.{Figures, Recording}

-- a bit as a figure 0 or 1
abbrev pub figure : ℕ → ℕ
figure bit = if nat_lt 0 bit then 0x31 else 0x30

-- the figures of a burst, and the end of its line
abbrev pub figure_line : List ℕ → List ℕ
figure_line bits = map figure bits ++ (10 ∷ [])

-- the line is a row of figures, and these are its bits
pub record IsRead (line bits : List ℕ) : Type 0 where
  pub figures : map figure bits ≡ line
  pub are_bits : All (λ bit. bit ≤ 1) bits

-- the bytes that spell the clean sample of a bit
abbrev pub clean_bytes : Kind → Bool → List ℕ
clean_bytes Count false = 0 ∷ []
clean_bytes Count true = 1 ∷ []
clean_bytes Ranked false = 0x7F ∷ []
clean_bytes Ranked true = 0x81 ∷ []
clean_bytes Float false = 0x3F ∷ 0x80 ∷ 0 ∷ 0 ∷ []
clean_bytes Float true = 0xBF ∷ 0x80 ∷ 0 ∷ 0 ∷ []

-- those of all bits of a burst
abbrev pub clean_burst : Kind → List ℕ → List ℕ
clean_burst kind bits = flat_map (λ bit. clean_bytes kind (nat_lt 0 bit)) bits

-- what is written before the first burst: of a recording, the record that opens the channel
abbrev pub heading : Form → Channel → List ℕ
heading Figures channel = []
heading (Recording kind) channel = spelling (opens channel kind)

-- what is written of a burst: its line of figures, or the record of the clean samples of its bits
abbrev pub burst_written : Form → List ℕ → List ℕ
burst_written Figures bits = figure_line bits
burst_written (Recording kind) bits = spelling (hears (length bits) (clean_burst kind bits))

-- why a burst is not written: its record would hold more than 1,024 samples, or there is no memory for it
abbrev pub NotWritten : Form → List ℕ → SpellError → Type 0
NotWritten (Recording kind) bits TooLong = 1024 < length bits
NotWritten form bits OutOfMemory = Unit {0}
NotWritten form bits error = ⊥
