-- The records of a recording, and the bytes that spell them.
use Rattle.std.specs.Prelude.{◌≡◌, ℕ, ◌/◌, ◌%◌, ◌*◌, ◌<◌, ◌≤◌, List, [], ◌∷◌, ◌++◌, length, take, drop, Some, None, Ok, Err, Option, Result, ◌≢◌, codes}
use Rattle.std.specs.Borrow.{Bor}
use Rattle.channels.specs.Bytes.{channel_byte}
use Rattle.channels.specs.declared.channel.Channel.{Channel}
use Rattle.records.specs.declared.record.Kind.{Kind}
use Rattle.records.specs.declared.record.Kind.TheVariants.{Count, Ranked, Float}
use Rattle.records.specs.declared.record.Record.{Record}
use Rattle.records.specs.declared.record.Record.TheVariants.{Open, Hear, Miss, Stolen, Restart}
use Rattle.records.specs.declared.spell.SpellError.{SpellError}
use Rattle.records.specs.declared.spell.SpellError.TheVariants.{Unopened, TooLong, WrongWidth, OutOfMemory}

-- what a record says
pub data Said : Type 0 where
  opens : Channel → Kind → Said
  -- how many samples, and the bytes that spell them
  hears : ℕ → List ℕ → Said
  misses : Said
  steals : Said
  restarts : Said

abbrev pub said : Record → Said
said (Open channel kind) = opens channel kind
said (Hear count bytes) = hears count bytes.now
said Miss = misses
said Stolen = steals
said Restart = restarts

-- the byte that names a kind of cost
abbrev pub kind_byte : Kind → ℕ
kind_byte Count = 0
kind_byte Ranked = 1
kind_byte Float = 2

-- how many bytes spell a sample
abbrev pub width : Kind → ℕ
width Count = 1
width Ranked = 1
width Float = 4

-- the bytes of a record: its mark, and what belongs to it; a count has two bytes, the high one first
abbrev pub spelling : Said → List ℕ
spelling (opens channel kind) = 0x4F ∷ 0x50 ∷ channel_byte channel ∷ kind_byte kind ∷ []
spelling (hears count bytes) = 0x48 ∷ 0x45 ∷ count / 256 ∷ count % 256 ∷ bytes
spelling misses = 0x4D ∷ 0x49 ∷ []
spelling steals = 0x53 ∷ 0x54 ∷ []
spelling restarts = 0x52 ∷ 0x45 ∷ []

-- the record may stand while a channel is open at that kind, or none is open yet: with none only an opening; and a burst has at most 1,024
-- samples, with as many bytes as they take
abbrev pub Stands : Option Kind → Said → Type 0
Stands opened (opens channel kind) = Unit {0}
Stands (Some kind) (hears count bytes) = (count ≤ 1024) × (length bytes ≡ width kind * count)
Stands (Some kind) s = Unit {0}
Stands None s = ⊥

-- the bytes begin with the record, and it may stand
pub record Begins (opened : Option Kind) (bytes : List ℕ) (s : Said) : Type 0 where
  pub stands : Stands opened s
  -- as many of the bytes as it takes are its own
  pub spelt : take (length (spelling s)) bytes ≡ spelling s

-- the bytes begin with a record and with no other
abbrev pub BeginsAlone : Option Kind → List ℕ → Said → Type 0
BeginsAlone opened bytes s = Begins opened bytes s × ((t : Said) → Begins opened bytes t → t ≡ s)

-- they begin with none
abbrev pub BeginsNone : Option Kind → List ℕ → Type 0
BeginsNone opened bytes = (s : Said) → Begins opened bytes s → ⊥

-- what reading the bytes answers: the one record that they begin with and the bytes behind it, or nothing where they begin with none
abbrev pub Reads : Option Kind → List ℕ → Option (Record × Bor (List ℕ)) → Type 0
Reads opened bytes (Some (found, rest)) = BeginsAlone opened bytes (said found) × (rest.now ≡ drop (length (spelling (said found))) bytes)
Reads opened bytes None = BeginsNone opened bytes

-- what is written of a record that was not spelt
abbrev pub not_spelt : SpellError → List ℕ
not_spelt Unopened = codes "a recording begins with an opening"
not_spelt TooLong = codes "a record has at most 1024 samples"
not_spelt WrongWidth = codes "a record has as many bytes as its samples take"
not_spelt OutOfMemory = codes "out of memory"

-- why a record is not spelt
abbrev pub Amiss : SpellError → Option Kind → Said → Type 0
Amiss Unopened None s = Stands None s → ⊥
Amiss TooLong (Some kind) (hears count bytes) = 1024 < count
Amiss WrongWidth (Some kind) (hears count bytes) = (count ≤ 1024) × (length bytes ≢ width kind * count)
Amiss OutOfMemory opened s = Stands opened s
Amiss error opened s = ⊥

-- spelling a record puts its bytes behind those that are there, or none of them where something is amiss
abbrev pub Appends : Option Kind → Said → List ℕ → Result (Unit {0}) SpellError → List ℕ → Type 0
Appends opened s before (Ok _) after = Stands opened s × (after ≡ before ++ spelling s)
Appends opened s before (Err error) after = Amiss error opened s × (after ≡ before)

-- a byte that names no kind of cost
abbrev pub NamesNoKind : ℕ → Type 0
NamesNoKind byte = (kind : Kind) → kind_byte kind ≢ byte
