-- The names that channels and kinds of cost have on the command line.
use Rattle.std.specs.Prelude.{◌≡◌, ◌≢◌, ℕ, List, Option, Some, None, codes}
use Rattle.channels.specs.declared.channel.Channel.{Channel}
use Rattle.channels.specs.declared.channel.Channel.TheVariants.{Bench, Bcch, Data24, Data96}
use Rattle.records.specs.declared.record.Kind.{Kind}
use Rattle.records.specs.declared.record.Kind.TheVariants.{Count, Ranked, Float}

abbrev pub channel_name : Channel → List ℕ
channel_name Bench = codes "bench"
channel_name Bcch = codes "bcch"
channel_name Data24 = codes "data24"
channel_name Data96 = codes "data96"

abbrev pub kind_name : Kind → List ℕ
kind_name Count = codes "count"
kind_name Ranked = codes "ranked"
kind_name Float = codes "float"

-- what a word is taken for: the one whose name it is, or nothing where it is the name of none
abbrev pub Named : {A : Type 0} → (A → List ℕ) → List ℕ → Option A → Type 0
Named {A} name word None = (a : A) → name a ≢ word
Named name word (Some a) = name a ≡ word
