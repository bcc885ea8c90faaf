-- The bytes that name the channels.
use Rattle.std.specs.Prelude.{ℕ, ◌≢◌}
use Rattle.channels.specs.declared.channel.Channel.{Channel}
use Rattle.channels.specs.declared.channel.Channel.TheVariants.{Bench, Bcch, Data24, Data96}

-- the byte that names a channel
abbrev pub channel_byte : Channel → ℕ
channel_byte Bench = 0
channel_byte Bcch = 1
channel_byte Data24 = 2
channel_byte Data96 = 3

-- a byte that names no channel
abbrev pub NamesNone : ℕ → Type 0
NamesNone byte = (channel : Channel) → channel_byte channel ≢ byte
