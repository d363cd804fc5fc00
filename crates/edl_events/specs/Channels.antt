-- The channels of an event: bit 0 is V, bit 1 is A, bit 2 is A2.
use Rattle.std.specs.Prelude.{ℕ, ◌/◌, ◌%◌, Bool, ◌==◌}
use Rattle.edl_events.specs.declared.channel.Channel.{Channel}
use Rattle.edl_events.specs.declared.channel.Channel.TheVariants.{V, A, A2}

-- the set of one channel
abbrev pub set_of : Channel → ℕ
set_of V = 1
set_of A = 2
set_of A2 = 4

-- whether a channel is in a set
abbrev pub is_on : Channel → ℕ → Bool
is_on c channels = (channels / set_of c) % 2 == 1
