use Rattle.std.proofs.Common.{◌≡◌, ℕ, ◌<◌, ◌^◌, ◌&&◌, leb, drop}
use Rattle.edit_trim.specs.Rippling.{have_room}
use Rattle.edit_trim.proofs.rippling.room_to_grow.Given as goal

abbrev pub invariant-loop-track : goal.invariant-loop-track
invariant-loop-track l = (n : ℕ) → n < 2 ^ 32 → have_room l.own l.place l.named n ≡ leb n l.room && have_room l.own l.place (drop l.track-index l.named) n
