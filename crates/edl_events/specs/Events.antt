-- What the events of an edit decision list are, after CMX 3600: a cut, or a dissolve with what follows it.
use Rattle.std.specs.Prelude.{◌≡◌, ◌<◌, ◌≤◌, ℕ, ◌+◌, List, [], ◌∷◌, Option, Some, None, IsTrue}
use Rattle.reel_names.specs.Names.{is_reel_name}
use Rattle.timecode12.specs.declared.counting.TheConstants.{MAX_DAY_FRAMES}
use Rattle.edl_events.specs.declared.event.Event.{Event}
use Rattle.edl_events.specs.declared.event.FromLine.{FromLine}

-- no more frames of a dissolve than the event has, and a frame of the day for its outgoing side; a cut has none
abbrev pub IsDissolve : Option FromLine → ℕ → ℕ → Type 0
IsDissolve None frames len = frames ≡ 0
IsDissolve (Some from) frames len =
    (0 < frames) × (frames ≤ len) × (from.source < MAX_DAY_FRAMES) × IsTrue (is_reel_name from.reel)

-- an event has a channel at least, and a frame; its outs are frames of a day
pub record IsEvent (e : Event) : Type 0 where
  pub reel : IsTrue (is_reel_name e.reel)
  pub channel : 0 < e.channels
  pub channels : e.channels < 8
  pub filled : 0 < e.len
  pub source : e.source + e.len < MAX_DAY_FRAMES
  pub place : e.place + e.len < MAX_DAY_FRAMES
  pub dissolve : IsDissolve e.from e.frames e.len

abbrev pub AreEvents : List Event → Type 0
AreEvents [] = Unit {0}
AreEvents (e ∷ es) = IsEvent e × AreEvents es
