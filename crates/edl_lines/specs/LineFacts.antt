-- What is so of each line of an event that is read.
use Rattle.std.specs.Prelude.{◌<◌, ◌≤◌, ℕ, ◌+◌, Option, Some, None, IsTrue}
use Rattle.reel_names.specs.Names.{is_reel_name}
use Rattle.timecode12.specs.declared.counting.TheConstants.{MAX_DAY_FRAMES}
use Rattle.edl_lines.specs.declared.event_line.EventLine.{EventLine}
use Rattle.edl_lines.specs.declared.said.Said.{Said}
use Rattle.edl_lines.specs.declared.said.Said.TheVariants.{Skipped, Counts, Tells}

-- no more frames of a dissolve than the event has
abbrev pub HasLength : Option ℕ → ℕ → Type 0
HasLength None len = Unit {0}
HasLength (Some frames) len = (0 < frames) × (frames ≤ len)

-- its outs are frames of a day
pub record IsLine (line : EventLine) : Type 0 where
  pub reel : IsTrue (is_reel_name line.reel)
  pub channel : 0 < line.channels
  pub channels : line.channels < 8
  pub source : line.source + line.len < MAX_DAY_FRAMES
  pub place : line.place + line.len < MAX_DAY_FRAMES
  pub dissolve : HasLength line.frames line.len

abbrev pub IsSaid : Said → Type 0
IsSaid Skipped = Unit {0}
IsSaid (Counts counting) = Unit {0}
IsSaid (Tells line) = IsLine line
