-- What is so of the cut that waits for the line of its dissolve.
use Rattle.std.specs.Prelude.{◌<◌, Option, Some, None, IsTrue}
use Rattle.reel_names.specs.Names.{is_reel_name}
use Rattle.timecode12.specs.declared.counting.TheConstants.{MAX_DAY_FRAMES}
use Rattle.edl_read.specs.declared.reading.Waiting.{Waiting}

-- its source in is a frame of a day, and its reel has a name, if one waits
abbrev pub IsWaiting : Option Waiting → Type 0
IsWaiting None = Unit {0}
IsWaiting (Some w) = (w.source < MAX_DAY_FRAMES) × IsTrue (is_reel_name w.reel)
