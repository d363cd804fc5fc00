-- Frames whose numbers are below 2 ^ 32, as the program keeps them.
use Rattle.std.specs.Prelude.{◌<◌, ◌^◌}
use Rattle.frame_meaning.specs.declared.frames.Side.{Side}
use Rattle.frame_meaning.specs.declared.frames.Side.TheVariants as side
use Rattle.frame_meaning.specs.declared.frames.Frame.{Frame}
use Rattle.frame_meaning.specs.declared.frames.Frame.TheVariants as frame

abbrev pub SideIsNumbered : {W : Type 0} → Side W → Type 0
SideIsNumbered side.Dark = Unit {0}
SideIsNumbered (side.Pic what source) = source < 2 ^ 32

abbrev pub IsNumbered : {W : Type 0} → Frame W → Type 0
IsNumbered frame.Dark = Unit {0}
IsNumbered (frame.Pic what source) = source < 2 ^ 32
IsNumbered (frame.Mix left right num den) = SideIsNumbered left × SideIsNumbered right × (num < 2 ^ 32) × (den < 2 ^ 32)
