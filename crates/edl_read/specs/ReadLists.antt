-- What is read of a list.
use Rattle.std.specs.Prelude.{◌≡◌, List, Result, Err}
use Rattle.edl_events.specs.declared.event.Event.{Event}
use Rattle.edl_events.specs.Events.{AreEvents}
use Rattle.edl_read.specs.declared.fault.ListReadFault.{ListReadFault}
use Rattle.edl_read.specs.declared.fault.ListReadFault.TheVariants.{Refused, Memory}
use Rattle.edl_read.specs.Overlaps.{AreApart}

-- the fault of what is meant, or there was no memory
abbrev pub IsFaultOf : {A : Type 0} → Result A ListReadFault → ListReadFault → Type 0
IsFaultOf meant (Refused code line other) = meant ≡ Err (Refused code line other)
IsFaultOf meant Memory = Unit {0}

-- a list of events that can be read: no two of them overlap
pub record CanBeRead (events : List Event) : Type 0 where
  pub each : AreEvents events
  pub apart : AreApart events
