-- What keeps the tracks of a room together where items have links: source frames moved, and an item moved between its
-- neighbours.
use Rattle.composables.specs.declared.media.Table.{Table}
use Rattle.composables.specs.declared.calls.Slide.{Slide}
use Rattle.composables.specs.declared.calls.Slip.{Slip}
use Rattle.edit_roll.specs.Sliding.{slide_named}
use Rattle.edit_trim.specs.Slipping.{slip_named}
use Rattle.link_laws.specs.Given.{KeepsGiven}
use Rattle.link_laws.specs.Rooms.{KeepsTogether}

-- all that has an item's link shows other source frames
abbrev pub SlippingKeepsTogether : Type 0
SlippingKeepsTogether = (table : Table) (c : Slip) → KeepsTogether table (λ named. slip_named table named c)

-- an item that has its link alone
abbrev pub SlidingKeepsTogether : Type 0
SlidingKeepsTogether = (table : Table) (c : Slide) → KeepsTogether table (λ named. slide_named table named c)

-- both keep links given away, whatever else the tracks are
abbrev pub SlippingKeepsGiven : Type 0
SlippingKeepsGiven = (table : Table) (c : Slip) → KeepsGiven (λ named. slip_named table named c)

abbrev pub SlidingKeepsGiven : Type 0
SlidingKeepsGiven = (table : Table) (c : Slide) → KeepsGiven (λ named. slide_named table named c)
