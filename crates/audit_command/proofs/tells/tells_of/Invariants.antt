use Rattle.std.proofs.Common.{◌≡◌, Some, length, slice_get}
use Rattle.cut_mirror.specs.Walks.{IsAlong}
use Rattle.audit_command.specs.Stations.{AreTelling}
use Rattle.audit_command.specs.declared.records.Station.{Station}
use Rattle.audit_command.proofs.tells.tells_of.Given as goal

abbrev pub invariant-loop-index : goal.invariant-loop-index
invariant-loop-index l =
    IsAlong l.fn.walk l.walk × (length l.tells.items ≡ l.index)
    × ((s : Station) → slice_get l.stations l.at ≡ Some s → AreTelling l.room l.fn.walk.opening s l.tells.items)
