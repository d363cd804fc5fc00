use Rattle.std.proofs.Common.{◌≡◌, ◌≤◌, ◌*◌, map, take}
use Rattle.audit_command.specs.Recordings.{replies_in}
use Rattle.audit_command.specs.Stations.{recording_in}
use Rattle.audit_command.proofs.ending.replies_in.Given as goal

abbrev pub invariant-loop-station : goal.invariant-loop-station
invariant-loop-station l =
    (l.count ≡ replies_in (map recording_in (take l.station-index l.stations))) × (l.count ≤ l.station-index * 1073741823)
