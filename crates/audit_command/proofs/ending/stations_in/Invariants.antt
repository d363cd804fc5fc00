use Rattle.std.proofs.Common.{◌≡◌, length, map, take}
use Rattle.audit_command.specs.Stations.{AreReady, recording_in, recording_told}
use Rattle.audit_command.proofs.ending.stations_in.Given as goal

abbrev pub invariant-loop-at : goal.invariant-loop-at
invariant-loop-at l =
    (length l.stations.items ≡ l.at) × AreReady l.entries l.stations.items × (map recording_in l.stations.items ≡ map recording_told (take l.at l.texts))
