-- Where a session stopped at a line: its reply was not sent whole, or the entries that it tells of were not kept.
use Rattle.std.specs.Prelude.{◌≡◌, ℕ, List, [], ◌∷◌, ◌++◌, Option}
use Rattle.line_words.specs.Lines.{Line as InputLine}
use Rattle.room_keepers.specs.Faults.{IsCounted}
use Rattle.room_keepers.specs.declared.fault.KeepFault.{KeepFault}
use Rattle.room_keepers.specs.declared.fault.KeepFault.TheVariants.{Disk, Memory}
use Rattle.room_ports.specs.Counts.{HasRisen}
use Rattle.station_sessions.specs.Outside.{AreSent, LastIsCut}
use Rattle.station_sessions.specs.Served.{BreaksTo, ServesTo}
use Rattle.station_sessions.specs.Session.{StationState}
use Rattle.station_sessions.specs.declared.serve.End.{End}
use Rattle.station_sessions.specs.declared.serve.End.TheVariants.{WriteFault, DiskFault, KeepMemory}
use Rattle.station_sessions.specs.declared.serve.Stop.{Stop}
use Rattle.station_sessions.specs.declared.serve.Stop.TheVariants.{Unsent, Unkept}

-- the lines before one were answered, and at that one the session stopped so
abbrev pub StopsSo : (KeepFault → Type 0) → StationState → StationState → List InputLine → InputLine → Option (List ℕ) → Option (List ℕ) → Stop → Type 0
StopsSo may_fail old new before line taken_before taken_after Unsent =
    ServesTo old new (before ++ line ∷ []) (LastIsCut taken_before taken_after)
StopsSo may_fail old new before line taken_before taken_after (Unkept fault) =
    may_fail fault × IsCounted fault new.failures × BreaksTo old new before line (AreSent taken_before taken_after)

-- a write that failed was counted
abbrev pub CountsStop : Stop → ℕ → ℕ → Type 0
CountsStop Unsent before after = HasRisen before after
CountsStop (Unkept fault) before after = after ≡ before

-- how a session ends that stopped so
abbrev pub end_of : Stop → End
end_of Unsent = WriteFault
end_of (Unkept Disk) = DiskFault
end_of (Unkept Memory) = KeepMemory
