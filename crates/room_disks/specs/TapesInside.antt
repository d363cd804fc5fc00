-- Calls on a file over memory as the code keeps them.
use Rattle.std.specs.Prelude.{◌≡◌}
use Rattle.room_disks.specs.declared.tape.DiskCall.{DiskCall}
use Rattle.room_disks.specs.declared.tape.DiskCall.TheVariants.{Looked, Wrote, FailedToWrite, Cut, FailedToCut, Synced}
use Rattle.room_disks.specs.Crashes.{Stand}
use Rattle.room_disks.specs.Tapes.{Done, Looks, Puts, FailsToPut, CutsTo, FailsToCut, Syncs, after}

abbrev pub done_of : DiskCall → Done
done_of Looked = Looks
done_of (Wrote at bytes) = Puts at bytes.items
done_of (FailedToWrite at n) = FailsToPut at n
done_of (Cut len) = CutsTo len
done_of (FailedToCut len) = FailsToCut len
done_of Synced = Syncs

-- the call leaves what a read gives
abbrev pub LeavesReads : Done → Type 0
LeavesReads call = (s : Stand) → (after s call).reads ≡ s.reads
