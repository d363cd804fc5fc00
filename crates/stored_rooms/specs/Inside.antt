-- A kept file that was opened, a room that goes on from it, and what is left when both are closed: for the steps of the code.
use Rattle.std.specs.Prelude.{◌≡◌, ℕ, ◌<◌, ◌≤◌, ◌^◌, List, Option, Some, IfSome, length, slice_get}
use Rattle.edit_journal.specs.Seats.{Begins}
use Rattle.room_disks.specs.Crashes.{Course, Told, Within}
use Rattle.room_halls.specs.Stations.{HallTold}
use Rattle.room_ports.specs.Counts.{HasRisen}
use Rattle.journal_file.specs.Layout.{IsDamagedAt, Kept}
use Rattle.journal_file.specs.Standing.{HasTooMany, JournalState, KeepsRecords}
use Rattle.journal_file.specs.declared.faults.OpenFault.{OpenFault}
use Rattle.journal_file.specs.declared.faults.OpenFault.TheVariants as opens
use Rattle.kept_desk.specs.Desks.{WasTold}
use Rattle.kept_rooms.specs.declared.fault.KeptFault.{KeptFault}
use Rattle.kept_rooms.specs.declared.fault.KeptFault.TheVariants as made
use Rattle.command_files.specs.Ports.{Change, DiskTold, OutputTold}
use Rattle.command_files.specs.Texts.{PutsWith}
use Rattle.command_files.specs.declared.status.Status.{Status}
use Rattle.command_files.specs.declared.status.Status.TheVariants as ended
use Rattle.otio_json.specs.declared.opening.Opening.{Opening}
use Rattle.served_rooms.specs.Closed.{IsClosedBy}
use Rattle.served_rooms.specs.Halls.{HallEnds}
use Rattle.served_rooms.specs.Seated.{LeftState}
use Rattle.station_sessions.specs.Rooms.{History}
use Rattle.station_sessions.specs.SessionInside.{TrackRoom}
use Rattle.stored_rooms.specs.KeptFiles.{DiskFails, DiskHolds, FileStays, FileTold, HoldsJournal, kept_line}
use Rattle.stored_rooms.specs.declared.refusal.KeptRefusal.TheVariants as refused

-- The file of this name was opened, and had these records. Whatever a crash leaves now, it is as it was, or has them.
pub record IsOpenFile {D : Type 0} (course : D → Option Course) (faults : D → ℕ) (name : List ℕ) (before : DiskTold) (file : JournalState D) (records : List (List ℕ)) : Type 0 where
  pub told : Told (λ old new. Kept old.now.reads records × Within (KeepsRecords old.now.reads) new.now) (before.file name) (course file.disk)
  pub quiet : faults file.disk ≡ before.faults

-- it was not opened
abbrev pub IsUnopenedFile : List ℕ → DiskTold → DiskTold → OpenFault → Type 0
IsUnopenedFile name before after opens.Failed = HasRisen before.faults after.faults
IsUnopenedFile name before after opens.TooLarge = FileTold name before after (λ bytes new. 2 ^ 27 < length bytes) × FileStays name before after
IsUnopenedFile name before after (opens.Damaged at) =
    FileTold name before after (λ bytes new. (length bytes ≤ 2 ^ 27) × IsDamagedAt bytes at) × FileStays name before after
IsUnopenedFile name before after (opens.TooMany count) =
    FileTold name before after (λ bytes new. (length bytes ≤ 2 ^ 27) × HasTooMany bytes count) × FileStays name before after
IsUnopenedFile name before after opens.Memory = FileStays name before after

-- the status, and the line that is put
abbrev pub UnopenedEnds : OpenFault → Change OutputTold → Status → Type 0
UnopenedEnds opens.Failed output status = (status ≡ ended.DiskFault) × output.Untouched
UnopenedEnds opens.TooLarge output status = PutsWith ended.Refused (kept_line refused.TooLarge) output.before output.after status
UnopenedEnds (opens.Damaged at) output status = PutsWith ended.Refused (kept_line (refused.Damaged at)) output.before output.after status
UnopenedEnds (opens.TooMany count) output status = PutsWith ended.Refused (kept_line (refused.TooMany count)) output.before output.after status
UnopenedEnds opens.Memory output status = (status ≡ ended.OutOfMemory) × output.Untouched

-- the same where its records were not made entries again
abbrev pub UnmadeEnds : KeptFault → Change OutputTold → Status → Type 0
UnmadeEnds (made.Refused code number) output status = PutsWith ended.Refused (kept_line (refused.Record code number)) output.before output.after status
UnmadeEnds (made.NotApplied place) output status = PutsWith ended.Refused (kept_line (refused.NotApplied place)) output.before output.after status
UnmadeEnds made.Strayed output status = (status ≡ ended.OutOfMemory) × output.Untouched
UnmadeEnds made.Memory output status = (status ≡ ended.OutOfMemory) × output.Untouched

-- A room was closed, with what is left of its stations and with the pass of the desk, and its desk with it, whose file had
-- these entries and stood so when it was opened. This is the room's journal, and all stations together know no more of its
-- entries to be kept than so many.
pub record ClosesKept {D : Type 0} (course : D → Option Course) (faults : D → ℕ) (kept : History) (begun : Option Course) (start : ℕ)
    (room : TrackRoom) (left : List LeftState) (disk : D) (h : History) (held : ℕ) : Type 0 where
  pub closed : IsClosedBy room left h
  pub begins : Begins h kept
  pub least : length kept ≤ held
  pub more : (k : ℕ) (l : LeftState) → slice_get left k ≡ Some l → l.holding.held ≤ held
  pub counts : (k : ℕ) (l : LeftState) → slice_get left k ≡ Some l → 0 < l.holding.failures → HasRisen start (faults disk)
  pub holds : IfSome (course disk) (λ new. Within (HoldsJournal h held) new.now)
  pub was_told : WasTold begun (course disk)

-- How serving the stations of a room ends that goes on from these entries, which are the records of its kept file.
pub record DeskEnds (o : Opening) (kept : History) (stations : ℕ) (address name : List ℕ) (records : List (List ℕ))
    (before after : DiskTold) (old new : HallTold) (status : Status) : Type 0 where
  pub had : FileTold name before after (λ bytes course. Kept bytes records)
  pub ends : HallEnds o kept stations address (DiskFails before after) (λ h held s. (s ≡ ended.Done) × DiskHolds after h held)
      (FileStays name before after) old new status
