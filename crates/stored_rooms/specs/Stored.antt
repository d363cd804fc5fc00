-- How serving a room ends whose journal is kept on a disk as it grows, by its status.
use Rattle.std.specs.Prelude.{◌≡◌, ◌⊎◌, ℕ, List}
use Rattle.room_halls.specs.Stations.{HallTold}
use Rattle.room_ports.specs.Counts.{HasRisen}
use Rattle.command_files.specs.Ports.{Change, DiskTold, OutputTold}
use Rattle.command_files.specs.Texts.{PutsWith}
use Rattle.command_files.specs.declared.status.Status.{Status}
use Rattle.command_files.specs.declared.status.Status.TheVariants as ended
use Rattle.otio_json.specs.declared.opening.Opening.{Opening}
use Rattle.served_rooms.specs.Halls.{HallEnds}
use Rattle.station_sessions.specs.Rooms.{History}
use Rattle.stored_rooms.specs.KeptFiles.{DiskFails, DiskHolds, FileStays, GoesOnFrom, IsRefusedFile, kept_line}
use Rattle.stored_rooms.specs.declared.refusal.KeptRefusal.{KeptRefusal}

-- a room that begins so, with so many stations over the lines of a hall that is opened at one address, and the disk with the
-- kept file of this name
module _ (o : Opening) (stations : ℕ) (address name : List ℕ) (output : Change OutputTold) (hall : Change HallTold) (before after : DiskTold) where
  -- keeping the journal at the end cannot fail: whatever a crash leaves, the file has all that anybody was told of
  abbrev pub DiskKeeps : History → ℕ → Status → Type 0
  DiskKeeps h held status = (status ≡ ended.Done) × DiskHolds after h held

  -- the file's entries are the first of the room's journal, and the stations are served
  pub record GoesOn (status : Status) : Type 0 where
    pub kept : History
    pub from : GoesOnFrom o stations name before after kept
    pub unwritten : output.Untouched
    pub ends : HallEnds o kept stations address (DiskFails before after) DiskKeeps (FileStays name before after)
        hall.before hall.after status

  -- what the file holds is refused, and a line says why
  pub record RefusesFile (status : Status) : Type 0 where
    pub refusal : KeptRefusal
    pub refused : IsRefusedFile o stations name before after refusal
    pub stays : FileStays name before after
    pub put : PutsWith ended.Refused (kept_line refusal) output.before output.after status

  -- the disk failed, or there was no memory
  abbrev pub IsUnopened : Status → Type 0
  IsUnopened ended.DiskFault = HasRisen before.faults after.faults × output.Untouched
  IsUnopened ended.OutOfMemory = FileStays name before after × output.Untouched
  IsUnopened other = ⊥

  abbrev pub StoredEnds : Status → Type 0
  StoredEnds status = GoesOn status ⊎ (hall.Untouched × (RefusesFile status ⊎ IsUnopened status))
