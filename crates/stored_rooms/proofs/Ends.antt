-- How serving the stations of a room ends that goes on from its kept file.
use Rattle.std.proofs.Common.{◌≡◌, ℕ, ◌≤◌, inl, inr, List, Option, Some, length, slice_get, refl, ap, subst, arith}
use Rattle.cut_steps.specs.CutSteps.{KeptTrack, stepping}
use Rattle.composables.specs.declared.media.Table.{Table}
use Rattle.room_disks.specs.Crashes.{Course}
use Rattle.room_halls.specs.Stations.{HallTold, OpensAt}
use Rattle.room_keepers.specs.Faults.{IsCounted}
use Rattle.room_keepers.specs.declared.fault.KeepFault.{KeepFault}
use Rattle.room_keepers.specs.declared.fault.KeepFault.TheVariants as fault
use Rattle.room_ports.specs.Counts.{HasRisen}
use Rattle.journal_file.specs.Standing.{JournalState}
use Rattle.kept_rooms.specs.Kept.{AreKept}
use Rattle.command_files.specs.Ports.{Change, DiskTold, OutputTold, disk_told}
use Rattle.command_files.specs.declared.status.Status.{Status}
use Rattle.command_files.specs.declared.status.Status.TheVariants as ended
use Rattle.otio_json.specs.declared.opening.Opening.{Opening}
use Rattle.served_rooms.specs.Halls.{EndsUnserved, or_next}
use Rattle.served_rooms.specs.Seated.{AreOrigins, HaveServed, LeftState}
use Rattle.served_rooms.proofs.Ending.{sessions_end}
use Rattle.station_sessions.specs.Rooms.{History, Setting}
use Rattle.station_sessions.specs.Served.{IsRoomOf}
use Rattle.station_sessions.specs.SessionInside.{TrackPass, TrackRoom}
use Rattle.timecode12.specs.Numbers.{Counted}
use Rattle.stored_rooms.specs.Inside.{ClosesKept, DeskEnds, IsOpenFile}
use Rattle.stored_rooms.specs.KeptFiles.{DiskFails}
use Rattle.stored_rooms.specs.Stored.{StoredEnds}
use Rattle.stored_rooms.proofs.Files.{had_later, had_told, stays_open}

-- no status follows
or_done : (s : Status) → s ≡ or_next s ended.Done
or_done ended.Done = refl
or_done other = refl

-- the hall as it was
pub unheard : (address : List ℕ) (hall : HallTold) → EndsUnserved address hall hall ended.OutOfMemory
unheard address hall = (refl, record { opened = inl refl; unheard = λ s. refl })

module _ {D : Type 0} (file : D → List ℕ → Option Course) (course : D → Option Course) (faults : D → ℕ) (o : Opening) (kept : History) (name address : List ℕ) (before : DiskTold)
    (opened : JournalState D) (records : List (List ℕ)) (is : IsOpenFile course faults name before opened records) (old new : HallTold) where
  -- no session was begun
  pub unserved : (stations : ℕ) (disk : D) (status : Status) → disk ≡ opened.disk → EndsUnserved address old new status
      → DeskEnds o kept stations address name records before (disk_told file course faults disk) old new status
  unserved stations disk status same ends = rw same (record {
    had = had_told records (before.file name) (course opened.disk) is.told;
    ends = inr (stays_open records (before.file name) (course opened.disk) is.told, ends);
  })

  -- all sessions have ended
  module _ (room : TrackRoom) (counting : Counted) (start : ℕ) (of : IsRoomOf o room counting start) (passes : List TrackPass) (origins : AreOrigins kept passes)
      (left : List LeftState) (status : Status) (served : HaveServed room counting start (length kept) (λ fault. Unit {0}) passes left old new status)
      (disk : D) (h : History) (held : ℕ) (closes : ClosesKept course faults kept (course opened.disk) (faults opened.disk) room left disk h held) where
    fails : (k : ℕ) (l : LeftState) (f : KeepFault) → slice_get left k ≡ Some l → Unit {0} → IsCounted f l.holding.failures → DiskFails before (disk_told file course faults disk) f
    fails k l fault.Disk at may counted = subst (λ n. HasRisen n (faults disk)) is.quiet (closes.counts k l at counted)
    fails k l fault.Memory at may counted = tt

    pub served_ends : OpensAt old.opened new.opened address → length passes ≤ 16
        → DeskEnds o kept (length passes) address name records before (disk_told file course faults disk) old new status
    served_ends at few = record {
      had = had_later records (before.file name) (course opened.disk) (course disk) is.told closes.was_told;
      ends = inl (record {
        journal = h;
        held = held;
        of_sessions = status;
        of_keeping = ended.Done;
        opened = at;
        sessions = sessions_end o kept room counting start (length kept) (λ fault. Unit {0}) passes left old new status served of origins (omega arith) h closes.closed
            (length passes) held (DiskFails before (disk_told file course faults disk)) refl few closes.begins closes.more fails;
        keeps = (refl, closes.holds);
        status_is = or_done status;
      });
    }

-- the room goes on from its file
pub goes_on : (o : Opening) (stations : ℕ) (address name : List ℕ) (output : Change OutputTold) (hall : Change HallTold) (before after : DiskTold) (room : TrackRoom) (counting : Counted) (start : ℕ)
    (kept : History) (records : List (List ℕ)) (status : Status) → IsRoomOf o room counting start → AreKept (stepping room.object.object.table) room.parts stations records kept → output.Untouched
    → DeskEnds o kept stations address name records before after hall.before hall.after status → StoredEnds o stations address name output hall before after status
goes_on o stations address name output hall before after room counting start kept records status of are out ends =
    let table : room.object.object.table ≡ o.table = ap (λ (s : Setting). s.table) of.setting in
    inl (record {
      kept = kept;
      from = record {
        records = records;
        had = ends.had;
        are_kept = subst (λ (x : Table × List KeptTrack). AreKept (stepping x.0) x.1 stations records kept) (λ i. (table i, of.tracks i)) are;
      };
      unwritten = out;
      ends = ends.ends;
    })
