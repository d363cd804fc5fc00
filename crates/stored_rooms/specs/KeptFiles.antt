-- The kept file of a room: the entries that it had when the room was opened, why they are refused, and what a crash leaves
-- of it.
use Rattle.std.specs.Prelude.{◌≡◌, ◌⊎◌, ℕ, ◌≤◌, ◌<◌, ◌^◌, List, length, map, take, IfSome, IsSome, codes}
use Rattle.std.specs.Option.{IsSomeAnd}
use Rattle.cut_steps.specs.CutSteps.{stepping, fresh_tracks}
use Rattle.room_disks.specs.Crashes.{Course, Told, Within}
use Rattle.room_ports.specs.Counts.{HasRisen}
use Rattle.room_keepers.specs.declared.fault.KeepFault.{KeepFault}
use Rattle.room_keepers.specs.declared.fault.KeepFault.TheVariants.{Disk, Memory}
use Rattle.journal_file.specs.Layout.{Kept, IsDamagedAt}
use Rattle.journal_file.specs.Standing.{HasTooMany, KeepsRecords}
use Rattle.kept_rooms.specs.Kept.{AreKept, RefusesRecord, RefusesEntry}
use Rattle.kept_rooms.specs.declared.fault.RecordCode.{RecordCode}
use Rattle.kept_rooms.specs.declared.fault.RecordCode.TheVariants.{H1, H4, H6, H7}
use Rattle.journal_text.specs.Journals.{entry_text}
use Rattle.command_files.specs.Ports.{DiskTold}
use Rattle.command_files.specs.Texts.{refusal_text}
use Rattle.otio_json.specs.declared.opening.Opening.{Opening}
use Rattle.station_sessions.specs.Rooms.{History}
use Rattle.stored_rooms.specs.declared.refusal.KeptRefusal.{KeptRefusal}
use Rattle.stored_rooms.specs.declared.refusal.KeptRefusal.TheVariants.{TooLarge, Damaged, TooMany, Record, NotApplied}

-- the bytes that the file of this name had, and how the open file stands now, where the disk told the one and tells the
-- other
abbrev pub FileTold : List ℕ → DiskTold → DiskTold → (List ℕ → Course → Type 0) → Type 0
FileTold name before after Holds = IfSome after.course (λ new. IsSomeAnd (before.file name) (λ old. Holds old.now.reads new))

-- a room that begins so, with so many stations, and the disk with the kept file of this name
module _ (o : Opening) (stations : ℕ) (name : List ℕ) (before after : DiskTold) where
  -- these records are the file's
  abbrev pub HadRecords : List (List ℕ) → Type 0
  HadRecords records = FileTold name before after (λ bytes new. Kept bytes records)

  -- the file's records are these entries, each as it may come next, and they all apply in order
  pub record GoesOnFrom (kept : History) : Type 0 where
    pub records : List (List ℕ)
    pub had : HadRecords records
    pub are_kept : AreKept (stepping o.table) (fresh_tracks o.tracks) stations records kept

  -- The file is refused for this. It has more than 128 MiB, or is damaged at a place, or has more than 100,000 records; else
  -- the first record that fails is no entry that may come next, or one that does not apply.
  abbrev pub IsRefusedFile : KeptRefusal → Type 0
  IsRefusedFile TooLarge = FileTold name before after (λ bytes new. 2 ^ 27 < length bytes)
  IsRefusedFile (Damaged at) = FileTold name before after (λ bytes new. (length bytes ≤ 2 ^ 27) × IsDamagedAt bytes at)
  IsRefusedFile (TooMany count) = FileTold name before after (λ bytes new. (length bytes ≤ 2 ^ 27) × HasTooMany bytes count)
  IsRefusedFile (Record code number) =
      (records : List (List ℕ)) × HadRecords records × RefusesRecord (stepping o.table) (fresh_tracks o.tracks) stations records code number
  IsRefusedFile (NotApplied place) =
      (records : List (List ℕ)) × HadRecords records × RefusesEntry (stepping o.table) (fresh_tracks o.tracks) stations records place

  -- The disk tells the file, and goes on telling it. It has at most 128 MiB and at most 100,000 records, which are entries
  -- that all apply.
  pub record IsAcceptedFile : Type 0 where
    pub records : List (List ℕ)
    pub kept : History
    pub had : IsSomeAnd (before.file name) (λ old. (length old.now.reads ≤ 2 ^ 27) × Kept old.now.reads records)
    pub few : length records ≤ 100000
    pub are_kept : AreKept (stepping o.table) (fresh_tracks o.tracks) stations records kept
    pub still_told : IsSome after.course

-- such a file is refused for nothing
abbrev pub AcceptedAreNotRefused : Type 0
AcceptedAreNotRefused = (o : Opening) (stations : ℕ) (name : List ℕ) (before after : DiskTold) (refusal : KeptRefusal)
    → IsAcceptedFile o stations name before after → IsRefusedFile o stations name before after refusal → ⊥

-- A crash leaves no more and no less than it could leave before; or whatever it leaves now, the file is as it was, or has
-- the records that it had.
abbrev pub FileStays : List ℕ → DiskTold → DiskTold → Type 0
FileStays name before after =
    Told (λ old new. (new.now ≡ old.now) ⊎ Within (KeepsRecords old.now.reads) new.now) (before.file name) after.course

-- whatever a crash leaves now, the records are the lines of the first entries of the journal, at least as many as this
pub record HoldsJournal (h : History) (held : ℕ) (image : List ℕ) : Type 0 where
  pub count : ℕ
  pub lines : Kept image (map entry_text (take count h))
  pub least : held ≤ count

abbrev pub DiskHolds : DiskTold → History → ℕ → Type 0
DiskHolds after h held = IfSome after.course (λ new. Within (HoldsJournal h held) new.now)

-- where the disk failed it has counted that
abbrev pub DiskFails : DiskTold → DiskTold → KeepFault → Type 0
DiskFails before after Disk = HasRisen before.faults after.faults
DiskFails before after Memory = Unit {0}

-- ---- the line of a refusal

abbrev pub code_text : RecordCode → List ℕ
code_text H1 = codes "H1"
code_text H4 = codes "H4"
code_text H6 = codes "H6"
code_text H7 = codes "H7"

abbrev pub kept_line : KeptRefusal → List ℕ
kept_line TooLarge = refusal_text (codes "K2") 0
kept_line (Damaged at) = refusal_text (codes "K1") at
kept_line (TooMany count) = refusal_text (codes "H8") count
kept_line (Record code number) = refusal_text (code_text code) number
kept_line (NotApplied place) = refusal_text (codes "H3") place
