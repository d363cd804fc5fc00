-- A kept file that is opened, and why it is refused.
use Rattle.std.proofs.Common.{◌≡◌, ℕ, ◌<◌, ◌≤◌, ◌⊎◌, inl, inr, ◌^◌, List, Option, Some, None, IfSome, IsSomeAnd, IsSome, length, refl, ◌∙◌, ap, subst, arith}
use Rattle.cut_steps.specs.CutSteps.{KeptTrack, stepping}
use Rattle.composables.specs.declared.media.Table.{Table}
use Rattle.room_disks.specs.Crashes.{Course, Since, Stand, Stays, Told, Within}
use Rattle.room_halls.specs.Stations.{HallTold}
use Rattle.room_ports.specs.Counts.{HasRisen}
use Rattle.journal_file.specs.Layout.{IsDamagedAt, Kept}
use Rattle.journal_file.specs.Standing.{Explains, HarmsNothing, HasTooMany, JournalState, KeepsRecords}
use Rattle.journal_file.specs.declared.faults.OpenFault.{OpenFault}
use Rattle.journal_file.specs.declared.faults.OpenFault.TheVariants as opens
use Rattle.kept_rooms.specs.Kept.{IsKeptFault, RefusesEntry, RefusesRecord}
use Rattle.kept_rooms.specs.declared.fault.KeptFault.{KeptFault}
use Rattle.kept_rooms.specs.declared.fault.KeptFault.TheVariants as made
use Rattle.command_files.specs.Ports.{Change, DiskTold, OutputTold}
use Rattle.command_files.specs.declared.status.Status.{Status}
use Rattle.command_files.specs.declared.status.Status.TheVariants as ended
use Rattle.otio_json.specs.declared.opening.Opening.{Opening}
use Rattle.station_sessions.specs.Rooms.{Setting}
use Rattle.station_sessions.specs.Served.{IsRoomOf}
use Rattle.station_sessions.specs.SessionInside.{TrackRoom}
use Rattle.timecode12.specs.Numbers.{Counted}
use Rattle.stored_rooms.specs.declared.refusal.KeptRefusal.TheVariants as refused
use Rattle.stored_rooms.specs.Inside.{IsOpenFile, IsUnopenedFile, UnmadeEnds, UnopenedEnds}
use Rattle.stored_rooms.specs.KeptFiles.{FileStays, FileTold}
use Rattle.stored_rooms.specs.Stored.{StoredEnds}

-- ---- what two calls after one another tell

-- the file of a name was opened, and looked at
module _ (lines : List (List ℕ)) where
  pub opened_told : (file first then : Option Course) → Told Stays file first → Told (λ o n. Kept o.now.reads lines) first then
      → Told (Since (λ bytes. Kept bytes lines)) first then → Told (λ o n. Kept o.now.reads lines × Within (KeepsRecords o.now.reads) n.now) file then
  opened_told file first None a b c = tt
  opened_told file None (Some n) a b c = absurd b
  opened_told None (Some o) (Some n) a b c = absurd a
  opened_told (Some x) (Some o) (Some n) a b c =
      let same : o.now ≡ x.now = ap (λ (k : Course). k.now) a in
      let had : Kept x.now.reads lines = subst (λ (s : Stand). Kept s.reads lines) same b in
      (had, λ image is. inr (lines, had, c.here image is))

  -- it had these records, where it is told
  pub had_told : (file then : Option Course) → Told (λ o n. Kept o.now.reads lines × Within (KeepsRecords o.now.reads) n.now) file then
      → IfSome then (λ n. IsSomeAnd file (λ o. Kept o.now.reads lines))
  had_told file None a = tt
  had_told None (Some n) a = absurd a
  had_told (Some o) (Some n) a = a.0

  -- also from a later time on, when nothing is told that was not told then
  pub had_later : (file then later : Option Course) → Told (λ o n. Kept o.now.reads lines × Within (KeepsRecords o.now.reads) n.now) file then
      → (IsSome later → IsSome then) → IfSome later (λ n. IsSomeAnd file (λ o. Kept o.now.reads lines))
  had_later file then None a was = tt
  had_later file None (Some n) a was = absurd (Prim.grind (arith, was refl))
  had_later None (Some m) (Some n) a was = absurd a
  had_later (Some o) (Some m) (Some n) a was = a.0

  -- and it stays
  pub stays_open : (file then : Option Course) → Told (λ o n. Kept o.now.reads lines × Within (KeepsRecords o.now.reads) n.now) file then
      → Told (λ o n. (n.now ≡ o.now) ⊎ Within (KeepsRecords o.now.reads) n.now) file then
  stays_open file None a = tt
  stays_open None (Some n) a = absurd a
  stays_open (Some o) (Some n) a = inr a.1

-- what was found out of the bytes of the file
found : (P : List ℕ → Type 0) (file first then : Option Course) → Told Stays file first → Told (λ o n. P o.now.reads) first then
    → IfSome then (λ n. IsSomeAnd file (λ o. P o.now.reads))
found P file first None a b = tt
found P file None (Some n) a b = absurd b
found P None (Some o) (Some n) a b = absurd a
found P (Some x) (Some o) (Some n) a b = subst (λ (s : Stand). P s.reads) (ap (λ (k : Course). k.now) a) b

-- the file was not harmed
unharmed : (file first then : Option Course) → Told Stays file first → Told HarmsNothing first then
    → Told (λ o n. (n.now ≡ o.now) ⊎ Within (KeepsRecords o.now.reads) n.now) file then
unharmed file first None a b = tt
unharmed file None (Some n) a b = absurd b
unharmed None (Some o) (Some n) a b = absurd a
unharmed (Some x) (Some o) (Some n) a (inl s) = inl (ap (λ (k : Course). k.now) s ∙ ap (λ (k : Course). k.now) a)
unharmed (Some x) (Some o) (Some n) a (inr s) = inr (subst (λ (t : Stand). Within (KeepsRecords t.reads) n.now) (ap (λ (k : Course). k.now) a) s.here)

-- why a file is not opened, that an opened disk has
pub unopened : (name : List ℕ) (before after : DiskTold) (first : Option Course) (faults : ℕ) (fault : OpenFault) → Told Stays (before.file name) first → faults ≡ before.faults
    → Explains fault first after.course → Told HarmsNothing first after.course → (fault ≡ opens.Failed → HasRisen faults after.faults)
    → IsUnopenedFile name before after fault
unopened name before after first faults opens.Failed a quiet why harm cause = subst (λ n. HasRisen n after.faults) quiet (cause refl)
unopened name before after first faults opens.TooLarge a quiet why harm cause =
    (found (λ bytes. 2 ^ 27 < length bytes) (before.file name) first after.course a why, unharmed (before.file name) first after.course a harm)
unopened name before after first faults (opens.Damaged at) a quiet why harm cause =
    (found (λ bytes. (length bytes ≤ 2 ^ 27) × IsDamagedAt bytes at) (before.file name) first after.course a why, unharmed (before.file name) first after.course a harm)
unopened name before after first faults (opens.TooMany count) a quiet why harm cause =
    (found (λ bytes. (length bytes ≤ 2 ^ 27) × HasTooMany bytes count) (before.file name) first after.course a why, unharmed (before.file name) first after.course a harm)
unopened name before after first faults opens.Memory a quiet why harm cause = unharmed (before.file name) first after.course a harm

-- ---- how it ends

module _ (o : Opening) (stations : ℕ) (address name : List ℕ) (output : Change OutputTold) (hall : Change HallTold) (before after : DiskTold) (same : hall.Untouched) where
  -- the room or the desk was not opened
  pub no_memory : FileStays name before after → output.Untouched → StoredEnds o stations address name output hall before after ended.OutOfMemory
  no_memory stays out = inr (same, inr (stays, out))

  -- the file was not opened
  pub unopened_ends : (fault : OpenFault) (status : Status) → IsUnopenedFile name before after fault → UnopenedEnds fault output status
      → StoredEnds o stations address name output hall before after status
  unopened_ends opens.Failed status u (is, out) = rw is (inr (same, inr (u, out)))
  unopened_ends opens.TooLarge status u e = inr (same, inl (record { refusal = refused.TooLarge; refused = u.0; stays = u.1; put = e }))
  unopened_ends (opens.Damaged at) status u e = inr (same, inl (record { refusal = refused.Damaged at; refused = u.0; stays = u.1; put = e }))
  unopened_ends (opens.TooMany count) status u e = inr (same, inl (record { refusal = refused.TooMany count; refused = u.0; stays = u.1; put = e }))
  unopened_ends opens.Memory status u (is, out) = rw is (no_memory u out)

  module _ {D : Type 0} (course : D → Option Course) (faults : D → ℕ) (file : JournalState D) (records : List (List ℕ)) (is : IsOpenFile course faults name before file records)
      (there : course file.disk ≡ after.course) where
    pub had : FileTold name before after (λ bytes new. Kept bytes records)
    had = subst (λ (c : Option Course). IfSome c (λ n. IsSomeAnd (before.file name) (λ x. Kept x.now.reads records))) there (had_told records (before.file name) (course file.disk) is.told)

    pub stays : FileStays name before after
    stays = subst (λ (c : Option Course). Told (λ x n. (n.now ≡ x.now) ⊎ Within (KeepsRecords x.now.reads) n.now) (before.file name) c) there (stays_open records (before.file name) (course file.disk) is.told)

    -- its records are not made entries again
    pub unmade_ends : (room : TrackRoom) (counting : Counted) (start : ℕ) → IsRoomOf o room counting start → (fault : KeptFault) (status : Status)
        → IsKeptFault (stepping room.object.object.table) room.parts stations records fault → UnmadeEnds fault output status
        → StoredEnds o stations address name output hall before after status
    unmade_ends room counting start of (made.Refused code number) status fault e =
        let table : room.object.object.table ≡ o.table = ap (λ (s : Setting). s.table) of.setting in
        inr (
          same,
          inl (record {
            refusal = refused.Record code number;
            refused = (records, had, subst (λ (x : Table × List KeptTrack). RefusesRecord (stepping x.0) x.1 stations records code number) (λ i. (table i, of.tracks i)) fault);
            stays = stays;
            put = e;
          }),
        )
    unmade_ends room counting start of (made.NotApplied place) status fault e =
        let table : room.object.object.table ≡ o.table = ap (λ (s : Setting). s.table) of.setting in
        inr (
          same,
          inl (record {
            refusal = refused.NotApplied place;
            refused = (records, had, subst (λ (x : Table × List KeptTrack). RefusesEntry (stepping x.0) x.1 stations records place) (λ i. (table i, of.tracks i)) fault);
            stays = stays;
            put = e;
          }),
        )
    unmade_ends room counting start of made.Strayed status fault (is_status, out) = rw is_status (no_memory stays out)
    unmade_ends room counting start of made.Memory status fault (is_status, out) = rw is_status (no_memory stays out)
