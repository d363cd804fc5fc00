-- A command that nothing hinders ends with 0, or with 6.
use Rattle.std.proofs.Common.{◌≡◌, ◌≢◌, ℕ, suc, ◌+◌, ◌<◌, ◌≤◌, ◌⊎◌, inl, inr, List, [], ◌∷◌, ◌++◌, Option, Some, None, Result, Ok, Err, IfSome, IsSomeAnd, length, length-append, map, take, slice_get, refl, sym, ap, ◌∙◌, subst, arith}
use Rattle.std.proofs.lemmas.List.{take-take}
use Rattle.std.proofs.lemmas.Option.{same_Some, slice_get_within}
use Rattle.composables.specs.TrackState.{TrackState}
use Rattle.cut_steps.specs.CutSteps.{CutStep, stepping, fresh_tracks}
use Rattle.take_back.specs.Parts.{nows}
use Rattle.timecode12.specs.Numbers.{Counted}
use Rattle.timecode12.specs.declared.rate.SequenceRate.{SequenceRate}
use Rattle.line_words.specs.Lines.{Line as InputLine}
use Rattle.room_core.specs.declared.entry.Entry.{Entry}
use Rattle.room_core.specs.History.{replay}
use Rattle.room_core.specs.Whole.{whole}
use Rattle.room_keepers.specs.declared.fault.KeepFault.{KeepFault}
use Rattle.room_keepers.specs.declared.fault.KeepFault.TheVariants.{Disk}
use Rattle.room_files.specs.Files.{Content, Untold, Missing, Bytes, FilesTold, IsWhole, IsLonger, NoneChanged}
use Rattle.room_halls.specs.Stations.{HallTold}
use Rattle.room_ports.specs.Bytes.{Gives}
use Rattle.room_ports.specs.Counts.{HasRisen}
use Rattle.edl_events.specs.declared.event.Event.{Event}
use Rattle.edl_read.specs.Reading.{list_read}
use Rattle.edl_read.specs.declared.list.TheConstants.{MAX_LIST}
use Rattle.edl_write.specs.declared.fault.ListFault.{ListFault}
use Rattle.edl_write.specs.declared.fault.ListFault.TheVariants.{Memory}
use Rattle.otio_json.specs.Openings.{plain_opening}
use Rattle.otio_json.specs.Timelines.{document_read}
use Rattle.otio_json.specs.declared.opening.Opening.{Opening}
use Rattle.journal_text.specs.JournalFaults.{AreEntriesOf, IsFaulty}
use Rattle.journal_text.specs.declared.journal_reading.TheConstants.{MAX_JOURNAL}
use Rattle.journal_text.proofs.JournalLaws.{no_fault, one_journal}
use Rattle.cut_room.proofs.Journals.{front_applies}
use Rattle.command_words.specs.Commands.{Asked, RunPlain, RunDocument, Serve, Store, ListCut, PlayList, Import, Follow, Audit, Make}
use Rattle.command_files.specs.declared.status.Status.{Status}
use Rattle.command_files.specs.declared.status.Status.TheVariants.{Done, ReadFault, WriteFault, NotSeated, OutOfMemory, TooMuchInput, DiskFault}
use Rattle.command_files.specs.Ports.{Change, DiskTold, InputTold, OutputTold}
use Rattle.command_files.specs.Statuses.{number_of}
use Rattle.command_files.specs.Texts.{PutsWith}
use Rattle.command_files.specs.Unopened.{EndsUnopened, IsUnread}
use Rattle.command_files.specs.Documents.{Describes, IsDocumentRefused, document_line}
use Rattle.command_files.specs.Journals.{HoldsJournal, IsJournalRefused, journal_line}
use Rattle.command_files.specs.Lists.{HoldsList, IsListRefused, list_line}
use Rattle.command_files.specs.declared.documents.TheConstants.{MAX_DOCUMENT}
use Rattle.command_files.specs.declared.documents.DocumentRefusal.{DocumentRefusal}
use Rattle.command_files.specs.declared.journals.JournalRefusal.{JournalRefusal}
use Rattle.command_files.specs.declared.lists.ListRefusal.{ListRefusal}
use Rattle.command_files.specs.declared.lists.ListRefusal.TheVariants.{TooLarge, Faulty}
use Rattle.list_commands.specs.Cuts.{NamerTold, CutEnds, UnlistedEnds}
use Rattle.list_commands.specs.Imports.{EventsEnd, HasNoDocument, ImportEnds}
use Rattle.list_commands.specs.Points.{IsCutAt, HasFewer, DoesNotApply, PointEnds, JournalEnds, ListEnds, OpensDocument}
use Rattle.list_commands.specs.Tapes.{TapeEnds}
use Rattle.audit_command.specs.Audits.{AuditEnds, AuditsWell, LegalSessionsAreNotRefused, RecordsEnd, RefusesRecords}
use Rattle.audit_command.specs.Audits.{JournalEnds as AuditJournalEnds}
use Rattle.audit_command.specs.Refused.{RefusesAudit}
use Rattle.audit_command.specs.Recordings.{Recording}
use Rattle.command_words.specs.Records.{Named}
use Rattle.cut_server.proofs.RecordsRead.{none_too_long, same_recordings}
use Rattle.follow_command.specs.Accepted.{AcceptsStream, StreamsAreNotRefused}
use Rattle.follow_command.specs.Follows.{FollowEnds, MirrorEnds}
use Rattle.follow_command.specs.Goes.{CutMirror, Goes, first_mirror}
use Rattle.input_lines.specs.Inputs.{TakenInPart}
use Rattle.made_sessions.specs.Sessions.{MakeEnds}
use Rattle.station_sessions.specs.declared.serve.End.{End}
use Rattle.station_sessions.specs.declared.serve.End.TheVariants as end
use Rattle.station_sessions.specs.Outside.{Outside, most_input, most_read}
use Rattle.station_sessions.specs.Rooms.{History}
use Rattle.station_sessions.specs.Serving.{SessionEnds}
use Rattle.served_rooms.specs.Halls.{EndsUnserved, FileEnds, HallEnds, NeverFails, SessionsEnd, TellsStation, TellsStationBut, first_fault, line_at, or_next, status_of}
use Rattle.stored_rooms.specs.KeptFiles.{AcceptedAreNotRefused, DiskFails, IsAcceptedFile}
use Rattle.stored_rooms.specs.Stored.{DiskKeeps, IsUnopened, StoredEnds}
use Rattle.cut_server.proofs.ToldFiles.{none_changed_then, not_longer, same_bytes, same_content, stays, told_before}
use Rattle.cut_server.specs.Runs.{both, CommandEnds, DocumentEnds, OpensNoRoom, RunEnds, RunsOver, ServeEnds, StoreEnds}
use Rattle.cut_server.specs.Unhindered.{AreStill, AreWithin, FitOnList, IsStill, IsUnhindered, IsWithin, NothingFails, TellsCut, TellsDocument, TellsAudit, TellsImport, TellsList, TellsStream}

-- it is 0, or 6
abbrev pub EndsWell : Status → Type 0
EndsWell status = (status ≡ Done) ⊎ (status ≡ OutOfMemory)

-- ---- a session over an input that is not too long

not_past : (left rest : Option (List ℕ)) (Answered : List ℕ → Type 0) → IsWithin left
    → IfSome left (λ bytes. IsSomeAnd rest (λ behind. (got : List ℕ) × (bytes ≡ got ++ behind) × ((most_input < length got) × (length got ≤ most_input + most_read) × Answered got))) → ⊥
not_past None rest Answered short past = absurd short
not_past (Some bytes) None Answered short past = absurd past
not_past (Some bytes) (Some behind) Answered short past =
    let n : length bytes ≡ length past.0 + length behind = ap length past.1 ∙ length-append past.0 behind in
    let more : most_input < length past.0 = past.2.0 in
    omega (arith, n, short, more)

-- where no disk failed
session_well : (Answers : List InputLine → (List (List ℕ) → Type 0) → Type 0) (Breaks : List InputLine → InputLine → (List (List ℕ) → Type 0) → Type 0) (Unkept : KeepFault → Type 0) (old new : Outside) (e : End)
    → (Unkept Disk → ⊥) → AreStill old new → IsWithin old.left → SessionEnds Answers Breaks Unkept old new e → EndsWell (status_of e)
session_well Answers Breaks Unkept old new end.Ended disk still short ends = inl refl
session_well Answers Breaks Unkept old new end.ReadFault disk still short ends = absurd (still.0 ends.0.0)
session_well Answers Breaks Unkept old new end.WriteFault disk still short ends = absurd (still.1 ends.0.0)
session_well Answers Breaks Unkept old new end.TooMuchInput disk still short ends = absurd (not_past old.left new.left _ short ends.1)
session_well Answers Breaks Unkept old new end.DiskFault disk still short ends = absurd (disk ends.0)
session_well Answers Breaks Unkept old new end.KeepMemory disk still short ends = inr refl

run_well : (o : Opening) (old new : Outside) (Untouched : Type 0) (s : Status) → AreStill old new → IsWithin old.left → RunEnds o old new Untouched s → EndsWell s
run_well o old new Untouched Done still short ends = inl refl
run_well o old new Untouched ReadFault still short ends = absurd (still.0 ends.0.0)
run_well o old new Untouched WriteFault still short (inl ends) = absurd (still.1 ends.0.0)
run_well o old new Untouched WriteFault still short (inr ends) = absurd (still.1 ends.0.0)
run_well o old new Untouched OutOfMemory still short ends = inr refl
run_well o old new Untouched TooMuchInput still short ends = absurd (not_past old.left new.left _ short ends.1)
run_well o old new Untouched other still short ends = absurd ends

runs_well : (o : Opening) (input : Change InputTold) (output : Change OutputTold) (s : Status) → AreStill (both input.before output.before) (both input.after output.after)
    → IsWithin input.before.left → RunsOver o input output s → EndsWell s
runs_well o input output s still short ends =
    run_well o (both input.before output.before) (both input.after output.after) (input.Untouched × output.Untouched) s still short ends

-- ---- a text, and what is not opened

put_well : (all : Status) (text : List ℕ) (old new : OutputTold) (s : Status) → IsStill old.faults new.faults → PutsWith all text old new s → s ≡ all
put_well all text old new s still (inl put) = put.0
put_well all text old new s still (inr cut) = absurd (still cut.1.0)

unread_well : (Fits : Type 0) (old new : FilesTold) (output : Change OutputTold) (s : Status) → IsStill old.reads new.reads → IsUnread old new output Fits s → EndsWell s
unread_well Fits old new output ReadFault still unread = absurd (still unread.0)
unread_well Fits old new output OutOfMemory still unread = inr refl
unread_well Fits old new output other still unread = absurd unread

-- what is accepted has no fault
unopened_well : {R Fits : Type 0} (HasFault : R → Type 0) (line : R → List ℕ) (old new : FilesTold) (output : Change OutputTold) (s : Status) → ((r : R) → HasFault r → ⊥)
    → IsStill old.reads new.reads → EndsUnopened old new output HasFault line Fits s → EndsWell s
unopened_well HasFault line old new output s none still (inl refused) = absurd (none refused.refusal refused.refused)
unopened_well HasFault line old new output s none still (inr unread) = unread_well _ old new output s still unread

-- ---- what a file holds that is told

ok_or_err : {A B : Type 0} (a : A) (b : B) → ◌≡◌ {A = Result A B} (Ok a) (Err b) → ⊥
ok_or_err a b is = Prim.grind (arith, is)

same_ok : {A B : Type 0} (a b : A) → ◌≡◌ {A = Result A B} (Ok a) (Ok b) → a ≡ b
same_ok a b is = Prim.grind (arith, is)

-- a document
module _ (counting : Counted) (c : Content) (o : Opening) (told : c ≢ Untold) (d : Describes counting c o) where
  no_document_fault : (r : DocumentRefusal) → IsDocumentRefused counting c r → ⊥
  no_document_fault r (inl large) = not_longer c d.0 MAX_DOCUMENT told d.1 d.2 large.0
  no_document_fault r (inr fault) = ok_or_err o _ (sym d.3 ∙ (ap (document_read counting) (same_bytes c d.0 fault.0 told d.1 fault.1) ∙ fault.3))

  one_opening : (p : Opening) → Describes counting c p → p ≡ o
  one_opening p e = same_ok p o (sym e.3 ∙ (ap (document_read counting) (same_bytes c e.0 d.0 told e.1 d.1) ∙ d.3))

-- a journal
module _ (c : Content) (entries : List (Entry CutStep)) (told : c ≢ Untold) (h : HoldsJournal c entries) where
  no_journal_fault : (r : JournalRefusal) → IsJournalRefused c r → ⊥
  no_journal_fault r (inl large) = not_longer c h.0 MAX_JOURNAL told h.1 h.2 large.0
  no_journal_fault r (inr fault) =
      no_fault h.0 entries r.code r.line h.3 (subst (λ (bytes : List ℕ). IsFaulty bytes r.code r.line) (same_bytes c fault.0 h.0 told fault.1 h.1) fault.3)

  one_history : (others : List (Entry CutStep)) → HoldsJournal c others → others ≡ entries
  one_history others k = one_journal h.0 others entries (subst (λ (bytes : List ℕ). AreEntriesOf bytes others) (same_bytes c k.0 h.0 told k.1 h.1) k.3) h.3

-- a list
one_list : (rate : SequenceRate) (c : Content) (events others : List Event) → c ≢ Untold → HoldsList rate c events → HoldsList rate c others → others ≡ events
one_list rate c events others told h k = same_ok others events (sym k.3 ∙ (ap (list_read rate) (same_bytes c k.0 h.0 told k.1 h.1) ∙ h.3))

no_list_fault : (rate : SequenceRate) (c : Content) (events : List Event) → c ≢ Untold → HoldsList rate c events → (r : ListRefusal) → IsListRefused rate c r → ⊥
no_list_fault rate c events told h TooLarge fault = not_longer c h.0 MAX_LIST told h.1 h.2 fault
no_list_fault rate c events told h (Faulty code line other) fault =
    ok_or_err events _ (sym h.3 ∙ (ap (list_read rate) (same_bytes c h.0 fault.0 told h.1 fault.1) ∙ fault.3))

-- ---- `run` and `serve`

no_room_well : (name : List ℕ) (counting : Counted) (files : Change FilesTold) (output : Change OutputTold) (s : Status) → TellsDocument counting (files.before.file name)
    → IsStill files.before.reads files.after.reads → OpensNoRoom name counting files output s → EndsWell s
no_room_well name counting files output s tells still ends =
    let content = files.before.file name in
    unopened_well (IsDocumentRefused counting content) document_line files.before files.after output s (no_document_fault counting content tells.1 tells.0 tells.2) still ends

document_well : (name : List ℕ) (counting : Counted) (files : Change FilesTold) (output : Change OutputTold) (input : Change InputTold) (s : Status)
    → TellsDocument counting (files.before.file name) → IsStill files.before.reads files.after.reads → AreStill (both input.before output.before) (both input.after output.after)
    → IsWithin input.before.left → DocumentEnds name counting files output input s → EndsWell s
document_well name counting files output input s tells reads still short (only, inl run) = runs_well run.opening input output s still short run.ends
document_well name counting files output input s tells reads still short (only, inr none) = no_room_well name counting files output s tells reads none.1

file_well : (name : List ℕ) (before after : FilesTold) (h : History) (s : Status) → IsStill before.writes after.writes → FileEnds name before after h s → EndsWell s
file_well name before after h Done still ends = inl refl
file_well name before after h WriteFault still ends = absurd (still ends.2)
file_well name before after h other still ends = absurd ends

next_well : (s next : Status) → EndsWell s → EndsWell next → EndsWell (or_next s next)
next_well s next (inl done) well = subst (λ (x : Status). EndsWell (or_next x next)) (sym done) well
next_well s next (inr memory) well = subst (λ (x : Status). EndsWell (or_next x next)) (sym memory) (inr refl)

all_well : (ends : List End) → ((k : ℕ) (e : End) → slice_get ends k ≡ Some e → EndsWell (status_of e)) → EndsWell (first_fault (map status_of ends))
all_well [] each = inl refl
all_well (e ∷ es) each = next_well (status_of e) (first_fault (map status_of es)) (each 0 e refl) (all_well es (λ k x at. each (suc k) x at))

sessions_well : (o : Opening) (kept : History) (stations : ℕ) (h : History) (held : ℕ) (Fails : KeepFault → Type 0) (before after : HallTold) (s : Status) → (Fails Disk → ⊥)
    → ((k : ℕ) → AreStill (line_at before k) (line_at after k)) → AreWithin stations before → SessionsEnd o kept stations h held Fails before after s → EndsWell s
sessions_well o kept stations h held Fails before after s disk still short ended = subst EndsWell (sym ended.status_is) (all_well ended.ends each)
  where
    each : (k : ℕ) (e : End) → slice_get ended.ends k ≡ Some e → EndsWell (status_of e)
    each k e at =
        let low = slice_get_within ended.ends k e at in
        session_well (TellsStation o kept h held k) (TellsStationBut o kept h held k) Fails (line_at before k) (line_at after k) e disk (still k) (short k (omega (arith, low, ended.served.count)))
        (ended.served.each k e at)

unserved_well : (address : List ℕ) (old new : HallTold) (s : Status) → IsStill old.faults new.faults → EndsUnserved address old new s → EndsWell s
unserved_well address old new NotSeated still ends = absurd (still ends.0)
unserved_well address old new OutOfMemory still ends = inr refl
unserved_well address old new other still ends = absurd ends

hall_well : (o : Opening) (kept : History) (stations : ℕ) (address : List ℕ) (Fails : KeepFault → Type 0) (Keeps : History → ℕ → Status → Type 0) (Unkept : Type 0) (old new : HallTold) (s : Status)
    → (Fails Disk → ⊥) → IsStill old.faults new.faults → ((k : ℕ) → AreStill (line_at old k) (line_at new k)) → AreWithin stations old
    → ((h : History) (held : ℕ) (t : Status) → Keeps h held t → EndsWell t) → HallEnds o kept stations address Fails Keeps Unkept old new s → EndsWell s
hall_well o kept stations address Fails Keeps Unkept old new s disk calls still short keeps (inl served) =
    let well = sessions_well o kept stations served.journal served.held Fails old new served.of_sessions disk still short served.sessions in
    subst EndsWell (sym served.status_is) (next_well served.of_sessions served.of_keeping well (keeps served.journal served.held served.of_keeping served.keeps))
hall_well o kept stations address Fails Keeps Unkept old new s disk calls still short keeps (inr (unkept, unserved)) = unserved_well address old new s calls unserved

-- ---- `list`, `tape` and `import`

unlisted_well : (fault : ListFault) (output : Change OutputTold) (s : Status) → fault ≡ Memory → UnlistedEnds fault output s → EndsWell s
unlisted_well fault output s is ends = let memory : UnlistedEnds Memory output s = subst (λ (f : ListFault). UnlistedEnds f output s) is ends in inr memory.0

cut_well : (o : Opening) (tracks : List TrackState) (namer : NamerTold) (output : Change OutputTold) (s : Status) → FitOnList o tracks namer
    → IsStill output.before.faults output.after.faults → CutEnds o.table tracks o.counting o.start namer output s → EndsWell s
cut_well o tracks namer output s fits still (inl list) = inl (put_well Done list.list.text output.before output.after s still list.put)
cut_well o tracks namer output s fits still (inr none) = unlisted_well none.fault output s (fits none.fault none.refused) none.ends

-- what has a cut at a point is not refused there
not_refused : (o : Opening) (entries : List (Entry CutStep)) (point : ℕ) (tracks : List TrackState) (code : List ℕ) (number : ℕ) → IsCutAt o entries point tracks
    → HasFewer entries point code number ⊎ DoesNotApply o entries point code number → ⊥
not_refused o entries point tracks code number cut (inl fewer) = let few = fewer.0 in omega (arith, cut.within, few)
not_refused o entries point tracks code number cut (inr apart) =
    let apply = whole (stepping o.table) in
    let below = apart.1.within in
    let front = take-take (number + 1) point entries (omega (arith, below)) in
    front_applies apply (fresh_tracks o.tracks) cut.kept (take point entries) (number + 1) cut.comes (ap (replay apply (fresh_tracks o.tracks)) front ∙ apart.1.refused)

point_well : (o : Opening) (entries : List (Entry CutStep)) (point : ℕ) (tracks : List TrackState) (namer : NamerTold) (output : Change OutputTold) (s : Status)
    → IsCutAt o entries point tracks → FitOnList o tracks namer → IsStill output.before.faults output.after.faults → PointEnds o entries point namer output s → EndsWell s
point_well o entries point tracks namer output s cut fits still (inl cuts) =
    let kept = same_Some cuts.cut.kept cut.kept (sym cuts.cut.comes ∙ cut.comes) in
    let same = cuts.cut.tracks_are ∙ (ap nows kept ∙ sym cut.tracks_are) in
    cut_well o tracks namer output s fits still (subst (λ (ts : List TrackState). CutEnds o.table ts o.counting o.start namer output s) same cuts.ends)
point_well o entries point tracks namer output s cut fits still (inr (inl refused)) =
    absurd (not_refused o entries point tracks refused.code refused.number cut refused.why)
point_well o entries point tracks namer output s cut fits still (inr (inr memory)) = inr memory.0

journal_well : (o : Opening) (journal : List ℕ) (point : ℕ) (namer : NamerTold) (old new : FilesTold) (output : Change OutputTold) (s : Status)
    (entries : List (Entry CutStep)) (tracks : List TrackState) → old.file journal ≢ Untold → HoldsJournal (old.file journal) entries → IsCutAt o entries point tracks
    → FitOnList o tracks namer → IsStill old.reads new.reads → IsStill output.before.faults output.after.faults → JournalEnds o journal point namer old new output s → EndsWell s
journal_well o journal point namer old new output s entries tracks told holds cut fits reads still (only, inl opens) =
    let same = one_history (old.file journal) entries told holds opens.entries opens.holds in
    point_well o entries point tracks namer output s cut fits still (subst (λ (es : List (Entry CutStep)). PointEnds o es point namer output s) same opens.ends)
journal_well o journal point namer old new output s entries tracks told holds cut fits reads still (only, inr unopened) =
    let content = old.file journal in
    unopened_well (IsJournalRefused content) journal_line old new output s (no_journal_fault content entries told holds) reads unopened

module _ (document : List ℕ) (counting : Counted) (journal : List ℕ) (point : ℕ) (namer : NamerTold) (files : Change FilesTold) (output : Change OutputTold) (s : Status)
    (tells : TellsCut document counting journal point namer files) (reads : IsStill files.before.reads files.after.reads) (still : IsStill output.before.faults output.after.faults) where
  opened_well : OpensDocument document counting journal point namer files output s → EndsWell s
  opened_well opens =
      let between = opens.between in
      let then_so = same_content (between.file journal) (files.after.file journal) (opens.ends.0.0 journal) tells.still_told in
      let told : between.file journal ≢ Untold = λ untold. tells.still_told (sym then_so ∙ untold) in
      let first_so = same_content (files.before.file journal) (between.file journal) (opens.quiet.0.0 journal) told in
      let same = one_opening counting (files.before.file document) tells.opening tells.told tells.described opens.opening opens.described in
      journal_well tells.opening journal point namer between files.after output s tells.entries tells.tracks told
      (subst (λ (c : Content). HoldsJournal c tells.entries) first_so tells.holds) tells.cut tells.fits
      (subst (λ (n : ℕ). IsStill n files.after.reads) (sym opens.quiet.1) reads) still
      (subst (λ (o : Opening). JournalEnds o journal point namer between files.after output s) same opens.ends)

  list_well : ListEnds document counting journal point namer files output s → EndsWell s
  list_well (only, inl opens) = opened_well opens
  list_well (only, inr unopened) =
      let content = files.before.file document in
      unopened_well (IsDocumentRefused counting content) document_line files.before files.after output s
      (no_document_fault counting content tells.opening tells.told tells.described) reads unopened

tape_well : (name : List ℕ) (rate : SequenceRate) (files : Change FilesTold) (output : Change OutputTold) (s : Status) → TellsList rate (files.before.file name)
    → IsStill files.before.reads files.after.reads → IsStill output.before.faults output.after.faults → TapeEnds name rate files output s → EndsWell s
tape_well name rate files output s tells reads still (only, inl plays) = inl (put_well Done _ output.before output.after s still plays.put)
tape_well name rate files output s tells reads still (only, inr unopened) =
    let content = files.before.file name in
    unopened_well (IsListRefused rate content) list_line files.before files.after output s (no_list_fault rate content tells.1 tells.0 tells.2) reads unopened

events_well : (events : List Event) (counting : Counted) (output : Change OutputTold) (s : Status) → ((line : List ℕ) → HasNoDocument events counting line → ⊥)
    → IsStill output.before.faults output.after.faults → EventsEnd events counting output s → EndsWell s
events_well events counting output s none still (inl document) = inl (put_well Done _ output.before output.after s still document.put)
events_well events counting output s none still (inr (inl refused)) = absurd (none refused.line refused.why)
events_well events counting output s none still (inr (inr memory)) = inr memory.0

import_well : (name : List ℕ) (counting : Counted) (files : Change FilesTold) (output : Change OutputTold) (s : Status) → TellsImport counting (files.before.file name)
    → IsStill files.before.reads files.after.reads → IsStill output.before.faults output.after.faults → ImportEnds name counting files output s → EndsWell s
import_well name counting files output s tells reads still (only, inl opens) =
    let same = one_list counting.rate (files.before.file name) tells.1 opens.events tells.0 tells.2 opens.holds in
    events_well tells.1 counting output s tells.3 still (subst (λ (es : List Event). EventsEnd es counting output s) same opens.ends)
import_well name counting files output s tells reads still (only, inr unopened) =
    let content = files.before.file name in
    unopened_well (IsListRefused counting.rate content) list_line files.before files.after output s (no_list_fault counting.rate content tells.1 tells.0 tells.2) reads unopened

-- ---- `follow`

-- an input that is not too long has no more
no_more : (o : Opening) (before after : InputTold) (there : CutMirror) → AcceptsStream o before.left → TakenInPart Goes (first_mirror o) there before.left after.left → ⊥
no_more o before after there accepted part =
    beyond before.left after.left accepted.told part.gives
  where
    beyond : (left rest : Option (List ℕ)) → left ≡ Some accepted.text → Gives left rest part.got → ⊥
    beyond None rest told gives = Prim.grind (arith, told)
    beyond (Some bytes) None told gives = gives
    beyond (Some bytes) (Some behind) told gives =
        let same : bytes ≡ accepted.text = same_Some bytes accepted.text told in
        let n : length accepted.text ≡ length part.got + length behind = ap length (sym same ∙ gives) ∙ length-append part.got behind in
        let more : most_input < length part.got = part.more in
        let within : length accepted.text ≤ most_input = accepted.within in
        omega (arith, n, more, within)

-- no line of a stream that is accepted is refused
module _ (none : StreamsAreNotRefused) (counting : Counted) (content : Content) (o : Opening) (d : Describes counting content o) where
  mirror_well : (input : Change InputTold) (output : Change OutputTold) (s : Status) → AcceptsStream o input.before.left
      → AreStill (both input.before output.before) (both input.after output.after) → MirrorEnds o input output s → EndsWell s
  mirror_well input output s accepted still (inl writes) = inl (put_well Done _ output.before output.after s still.1 writes.put)
  mirror_well input output s accepted still (inr (inl refuses)) = absurd (none counting content o refuses.refusal input.before input.after d accepted refuses.first)
  mirror_well input output s accepted still (inr (inr (inl much))) = absurd (no_more o input.before input.after much.there accepted much.goes)
  mirror_well input output s accepted still (inr (inr (inr (inl unread)))) = absurd (still.0 unread.1)
  mirror_well input output s accepted still (inr (inr (inr (inr memory)))) = inr memory.0

follow_well : StreamsAreNotRefused → (document : List ℕ) (counting : Counted) (files : Change FilesTold) (input : Change InputTold) (output : Change OutputTold) (s : Status)
    → TellsStream document counting files input → IsStill files.before.reads files.after.reads → AreStill (both input.before output.before) (both input.after output.after)
    → FollowEnds document counting files input output s → EndsWell s
follow_well none document counting files input output s tells reads still (only, inl opens) =
    let content = files.before.file document in
    let same = one_opening counting content tells.opening tells.told tells.described opens.opening opens.described in
    mirror_well none counting content tells.opening tells.described input output s tells.accepted still
    (subst (λ (o : Opening). MirrorEnds o input output s) same opens.ends)
follow_well none document counting files input output s tells reads still (only, inr unopened) =
    no_room_well document counting files output s (tells.told, tells.opening, tells.described) reads unopened.1

-- ---- `audit`

module _ (none : LegalSessionsAreNotRefused) (document : List ℕ) (counting : Counted) (journal : List ℕ) (names : List Named) (files : Change FilesTold) (output : Change OutputTold) (s : Status)
    (tells : TellsAudit document counting journal names files) (reads : IsStill files.before.reads files.after.reads) (still : IsStill output.before.faults output.after.faults) where
  audited_well : (rs : List Recording) (there : FilesTold) → rs ≡ tells.recordings
      → AuditsWell tells.opening tells.entries names there files.after output s rs ⊎ RefusesRecords tells.opening tells.entries names there files.after output s rs → EndsWell s
  audited_well rs there same (inl well) = inl (put_well Done _ output.before output.after s still well.put)
  audited_well rs there same (inr refuses) =
      let refused : RefusesAudit tells.opening tells.entries tells.recordings refuses.refusal =
      subst (λ (qs : List Recording). RefusesAudit tells.opening tells.entries qs refuses.refusal) same refuses.refused in
      absurd ((none tells.opening tells.entries tells.recordings tells.legal).1 refuses.refusal refused)

  -- once the journal was read the files tell this
  records_well : (there : FilesTold) → NoneChanged files.before.file there.file → there.reads ≡ files.before.reads
      → RecordsEnd tells.opening tells.entries names there files.after output s → EndsWell s
  records_well there first same (only, inl unfit) = absurd ((none tells.opening tells.entries tells.recordings tells.legal).0 unfit.place unfit.unfit)
  records_well there first same (only, inr (inl opens)) =
      audited_well opens.recordings there
      (same_recordings names tells.recordings opens.recordings files there files.after tells.recorded first opens.reads (λ name. stays (files.after.file name)))
      opens.ends
  records_well there first same (only, inr (inr (inl unread))) = absurd (reads (subst (λ (n : ℕ). HasRisen n files.after.reads) same unread.2))
  records_well there first same (only, inr (inr (inr (inl much)))) =
      absurd (none_too_long names tells.recordings files there files.after tells.recorded first (λ name. stays (files.after.file name)) much.4)
  records_well there first same (only, inr (inr (inr (inr memory)))) = inr memory.0

  -- once the document was read the files tell this
  recorded_well : (there : FilesTold) → NoneChanged files.before.file there.file → there.reads ≡ files.before.reads
      → AuditJournalEnds tells.opening journal names there files.after output s → EndsWell s
  recorded_well there first same (only, inl opens) =
      let told = told_before (there.file journal) (files.after.file journal) (only.0 journal) tells.still_told in
      let held = subst (λ (c : Content). HoldsJournal c tells.entries) (same_content (files.before.file journal) (there.file journal) (first journal) told) tells.holds in
      let one = one_history (there.file journal) tells.entries told held opens.entries opens.holds in
      records_well opens.between (none_changed_then files.before.file there.file opens.between.file first opens.quiet.0.0) (opens.quiet.1 ∙ same)
      (subst (λ (es : History). RecordsEnd tells.opening es names opens.between files.after output s) one opens.ends)
  recorded_well there first same (only, inr unopened) =
      let told = told_before (there.file journal) (files.after.file journal) (only.0 journal) tells.still_told in
      let held = subst (λ (c : Content). HoldsJournal c tells.entries) (same_content (files.before.file journal) (there.file journal) (first journal) told) tells.holds in
      unopened_well (IsJournalRefused (there.file journal)) journal_line there files.after output s (no_journal_fault (there.file journal) tells.entries told held)
      (subst (λ (n : ℕ). IsStill n files.after.reads) (sym same) reads) unopened

  audit_well : AuditEnds document counting journal names files output s → EndsWell s
  audit_well (only, inl opens) =
      let same = one_opening counting (files.before.file document) tells.opening tells.told tells.described opens.opening opens.described in
      recorded_well opens.between opens.quiet.0.0 opens.quiet.1 (subst (λ (o : Opening). AuditJournalEnds o journal names opens.between files.after output s) same opens.ends)
  audit_well (only, inr unopened) =
      let content = files.before.file document in
      unopened_well (IsDocumentRefused counting content) document_line files.before files.after output s
      (no_document_fault counting content tells.opening tells.told tells.described) reads unopened

-- ---- `make`

make_well : (number count : ℕ) (output : Change OutputTold) (s : Status) → IsStill output.before.faults output.after.faults → MakeEnds number count output s → EndsWell s
make_well number count output s still (inl made) = inl (put_well Done made.0 output.before output.after s still made.2)
make_well number count output s still (inr memory) = inr memory.0

-- ---- a command

module _ (files : Change FilesTold) (disk : Change DiskTold) (input : Change InputTold) (output : Change OutputTold) (hall : Change HallTold) (namer : NamerTold) where
  serve_well : (name : List ℕ) (counting : Counted) (stations : ℕ) (address journal : List ℕ) (s : Status)
      → IsUnhindered files disk input output hall namer (Some (Serve name counting stations address journal))
      → ServeEnds name counting files output stations address journal hall s → EndsWell s
  serve_well name counting stations address journal s un (inl serves) =
      hall_well serves.opening [] stations address NeverFails (λ h held status. FileEnds journal files.before files.after h status) _ hall.before hall.after s (λ fails. fails) un.1.calls un.1.lines un.0.1
      (λ h held t keeps. file_well journal files.before files.after h t un.1.writes keeps) serves.ends
  serve_well name counting stations address journal s un (inr none) = no_room_well name counting files output s un.0.0 un.1.reads none.2

  -- the disk did not fail
  disk_well : (o : Opening) (stations : ℕ) (address journal : List ℕ) (s : Status) → IsStill disk.before.faults disk.after.faults
      → IsUnopened o stations address journal output hall disk.before disk.after s → EndsWell s
  disk_well o stations address journal DiskFault still unopened = absurd (still unopened.0)
  disk_well o stations address journal OutOfMemory still unopened = inr refl
  disk_well o stations address journal other still unopened = absurd unopened

  -- a kept file that is accepted is refused for nothing, and so is a stream
  module _ (law : AcceptedAreNotRefused) (streams : StreamsAreNotRefused) (sessions : LegalSessionsAreNotRefused) where
    stored_well : (o : Opening) (stations : ℕ) (address journal : List ℕ) (s : Status) → IsAcceptedFile o stations journal disk.before disk.after → AreWithin stations hall.before
        → NothingFails files disk input output hall namer → StoredEnds o stations address journal output hall disk.before disk.after s → EndsWell s
    stored_well o stations address journal s file short quiet (inl goes) =
        hall_well o goes.kept stations address (DiskFails disk.before disk.after) (DiskKeeps o stations address journal output hall disk.before disk.after) _ hall.before hall.after s
        quiet.disks quiet.calls quiet.lines short (λ h held t keeps. inl keeps.0) goes.ends
    stored_well o stations address journal s file short quiet (inr (none, inl refuses)) = absurd (law o stations journal disk.before disk.after refuses.refusal file refuses.refused)
    stored_well o stations address journal s file short quiet (inr (none, inr unopened)) = disk_well o stations address journal s quiet.disks unopened

    store_well : (name : List ℕ) (counting : Counted) (stations : ℕ) (address journal : List ℕ) (s : Status)
        → IsUnhindered files disk input output hall namer (Some (Store name counting stations address journal))
        → StoreEnds name counting files output stations address journal hall disk s → EndsWell s
    store_well name counting stations address journal s un (only, inl stores) =
        let tells = un.0.0 in
        let same = one_opening counting (files.before.file name) tells.opening tells.told tells.described stores.opening stores.described in
        stored_well tells.opening stations address journal s tells.file un.0.1 un.1
        (subst (λ (o : Opening). StoredEnds o stations address journal output hall disk.before disk.after s) same stores.ends)
    store_well name counting stations address journal s un (only, inr none) =
        let tells = un.0.0 in
        no_room_well name counting files output s (tells.told, tells.opening, tells.described) un.1.reads none.2

    pub ends_well : (asked : Option Asked) (s : Status) → IsUnhindered files disk input output hall namer asked → CommandEnds files disk input output hall namer asked s → EndsWell s
    ends_well None s un ends = absurd un.0
    ends_well (Some (RunPlain tracks reels)) s un ends = runs_well (plain_opening tracks reels) input output s un.1.streams un.0 ends.3
    ends_well (Some (RunDocument name counting)) s un ends = document_well name counting files output input s un.0.0 un.1.reads un.1.streams un.0.1 ends.2
    ends_well (Some (Serve name counting stations address journal)) s un ends = serve_well name counting stations address journal s un ends.2
    ends_well (Some (Store name counting stations address journal)) s un ends = store_well name counting stations address journal s un ends.1
    ends_well (Some (ListCut document counting journal point)) s un ends =
        list_well document counting journal point namer files output s un.0 un.1.reads un.1.streams.1 ends.3
    ends_well (Some (PlayList name rate)) s un ends = tape_well name rate files output s un.0 un.1.reads un.1.streams.1 ends.3
    ends_well (Some (Import name counting)) s un ends = import_well name counting files output s un.0 un.1.reads un.1.streams.1 ends.3
    ends_well (Some (Follow document counting)) s un ends = follow_well streams document counting files input output s un.0 un.1.reads un.1.streams ends.2
    ends_well (Some (Audit document counting journal names)) s un ends = audit_well sessions document counting journal names files output s un.0 un.1.reads un.1.streams.1 ends.3
    ends_well (Some (Make number count)) s un ends = make_well number count output s un.1.streams.1 ends.4

-- by its number
pub numbered_well : (n : ℕ) (s : Status) → n ≡ number_of s → EndsWell s → (n ≡ 0) ⊎ (n ≡ 6)
numbered_well n s is (inl done) = inl (is ∙ ap number_of done)
numbered_well n s is (inr memory) = inr (is ∙ ap number_of memory)
