-- From what a session answered to what the program promises.
use Rattle.std.proofs.Common.{◌≡◌, ℕ, ◌<◌, ◌≤◌, inr, List, [], ◌∷◌, ◌++◌, length, Option, Some, None, IfSome, refl, sym, ap, ◌∙◌, subst, arith, Bool, true, false, cond, ◌==◌}
use Rattle.std.specs.Option.{IsSomeAnd}
use Rattle.cut_steps.specs.CutSteps.{fresh_tracks}
use Rattle.room_ports.specs.Counts.{HasRisen}
use Rattle.room_ports.proofs.Fronts.{takes-takes}
use Rattle.line_words.specs.Lines.{Line as InputLine, lines_of}
use Rattle.journal_text.specs.Journals.{journal_text_of, HasText}
use Rattle.station_sessions.specs.declared.serve.End.{End}
use Rattle.station_sessions.specs.declared.serve.End.TheVariants as end
use Rattle.command_files.specs.declared.status.Status.{Status}
use Rattle.command_files.specs.declared.status.Status.TheVariants.{Done, WriteFault, OutOfMemory}
use Rattle.command_files.specs.Ports.{Change, InputTold, OutputTold}
use Rattle.station_sessions.specs.Outside.{Outside, AtEnd, AreSent}
use Rattle.otio_json.specs.declared.opening.Opening.{Opening}
use Rattle.served_rooms.specs.Closed.{Closes}
use Rattle.served_rooms.specs.Stations.{AreOfStations}
use Rattle.room_core.specs.declared.entry.Entry.{Entry}
use Rattle.room_core.specs.Projection.{of_station}
use Rattle.std.proofs.lemmas.Bool.Decides.{nat_tests}
use Rattle.station_sessions.specs.Rooms.{History, AreWritten, room_of, setting_of, RoomTranscriptTo}
use Rattle.station_sessions.specs.Transcript.{new_room, sent}
use Rattle.station_sessions.specs.Served.{Knows, KnowsBut}
use Rattle.station_sessions.specs.Serving.{SessionEnds}
use Rattle.served_rooms.specs.Halls.{NeverFails}
use Rattle.room_keepers.specs.Faults.{IsCounted}
use Rattle.cut_server.specs.Runs.{both, IsTold, TellsOne, Tells, IsWhole, JournalIsCut, JournalEnds, NoneBreaks, RunEnds, RunsOver}
use Rattle.served_rooms.proofs.Ending.{unkept_told}
use Rattle.served_rooms.proofs.Sound.{has_text, stay_sound}
use Rattle.station_sessions.proofs.Serves.{takes-then_front}
use Rattle.station_sessions.proofs.Knowing.{session_told}
use Rattle.station_sessions.proofs.Transcripts.{transcript_more}

all_own : {C : Type 0} (b : Bool) (e : Entry C) (es own : List (Entry C)) → (e.station == 0) ≡ b → e.station < 1 → own ≡ es → cond b (e ∷ own) own ≡ e ∷ es
all_own true e es own is low same = ap (λ l. e ∷ l) same
all_own false e es own is low same = absurd (grind (arith, nat_tests, is, low))

-- entries of the only station
own_all : {C : Type 0} (h : List (Entry C)) → AreOfStations 1 h → of_station 0 h ≡ h
own_all [] s = refl
own_all (e ∷ es) s = all_own (e.station == 0) e es (of_station 0 es) refl s.0 (own_all es s.1)

-- the closed room's journal has a text
pub text_by : (o : Opening) (g h : History) → Closes o 1 0 g h → AreWritten (of_station 0 g) → HasText h
text_by o g h c w = has_text o 1 h (omega arith) c.legal c.seated (subst AreWritten (sym c.own ∙ own_all h c.seated) w)

-- and the closed room's journal tells it too
module _ (o : Opening) (held : ℕ) (g h : History) (c : Closes o 1 0 g h) where
  tells_by : (ls : List InputLine) (Taken : List (List ℕ) → Type 0) → Knows o new_room 0 g held ls Taken → (replies : List (List ℕ)) × IsTold o 1 h 0 ls replies × Taken replies
  tells_by ls Taken k =
      let there : RoomTranscriptTo o (g ++ c.more) new_room 0 ls k.0 k.1 =
      transcript_more (room_of (setting_of o)) (fresh_tracks o.tracks) g c.more new_room 0 ls k.0 k.1 (rw (← c.journal) c.legal.within) (ap (λ (l : History). of_station 0 l) (sym c.journal) ∙ c.own) [] k.2 in (
        k.0,
        record {
          journal = record {
            legal = c.legal;
            seated = c.seated;
            text = text_by o g h c k.4;
            sound = stay_sound o h c.opens c.legal;
          };
          transcript = (k.1, rw c.journal there);
        },
        k.5,
      )

  tells : (ls : List InputLine) (Taken : List (List ℕ) → Type 0) → Knows o new_room 0 g held ls Taken → Tells o ls Taken
  tells ls Taken k = let s = tells_by ls Taken k in (h, s.0, s.1, s.2)

-- what did not fail left no line without a reply
never_broken : (T : List InputLine → (List (List ℕ) → Type 0) → Type 0) (B : List InputLine → InputLine → (List (List ℕ) → Type 0) → Type 0) (old new : Outside) (e : End)
    → SessionEnds T B NeverFails old new e → SessionEnds T NoneBreaks NeverFails old new e
never_broken T B old new end.Ended h = h
never_broken T B old new end.ReadFault h = h
never_broken T B old new end.WriteFault h = h
never_broken T B old new end.TooMuchInput h = h
never_broken T B old new end.DiskFault h = absurd h.0
never_broken T B old new end.KeepMemory h = absurd h.0

-- how the session ended, where what keeps its room's journal can't fail
module _ (o : Opening) (held failures : ℕ) (g h : History) (old new : Outside) (e : End) where
  pub session_ends : Closes o 1 0 g h → SessionEnds (Knows o new_room 0 g held) (KnowsBut o new_room 0 g held) (λ fault. ⊥ × IsCounted fault failures) old new e
      → SessionEnds (Tells o) NoneBreaks NeverFails old new e
  session_ends c ended =
      never_broken (Tells o) (KnowsBut o new_room 0 g held) old new e
      (session_told (Knows o new_room 0 g held) (Tells o) (KnowsBut o new_room 0 g held) (KnowsBut o new_room 0 g held) NeverFails (tells o held g h c) (λ ls l Taken k. k) old new e
      (unkept_told (Knows o new_room 0 g held) (KnowsBut o new_room 0 g held) (λ fault. ⊥ × IsCounted fault failures) NeverFails old new e (λ fault f. f.0) ended))

at_end_then : (old mid new : Outside) (H K : List InputLine → Type 0) → new.left ≡ mid.left → ((ls : List InputLine) → H ls → K ls) → AtEnd old mid H → AtEnd old new K
at_end_then old mid new H K same f h =
    subst (λ (left : Option (List ℕ)). IfSome old.left (λ bytes. IsSomeAnd left (λ rest. (got : List ℕ) × (bytes ≡ got ++ rest) × ((rest ≡ []) × (length got ≤ 67108864) × K (lines_of got))))) (sym same)
    (by old.left mid.left h)
  where
    by : (before after : Option (List ℕ)) → IfSome before (λ bytes. IsSomeAnd after (λ rest. (got : List ℕ) × (bytes ≡ got ++ rest) × ((rest ≡ []) × (length got ≤ 67108864) × H (lines_of got))))
        → IfSome before (λ bytes. IsSomeAnd after (λ rest. (got : List ℕ) × (bytes ≡ got ++ rest) × ((rest ≡ []) × (length got ≤ 67108864) × K (lines_of got))))
    by None after k = tt
    by (Some b) None k = absurd k
    by (Some b) (Some x) (got, is, k) = (got, is, (k.0, k.1, f (lines_of got) k.2))

-- a session that ended, and then the journal's text
module _ (o : Opening) (held : ℕ) (g h : History) (old mid new : Outside) where
  pub run_ends : (s : Status) → Closes o 1 0 g h → SessionEnds (Knows o new_room 0 g held) NoneBreaks NeverFails old mid end.Ended → JournalEnds h mid new s → RunEnds o old new ⊥ s
  run_ends Done c (quiet, ended) (still, same, takes) = (
    (still.0 ∙ quiet.0, still.1 ∙ quiet.1),
    at_end_then old mid new (λ ls. Knows o new_room 0 g held ls (AreSent old.taken mid.taken)) (λ ls. TellsOne o ls (IsWhole old.taken new.taken)) same
        (λ ls k. let s = tells_by o held g h c ls (AreSent old.taken mid.taken) k in (h, s.0, s.1, takes-takes old.taken mid.taken new.taken (sent s.0) (journal_text_of h) s.2 takes)) ended,
  )
  run_ends WriteFault c (quiet, ended) (failed, same, takes) = inr (
    (subst (λ (w : ℕ). HasRisen w new.writes) quiet.1 failed.0, failed.1 ∙ quiet.0),
    at_end_then old mid new (λ ls. Knows o new_room 0 g held ls (AreSent old.taken mid.taken)) (λ ls. TellsOne o ls (JournalIsCut old.taken new.taken)) same
        (λ ls k. let s = tells_by o held g h c ls (AreSent old.taken mid.taken) k in (h, s.0, s.1, takes-then_front old.taken mid.taken new.taken (sent s.0) (journal_text_of h) s.2 takes)) ended,
  )
  run_ends other c ended journal = absurd journal

-- a run in which something was begun
pub run_begun : (o : Opening) (input : Change InputTold) (output : Change OutputTold) (s : Status) → RunEnds o (both input.before output.before) (both input.after output.after) ⊥ s → RunsOver o input output s
run_begun o input output OutOfMemory h = absurd h
run_begun o input output other h = h

-- a run in the room that is opened so
pub run_in : (o p : Opening) (input : Change InputTold) (output : Change OutputTold) (s : Status) → o ≡ p → RunsOver o input output s → RunsOver p input output s
run_in o p input output s is h = subst (λ (x : Opening). RunsOver x input output s) is h
