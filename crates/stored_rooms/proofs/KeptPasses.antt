-- Passes of stations whose room goes on from the records of a kept file.
use Rattle.std.proofs.Common.{◌≡◌, ℕ, max, ◌≤◌, Bool, true, false, cond, ◌==◌, List, [], ◌∷◌, ◌++◌, fold, drop, length, map, Option, Some, refl, sym, subst, arith}
use Rattle.cut_steps.specs.CutSteps.{CutObject, CutStep, KeptTrack, stepping}
use Rattle.edit_journal.specs.Seats.{Opening as RoomOpening}
use Rattle.edit_journal.specs.Turns.{last_of}
use Rattle.room_core.specs.declared.entry.Entry.{Entry}
use Rattle.room_core.specs.Projection.{of_station}
use Rattle.kept_desk.specs.Desks.{IsReader}
use Rattle.kept_rooms.specs.Kept.{AreTaken}
use Rattle.kept_rooms.specs.Rooms.{EachKnowsOwn, KnowsAll}
use Rattle.kept_rooms.specs.declared.records.TheConstants.{LAST_NUMBER}
use Rattle.journal_text.specs.Journals.{HasLine, entry_text}
use Rattle.station_sessions.specs.Rooms.{AreWritten, History}
use Rattle.station_sessions.specs.SessionInside.{TrackPass, TrackRoom}
use Rattle.served_rooms.specs.Seated.{AreOrigins, CanAllBegin}

-- ---- entries that were taken of records

-- the entry has a line, and its station has numbers left
pub record IsGoodEntry (e : Entry CutStep) : Type 0 where
  pub has_line : HasLine e
  pub number : e.number ≤ LAST_NUMBER

abbrev pub AreGoodEntries : History → Type 0
AreGoodEntries [] = Unit {0}
AreGoodEntries (e ∷ es) = IsGoodEntry e × AreGoodEntries es

pub taken_good : (stations : ℕ) (before : History) (lines : List (List ℕ)) (es : History) → AreTaken stations before lines es → AreGoodEntries es
taken_good stations before [] [] t = tt
taken_good stations before [] (e ∷ es) t = absurd t
taken_good stations before (l ∷ ls) [] t = absurd t
taken_good stations before (l ∷ ls) (e ∷ es) t = (record { has_line = t.0.has_line; number = t.0.next.number }, taken_good stations (before ++ e ∷ []) ls es t.1)

-- the records are their lines
pub taken_texts : (stations : ℕ) (before : History) (lines : List (List ℕ)) (es : History) → AreTaken stations before lines es → lines ≡ map entry_text es
taken_texts stations before [] [] t = refl
taken_texts stations before [] (e ∷ es) t = absurd t
taken_texts stations before (l ∷ ls) [] t = absurd t
taken_texts stations before (l ∷ ls) (e ∷ es) t = λ i. t.0.text i ∷ taken_texts stations (before ++ e ∷ []) ls es t.1 i

written_one : (b : Bool) (e : Entry CutStep) (own : History) → IsGoodEntry e → AreWritten own → AreWritten (cond b (e ∷ own) own)
written_one true e own good w = ((good.has_line.number, good.has_line.by, good.has_line.call), w)
written_one false e own good w = w

written_of : (s : ℕ) (es : History) → AreGoodEntries es → AreWritten (of_station s es)
written_of s [] good = tt
written_of s (e ∷ es) good = written_one (e.station == s) e (of_station s es) good.0 (written_of s es good.1)

last_one : (b : Bool) (e : Entry CutStep) (own : History) (m : ℕ) → m ≤ LAST_NUMBER → e.number ≤ LAST_NUMBER
    → ((k : ℕ) → k ≤ LAST_NUMBER → fold (λ m e. max m e.number) k own ≤ LAST_NUMBER) → fold (λ m e. max m e.number) m (cond b (e ∷ own) own) ≤ LAST_NUMBER
last_one true e own m low number rest = rest (max m e.number) (omega (arith, low, number))
last_one false e own m low number rest = rest m low

last_within : (s : ℕ) (es : History) → AreGoodEntries es → (m : ℕ) → m ≤ LAST_NUMBER → fold (λ m e. max m e.number) m (of_station s es) ≤ LAST_NUMBER
last_within s [] good m low = low
last_within s (e ∷ es) good m low = last_one (e.station == s) e (of_station s es) m low good.0.number (λ k lower. last_within s es good.1 k lower)

-- ---- the passes

module _ (room : TrackRoom) (kept : History) (good : AreGoodEntries kept) (passes : List TrackPass) (each : EachKnowsOwn (stepping room.object.object.table) room.parts kept passes) where
  -- a session can begin with each of them
  pub can_begin : CanAllBegin room passes
  can_begin k p at =
      let own = each k p at in (
        own.number_is,
        record {
          legal = own.legal;
          base = subst (λ n. last_of n p.entries ≤ LAST_NUMBER) (sym own.number_is) (subst (λ n. n ≤ LAST_NUMBER) (sym own.last) (last_within k kept good 0 (omega arith)));
        },
      )

  -- and it goes on from the entries that were kept
  pub are_origins : AreOrigins kept passes
  are_origins k p at =
      let own = each k p at in (
        own.number_is,
        record {
          kept = own.told;
          none = subst (λ n. of_station n (drop (length kept) p.entries) ≡ []) (sym own.number_is) own.none_later;
          base = subst (λ n. last_of n kept ≡ last_of n p.entries) (sym own.number_is) (sym own.last);
          written = subst (λ n. AreWritten (of_station n p.entries)) (sym own.number_is) (subst AreWritten (sym own.own) (written_of k kept good));
        },
      )

-- the pass of the desk
pub is_reader : (room : TrackRoom) (opening : Option (RoomOpening CutObject KeptTrack)) (kept : History) (p : TrackPass) → opening ≡ Some (room.object, room.parts)
    → KnowsAll (stepping room.object.object.table) room.parts kept p → IsReader (λ o. stepping o.object.table) opening p
is_reader room opening kept p is knows = record { own = knows.own; legal = ((room.object, room.parts), is, knows.legal) }
