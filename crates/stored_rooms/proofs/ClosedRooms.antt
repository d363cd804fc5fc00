-- A room and its desk are closed.
use Rattle.std.proofs.Common.{◌≡◌, ◌≢◌, ℕ, ◌+◌, ◌<◌, ◌≤◌, inl, inr, nat_lt, Bool, true, false, List, [], ◌∷◌, ◌++◌, All, length, map, take, drop, slice_get, Option, Some, None, IfSome, refl, sym, ◌∙◌, ap, subst, arith, ⊎_elim, append_assoc}
use Rattle.std.proofs.lemmas.Bool.Decides.{nat_tests}
use Rattle.std.proofs.lemmas.List.{map-append}
use Rattle.std.proofs.lemmas.List.Elements.{All-cons, All-nil}
use Rattle.cut_steps.specs.CutSteps.{CutObject, CutStep, KeptTrack, stepping}
use Rattle.atomic_table.specs.Seated.{TableId}
use Rattle.edit_journal.specs.Seats.{Agrees, Begins, In, Opening as RoomOpening}
use Rattle.edit_journal.specs.declared.name.Name.TheVariants.{Station}
use Rattle.room_core.specs.declared.entry.Entry.{Entry}
use Rattle.room_core.specs.History.{IsLegal}
use Rattle.room_core.specs.Whole.{whole}
use Rattle.room_disks.specs.Crashes.{Course, Within}
use Rattle.journal_file.specs.Layout.{Kept}
use Rattle.journal_file.specs.Standing.{HoldsLines}
use Rattle.kept_desk.specs.Desks.{ArePending, DeskState, IsDesk}
use Rattle.kept_desk.proofs.Fronts.{front_more, front_stays, front_within, rest_within}
use Rattle.journal_text.specs.Journals.{entry_text}
use Rattle.served_rooms.specs.Seated.{LeftState}
use Rattle.served_rooms.proofs.Seating.{at_place, behind, one_more}
use Rattle.served_rooms.proofs.Ending.{IsReader as ReadsOnly, all_in, closed_by}
use Rattle.station_sessions.specs.Rooms.{History}
use Rattle.station_sessions.specs.SessionInside.{TrackPass, TrackRoom}
use Rattle.stored_rooms.specs.Inside.{ClosesKept}
use Rattle.stored_rooms.specs.KeptFiles.{HoldsJournal}

-- ---- all that are left

-- one more of which it holds
pub each_more : {A : Type 0} (P : A → Type 0) (xs : List A) (x : A) → ((k : ℕ) (y : A) → slice_get xs k ≡ Some y → P y) → P x → (k : ℕ) (y : A) → slice_get (xs ++ x ∷ []) k ≡ Some y → P y
each_more P xs x all here k y at = ⊎_elim (λ (e : slice_get xs k ≡ Some y). all k y e) (λ (p : (k ≡ length xs) × (x ≡ y)). subst P p.1 here) (one_more xs x y k at)

in_front : {A : Type 0} (x : A) (xs ys : List A) → In x xs → In x (xs ++ ys)
in_front x [] ys i = absurd i
in_front x (z ∷ zs) ys (inl e) = inl e
in_front x (z ∷ zs) ys (inr i) = inr (in_front x zs ys i)

in_end : {A : Type 0} (x : A) (xs : List A) → In x (xs ++ x ∷ [])
in_end x [] = inl refl
in_end x (z ∷ zs) = inr (in_end x zs)

-- each station is among those that are left, or is the reader
pub each_in : (s : ℕ) (left : List LeftState) (reader : TrackPass) (passes : List TrackPass) → passes ≡ map (λ (l : LeftState). l.pass) left ++ reader ∷ []
    → ((k : ℕ) (l : LeftState) → slice_get left k ≡ Some l → l.pass.number ≡ k) → reader.number ≡ length left → s < length left + 1 → In s (map (λ (p : TrackPass). p.number) passes)
each_in s left reader passes are numbers count low =
    let own : map (λ (p : TrackPass). p.number) passes ≡ map (λ (p : TrackPass). p.number) (map (λ (l : LeftState). l.pass) left) ++ reader.number ∷ [] =
    ap (map (λ (p : TrackPass). p.number)) are ∙ map-append (λ (p : TrackPass). p.number) (map (λ (l : LeftState). l.pass) left) (reader ∷ []) in
    subst (λ (ns : List ℕ). In s ns) (sym own) (at_or (nat_lt s (length left)) refl)
  where
    at_or : (b : Bool) → nat_lt s (length left) ≡ b → In s (map (λ (p : TrackPass). p.number) (map (λ (l : LeftState). l.pass) left) ++ reader.number ∷ [])
    at_or true e =
        let below : s < length left = Prim.grind (arith, nat_tests, e) in
        in_front s (map (λ (p : TrackPass). p.number) (map (λ (l : LeftState). l.pass) left)) (reader.number ∷ [])
        (all_in (length left) s left (map (λ (l : LeftState). l.pass) left) refl numbers refl below)
    at_or false e =
        let past : length left ≤ s = Prim.grind (arith, nat_tests, e) in
        subst (λ (n : ℕ). In n (map (λ (p : TrackPass). p.number) (map (λ (l : LeftState). l.pass) left) ++ reader.number ∷ [])) (omega (arith, count, past, low))
        (in_end reader.number (map (λ (p : TrackPass). p.number) (map (λ (l : LeftState). l.pass) left)))

-- ---- what a crash leaves of the file

-- the lines of the first entries of what the desk knows are those of the journal, which goes on from there
module _ (n : ℕ) (known h : History) (goes_on : Begins h known) (within : n ≤ length known) where
  holds_front : (image : List ℕ) → Kept image (map entry_text (take n known)) → HoldsJournal h n image
  holds_front image kept = record {
    count = n;
    lines = subst (λ (es : History). Kept image (map entry_text es)) (sym (front_stays n known h within goes_on)) kept;
    least = omega arith;
  }

  holds_journal : (pending : Option (List (List ℕ))) (image : List ℕ) → ArePending entry_text (drop n known) pending
      → HoldsLines pending (map entry_text (take n known)) image → HoldsJournal h n image
  holds_journal None image are kept = holds_front image kept
  holds_journal (Some batch) image are (inl kept) = holds_front image kept
  holds_journal (Some batch) image are (inr kept) =
      let m = length batch in
      let fits : n + m ≤ length known = rest_within entry_text n m known batch within refl are.1 in
      let lines : map entry_text (take n known) ++ batch ≡ map entry_text (take (n + m) known) =
      ap (λ l. map entry_text (take n known) ++ l) are.1 ∙ sym (front_more entry_text n m known) in
      record {
        count = n + m;
        lines = subst (λ (es : History). Kept image (map entry_text es)) (sym (front_stays (n + m) known h fits goes_on)) (subst (Kept image) lines kept);
        least = omega arith;
      }

  holds_there : (c : Option Course) (pending : Option (List (List ℕ))) → ArePending entry_text (drop n known) pending
      → IfSome c (λ x. Within (HoldsLines pending (map entry_text (take n known))) x.now) → IfSome c (λ x. Within (HoldsJournal h n) x.now)
  holds_there None pending are stands = tt
  holds_there (Some x) pending are stands = λ image is. holds_journal pending image are (stands image is)

-- ---- all of it

-- some failure was counted
not_none : (n m : ℕ) → 0 < n → n ≤ m → m ≢ 0
not_none n m some most is = absurd (omega (arith, some, most, is))

module _ {D : Type 0} (course : D → Option Course) (faults : D → ℕ) (opening : Option (RoomOpening CutObject KeptTrack)) (table : TableId) (number : ℕ) (kept : History)
    (begun : Option Course) (start : ℕ) (desk : DeskState D CutObject KeptTrack CutStep)
    (is : IsDesk (λ o. stepping o.object.table) opening entry_text course faults table number kept begun start desk)
    (room : TrackRoom) (left : List LeftState) (passes : List TrackPass) (h : History) where
  pub closes_kept : number ≡ length left → ((k : ℕ) (l : LeftState) → slice_get left k ≡ Some l → l.pass.number ≡ k)
      → ((k : ℕ) (l : LeftState) → slice_get left k ≡ Some l → length kept ≤ desk.file.count → l.holding.held ≤ desk.file.count)
      → ((k : ℕ) (l : LeftState) → slice_get left k ≡ Some l → l.holding.failures ≤ desk.counts.failed)
      → passes ≡ map (λ (l : LeftState). l.pass) left ++ desk.pass ∷ []
      → IsLegal (whole (stepping room.object.object.table)) room.parts h
      → All (λ (p : TrackPass). Agrees (stepping room.object.object.table).names h (Station p.number) p.entries) passes
      → All (λ (e : Entry CutStep). In e.station (map (λ (p : TrackPass). p.number) passes)) h
      → ClosesKept course faults kept begun start room left desk.file.disk h desk.file.count
  closes_kept count numbers held failed are legal agree stations =
      record {
        closed = closed_by room left (desk.pass ∷ []) passes h are numbers readers legal agree stations;
        begins = (is.begins.0 ++ mine.front.0, mine.front.1 ∙ (ap (λ l. l ++ mine.front.0) is.begins.1 ∙ append_assoc kept is.begins.0 mine.front.0));
        least = is.least;
        more = λ k l at. held k l at is.least;
        counts = λ k l at some. is.told.cause (not_none l.holding.failures desk.counts.failed some (failed k l at));
        holds = holds_there desk.file.count desk.pass.entries h mine.front (front_within entry_text desk.file.count desk.pass.entries is.holds.stands.0)
            (course desk.file.disk) desk.file.pending is.holds.pending is.holds.stands.1;
        was_told = is.was_told;
      }
    where
      mine : Agrees (stepping room.object.object.table).names h (Station desk.pass.number) desk.pass.entries
      mine =
          let all = subst (λ (ps : List TrackPass). All (λ (p : TrackPass). Agrees (stepping room.object.object.table).names h (Station p.number) p.entries) ps) are agree in
          at_place (λ (p : TrackPass). Agrees (stepping room.object.object.table).names h (Station p.number) p.entries) (map (λ (l : LeftState). l.pass) left ++ desk.pass ∷ [])
          (length (map (λ (l : LeftState). l.pass) left)) desk.pass all (behind (map (λ (l : LeftState). l.pass) left) desk.pass [])

      readers : All (ReadsOnly (length left) h) (desk.pass ∷ [])
      readers = All-cons (ReadsOnly (length left) h) desk.pass [] (record { number = omega (arith, is.number_is, count); none = sym mine.same ∙ is.reader.own }) (All-nil (ReadsOnly (length left) h))
