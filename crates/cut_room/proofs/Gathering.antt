-- A pass and the seats of what is held, at the journal and back.
use Rattle.std.proofs.Common.{◌≡◌, ℕ, suc, ◌+◌, ◌<◌, List, [], ◌∷◌, ◌++◌, length, Bool, true, false, ◌||◌, ◌==◌, Option, Some, All, max, fold, refl, sym, ap, ◌∙◌, subst, arith, ⊎_elim, inl, inr}
use Rattle.std.specs.List.{list_any}
use Rattle.std.proofs.lemmas.Bool.Decides.{nat_tests}
use Rattle.room_core.specs.declared.entry.Entry.{Entry}
use Rattle.room_core.specs.Whole.{Meaning}
use Rattle.edit_journal.specs.declared.name.Name.{Name}
use Rattle.edit_journal.specs.declared.name.Name.TheVariants.{Part, Station}
use Rattle.edit_journal.specs.Seats.{Opening, In, bears}
use Rattle.edit_journal.specs.Turns.{AtJournal, Known, Open, IsJournal, AllAgree, StandsIn, gathered, given, last_of}
use Rattle.edit_journal.proofs.Fresh.{without_other, no_part, in_last}
use Rattle.history_points.proofs.Meeting.{pass_there, told_pass}
use Rattle.track_locks.specs.Homes.{AreHomes, HeldParts, IsHistory, all_gathered, all_given}
use Rattle.track_locks.proofs.Stands.{stand_for, gathered_names}
use Rattle.cut_room.specs.Gathered.{IsGathered}

in_left : {A : Type 0} (x : A) (xs ys : List A) → In x xs → In x (xs ++ ys)
in_left x [] ys i = absurd i
in_left {A} x (z ∷ xs) ys i = ⊎_elim (λ (e : x ≡ z). inl e) (λ (j : In x xs). inr (in_left x xs ys j)) i

-- what is at the journal stays there while seats are gathered
gathered_name : {O P C : Type 0} (ss : List (Known O P C)) (v : Open O P C) (x : Name) → In x v.names → In x (all_gathered ss v).names
gathered_name [] v x i = i
gathered_name (s ∷ ss) v x i = in_left x (all_gathered ss v).names (Part s.number ∷ []) (gathered_name ss v x i)

gathered_told : {O P C : Type 0} (ss : List (Known O P C)) (v : Open O P C) (x : Name) (o : Option (Opening O P)) (l : List (Entry C))
    → In (x, (o, l)) v.told → In (x, (o, l)) (all_gathered ss v).told
gathered_told [] v x o l i = i
gathered_told (s ∷ ss) v x o l i = in_left (x, (o, l)) (all_gathered ss v).told ((Part s.number, (s.opening, s.entries)) ∷ []) (gathered_told ss v x o l i)

-- and while they are given out again, but for their own names
pub given_entries : {O P C : Type 0} (ns : List ℕ) (v : Open O P C) → (all_given ns v).entries ≡ v.entries
given_entries [] v = refl
given_entries (n ∷ ns) v = given_entries ns (given (Part n) v)

pub given_opening : {O P C : Type 0} (ns : List ℕ) (v : Open O P C) → (all_given ns v).opening ≡ v.opening
given_opening [] v = refl
given_opening (n ∷ ns) v = given_opening ns (given (Part n) v)

pub given_station : {O P C : Type 0} (ns : List ℕ) (v : Open O P C) (s : ℕ) → In (Station s) v.names → In (Station s) (all_given ns v).names
given_station [] v s i = i
given_station (n ∷ ns) v s i = given_station ns (given (Part n) v) s (without_other (Part n) v.names (Station s) (no_part s n) i)

-- by what a look tells, its history begins the journal, with all entries of its station
pub pass_stands : {O P C D R : Type 0} (meaning : O → Meaning P C D R) (opening : Option (Opening O P)) (before after : Open O P C) (pass : Known O P C)
    → after ≡ gathered (Station pass.number) pass.opening pass.entries before → after.opening ≡ opening → AllAgree meaning after
    → StandsIn meaning opening after.entries (Station pass.number) pass.entries
pass_stands meaning opening before after pass is opened agree = λ o e.
    (agree o (Station pass.number) pass.opening pass.entries (opened ∙ e) (told_pass before after pass is)).1

pub history_of : {O P C D R : Type 0} (meaning : O → Meaning P C D R) (opens : O → List P → Type 0) (stations : ℕ) (opening now : Option (Opening O P)) (entries : List (Entry C))
    → now ≡ opening → IsJournal meaning opens stations now entries → IsHistory meaning opens opening entries
history_of meaning opens stations opening now entries same h = (h.0, sym same ∙ h.1, h.2, h.3)

-- what a look tells of a pass and of what is held
pub all_there : {O P C D R : Type 0} (meaning : O → Meaning P C D R) (opens : O → List P → Type 0) (stations : ℕ) (opening : Option (Opening O P))
    (before first : Open O P C) (turn : AtJournal O P C) (held : HeldParts O P C) (pass : Known O P C)
    → first ≡ gathered (Station pass.number) pass.opening pass.entries before → turn.journal ≡ all_gathered held.seats first
    → turn.journal.opening ≡ opening → IsJournal meaning opens stations turn.journal.opening turn.journal.entries → AllAgree meaning turn.journal
    → AreHomes meaning opens opening held.numbers held.parts held.versions held.seats → turn.tokens ≡ length held.numbers + 1
    → IsGathered meaning opens opening turn held pass
all_there {O} {P} {C} meaning opens stations opening before first turn held pass is all opened legal agree homes count =
    let told : In (Station pass.number, (pass.opening, pass.entries)) turn.journal.told =
    subst (λ (w : Open O P C). In (Station pass.number, (pass.opening, pass.entries)) w.told) (sym all)
    (gathered_told held.seats first (Station pass.number) pass.opening pass.entries (told_pass before first pass is)) in
    record {
      opening_is = opened;
      journal = history_of meaning opens stations opening turn.journal.opening turn.journal.entries opened legal;
      pass_stands = λ o e. (agree o (Station pass.number) pass.opening pass.entries (opened ∙ e) told).1;
      parts_stand = stand_for meaning opens stations opening first turn.journal held.numbers held.parts held.versions held.seats homes all opened legal agree;
      tokens = count;
      has_parts = subst (λ (w : Open O P C). All (λ n. In (Part n) w.names) held.numbers) (sym all)
          (gathered_names meaning opens opening first held.numbers held.parts held.versions held.seats homes);
      has_pass = subst (λ (w : Open O P C). In (Station pass.number) w.names) (sym all) (gathered_name held.seats first (Station pass.number) (pass_there before first pass is));
    }

all_first : {A : Type 0} (P : A → Type 0) (x : A) (xs : List A) → All P (x ∷ xs) → P x
all_first P x xs h = h 0 x (omega arith)

all_rest : {A : Type 0} (P : A → Type 0) (x : A) (xs : List A) → All P (x ∷ xs) → All P xs
all_rest P x xs h = λ k d inside. h (suc k) d (omega (arith, inside))

one_of : (b : Bool) (n m : ℕ) (ns : List ℕ) (have : List Name) → (n == m) ≡ b → (b || list_any (λ k. k == m) ns) ≡ true
    → In (Part n) have → (list_any (λ k. k == m) ns ≡ true → In (Part m) have) → In (Part m) have
one_of true n m ns have is h here others = let same : n ≡ m = Prim.grind (arith, nat_tests, is) in subst (λ k. In (Part k) have) same here
one_of false n m ns have is h here others = others h

some_part : (ns : List ℕ) (have : List Name) (m : ℕ) → All (λ n. In (Part n) have) ns → list_any (λ k. k == m) ns ≡ true → In (Part m) have
some_part [] have m all h = absurd (Prim.grind (arith, h))
some_part (n ∷ ns) have m all h =
    one_of (n == m) n m ns have refl h (all_first (λ n. In (Part n) have) n ns all) (some_part ns have m (all_rest (λ n. In (Part n) have) n ns all))

-- the names of an entry are there, where the parts of its call and its station are
pub has_names : {C : Type 0} (names : C → List ℕ) (e : Entry C) (ns : List ℕ) (have : List Name) → ns ≡ names e.call → All (λ n. In (Part n) have) ns
    → In (Station e.station) have → (x : Name) → bears names e x ≡ true → In x have
has_names names e ns have is parts station (Part m) h =
    some_part ns have m parts (ap (λ l. list_any (λ k. k == m) l) is ∙ h)
has_names names e ns have is parts station (Station s) h =
    let same : e.station ≡ s = Prim.grind (arith, nat_tests, h) in subst (λ k. In (Station k) have) same station

-- the last number of the pass's station is that of the journal
pub last_there : {O P C D R : Type 0} (meaning : O → Meaning P C D R) (opening : Option (Opening O P)) (o : Opening O P) (entries : List (Entry C)) (pass : Known O P C) (e : Entry C)
    → opening ≡ Some o → StandsIn meaning opening entries (Station pass.number) pass.entries → e.station ≡ pass.number
    → last_of pass.number pass.entries < e.number → last_of e.station entries < e.number
last_there {O} {P} {C} meaning opening o entries pass e is stands own above =
    let same : last_of pass.number pass.entries ≡ last_of pass.number entries = ap (λ (l : List (Entry C)). fold (λ m e. max m e.number) 0 l) (stands o is).same in
    let mine : last_of e.station entries ≡ last_of pass.number entries = ap (λ k. last_of k entries) own in
    omega (arith, same, mine, above)
