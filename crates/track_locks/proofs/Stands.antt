-- A held part stands for the whole journal.
use Rattle.std.proofs.Common.{◌≡◌, ℕ, zero, suc, ◌+◌, ◌<◌, ◌≤◌, List, [], ◌∷◌, ◌++◌, length, map, get_or, All, Bool, true, false, cond, Option, Some, None, IsSome, slice_get, refl, sym, ap, ◌∙◌, subst, arith, ⊎_elim, inl, inr}
use Rattle.std.specs.List.{filter}
use Rattle.std.proofs.lemmas.Option.{get_or_from_slice_get}
use Rattle.room_core.specs.declared.entry.Entry.{Entry}
use Rattle.room_core.specs.History.{replay}
use Rattle.room_core.specs.Parts.{numbers}
use Rattle.room_core.specs.Projection.{of_part}
use Rattle.room_core.specs.Whole.{Meaning, whole}
use Rattle.room_core.proofs.WholeParts.{one_part}
use Rattle.edit_journal.specs.declared.name.Name.TheVariants.{Part}
use Rattle.edit_journal.specs.Seats.{Opening, Agrees, In}
use Rattle.edit_journal.specs.Turns.{Known, Open, IsJournal, AllAgree}
use Rattle.track_locks.specs.Homes.{IsAt, IsVersion, IsHistory, IsHome, AreHomes, StandFor, all_gathered}
use Rattle.track_locks.proofs.Several.{within}

comes_to : {A : Type 0} (o : Option A) → IsSome o → (a : A) × (o ≡ Some a)
comes_to None h = absurd (Prim.grind (arith, h))
comes_to (Some a) h = (a, refl)

-- what a part's seat knew begins the journal and agrees with it on the part: so the part is what the journal comes to there
pub still_at : {O P C D R : Type 0} (meaning : O → Meaning P C D R) (opening : Option (Opening O P)) (n : ℕ) (entries journal : List (Entry C)) (part : P) (o : Opening O P)
    → opening ≡ Some o → IsAt meaning opening n entries part → Agrees (meaning o.0).names journal (Part n) entries → IsSome (replay (whole (meaning o.0)) o.1 journal)
    → IsAt meaning opening n journal part
still_at {O} {P} {C} meaning opening n entries journal part o is at agrees legal =
    let e : Some at.0 ≡ Some o = sym at.1 ∙ is in
    let same : at.0 ≡ o = Prim.grind (arith, e) in
    let m = meaning o.0 in
    let first : replay (whole m) o.1 entries ≡ Some at.2 = subst (λ (p : Opening O P). replay (whole (meaning p.0)) p.1 entries ≡ Some at.2) same at.3 in
    let now = comes_to (replay (whole m) o.1 journal) legal in
    let more = agrees.front.0 in
    let whole_now : replay (whole m) o.1 (entries ++ more) ≡ Some now.0 = subst (λ (l : List (Entry C)). replay (whole m) o.1 l ≡ Some now.0) agrees.front.1 now.1 in
    let one : of_part m.names n (entries ++ more) ≡ of_part m.names n entries = subst (λ (l : List (Entry C)). of_part m.names n l ≡ of_part m.names n entries) agrees.front.1 (sym agrees.same) in
    (o, is, now.0, now.1, one_part m n o.1 at.2 now.0 entries more one first whole_now ∙ at.4)

-- and its version counts the journal's entries that name it
pub still_counted : {O P C D R : Type 0} (meaning : O → Meaning P C D R) (opening : Option (Opening O P)) (n version : ℕ) (entries journal : List (Entry C)) (o : Opening O P)
    → opening ≡ Some o → IsVersion meaning opening n entries version → Agrees (meaning o.0).names journal (Part n) entries → IsVersion meaning opening n journal version
still_counted {O} {P} {C} meaning opening n version entries journal o is counted agrees =
    let e : Some counted.0 ≡ Some o = sym counted.1 ∙ is in
    let same : counted.0 ≡ o = Prim.grind (arith, e) in
    let count : version ≡ length (of_part (meaning o.0).names n entries) = subst (λ (p : Opening O P). version ≡ length (of_part (meaning p.0).names n entries)) same counted.2 in
    (o, is, count ∙ ap length agrees.same)

in_left : {A : Type 0} (x : A) (xs ys : List A) → In x xs → In x (xs ++ ys)
in_left x [] ys i = absurd i
in_left {A} x (z ∷ xs) ys i = ⊎_elim (λ (e : x ≡ z). inl e) (λ (j : In x xs). inr (in_left x xs ys j)) i

in_last : {A : Type 0} (x : A) (xs : List A) → In x (xs ++ x ∷ [])
in_last x [] = inl refl
in_last x (y ∷ xs) = inr (in_last x xs)

-- what a gathered seat knew is told
told_of : {O P C : Type 0} (ss : List (Known O P C)) (before : Open O P C) (k : ℕ) (s : Known O P C) → slice_get ss k ≡ Some s
    → In (Part s.number, (s.opening, s.entries)) (all_gathered ss before).told
told_of [] before k s h = absurd (Prim.grind (arith, h))
told_of {O} {P} {C} (t ∷ ss) before zero s h =
    let same : t ≡ s = Prim.grind (arith, h) in
    subst (λ (r : Known O P C). In (Part r.number, (r.opening, r.entries)) ((all_gathered ss before).told ++ (Part t.number, (t.opening, t.entries)) ∷ [])) same
    (in_last (Part t.number, (t.opening, t.entries)) (all_gathered ss before).told)
told_of (t ∷ ss) before (suc k) s h = in_left (Part s.number, (s.opening, s.entries)) (all_gathered ss before).told ((Part t.number, (t.opening, t.entries)) ∷ []) (told_of ss before k s h)

pub one_at : {A : Type 0} (xs : List A) (k : ℕ) → k < length xs → (x : A) × (slice_get xs k ≡ Some x)
one_at [] k lt = absurd (omega (arith, lt))
one_at (x ∷ xs) zero lt = (x, refl)
one_at (x ∷ xs) (suc k) lt = one_at xs k (omega (arith, lt))

pub stand_for : {O P C D R : Type 0} (meaning : O → Meaning P C D R) (opens : O → List P → Type 0) (stations : ℕ) (opening : Option (Opening O P)) (before journal : Open O P C)
    (ns : List ℕ) (ps : List P) (vs : List ℕ) (ss : List (Known O P C))
    → AreHomes meaning opens opening ns ps vs ss → journal ≡ all_gathered ss before → journal.opening ≡ opening
    → IsJournal meaning opens stations journal.opening journal.entries → AllAgree meaning journal
    → StandFor meaning opening journal.entries ns ps vs
stand_for {O} {P} {C} meaning opens stations opening before journal ns ps vs ss homes is opened legal agree k n p v at pt vt =
    let lt = within ns k n at in
    let seat = one_at ss k (omega (arith, lt, homes.seats)) in
    let s = seat.0 in
    let one = homes.each k n p v s at pt vt seat.1 in
    let told : In (Part s.number, (s.opening, s.entries)) journal.told = subst (λ (w : Open O P C). In (Part s.number, (s.opening, s.entries)) w.told) (sym is) (told_of ss before k s seat.1) in
    let o = legal.0 in
    let open_is : opening ≡ Some o = sym opened ∙ legal.1 in
    let agrees : Agrees (meaning o.0).names journal.entries (Part n) s.entries = subst (λ (m : ℕ). Agrees (meaning o.0).names journal.entries (Part m) s.entries) one.number_is (agree o (Part s.number) s.opening s.entries legal.1 told).1 in
    (still_at meaning opening n s.entries journal.entries p o open_is one.home.at agrees legal.3.applies, still_counted meaning opening n v s.entries journal.entries o open_is one.home.counted agrees)

names_of : {O P C : Type 0} (ss : List (Known O P C)) (before : Open O P C) (k : ℕ) (s : Known O P C) → slice_get ss k ≡ Some s
    → In (Part s.number) (all_gathered ss before).names
names_of [] before k s h = absurd (Prim.grind (arith, h))
names_of {O} {P} {C} (t ∷ ss) before zero s h =
    let same : t ≡ s = Prim.grind (arith, h) in
    subst (λ (r : Known O P C). In (Part r.number) ((all_gathered ss before).names ++ Part t.number ∷ [])) same (in_last (Part t.number) (all_gathered ss before).names)
names_of (t ∷ ss) before (suc k) s h = in_left (Part s.number) (all_gathered ss before).names (Part t.number ∷ []) (names_of ss before k s h)

get_of : {A : Type 0} (xs : List A) (k : ℕ) (d x : A) → slice_get xs k ≡ Some x → get_or xs k d ≡ x
get_of xs k d x h = get_or_from_slice_get xs k x d h

-- the seats of what is held can be given again, once they were gathered
pub gathered_names : {O P C D R : Type 0} (meaning : O → Meaning P C D R) (opens : O → List P → Type 0) (opening : Option (Opening O P)) (before : Open O P C)
    (ns : List ℕ) (ps : List P) (vs : List ℕ) (ss : List (Known O P C))
    → AreHomes meaning opens opening ns ps vs ss → All (λ n. In (Part n) (all_gathered ss before).names) ns
gathered_names {O} {P} {C} meaning opens opening before ns ps vs ss h = λ k d lt.
    let n = one_at ns k lt in
    let p = one_at ps k (omega (arith, lt, h.parts)) in
    let v = one_at vs k (omega (arith, lt, h.versions)) in
    let s = one_at ss k (omega (arith, lt, h.seats)) in
    let one = h.each k n.0 p.0 v.0 s.0 n.1 p.1 v.1 s.1 in
    let is = one.number_is ∙ sym (get_of ns k d n.0 n.1) in
    subst (λ (m : ℕ). In (Part m) (all_gathered ss before).names) is (names_of ss before k s.0 s.1)

number_at : {O P C : Type 0} (ss : List (Known O P C)) (k : ℕ) (s : Known O P C) → slice_get ss k ≡ Some s → slice_get (map (λ s. s.number) ss) k ≡ Some s.number
number_at [] k s h = absurd (Prim.grind (arith, h))
number_at {O} {P} {C} (t ∷ ss) zero s h = let same : t ≡ s = Prim.grind (arith, h) in ap (λ (r : Known O P C). Some r.number) same
number_at (t ∷ ss) (suc k) s h = number_at ss k s h

map_length : {A B : Type 0} (f : A → B) (xs : List A) → length (map f xs) ≡ length xs
map_length f [] = omega arith
map_length f (x ∷ xs) = let r = map_length f xs in omega (arith, r)

-- parts that stand for the journal are homes with seats that know it
pub homes_again : {O P C D R : Type 0} (meaning : O → Meaning P C D R) (opens : O → List P → Type 0) (opening : Option (Opening O P)) (entries : List (Entry C))
    (ns : List ℕ) (ps : List P) (vs : List ℕ) (ss : List (Known O P C))
    → length ps ≡ length ns → length vs ≡ length ns → StandFor meaning opening entries ns ps vs → IsHistory meaning opens opening entries
    → map (λ (s : Known O P C). s.number) ss ≡ ns → All (λ s. (s.opening ≡ opening) × (s.entries ≡ entries)) ss
    → AreHomes meaning opens opening ns ps vs ss
homes_again {O} {P} {C} meaning opens opening entries ns ps vs ss parts versions stand legal numbers know =
    let count = map_length (λ (s : Known O P C). s.number) ss in
    let same = ap length numbers in
    record {
      parts = parts;
      versions = versions;
      seats = omega (arith, count, same);
      each = λ k n p v s at pt vt st.
          let e : Some s.number ≡ Some n = sym (number_at ss k s st) ∙ (ap (λ l. slice_get l k) numbers ∙ at) in
          let is : s.number ≡ n = Prim.grind (arith, e) in
          let lt = within ss k s st in
          let knows = subst (λ (t : Known O P C). (t.opening ≡ opening) × (t.entries ≡ entries)) (get_of ss k s s st) (know k s lt) in
          let two = stand k n p v at pt vt in
          record {
            number_is = is;
            opening_is = knows.0;
            home = subst (λ (l : List (Entry C)). IsHome meaning opens opening n p v l) (sym knows.1)
                (record { history = legal; at = two.0; counted = two.1 });
          };
    }

pub members_few : (test : ℕ → Bool) (from count : ℕ) → length (filter test (numbers from count)) ≤ count
members_few test from zero = omega arith
members_few test from (suc count) = one_more (test from) from (filter test (numbers (from + 1) count)) count (members_few test (from + 1) count)
  where
    one_more : (b : Bool) (n : ℕ) (ns : List ℕ) (count : ℕ) → length ns ≤ count → length (cond b (n ∷ ns) ns) ≤ suc count
    one_more true n ns count h = omega (arith, h)
    one_more false n ns count h = omega (arith, h)
