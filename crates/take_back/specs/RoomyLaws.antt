-- What is left of a history of steps is a history of the object: its parts, its answers, its numbers.
use Rattle.std.proofs.Common.{◌≡◌, ℕ, zero, suc, ◌+◌, ◌<◌, ◌≤◌, List, [], ◌∷◌, ◌++◌, Bool, true, false, Option, Some}
use Rattle.std.proofs.Common.{None, IsSome, All, cond, fold, length, map, reverse, slice_get, refl, sym, ap, ◌∙◌, subst}
use Rattle.std.proofs.Common.{arith, Result}
use Rattle.std.proofs.lemmas.List.{length-map, length-reverse, map-append}
use Rattle.std.proofs.lemmas.List.Elements.{All-cons}
use Rattle.std.proofs.lemmas.Grind.{reverse_onto}
use Rattle.part_sets.specs.Members.{members}
use Rattle.room_core.specs.History.{replay, most_entries, IsLegal, NumbersRise}
use Rattle.room_core.specs.Parts.{AreGood, numbers}
use Rattle.room_core.specs.Whole.{Meaning, whole}
use Rattle.room_core.specs.declared.entry.Entry.{Entry}
use Rattle.take_back.specs.Backs.{Naming}
use Rattle.take_back.specs.History.{Answered, Ordered, answered, in_order, leads-replay}
use Rattle.take_back.specs.Left.{Leads, after_deed, as_own, deed_with, entered, left, left_of, left_told, meet}
use Rattle.take_back.specs.Left.{without_newest}
use Rattle.take_back.specs.LeftLaws.{Stands, deed_of, stands}
use Rattle.take_back.specs.Lists.{none_some, some_is}
use Rattle.take_back.specs.Numbers.{Ages, ages, entries_of, rises}
use Rattle.take_back.specs.Parts.{nows, CanOpen}
use Rattle.take_back.specs.Steps.{backed}
use Rattle.take_back.specs.declared.answers.BackDone.{BackDone}
use Rattle.take_back.specs.declared.kept.Kept.{Kept}
use Rattle.take_back.specs.declared.kept.Former.{Former}
use Rattle.take_back.specs.declared.step.Deed.{Deed}
use Rattle.take_back.specs.declared.step.Deed.TheVariants.{Do, Back}
use Rattle.take_back.specs.declared.step.Step.{Step}

good_length : {P : Type 0} (good : ℕ → P → Type 0) (ns : List ℕ) (ps : List P) → AreGood good ns ps
    → length ps ≡ length ns
good_length good [] [] h = refl
good_length good [] (p ∷ ps) h = absurd h
good_length good (n ∷ ns) [] h = absurd h
good_length good (n ∷ ns) (p ∷ ps) h = ap suc (good_length good ns ps h.1)

length-numbers : (from count : ℕ) → length (numbers from count) ≡ count
length-numbers from zero = refl
length-numbers from (suc count) = ap suc (length-numbers (from + 1) count)

all_at : {A : Type 0} (Holds : A → Type 0) (xs : List A) (k : ℕ) (x : A) → All Holds xs
    → slice_get xs k ≡ Some x → Holds x
all_at Holds [] k x h is = none_some x is
all_at Holds (y ∷ ys) zero x h is = subst Holds (some_is y x is) (h 0 y (omega arith))
all_at Holds (y ∷ ys) (suc k) x h is = all_at Holds ys k x (λ j d inside. h (suc j) d (omega (arith, inside))) is

-- what is known of an object's openings
abbrev pub Opening : {P : Type 0} → (ℕ → P → Type 0) → ℕ → (List P → Type 0) → Type 0
Opening {P} good count opens = (ps : List P) → opens ps → (0 < count) × (count ≤ 32) × AreGood good (numbers 0 count) ps

pub stands_open : {P C D R : Type 0} (m : Meaning P C D R) (good : ℕ → P → Type 0) (count : ℕ) (opens : List P → Type 0)
    (ks : List (Kept P))
    → Opening good count opens → CanOpen opens ks → Stands m count (nows ks) [] ks
stands_open m good count opens ks opening h = record {
  comes = refl;
  formers = λ x k f there is. none_some f (sym (all_at (λ (j : Kept _). j.before ≡ None) ks x k h.1 there) ∙ is);
  as_many = sym (length-map ks (λ (k : Kept _). k.now)) ∙ (good_length good (numbers 0 count) (nows ks)
      (opening (nows ks) h.0).2 ∙ length-numbers 0 count);
}

-- entries that are left, with and without what stands beside them
entries_by : {C A : Type 0} (t : Entry C × A) (ts rest : List (Entry C × A)) (left : List (Entry C)) (b : Bool)
    → entries_of rest ≡ left
    → entries_of (cond b ts (t ∷ rest)) ≡ cond b (entries_of ts) (t.0 ∷ left)
entries_by t ts rest left true same = refl
entries_by t ts rest left false same = ap (λ xs. t.0 ∷ xs) same

entries_without : {C A : Type 0} (names : C → List ℕ) (parts : List ℕ) (es : List (Entry C × A))
    → entries_of (without_newest (λ (t : Entry C × A). names t.0.call) parts es) ≡ without_newest
    (λ (e : Entry C). names e.call) parts (entries_of es)
entries_without names parts [] = refl
entries_without names parts (t ∷ ts) =
    entries_by t ts (without_newest (λ (u : Entry _ × _). names u.0.call) parts ts)
    (without_newest (λ (e : Entry _). names e.call) parts (entries_of ts))
    (meet parts (names t.0.call)) (entries_without names parts ts)

entries_deed : {C A : Type 0} (names : C → List ℕ) (es : List (Entry C × A)) (a : A) (d : Deed (Entry C))
    → entries_of (after_deed (λ (t : Entry C × A). names t.0.call) es (deed_with a d)) ≡ after_deed
    (λ (e : Entry C). names e.call) (entries_of es) d
entries_deed names es a (Do e) = refl
entries_deed names es a (Back tracks) = entries_without names (members tracks) es

entries_left : {C A : Type 0} (names : C → List ℕ) (ts : List (Entry (Step C) × A)) (es : List (Entry C × A))
    → entries_of (fold (after_deed (λ (t : Entry C × A). names t.0.call)) es (map deed_of ts))
    ≡ fold (after_deed (λ (e : Entry C). names e.call)) (entries_of es)
    (map (λ (e : Entry (Step C)). entered e.station e.number e.call.act) (entries_of ts))
entries_left names [] es = refl
entries_left {C} {A} names (t ∷ ts) es =
    entries_left names ts (after_deed (λ (u : Entry C × A). names u.0.call) es (deed_of t))
    ∙ ap (λ xs. fold (after_deed (λ (e : Entry C). names e.call)) xs
    (map (λ (e : Entry (Step C)). entered e.station e.number e.call.act) (entries_of ts)))
    (entries_deed names es t.1 (entered t.0.station t.0.number t.0.call.act))

map-reverse : {A B : Type 0} (f : A → B) (xs : List A) → map f (reverse xs) ≡ reverse (map f xs)
map-reverse f [] = refl
map-reverse f (x ∷ xs) =
    ap (map f) (reverse_onto xs x [])
    ∙ (map-append f (reverse xs) (x ∷ []) ∙ (ap (λ ys. ys ++ f x ∷ []) (map-reverse f xs)
    ∙ sym (reverse_onto (map f xs) (f x) [])))

entries_own : {C D : Type 0} (told : List (Entry C × D)) → entries_of (map as_own told) ≡ entries_of told
entries_own [] = refl
entries_own (a ∷ told) = ap (λ xs. a.0 ∷ xs) (entries_own told)

is_some : {A : Type 0} (o : Option A) (a : A) → o ≡ Some a → IsSome o
is_some o a h = rw h refl

-- what is left of a history of steps, with the object's own answers
pub record Remains {P C D R : Type 0} (m : Meaning P C D R) (ks now : List (Kept P))
    (ts : List (Entry (Step C) × BackDone D)) : Type 0 where
  pub answers : List (Entry C × D)
  pub leads : Leads (whole m) (nows ks) answers (nows now)
  pub same : map as_own answers ≡ left_told m.names ts
  pub comes : replay (whole m) (nows ks) (left m.names (entries_of ts)) ≡ Some (nows now)

pub remains : {P C D R : Type 0} (m : Meaning P C D R) (good : ℕ → P → Type 0) (count : ℕ) (opens : List P → Type 0)
    (ks now : List (Kept P))
    (ts : List (Entry (Step C) × BackDone D)) → Naming m count → Opening good count opens → CanOpen opens ks
    → Leads (whole (backed count m)) ks ts now
    → Remains m ks now ts
remains {P} {C} {D} {R} m good count opens ks now ts naming opening can leads =
    let es : List (Entry C × BackDone D) = fold (after_deed (λ (u : Entry C × BackDone D). m.names u.0.call)) []
    (map deed_of ts) in
    let few = (opening (nows ks) can.0).1 in
    let s = stands m count (nows ks) [] ks now ts naming few (stands_open m good count opens ks opening can) leads in
    let o = in_order m (nows ks) es (nows now) s.comes in
    let lefts : entries_of o.answers ≡ left m.names (entries_of ts) =
    sym (entries_own o.answers) ∙ (ap entries_of o.same ∙ (map-reverse (λ (t : Entry C × BackDone D). t.0) es
    ∙ ap reverse (entries_left m.names ts []))) in
    record {
      answers = o.answers;
      leads = o.leads;
      same = o.same;
      comes = ap (replay (whole m) (nows ks)) (sym lefts) ∙ leads-replay (whole m) (nows ks)
          (nows now) o.answers o.leads;
    }

pub left-comes : {P C D R : Type 0} (m : Meaning P C D R) (good : ℕ → P → Type 0) (count : ℕ) (opens : List P → Type 0)
    (ks now : List (Kept P))
    (entries : List (Entry (Step C))) → Naming m count → Opening good count opens → CanOpen opens ks
    → replay (whole (backed count m)) ks entries ≡ Some now
    → replay (whole m) (nows ks) (left m.names entries) ≡ Some (nows now)
left-comes m good count opens ks now entries naming opening can comes =
    let a = answered (whole (backed count m)) ks now entries comes in
    ap (λ es. replay (whole m) (nows ks) (left m.names es)) (sym a.same)
    ∙ (remains m good count opens ks now a.answers naming opening can a.leads).comes

abbrev alone : {B : Type 0} → Entry B → Entry B × Unit {0}
alone e = (e, tt)

entries_alone : {B : Type 0} (es : List (Entry B)) → entries_of (map alone es) ≡ es
entries_alone [] = refl
entries_alone (e ∷ es) = ap (λ xs. e ∷ xs) (entries_alone es)

pub left-rises : {C : Type 0} (names : C → List ℕ) (entries : List (Entry (Step C))) → NumbersRise entries
    → (length (left names entries) ≤ length entries) × NumbersRise (left names entries)
left-rises {C} names entries rise =
    let ts : List (Entry (Step C) × Unit {0}) = map alone entries in
    let back : entries_of ts ≡ entries = entries_alone entries in
    let start : Ages {C = C} {A = Unit {0}} {B = Step C} [] [] =
    record { fewer = omega arith; above = λ s n h. refl; falls = tt } in
    let a = ages (λ (t : Entry C × Unit {0}). names t.0.call) [] [] ts (subst NumbersRise (sym back) rise) start in
    let es = fold (after_deed (λ (t : Entry C × Unit {0}). names t.0.call)) [] (map deed_of ts) in
    let is : reverse (entries_of es) ≡ left names entries = ap reverse (entries_left names ts [])
    ∙ ap (left names) back in
    let few : length (reverse (entries_of es)) ≤ length (entries_of ts) =
    omega (arith, length-reverse (entries_of es), length-map es (λ (t : Entry C × Unit {0}). t.0), a.fewer) in (
      subst (λ xs. length (left names entries) ≤ length xs) back
          (subst (λ xs. length xs ≤ length (entries_of ts)) is few),
      subst NumbersRise is (rises es a.falls),
    )

pub left-legal : {P C D R : Type 0} (m : Meaning P C D R) (good : ℕ → P → Type 0) (count : ℕ) (opens : List P → Type 0)
    (ks now : List (Kept P))
    (entries : List (Entry (Step C))) → Naming m count → Opening good count opens → CanOpen opens ks
    → IsLegal (whole (backed count m)) ks entries
    → replay (whole (backed count m)) ks entries ≡ Some now → IsLegal (whole m) (nows ks) (left m.names entries)
left-legal m good count opens ks now entries naming opening can legal comes =
    let rise = left-rises m.names entries legal.rise in
    record {
      within = omega (arith, rise.0, legal.within);
      applies = is_some _ _ (left-comes m good count opens ks now entries naming opening can comes);
      rise = rise.1;
    }

all_nows : {P : Type 0} (Roomy : P → Type 0) (ks : List (Kept P)) → All Roomy (nows ks)
    → All (λ (k : Kept P). Roomy k.now) ks
all_nows Roomy [] h = λ k d inside. absurd (omega (arith, inside))
all_nows Roomy (k ∷ ks) h = All-cons (λ (j : Kept _). Roomy j.now) k ks (h 0 k.now (omega arith))
    (all_nows Roomy ks (λ j d inside. h (suc j) d (omega (arith, inside))))

-- the parts that steps come to have room where those have that the object's calls come to
pub backed-roomy : {P C D R : Type 0} (m : Meaning P C D R) (good : ℕ → P → Type 0) (count : ℕ)
    (opens : List P → Type 0) (Roomy : P → Type 0)
    → Naming m count → Opening good count opens
    → ((ps qs : List P) (entries : List (Entry C)) → opens ps → IsLegal (whole m) ps entries
    → replay (whole m) ps entries ≡ Some qs → All Roomy qs)
    → (ks now : List (Kept P)) (entries : List (Entry (Step C))) → CanOpen opens ks
    → IsLegal (whole (backed count m)) ks entries
    → replay (whole (backed count m)) ks entries ≡ Some now → All (λ (k : Kept P). Roomy k.now) now
backed-roomy m good count opens Roomy naming opening law ks now entries can legal comes =
    all_nows Roomy now (law (nows ks) (nows now) (left m.names entries) can.0
    (left-legal m good count opens ks now entries naming opening can legal comes)
    (left-comes m good count opens ks now entries naming opening can comes))
