-- The numbers of the entries that are left: those of a station rise, as in the history.
use Rattle.std.proofs.Common.{append_assoc, ◌≡◌, ℕ, zero, suc, ◌+◌, ◌<◌, ◌≤◌, List, [], ◌∷◌, ◌++◌, Bool, true, false}
use Rattle.std.proofs.Common.{◌&&◌, ◌||◌, ◌==◌, not, nat_lt, cond, fold, length, length-append, map, reverse, refl, sym}
use Rattle.std.proofs.Common.{ap, ◌∙◌, subst, arith}
use Rattle.std.specs.List.{list_all}
use Rattle.std.proofs.lemmas.Bool.Decides.{nat_tests}
use Rattle.std.proofs.lemmas.List.{append-nil}
use Rattle.std.proofs.lemmas.Grind.{reverse_onto}
use Rattle.part_sets.specs.Members.{members}
use Rattle.room_core.specs.History.{NumbersRise, RiseAfter}
use Rattle.room_core.specs.Machine.{is_above}
use Rattle.room_core.specs.declared.entry.Entry.{Entry}
use Rattle.room_core.proofs.Histories.{both_true, rise-more}
use Rattle.take_back.specs.History.{Falls}
use Rattle.take_back.specs.Left.{after_deed, deed_with, entered, meet, without_newest}
use Rattle.take_back.specs.LeftLaws.{deed_of}
use Rattle.take_back.specs.declared.step.Deed.{Deed}
use Rattle.take_back.specs.declared.step.Deed.TheVariants.{Do, Back}
use Rattle.take_back.specs.declared.step.Step.{Step}

-- the entries of a list of entries with something beside each
abbrev pub entries_of : {C A : Type 0} → List (Entry C × A) → List (Entry C)
entries_of ts = map (λ (t : Entry _ × _). t.0) ts

pub record Ages {C A B : Type 0} (done : List (Entry B)) (es : List (Entry C × A)) : Type 0 where
  pub fewer : length es ≤ length done
  pub above : (station number : ℕ) → is_above station number done ≡ true
      → is_above station number (entries_of es) ≡ true
  pub falls : Falls es

all_more : {X : Type 0} (test : X → Bool) (xs ys : List X) → list_all test (xs
    ++ ys) ≡ (list_all test xs && list_all test ys)
all_more test [] ys = refl
all_more test (x ∷ xs) ys = ap (λ b. test x && b) (all_more test xs ys) ∙ together (test x) (list_all test xs)
    (list_all test ys) where
      together : (a b c : Bool) → (a && (b && c)) ≡ ((a && b) && c)
      together true b c = refl
      together false b c = refl

both : (a b : Bool) → a ≡ true → b ≡ true → (a && b) ≡ true
both true true h k = refl
both true false h k = k
both false b h k = absurd (Prim.grind (arith, h))

-- fewer entries are above what more are above
fewer_by : {E : Type 0} (e : E) (es rest : List E) (b : Bool) → length rest ≤ length es
    → length (cond b es (e ∷ rest)) ≤ length (e ∷ es)
fewer_by e es rest true h = omega arith
fewer_by e es rest false h = omega (arith, h)

fewer_without : {E : Type 0} (names : E → List ℕ) (parts : List ℕ) (es : List E)
    → length (without_newest names parts es) ≤ length es
fewer_without names parts [] = omega arith
fewer_without names parts (e ∷ es) = fewer_by e es (without_newest names parts es) (meet parts (names e))
    (fewer_without names parts es)

above_by : {C A : Type 0} (t : Entry C × A) (ts rest : List (Entry C × A)) (station number : ℕ) (b : Bool)
    → is_above station number (entries_of (t ∷ ts)) ≡ true
    → (is_above station number (entries_of ts) ≡ true → is_above station number (entries_of rest) ≡ true)
    → is_above station number (entries_of (cond b ts (t ∷ rest))) ≡ true
above_by t ts rest station number true h later =
    (both_true (not (t.0.station == station) || nat_lt t.0.number number) (is_above station number (entries_of ts)) h).1
above_by t ts rest station number false h later =
    let two = both_true (not (t.0.station == station) || nat_lt t.0.number number)
    (is_above station number (entries_of ts)) h in
    both (not (t.0.station == station) || nat_lt t.0.number number) (is_above station number (entries_of rest)) two.0
    (later two.1)

above_without : {C A : Type 0} (names : Entry C × A → List ℕ) (parts : List ℕ) (es : List (Entry C × A))
    (station number : ℕ)
    → is_above station number (entries_of es) ≡ true → is_above station number (entries_of
    (without_newest names parts es)) ≡ true
above_without names parts [] station number h = h
above_without names parts (t ∷ ts) station number h =
    above_by t ts (without_newest names parts ts) station number (meet parts (names t)) h
    (λ k. above_without names parts ts station number k)

falls_by : {C A : Type 0} (t : Entry C × A) (ts rest : List (Entry C × A)) (b : Bool) → Falls (t ∷ ts) → Falls rest
    → is_above t.0.station t.0.number (entries_of rest) ≡ true → Falls (cond b ts (t ∷ rest))
falls_by t ts rest true h falls above = h.1
falls_by t ts rest false h falls above = (above, falls)

falls_without : {C A : Type 0} (names : Entry C × A → List ℕ) (parts : List ℕ) (es : List (Entry C × A)) → Falls es
    → Falls (without_newest names parts es)
falls_without names parts [] h = h
falls_without names parts (t ∷ ts) h =
    falls_by t ts (without_newest names parts ts) (meet parts (names t)) h (falls_without names parts ts h.1)
    (above_without names parts ts t.0.station t.0.number h.0)

ages_deed : {C A B : Type 0} (names : Entry C × A → List ℕ) (done : List (Entry B)) (es : List (Entry C × A))
    (e : Entry B) (act : Deed C) (a : A)
    → is_above e.station e.number done ≡ true → Ages done es
    → Ages (done ++ e ∷ []) (after_deed names es (deed_with a (entered e.station e.number act)))
ages_deed names done es e (Do c) a above h = record {
  fewer = omega (arith, length-append done (e ∷ []), h.fewer);
  above = λ station number more.
      let test : Entry _ → Bool = λ f. not (f.station == station) || nat_lt f.number number in
      let two = both_true (list_all test done) (list_all test (e ∷ [])) (sym (all_more test done (e ∷ [])) ∙ more) in
      let own = both_true (test e) true two.1 in
      both (not (e.station == station) || nat_lt e.number number) (is_above station number (entries_of es)) own.0
      (h.above station number two.0);
  falls = (h.above e.station e.number above, h.falls);
}
ages_deed names done es e (Back tracks) a above h = record {
  fewer = omega (arith, length-append done (e ∷ []), h.fewer, fewer_without names (members tracks) es);
  above = λ station number more.
      let test : Entry _ → Bool = λ f. not (f.station == station) || nat_lt f.number number in
      let two = both_true (list_all test done) (list_all test (e ∷ [])) (sym (all_more test done (e ∷ [])) ∙ more) in
      above_without names (members tracks) es station number (h.above station number two.0);
  falls = falls_without names (members tracks) es h.falls;
}

rises_to : {B : Type 0} (f : Entry B) (fs : List (Entry B)) (e : Entry B) (rest : List (Entry B))
    → RiseAfter f (fs ++ e ∷ rest) → e.station ≡ f.station → f.number < e.number
rises_to f [] e rest h = h.0
rises_to f (g ∷ gs) e rest h = rises_to f gs e rest h.1

is_risen : (a b m n : ℕ) → (b ≡ a → m < n) → (not (a == b) || nat_lt m n) ≡ true
is_risen a b m n h = by (a == b) refl where
  by : (t : Bool) → (a == b) ≡ t → (not t || nat_lt m n) ≡ true
  by false e = refl
  by true e = let same : a ≡ b = Prim.grind (arith, nat_tests, e) in let lt = h (sym same) in
      Prim.grind (arith, nat_tests, lt)

-- an entry of a history has a number above those of its station before it
above_before : {B : Type 0} (done : List (Entry B)) (e : Entry B) (rest : List (Entry B))
    → NumbersRise (done ++ e ∷ rest) → is_above e.station e.number done ≡ true
above_before [] e rest h = refl
above_before (f ∷ fs) e rest h =
    both (not (f.station == e.station) || nat_lt f.number e.number) (is_above e.station e.number fs)
    (is_risen f.station e.station f.number e.number (rises_to f fs e rest h.0)) (above_before fs e rest h.1)

pub ages : {C A : Type 0} (names : Entry C × A → List ℕ) (done : List (Entry (Step C))) (es : List (Entry C × A))
    (ts : List (Entry (Step C) × A))
    → NumbersRise (done ++ entries_of ts) → Ages done es → Ages (done ++ entries_of ts)
    (fold (after_deed names) es (map deed_of ts))
ages names done es [] rise h = subst (λ xs. Ages xs es) (sym (append-nil done)) h
ages names done es (t ∷ ts) rise h =
    let joined = append_assoc done (t.0 ∷ []) (entries_of ts) in
    subst (λ xs. Ages xs (fold (after_deed names) (after_deed names es (deed_of t)) (map deed_of ts))) joined
    (ages names (done ++ t.0 ∷ []) (after_deed names es (deed_of t)) ts (subst NumbersRise (sym joined) rise)
    (ages_deed names done es t.0 t.0.call.act t.1 (above_before done t.0 (entries_of ts) rise) h))

all_reversed : {X : Type 0} (test : X → Bool) (xs : List X) → list_all test (reverse xs) ≡ list_all test xs
all_reversed test [] = refl
all_reversed test (x ∷ xs) =
    ap (list_all test) (reverse_onto xs x []) ∙ (all_more test (reverse xs) (x ∷ [])
    ∙ (ap (λ b. b && (test x && true)) (all_reversed test xs) ∙ turned (list_all test xs) (test x))) where
      turned : (a b : Bool) → (a && (b && true)) ≡ (b && a)
      turned true true = refl
      turned true false = refl
      turned false true = refl
      turned false false = refl

-- what falls from its newest entry on rises in its order
pub rises : {C A : Type 0} (es : List (Entry C × A)) → Falls es → NumbersRise (reverse (entries_of es))
rises [] h = tt
rises (t ∷ ts) h =
    let before = reverse (entries_of ts) in
    let above = all_reversed (λ (f : Entry _). not (f.station == t.0.station) || nat_lt f.number t.0.number)
    (entries_of ts) ∙ h.0 in
    subst NumbersRise (sym (reverse_onto (entries_of ts) t.0 [])) (rise-more before t.0 (rises ts h.1) above)
