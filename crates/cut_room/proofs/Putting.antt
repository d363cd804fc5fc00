-- Parts that are put where others were held, after an entry that names them.
use Rattle.std.proofs.Common.{◌≡◌, ◌≢◌, ℕ, zero, suc, ◌+◌, ◌<◌, List, [], ◌∷◌, ◌++◌, length, map, Bool, true, false, ◌==◌, ◌||◌, cond, Option, Some, None, Ok, slice_get, slice_set, get_or, All, refl, sym, ap, ◌∙◌, subst, arith}
use Rattle.std.specs.List.{list_any}
use Rattle.std.proofs.Math.ListN.{length-set}
use Rattle.std.proofs.lemmas.List.{length-append}
use Rattle.std.proofs.lemmas.List.Elements.{filter-append}
use Rattle.std.proofs.lemmas.Bool.Decides.{nat_tests}
use Rattle.std.proofs.lemmas.Option.{get_or_from_slice_get}
use Rattle.room_core.specs.declared.entry.Entry.{Entry}
use Rattle.room_core.specs.History.{replay, IsLegal, most_entries}
use Rattle.room_core.specs.Parts.{AreGood, AscendBetween}
use Rattle.room_core.specs.Projection.{of_part}
use Rattle.room_core.specs.Whole.{Meaning, put_back, whole}
use Rattle.room_core.proofs.WholeParts.{get-set_other}
use Rattle.edit_journal.specs.Seats.{Opening}
use Rattle.edit_journal.specs.Turns.{Known, last_of}
use Rattle.track_locks.specs.Homes.{IsVersion, IsHistory, AreHomes, AreGoodAt, StandFor}
use Rattle.track_locks.proofs.Several.{within}
use Rattle.track_locks.proofs.Stands.{one_at, homes_again}
use Rattle.cut_room.specs.Gathered.{ComesTo}
use Rattle.cut_room.proofs.Passes.{stands_at, done_whole, more_comes, legal_more, legal_of}

get-set : {A : Type 0} (xs : List A) (n : ℕ) (x : A) → n < length xs → slice_get (slice_set xs n x) n ≡ Some x
get-set [] n x lt = absurd (omega (arith, lt))
get-set (y ∷ xs) zero x lt = refl
get-set (y ∷ xs) (suc n) x lt = get-set xs n x (omega (arith, lt))

-- a part below those that are put stays
put_above : {P : Type 0} (now : List P) (least count : ℕ) (ns : List ℕ) (ts : List P) (k : ℕ) → AscendBetween least count ns → k < least
    → slice_get (put_back now ns ts) k ≡ slice_get now k
put_above now least count [] ts k a lt = refl
put_above now least count (n ∷ ns) [] k a lt = refl
put_above now least count (n ∷ ns) (t ∷ ts) k a lt =
    put_above (slice_set now n t) (n + 1) count ns ts k a.2 (omega (arith, lt, a.0)) ∙ get-set_other now n k t (λ e. omega (arith, e, lt, a.0))

-- a part that is put is found
put_found : {P : Type 0} (now : List P) (least : ℕ) (ns : List ℕ) (ts : List P) (k n : ℕ) (t : P) → AscendBetween least (length now) ns
    → slice_get ns k ≡ Some n → slice_get ts k ≡ Some t → slice_get (put_back now ns ts) n ≡ Some t
put_found now least [] ts k n t a at is = absurd (Prim.grind (arith, at))
put_found now least (m ∷ ns) [] k n t a at is = absurd (Prim.grind (arith, is))
put_found {P} now least (m ∷ ns) (s ∷ ts) zero n t a at is =
    let number : m ≡ n = Prim.grind (arith, at) in
    let part : s ≡ t = Prim.grind (arith, is) in
    subst (λ (x : ℕ × P). slice_get (put_back (slice_set now m s) ns ts) x.0 ≡ Some x.1) (λ i. (number i, part i))
    (put_above (slice_set now m s) (m + 1) (length now) ns ts m a.2 (omega arith) ∙ get-set now m s a.1)
put_found now least (m ∷ ns) (s ∷ ts) (suc k) n t a at is =
    let same = length-set now m s in
    put_found (slice_set now m s) (m + 1) ns ts k n t (subst (λ c. AscendBetween (m + 1) c ns) (sym same) a.2) at is

-- numbers that are there ascend below their count
ascend_within : {P : Type 0} (now : List P) (least count : ℕ) (ns : List ℕ) → AscendBetween least count ns
    → ((k n : ℕ) → slice_get ns k ≡ Some n → n < length now) → AscendBetween least (length now) ns
ascend_within now least count [] a h = tt
ascend_within now least count (n ∷ ns) a h = (a.0, h 0 n refl, ascend_within now (n + 1) count ns a.2 (λ k m at. h (suc k) m at))

raised : (vs : List ℕ) (k v : ℕ) → slice_get (map (λ v. v + 1) vs) k ≡ Some v → (w : ℕ) × (slice_get vs k ≡ Some w) × (v ≡ w + 1)
raised [] k v h = absurd (Prim.grind (arith, h))
raised (w ∷ vs) zero v h = let e : w + 1 ≡ v = Prim.grind (arith, h) in (w, refl, sym e)
raised (w ∷ vs) (suc k) v h = raised vs k v h

here : (a b : Bool) → a ≡ true → (a || b) ≡ true
here a b e = ap (λ x. x || b) e

there : (a b : Bool) → b ≡ true → (a || b) ≡ true
there true b e = refl
there false b e = e

same_number : (a b : ℕ) → a ≡ b → (a == b) ≡ true
same_number a b e = Prim.grind (arith, nat_tests, e)

names_it : (ns : List ℕ) (k n : ℕ) → slice_get ns k ≡ Some n → list_any (λ m. m == n) ns ≡ true
names_it [] k n at = absurd (Prim.grind (arith, at))
names_it (m ∷ ns) zero n at = let e : m ≡ n = Prim.grind (arith, at) in here (m == n) (list_any (λ m. m == n) ns) (same_number m n e)
names_it (m ∷ ns) (suc k) n at = there (m == n) (list_any (λ m. m == n) ns) (names_it ns k n at)

kept_last : {A : Type 0} (b : Bool) (x : A) → b ≡ true → cond b (x ∷ []) [] ≡ x ∷ []
kept_last b x e = ap (λ b. cond b (x ∷ []) []) e

-- an entry that names a part is one more that does
part_more : {C : Type 0} (names : C → List ℕ) (n : ℕ) (entries : List (Entry C)) (e : Entry C) → list_any (λ m. m == n) (names e.call) ≡ true
    → length (of_part names n (entries ++ e ∷ [])) ≡ length (of_part names n entries) + 1
part_more {C} names n entries e h =
    let test : Entry C → Bool = λ f. list_any (λ m. m == n) (names f.call) in
    let all = filter-append test entries (e ∷ []) ∙ ap (λ l. of_part names n entries ++ l) (kept_last (list_any (λ m. m == n) (names e.call)) e h) in
    let count = ap length all in
    omega (arith, count, length-append (of_part names n entries) (e ∷ []))

one_opening : {A : Type 0} (o : Option A) (a b : A) → o ≡ Some a → o ≡ Some b → a ≡ b
one_opening o a b x y = let e : Some a ≡ Some b = sym x ∙ y in Prim.grind (arith, e)

version_more : {O P C D R : Type 0} (meaning : O → Meaning P C D R) (opening : Option (Opening O P)) (o : Opening O P) (n w : ℕ) (entries : List (Entry C)) (e : Entry C)
    → opening ≡ Some o → IsVersion meaning opening n entries w → list_any (λ m. m == n) ((meaning o.0).names e.call) ≡ true → IsVersion meaning opening n (entries ++ e ∷ []) (w + 1)
version_more {O} {P} meaning opening o n w entries e is v h =
    let same = one_opening opening v.0 o v.1 is in
    let count : w ≡ length (of_part (meaning o.0).names n entries) = subst (λ (p : Opening O P). w ≡ length (of_part (meaning p.0).names n entries)) same v.2 in
    let more = part_more (meaning o.0).names n entries e h in
    (o, is, omega (arith, count, more))

-- after the entry, the parts that its call left stand for the journal
pub stand_more : {O P C D R : Type 0} (meaning : O → Meaning P C D R) (opening : Option (Opening O P)) (o : Opening O P) (entries : List (Entry C)) (e : Entry C)
    (least count : ℕ) (ns : List ℕ) (ps ts now : List P) (vs : List ℕ) → opening ≡ Some o → AscendBetween least count ns → ns ≡ (meaning o.0).names e.call
    → length ps ≡ length ns → StandFor meaning opening entries ns ps vs → replay (whole (meaning o.0)) o.1 entries ≡ Some now
    → replay (whole (meaning o.0)) o.1 (entries ++ e ∷ []) ≡ Some (put_back now ns ts) → length vs ≡ length ns
    → StandFor meaning opening (entries ++ e ∷ []) ns ts (map (λ v. v + 1) vs)
stand_more {O} {P} {C} meaning opening o entries e least count ns ps ts now vs is ascend names parts stand comes more versions k n t v at pt vt =
    let up = raised vs k v vt in
    let p = one_at ps k (omega (arith, within ns k n at, parts)) in
    let below : (j m : ℕ) → slice_get ns j ≡ Some m → m < length now = λ j m a.
    let q = one_at ps j (omega (arith, within ns j m a, parts)) in
    let w = one_at vs j (omega (arith, within ns j m a, versions)) in
    within now m q.0 (stands_at meaning opening o entries now m q.0 is comes (stand j m q.0 w.0 a q.1 w.1).0) in
    let found = put_found now least ns ts k n t (ascend_within now least count ns ascend below) at pt in
    let named : list_any (λ m. m == n) ((meaning o.0).names e.call) ≡ true = ap (λ l. list_any (λ m. m == n) l) (sym names) ∙ names_it ns k n at in
    let counted = version_more meaning opening o n up.0 entries e is (stand k n p.0 up.0 at p.1 up.1).1 named in
    ((o, is, put_back now ns ts, more, found), subst (λ w. IsVersion meaning opening n (entries ++ e ∷ []) w) (sym up.2) counted)

know_as : {O P C : Type 0} (ss : List (Known O P C)) (o p : Option (Opening O P)) (l m : List (Entry C)) → o ≡ p → l ≡ m
    → All (λ s. (s.opening ≡ o) × (s.entries ≡ l)) ss → All (λ s. (s.opening ≡ p) × (s.entries ≡ m)) ss
know_as {O} {P} {C} ss o p l m a b h = subst (λ (x : Option (Opening O P) × List (Entry C)). All (λ s. (s.opening ≡ x.0) × (s.entries ≡ x.1)) ss) (λ i. (a i, b i)) h

-- parts that stand for the journal are homes, with seats that know it
pub homes_back : {O P C D R : Type 0} (meaning : O → Meaning P C D R) (opens : O → List P → Type 0) (opening now_opening : Option (Opening O P)) (entries now_entries : List (Entry C))
    (ns : List ℕ) (ps : List P) (vs : List ℕ) (ss : List (Known O P C)) → length ps ≡ length ns → length vs ≡ length ns → StandFor meaning opening entries ns ps vs
    → IsHistory meaning opens opening entries → map (λ (s : Known O P C). s.number) ss ≡ ns → now_opening ≡ opening → now_entries ≡ entries
    → All (λ s. (s.opening ≡ now_opening) × (s.entries ≡ now_entries)) ss → AreHomes meaning opens opening ns ps vs ss
homes_back meaning opens opening now_opening entries now_entries ns ps vs ss parts versions stand history same a b know =
    homes_again meaning opens opening entries ns ps vs ss parts versions stand history same (know_as ss now_opening opening now_entries entries a b know)

-- the entry applies where its call was done on the parts that the journal comes to
pub applies_there : {P C D R : Type 0} (m : Meaning P C D R) (opening : List P) (entries : List (Entry C)) (e : Entry C) (ns : List ℕ) (ps ts : List P) (d : D)
    → ComesTo m opening entries ns ps → m.refuses e.call ≡ None → ns ≡ m.names e.call → m.applied ps e.call ≡ Ok (ts, d)
    → (now : List P) × (replay (whole m) opening entries ≡ Some now) × (replay (whole m) opening (entries ++ e ∷ []) ≡ Some (put_back now ns ts))
applies_there m opening entries e ns ps ts d comes none names done =
    let all = done_whole m comes.now ps ts e.call ns d none names comes.picked_is done in
    (comes.now, comes.comes, more_comes m opening comes.now (put_back comes.now ns ts) entries e d comes.comes all)

pub history_more : {O P C D R : Type 0} (meaning : O → Meaning P C D R) (opens : O → List P → Type 0) (opening : Option (Opening O P)) (o : Opening O P) (entries : List (Entry C)) (e : Entry C) (now : List P)
    → opening ≡ Some o → opens o.0 o.1 → IsHistory meaning opens opening entries → replay (whole (meaning o.0)) o.1 (entries ++ e ∷ []) ≡ Some now
    → length entries < most_entries → last_of e.station entries < e.number → IsHistory meaning opens opening (entries ++ e ∷ [])
history_more meaning opens opening o entries e now is can history more few above =
    (o, is, can, legal_more (meaning o.0) o.1 now entries e (legal_of meaning opens opening o entries is history) more few above)

-- what is good for the object is good for the opening's
pub good_for : {O P : Type 0} (good : O → ℕ → P → Type 0) (opening : Option (Opening O P)) (o : Opening O P) (ns : List ℕ) (ps : List P) → opening ≡ Some o
    → AreGood (good o.0) ns ps → AreGoodAt good opening ns ps
good_for {O} {P} good opening o ns ps is h = λ p e. subst (λ (q : Opening O P). AreGood (good q.0) ns ps) (one_opening opening o p is e) h

-- parts that are held have room, as the law of the object says of histories
pub roomy_homes : {O P C D R : Type 0} (meaning : O → Meaning P C D R) (opens : O → List P → Type 0) (roomy : O → P → Type 0) (opening : Option (Opening O P)) (o : Opening O P)
    (ns : List ℕ) (ps : List P) (vs : List ℕ) (ss : List (Known O P C)) → opening ≡ Some o → AreHomes meaning opens opening ns ps vs ss
    → ((entries : List (Entry C)) (now : List P) → IsLegal (whole (meaning o.0)) o.1 entries → replay (whole (meaning o.0)) o.1 entries ≡ Some now → All (roomy o.0) now)
    → All (roomy o.0) ps
roomy_homes {O} {P} {C} meaning opens roomy opening o ns ps vs ss is homes law = λ k d lt.
    let n = one_at ns k (omega (arith, lt, homes.parts)) in
    let p = one_at ps k lt in
    let v = one_at vs k (omega (arith, lt, homes.parts, homes.versions)) in
    let s = one_at ss k (omega (arith, lt, homes.parts, homes.seats)) in
    let home = (homes.each k n.0 p.0 v.0 s.0 n.1 p.1 v.1 s.1).home in
    let at = home.at in
    let same = one_opening opening at.0 o at.1 is in
    let comes : replay (whole (meaning o.0)) o.1 s.0.entries ≡ Some at.2 = subst (λ (q : Opening O P). replay (whole (meaning q.0)) q.1 s.0.entries ≡ Some at.2) same at.3 in
    let first = one_opening opening home.history.0 o home.history.1 is in
    let legal : IsLegal (whole (meaning o.0)) o.1 s.0.entries = subst (λ (q : Opening O P). IsLegal (whole (meaning q.0)) q.1 s.0.entries) first home.history.3 in
    let one = law s.0.entries at.2 legal comes n.0 p.0 (within at.2 n.0 p.0 at.4) in
    let first_is : get_or at.2 n.0 p.0 ≡ p.0 = get_or_from_slice_get at.2 n.0 p.0 p.0 at.4 in
    let then_is : get_or ps k d ≡ p.0 = get_or_from_slice_get ps k p.0 d p.1 in
    subst (roomy o.0) (first_is ∙ sym then_is) one
