-- Homes that are held: the seats that are with them, what is put in their places, and the room that they need.
use Rattle.std.proofs.Common.{◌≡◌, ℕ, zero, suc, ◌+◌, ◌/◌, ◌%◌, ◌^◌, ◌==◌, ◌<◌, ◌≤◌, All, Bool, true, false, cond, List, [], ◌∷◌, ◌++◌, length, map, take, drop, get_or, Option, Some, None, slice_set, refl, sym, ap, ◌∙◌, subst, arith}
use Rattle.std.proofs.Math.Nat.{div-div-eq-div-mul, div-one, pow-suc}
use Rattle.std.specs.Int.Count.{ones_step}
use Rattle.std.specs.Int.RustNames.{count_ones}
use Rattle.std.specs.List.{cons_option, filter, filter_map}
use Rattle.std.proofs.lemmas.Bool.Decides.{nat_tests}
use Rattle.std.proofs.Math.Seq.{drop-cons}
use Rattle.std.proofs.lemmas.List.{get_or-take, length-append, length-take}
use Rattle.std.proofs.lemmas.List.Elements.{filter_map-append}
use Rattle.room_core.specs.Parts.{numbers}
use Rattle.track_locks.specs.Homes.{has_bit, members}
use Rattle.track_locks.proofs.Begin.{map_length, take_more}

-- the one at a place gives its own up, where those after it have none
record Taken {A S : Type 0} (f : A → Option S) (xs : List A) (i : ℕ) (x y : A) : Type 0 where
  pub front : filter_map f xs ≡ filter_map f (slice_set xs i y) ++ cons_option (f x) []
  pub none : filter_map f (drop i (slice_set xs i y)) ≡ []

cons_front : {S : Type 0} (o : Option S) (ls bs cs : List S) → ls ≡ bs ++ cs → cons_option o ls ≡ cons_option o bs ++ cs
cons_front None ls bs cs e = e
cons_front (Some s) ls bs cs e = ap (λ l. s ∷ l) e

taken_first : {S : Type 0} (o p : Option S) (l : List S) → p ≡ None → l ≡ [] → (cons_option o l ≡ cons_option p l ++ cons_option o []) × (cons_option p l ≡ [])
taken_first o None [] e h = (refl, refl)
taken_first o None (x ∷ l) e h = absurd cc
taken_first o (Some s) l e h = absurd cc

taken : {A S : Type 0} (f : A → Option S) (xs : List A) (i : ℕ) (y d : A) → i < length xs → f y ≡ None → filter_map f (drop (suc i) xs) ≡ [] → Taken f xs i (get_or xs i d) y
taken f [] i y d lt e h = absurd (omega (arith, lt))
taken f (x ∷ xs) zero y d lt e h = let r = taken_first (f x) (f y) (filter_map f xs) e h in record { front = r.0; none = r.1 }
taken f (x ∷ xs) (suc i) y d lt e h =
    let r = taken f xs i y d (omega (arith, lt)) e h in
    record { front = cons_front (f x) (filter_map f xs) (filter_map f (slice_set xs i y)) (cons_option (f (get_or xs i d)) []) r.front; none = r.none }

-- and gets one, where it and those after it have none
record Given {A S : Type 0} (f : A → Option S) (xs : List A) (i : ℕ) (y : A) (s : S) : Type 0 where
  pub more : filter_map f (slice_set xs i y) ≡ filter_map f xs ++ s ∷ []
  pub later : filter_map f (drop (suc i) (slice_set xs i y)) ≡ []

given_first : {S : Type 0} (o p : Option S) (l : List S) (s : S) → p ≡ Some s → cons_option o l ≡ [] → (cons_option p l ≡ cons_option o l ++ s ∷ []) × (l ≡ [])
given_first None p [] s e h = (ap (λ o. cons_option o []) e, refl)
given_first None p (x ∷ l) s e h = absurd cc
given_first (Some t) p l s e h = absurd cc

given : {A S : Type 0} (f : A → Option S) (xs : List A) (i : ℕ) (y : A) (s : S) → i < length xs → f y ≡ Some s → filter_map f (drop i xs) ≡ [] → Given f xs i y s
given f [] i y s lt e h = absurd (omega (arith, lt))
given f (x ∷ xs) zero y s lt e h = let r = given_first (f x) (f y) (filter_map f xs) s e h in record { more = r.0; later = r.1 }
given f (x ∷ xs) (suc i) y s lt e h =
    let r = given f xs i y s (omega (arith, lt)) e h in
    record { more = cons_front (f x) (filter_map f (slice_set xs i y)) (filter_map f xs) (s ∷ []) r.more; later = r.later }

-- the same, as the loops over homes need it
pub gather_one : {A S : Type 0} (f : A → Option S) (xs : List A) (i n : ℕ) (y d : A) (s : S) → i < length xs → suc i ≡ n → f (get_or xs i d) ≡ Some s → f y ≡ None → filter_map f (drop n xs) ≡ []
    → (filter_map f xs ≡ filter_map f (slice_set xs i y) ++ s ∷ []) × (filter_map f (drop i (slice_set xs i y)) ≡ [])
gather_one {A} {S} f xs i n y d s lt next has none rest =
    let r = taken f xs i y d lt none (ap (λ k. filter_map f (drop k xs)) next ∙ rest) in
    (r.front ∙ ap (λ (o : Option S). filter_map f (slice_set xs i y) ++ cons_option o []) has, r.none)

pub gather_none : {A S : Type 0} (f : A → Option S) (xs : List A) (i n : ℕ) (y d : A) → i < length xs → suc i ≡ n → f y ≡ None → filter_map f (drop n xs) ≡ []
    → filter_map f (drop i (slice_set xs i y)) ≡ []
gather_none f xs i n y d lt next none rest = (taken f xs i y d lt none (ap (λ k. filter_map f (drop k xs)) next ∙ rest)).none

pub give_one : {A S : Type 0} (f : A → Option S) (xs : List A) (i : ℕ) (y : A) (s : S) → i < length xs → f y ≡ Some s → filter_map f (drop i xs) ≡ []
    → (filter_map f (slice_set xs i y) ≡ filter_map f xs ++ s ∷ []) × (filter_map f (drop (i + 1) (slice_set xs i y)) ≡ [])
give_one f xs i y s lt has none =
    let r = given f xs i y s lt has none in
    let next : i + 1 ≡ suc i = omega arith in
    (r.more, ap (λ k. filter_map f (drop k (slice_set xs i y))) next ∙ r.later)

few_of : {A S : Type 0} (f : A → Option S) (xs : List A) → length (filter_map f xs) ≤ length xs
few_of f [] = omega arith
few_of {A} {S} f (x ∷ xs) = by (f x) (few_of f xs) where
  by : (o : Option S) → length (filter_map f xs) ≤ length xs → length (cons_option o (filter_map f xs)) ≤ suc (length xs)
  by None h = omega (arith, h)
  by (Some s) h = omega (arith, h)

last_has : {A S : Type 0} (f : A → Option S) (xs : List A) (x : A) → length (filter_map f (xs ++ x ∷ [])) ≡ length xs + 1 → f x ≡ None → ⊥
last_has {A} {S} f xs x h e =
    let two : length (filter_map f (xs ++ x ∷ [])) ≡ length (filter_map f xs ++ cons_option (f x) []) = ap length (filter_map-append f xs (x ∷ [])) in
    let none : length (filter_map f xs ++ cons_option (f x) []) ≡ length (filter_map f xs ++ []) = ap (λ (o : Option S). length (filter_map f xs ++ cons_option o [])) e in
    omega (arith, h, two, none, few_of f xs, length-append (filter_map f xs) [])

pub with_last : {A S : Type 0} (f : A → Option S) (xs : List A) (x : A) (s : S) → f x ≡ Some s → filter_map f (xs ++ x ∷ []) ≡ filter_map f xs ++ s ∷ []
with_last {A} {S} f xs x s e = filter_map-append f xs (x ∷ []) ∙ ap (λ (o : Option S). filter_map f xs ++ cons_option o []) e

-- one more is copied
pub copied_more : {A P : Type 0} (f : A → P) (xs : List A) (ps qs : List P) (i : ℕ) (d : A) (p : P) → i < length xs → qs ≡ ps ++ p ∷ [] → ps ≡ take i (map f xs) → p ≡ f (get_or xs i d) → qs ≡ take (i + 1) (map f xs)
copied_more {A} {P} f xs ps qs i d p lt is so_far e =
    let more : suc i ≡ i + 1 = omega arith in
    is ∙ (ap (λ l. l ++ p ∷ []) so_far ∙ (ap (λ q. take i (map f xs) ++ q ∷ []) e ∙ (by xs i lt ∙ ap (λ k. take k (map f xs)) more)))
  where
    by : (xs : List A) (i : ℕ) → i < length xs → take i (map f xs) ++ f (get_or xs i d) ∷ [] ≡ take (suc i) (map f xs)
    by [] i lt = absurd (omega (arith, lt))
    by (x ∷ xs) zero lt = refl
    by (x ∷ xs) (suc i) lt = ap (λ l. f x ∷ l) (by xs i (omega (arith, lt)))

-- a part more is put in its place, from the last on
put_more : {A P : Type 0} (f : A → P) (xs : List A) (i : ℕ) (y : A) (ps qs : List P) (p : P) → i < length xs → f y ≡ p → (ps ++ p ∷ []) ++ drop (i + 1) (map f xs) ≡ qs
    → ps ++ drop i (map f (slice_set xs i y)) ≡ qs
put_more {A} {P} f xs i y ps qs p lt e h =
    let more : suc i ≡ i + 1 = omega arith in
    ap (λ l. ps ++ l) (from xs i lt ∙ ap (λ k. f y ∷ drop k (map f xs)) more) ∙ (ap (λ q. ps ++ q ∷ drop (i + 1) (map f xs)) e ∙ (move ps p (drop (i + 1) (map f xs)) ∙ h))
  where
    from : (xs : List A) (i : ℕ) → i < length xs → drop i (map f (slice_set xs i y)) ≡ f y ∷ drop (suc i) (map f xs)
    from [] i lt = absurd (omega (arith, lt))
    from (x ∷ xs) zero lt = refl
    from (x ∷ xs) (suc i) lt = from xs i (omega (arith, lt))

    move : {P : Type 0} (ps : List P) (p : P) (rest : List P) → ps ++ p ∷ rest ≡ (ps ++ p ∷ []) ++ rest
    move [] p rest = refl
    move (q ∷ ps) p rest = ap (λ l. q ∷ l) (move ps p rest)

-- a version more is raised, from the last on
raised : (vs : List ℕ) (i d : ℕ) → i < length vs
    → map (λ v. v + 1) (take i (slice_set vs i (get_or vs i d + 1))) ++ drop i (slice_set vs i (get_or vs i d + 1)) ≡ map (λ v. v + 1) (take (suc i) vs) ++ drop (suc i) vs
raised [] i d lt = absurd (omega (arith, lt))
raised (v ∷ vs) zero d lt = refl
raised (v ∷ vs) (suc i) d lt = ap (λ l. (v + 1) ∷ l) (raised vs i d (omega (arith, lt)))

raise_from : (vs us : List ℕ) (i d n : ℕ) → i < length vs → n ≡ get_or vs i d + 1 → map (λ v. v + 1) (take (i + 1) vs) ++ drop (i + 1) vs ≡ us
    → map (λ v. v + 1) (take i (slice_set vs i n)) ++ drop i (slice_set vs i n) ≡ us
raise_from vs us i d n lt e h =
    let more : suc i ≡ i + 1 = omega arith in
    ap (λ m. map (λ v. v + 1) (take i (slice_set vs i m)) ++ drop i (slice_set vs i m)) e ∙ (raised vs i d lt ∙ (ap (λ k. map (λ v. v + 1) (take k vs) ++ drop k vs) more ∙ h))

-- those before a place are as they were
low_before : (vs : List ℕ) (i n : ℕ) → All (λ v. v < 4294967295) (take (i + 1) vs) → All (λ v. v < 4294967295) (take i (slice_set vs i n))
low_before vs i n h = subst (All (λ v. v < 4294967295)) (sym (same vs i)) (λ k d lt.
    let short = take_short i vs in
    let long = take_long i vs k lt in
    subst (λ v. v < 4294967295) (get_or-take (i + 1) vs k d (omega (arith, lt, short)) ∙ sym (get_or-take i vs k d (omega (arith, lt, short)))) (h k d long))
  where
    same : (vs : List ℕ) (i : ℕ) → take i (slice_set vs i n) ≡ take i vs
    same [] zero = refl
    same [] (suc i) = refl
    same (v ∷ vs) zero = refl
    same (v ∷ vs) (suc i) = ap (λ l. v ∷ l) (same vs i)

    take_short : {A : Type 0} (n : ℕ) (xs : List A) → length (take n xs) ≤ n
    take_short zero xs = omega arith
    take_short (suc n) [] = omega arith
    take_short (suc n) (x ∷ xs) = let r = take_short n xs in omega (arith, r)

    take_long : {A : Type 0} (n : ℕ) (xs : List A) (k : ℕ) → k < length (take n xs) → k < length (take (n + 1) xs)
    take_long n xs k lt = let more : suc n ≡ n + 1 = omega arith in subst (λ m. k < length (take m xs)) more (by n xs k lt) where
      by : {A : Type 0} (n : ℕ) (xs : List A) (k : ℕ) → k < length (take n xs) → k < length (take (suc n) xs)
      by zero xs k lt = absurd (omega (arith, lt))
      by (suc n) [] k lt = absurd (omega (arith, lt))
      by (suc n) (x ∷ xs) zero lt = omega arith
      by (suc n) (x ∷ xs) (suc k) lt = let r = by n xs k (omega (arith, lt)) in omega (arith, r)

-- what the one in a place keeps is as it was
pub map_same : {A B : Type 0} (f : A → B) (xs : List A) (i : ℕ) (y d : A) → i < length xs → f y ≡ f (get_or xs i d) → map f (slice_set xs i y) ≡ map f xs
map_same f [] i y d lt e = absurd (omega (arith, lt))
map_same f (x ∷ xs) zero y d lt e = ap (λ b. b ∷ map f xs) e
map_same f (x ∷ xs) (suc i) y d lt e = ap (λ l. f x ∷ l) (map_same f xs i y d (omega (arith, lt)) e)

pub seats_same : {A S : Type 0} (f : A → Option S) (xs : List A) (i : ℕ) (y d : A) → i < length xs → f y ≡ f (get_or xs i d) → filter_map f (slice_set xs i y) ≡ filter_map f xs
seats_same f [] i y d lt e = absurd (omega (arith, lt))
seats_same f (x ∷ xs) zero y d lt e = ap (λ o. cons_option o (filter_map f xs)) e
seats_same f (x ∷ xs) (suc i) y d lt e = ap (λ l. cons_option (f x) l) (seats_same f xs i y d (omega (arith, lt)) e)

-- what is set in one place, seen of each
map_set : {A B : Type 0} (f : A → B) (xs : List A) (i : ℕ) (y : A) → map f (slice_set xs i y) ≡ slice_set (map f xs) i (f y)
map_set f [] i y = refl
map_set f (x ∷ xs) zero y = refl
map_set f (x ∷ xs) (suc i) y = ap (λ l. f x ∷ l) (map_set f xs i y)

map_read : {A B : Type 0} (f : A → B) (xs : List A) (i : ℕ) (d : A) (e : B) → i < length xs → get_or (map f xs) i e ≡ f (get_or xs i d)
map_read f [] i d e lt = absurd (omega (arith, lt))
map_read f (x ∷ xs) zero d e lt = refl
map_read f (x ∷ xs) (suc i) d e lt = map_read f xs i d e (omega (arith, lt))

-- as many homes as numbers
pub numbers_more : {A : Type 0} (f : A → ℕ) (xs : List A) (ns : List ℕ) → map f xs ≡ ns → length xs ≡ length ns
numbers_more f xs ns is = sym (map_length f xs) ∙ ap length is

-- the number that is next
pub number_read : {A : Type 0} (f : A → ℕ) (xs : List A) (ns : List ℕ) (k : ℕ) (d : A) → k < length xs → map f xs ≡ ns → get_or ns k 0 ≡ f (get_or xs k d)
number_read f xs ns k d lt is = ap (λ l. get_or l k 0) (sym is) ∙ map_read f xs k d 0 lt

pub next_number : {A : Type 0} (f : A → ℕ) (xs : List A) (ns : List ℕ) (k : ℕ) (d : A) → k < length xs → map f xs ≡ ns → drop k ns ≡ f (get_or xs k d) ∷ drop (k + 1) ns
next_number f xs ns k d lt is =
    let next : suc k ≡ k + 1 = omega arith in
    let inside : k < length ns = omega (arith, lt, numbers_more f xs ns is) in
    drop-cons ns k 0 inside ∙ (ap (λ n. n ∷ drop (suc k) ns) (number_read f xs ns k d lt is) ∙ ap (λ j. f (get_or xs k d) ∷ drop j ns) next)

pub take_number : {A : Type 0} (f : A → ℕ) (xs : List A) (ns : List ℕ) (k : ℕ) (d : A) → k < length xs → map f xs ≡ ns → take k ns ++ f (get_or xs k d) ∷ [] ≡ take (k + 1) ns
take_number f xs ns k d lt is =
    let inside : k < length ns = omega (arith, lt, numbers_more f xs ns is) in
    ap (λ n. take k ns ++ n ∷ []) (sym (number_read f xs ns k d lt is)) ∙ sym (take_more ns k 0 inside)

-- a part with its version is put in its place, from the last on: what is left to do, and what is done
pub put_next : {A P : Type 0} (f : A → P) (xs : List A) (i m k : ℕ) (y : A) (ps qs all : List P) (p : P) → i < length xs → i ≡ m → k ≡ i + 1 → f y ≡ p → all ≡ ps ++ p ∷ [] → all ++ drop k (map f xs) ≡ qs
    → ps ++ drop m (map f (slice_set xs i y)) ≡ qs
put_next f xs i m k y ps qs all p lt same next e is h =
    ap (λ j. ps ++ drop j (map f (slice_set xs i y))) (sym same)
    ∙ put_more f xs i y ps qs p lt e (ap (λ l. l ++ drop (i + 1) (map f xs)) (sym is) ∙ (ap (λ j. all ++ drop j (map f xs)) (sym next) ∙ h))

pub raise_next : {A : Type 0} (f : A → ℕ) (xs : List A) (i m k : ℕ) (y d : A) (us : List ℕ) → i < length xs → i ≡ m → k ≡ i + 1 → f y ≡ f (get_or xs i d) + 1
    → map (λ v. v + 1) (take k (map f xs)) ++ drop k (map f xs) ≡ us
    → map (λ v. v + 1) (take m (map f (slice_set xs i y))) ++ drop m (map f (slice_set xs i y)) ≡ us
raise_next f xs i m k y d us lt same next e h =
    let inside : i < length (map f xs) = omega (arith, lt, map_length f xs) in
    ap (λ j. map (λ v. v + 1) (take j (map f (slice_set xs i y))) ++ drop j (map f (slice_set xs i y))) (sym same)
    ∙ (ap (λ vs. map (λ v. v + 1) (take i vs) ++ drop i vs) (map_set f xs i y)
    ∙ raise_from (map f xs) us i 0 (f y) inside (e ∙ ap (λ v. v + 1) (sym (map_read f xs i d 0 lt)))
    (ap (λ j. map (λ v. v + 1) (take j (map f xs)) ++ drop j (map f xs)) (sym next) ∙ h))

pub low_next : {A : Type 0} (f : A → ℕ) (xs : List A) (i m k : ℕ) (y : A) → i ≡ m → k ≡ i + 1 → All (λ v. v < 4294967295) (take k (map f xs)) → All (λ v. v < 4294967295) (take m (map f (slice_set xs i y)))
low_next f xs i m k y same next h =
    let before = low_before (map f xs) i (f y) (subst (λ j. All (λ v. v < 4294967295) (take j (map f xs))) next h) in
    subst (λ j. All (λ v. v < 4294967295) (take j (map f (slice_set xs i y)))) same (subst (λ vs. All (λ v. v < 4294967295) (take i vs)) (sym (map_set f xs i y)) before)

pub low_at : {A : Type 0} (f : A → ℕ) (xs : List A) (i k : ℕ) (d : A) → i < length xs → k ≡ i + 1 → All (λ v. v < 4294967295) (take k (map f xs)) → f (get_or xs i d) < 4294967295
low_at f xs i k d lt next h =
    let inside : i < length (take k (map f xs)) = omega (arith, lt, next, map_length f xs, length-take k (map f xs)) in
    let read = get_or-take k (map f xs) i 0 (omega (arith, next)) ∙ map_read f xs i d 0 lt in
    subst (λ v. v < 4294967295) read (h i 0 inside)

-- the last has its own, where there are as many as numbers
pub last_there : {A S : Type 0} (f : A → ℕ) (k : A → Option S) (xs ys : List A) (y : A) → ys ≡ xs ++ y ∷ [] → length (filter_map k ys) ≡ length (map f ys) → k y ≡ None → ⊥
last_there {A} {S} f k xs ys y is same none =
    let all : length (map f ys) ≡ length ys = map_length f ys in
    let long : length ys ≡ length (xs ++ y ∷ []) = ap length is in
    let own : length (filter_map k ys) ≡ length (filter_map k (xs ++ y ∷ [])) = ap (λ l. length (filter_map k l)) is in
    last_has k xs y (omega (arith, all, long, length-append xs (y ∷ []), own, same)) none

-- a set has at least as many bits as it has members below a count
one_bit : (b : Bool) (n m : ℕ) (from : ℕ) (l : List ℕ) → (m == 1) ≡ b → m < 2 → length l ≤ n → length (cond b (from ∷ l) l) ≤ m + n
one_bit true n m from l e lt h = let one : m ≡ 1 = Prim.grind (arith, nat_tests, e) in omega (arith, one, h)
one_bit false n m from l e lt h = omega (arith, h)

bits_from : (set from count : ℕ) → length (filter (has_bit set) (numbers from count)) ≤ count_ones (set / 2 ^ from)
bits_from set from zero = omega arith
bits_from set from (suc count) =
    let half : set / 2 ^ from / 2 ≡ set / 2 ^ (from + 1) =
    let next : from + 1 ≡ suc from = omega arith in
    div-div-eq-div-mul set (2 ^ from) 2 ∙ sym (ap (λ k. set / 2 ^ k) next ∙ ap (λ m. set / m) (pow-suc 2 from)) in
    let r : length (filter (has_bit set) (numbers (from + 1) count)) ≤ count_ones (set / 2 ^ from / 2) =
    subst (λ n. length (filter (has_bit set) (numbers (from + 1) count)) ≤ count_ones n) (sym half) (bits_from set (from + 1) count) in
    let step = ones_step (set / 2 ^ from) in
    let lt : set / 2 ^ from % 2 < 2 = omega arith in
    let one = one_bit (has_bit set from) (count_ones (set / 2 ^ from / 2)) (set / 2 ^ from % 2) from (filter (has_bit set) (numbers (from + 1) count)) refl lt r in
    omega (arith, step, one)

pub members_bits : (set count : ℕ) → length (members count set) ≤ count_ones set
members_bits set count =
    let whole : set / 2 ^ 0 ≡ set = div-one set in
    subst (λ n. length (members count set) ≤ count_ones n) whole (bits_from set 0 count)
