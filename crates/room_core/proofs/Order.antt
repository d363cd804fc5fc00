-- Entries of other stations are passed by: a history comes to what it comes to station by station.
use Rattle.std.proofs.Common.{◌≡◌, ◌≢◌, ℕ, zero, suc, ◌<◌, ◌≤◌, List, [], ◌∷◌, ◌++◌, Bool, true, false, ◌==◌, cond, Option, Some, None, Result, Ok, Err, map, slice_get, slice_set, refl, sym, ap, subst, ◌∙◌, arith}
use Rattle.std.specs.List.{filter, fold}
use Rattle.std.proofs.lemmas.List.{append_assoc}
use Rattle.std.proofs.lemmas.List.Sums.{fold-append}
use Rattle.std.proofs.lemmas.Bool.Decides.{nat_tests}
use Rattle.room_core.specs.History.{after_entry, replay, state_in}
use Rattle.room_core.specs.Projection.{of_station}
use Rattle.room_core.specs.Whole.{Meaning, on_whole, picked, put_back, unless_refused, whole, with_picked}
use Rattle.room_core.specs.declared.entry.Entry.{Entry}
use Rattle.room_core.specs.OwnParts.{AreOfFirst, KeepToOwn, by_station, calls_of}

-- ---- two parts

get_other : {P : Type 0} (ps : List P) (n k : ℕ) (p : P) → n ≢ k → slice_get (slice_set ps n p) k ≡ slice_get ps k
get_other [] n k p h = refl
get_other (q ∷ ps) zero zero p h = absurd (h refl)
get_other (q ∷ ps) zero (suc k) p h = refl
get_other (q ∷ ps) (suc n) zero p h = refl
get_other (q ∷ ps) (suc n) (suc k) p h = get_other ps n k p (λ e. h (ap suc e))

set_other : {P : Type 0} (ps : List P) (n k : ℕ) (p q : P) → n ≢ k → slice_set (slice_set ps n p) k q ≡ slice_set (slice_set ps k q) n p
set_other [] n k p q h = refl
set_other (r ∷ ps) zero zero p q h = absurd (h refl)
set_other (r ∷ ps) zero (suc k) p q h = refl
set_other (r ∷ ps) (suc n) zero p q h = refl
set_other (r ∷ ps) (suc n) (suc k) p q h = ap (λ l. r ∷ l) (set_other ps n k p q (λ e. h (ap suc e)))

-- what is put back at one part
abbrev put_one : {P : Type 0} → List P → ℕ → List P → List P
put_one ps n [] = ps
put_one ps n (t ∷ ts) = slice_set ps n t

put_one_is : {P : Type 0} (ps : List P) (n : ℕ) (ts : List P) → put_back ps (n ∷ []) ts ≡ put_one ps n ts
put_one_is ps n [] = refl
put_one_is ps n (t ∷ ts) = refl

get_put : {P : Type 0} (ps : List P) (n k : ℕ) (ts : List P) → n ≢ k → slice_get (put_one ps n ts) k ≡ slice_get ps k
get_put ps n k [] h = refl
get_put ps n k (t ∷ ts) h = get_other ps n k t h

put_put : {P : Type 0} (ps : List P) (n k : ℕ) (ts us : List P) → n ≢ k → put_one (put_one ps n ts) k us ≡ put_one (put_one ps k us) n ts
put_put ps n k [] [] h = refl
put_put ps n k [] (u ∷ us) h = refl
put_put ps n k (t ∷ ts) [] h = refl
put_put ps n k (t ∷ ts) (u ∷ us) h = set_other ps n k t u h

-- ---- a call on one part

-- the parts after a call that was answered so on one part
abbrev left : {P D R : Type 0} → List P → ℕ → Option R → Result (List P × D) R → Option (List P)
left ps n (Some r) x = None
left ps n None (Err r) = None
left ps n None (Ok (ts, d)) = Some (put_one ps n ts)

left_is : {P D R : Type 0} (ps : List P) (n : ℕ) (r : Option R) (x : Result (List P × D) R) → state_in (unless_refused r (on_whole ps (n ∷ []) x)) ≡ left ps n r x
left_is ps n (Some r) x = refl
left_is ps n None (Err r) = refl
left_is ps n None (Ok (ts, d)) = ap Some (put_one_is ps n ts)

-- the parts after two calls, each answered so on a part of its own
abbrev both : {P D R : Type 0} → List P → ℕ → ℕ → Option R → Result (List P × D) R → Option R → Result (List P × D) R → Option (List P)
both ps n k (Some r) x q y = None
both ps n k None (Err r) q y = None
both ps n k None (Ok (ts, d)) q y = left (put_one ps n ts) k q y

both_swap : {P D R : Type 0} (ps : List P) (n k : ℕ) (r : Option R) (x : Result (List P × D) R) (q : Option R) (y : Result (List P × D) R) → n ≢ k
    → both ps n k r x q y ≡ both ps k n q y r x
both_swap ps n k (Some r) x (Some q) y h = refl
both_swap ps n k (Some r) x None (Err q) h = refl
both_swap ps n k (Some r) x None (Ok (us, c)) h = refl
both_swap ps n k None (Err r) (Some q) y h = refl
both_swap ps n k None (Err r) None (Err q) h = refl
both_swap ps n k None (Err r) None (Ok (us, c)) h = refl
both_swap ps n k None (Ok (ts, d)) (Some q) y h = refl
both_swap ps n k None (Ok (ts, d)) None (Err q) h = refl
both_swap ps n k None (Ok (ts, d)) None (Ok (us, c)) h = ap Some (put_put ps n k ts us h)

-- what a call answers on the part that it names
module _ {P C D R : Type 0} (m : Meaning P C D R) where
  abbrev on_part : List P → ℕ → C → Result (List P × D) R
  on_part ps n c = m.applied (with_picked (slice_get ps n) []) c

  abbrev after : Option (List P) → Entry C → Option (List P)
  after o e = after_entry (whole m) o e

  one_step : (ps : List P) (n : ℕ) (e : Entry C) → m.names e.call ≡ n ∷ [] → after (Some ps) e ≡ left ps n (m.refuses e.call) (on_part ps n e.call)
  one_step ps n e is =
      ap (λ (ns : List ℕ). state_in (unless_refused (m.refuses e.call) (on_whole ps ns (m.applied (picked ps ns) e.call)))) is
      ∙ left_is ps n (m.refuses e.call) (on_part ps n e.call)

  -- a call on another part, behind one that was answered so
  then_step : (ps : List P) (n k : ℕ) (f : Entry C) (r : Option R) (x : Result (List P × D) R) → n ≢ k → m.names f.call ≡ k ∷ []
      → after (left ps n r x) f ≡ both ps n k r x (m.refuses f.call) (on_part ps k f.call)
  then_step ps n k f (Some r) x h is = refl
  then_step ps n k f None (Err r) h is = refl
  then_step ps n k f None (Ok (ts, d)) h is =
      one_step (put_one ps n ts) k f is
      ∙ ap (λ (o : Option P). left (put_one ps n ts) k (m.refuses f.call) (m.applied (with_picked o []) f.call)) (get_put ps n k ts h)

  in_turn : (ps : List P) (n k : ℕ) (e f : Entry C) → n ≢ k → m.names e.call ≡ n ∷ [] → m.names f.call ≡ k ∷ []
      → after (after (Some ps) e) f ≡ both ps n k (m.refuses e.call) (on_part ps n e.call) (m.refuses f.call) (on_part ps k f.call)
  in_turn ps n k e f h one two = ap (λ (o : Option (List P)). after o f) (one_step ps n e one) ∙ then_step ps n k f (m.refuses e.call) (on_part ps n e.call) h two

  -- two entries of two stations in either order
  either_way : (o : Option (List P)) (n k : ℕ) (e f : Entry C) → n ≢ k → m.names e.call ≡ n ∷ [] → m.names f.call ≡ k ∷ []
      → after (after o e) f ≡ after (after o f) e
  either_way None n k e f h one two = refl
  either_way (Some ps) n k e f h one two =
      in_turn ps n k e f h one two
      ∙ both_swap ps n k (m.refuses e.call) (on_part ps n e.call) (m.refuses f.call) (on_part ps k f.call) h
      ∙ sym (in_turn ps k n f e (λ s. h (sym s)) two one)

  -- ---- entries of other stations

  -- each names one part, that of its station, which is below this one
  abbrev Below : ℕ → List (Entry C) → Type 0
  Below n [] = Unit {0}
  Below n (e ∷ es) = (e.station < n) × (m.names e.call ≡ e.station ∷ []) × Below n es

  moved : (o : Option (List P)) (e : Entry C) (xs : List (Entry C)) → m.names e.call ≡ e.station ∷ [] → Below e.station xs
      → fold after (after o e) xs ≡ after (fold after o xs) e
  moved o e [] own below = refl
  moved o e (x ∷ xs) own below =
      ap (λ (s : Option (List P)). fold after s xs) (either_way o e.station x.station e x (λ same. let low = below.0 in omega (arith, same, low)) own below.1)
      ∙ moved (after o x) e xs own below.2

  below_one : (b : Bool) (n : ℕ) (e : Entry C) (es : List (Entry C)) → (b ≡ true → e.station < n) → m.names e.call ≡ e.station ∷ [] → Below n es → Below n (cond b (e ∷ es) es)
  below_one true n e es low own rest = (low refl, own, rest)
  below_one false n e es low own rest = rest

  below_station : (n s : ℕ) (h : List (Entry C)) → s < n → KeepToOwn m.names h → Below n (of_station s h)
  below_station n s [] low own = tt
  below_station n s (e ∷ es) low own =
      below_one (e.station == s) n e (of_station s es) (λ is. let same : e.station ≡ s = Prim.grind (arith, nat_tests, is) in omega (arith, low, same)) own.0 (below_station n s es low own.1)

  below_both : (n : ℕ) (xs ys : List (Entry C)) → Below n xs → Below n ys → Below n (xs ++ ys)
  below_both n [] ys a b = b
  below_both n (x ∷ xs) ys a b = (a.0, a.1, below_both n xs ys a.2 b)

  below_all : (n k : ℕ) (h : List (Entry C)) → k ≤ n → KeepToOwn m.names h → Below n (by_station k h)
  below_all n zero h low own = tt
  below_all n (suc k) h low own = below_both n (by_station k h) (of_station k h) (below_all n k h (omega (arith, low)) own) (below_station n k h (omega (arith, low)) own)

  -- ---- one entry more in front

  station_more : (b : Bool) (s : ℕ) (e : Entry C) (h : List (Entry C)) → (e.station == s) ≡ b → of_station s (e ∷ h) ≡ cond b (e ∷ of_station s h) (of_station s h)
  station_more b s e h is = ap (λ (t : Bool). cond t (e ∷ of_station s h) (of_station s h)) is

  -- where it is of none of these stations
  none_more : (n : ℕ) (e : Entry C) (h : List (Entry C)) → n ≤ e.station → by_station n (e ∷ h) ≡ by_station n h
  none_more zero e h high = refl
  none_more (suc n) e h high =
      let other : (e.station == n) ≡ false = Prim.grind (arith, nat_tests, high) in
      ap (λ (l : List (Entry C)). l ++ of_station n (e ∷ h)) (none_more n e h (omega (arith, high)))
      ∙ ap (λ (l : List (Entry C)). by_station n h ++ l) (station_more false n e h other)

  abbrev F : Option (List P) → List (Entry C) → Option (List P)
  F o xs = fold after o xs

  one_more : (n : ℕ) (o : Option (List P)) (e : Entry C) (h : List (Entry C)) → e.station < n → m.names e.call ≡ e.station ∷ [] → KeepToOwn m.names h
      → F (after o e) (by_station n h) ≡ F o (by_station n (e ∷ h))
  one_more zero o e h low own all = absurd (omega (arith, low))
  one_more (suc n) o e h low own all = at_or (e.station == n) refl (λ lower. one_more n o e h lower own all)
    where
      at_or : (b : Bool) → (e.station == n) ≡ b → (e.station < n → F (after o e) (by_station n h) ≡ F o (by_station n (e ∷ h))) → F (after o e) (by_station (suc n) h) ≡ F o (by_station (suc n) (e ∷ h))
      at_or true is others =
          let same : e.station ≡ n = Prim.grind (arith, nat_tests, is) in
          fold-append after (after o e) (by_station n h) (of_station n h)
          ∙ ap (λ (s : Option (List P)). F s (of_station n h)) (moved o e (by_station n h) own (below_all e.station n h (omega (arith, same)) all))
          ∙ sym (fold-append after o (by_station n h) (e ∷ of_station n h))
          ∙ ap (λ (l : List (Entry C)). F o (l ++ e ∷ of_station n h)) (sym (none_more n e h (omega (arith, same))))
          ∙ ap (λ (l : List (Entry C)). F o (by_station n (e ∷ h) ++ l)) (sym (station_more true n e h is))
      at_or false is others =
          let other : e.station ≢ n = (λ same. absurd (Prim.grind (arith, nat_tests, is, same))) in
          fold-append after (after o e) (by_station n h) (of_station n h)
          ∙ ap (λ (s : Option (List P)). F s (of_station n h)) (others (omega (arith, low, other)))
          ∙ sym (fold-append after o (by_station n (e ∷ h)) (of_station n h))
          ∙ ap (λ (l : List (Entry C)). F o (by_station n (e ∷ h) ++ l)) (sym (station_more false n e h is))

  none_of : (n : ℕ) → by_station {C = C} n [] ≡ []
  none_of zero = refl
  none_of (suc n) = ap (λ (l : List (Entry C)). l ++ []) (none_of n)

  pub in_order : (n : ℕ) (o : Option (List P)) (h : List (Entry C)) → AreOfFirst n h → KeepToOwn m.names h → fold (after_entry (whole m)) o h ≡ fold (after_entry (whole m)) o (by_station n h)
  in_order n o [] of own = ap (λ (l : List (Entry C)). fold after o l) (sym (none_of n))
  in_order n o (e ∷ es) of own = in_order n (after o e) es of.1 own.1 ∙ one_more n o e es of.0 own.0 own.1

-- ---- calls alone

pub same_calls : {S C D R : Type 0} (apply : S → C → Result (S × D) R) (o : Option S) (xs ys : List (Entry C)) → calls_of xs ≡ calls_of ys
    → fold (after_entry apply) o xs ≡ fold (after_entry apply) o ys
same_calls apply o [] [] is = refl
same_calls apply o [] (y ∷ ys) is = absurd (Prim.grind (arith, is))
same_calls apply o (x ∷ xs) [] is = absurd (Prim.grind (arith, is))
same_calls {S} {C} apply o (x ∷ xs) (y ∷ ys) is =
    let first : x.call ≡ y.call = Prim.grind (arith, is) in
    let rest : calls_of xs ≡ calls_of ys = Prim.grind (arith, is) in
    ap (λ (s : Option S). fold (after_entry apply) s xs) (one_call apply o x y first) ∙ same_calls apply (after_entry apply o y) xs ys rest
  where
    one_call : {S C D R : Type 0} (apply : S → C → Result (S × D) R) (o : Option S) (x y : Entry C) → x.call ≡ y.call → after_entry apply o x ≡ after_entry apply o y
    one_call apply None x y is = refl
    one_call apply (Some s) x y is = ap (λ c. state_in (apply s c)) is
