-- Looking for the item with a number, one after another.
use Rattle.std.proofs.Common.{◌≡◌, ℕ, zero, suc, ◌+◌, ◌-◌, ◌≤◌, Bool, true, false, cond, List, [], ◌∷◌, ◌++◌, ◌<◌, ◌==◌, length, take, drop, slice_get, add-one, Option, Some, None, IsNone, refl, sym, ap, ◌∙◌, ◌↔◌, ◌≢◌, option_map, arith}
use Rattle.std.specs.List.{All}
use Rattle.std.proofs.lemmas.List.{drop_all, drop-drop, length-append, length-drop, length-take-le, take-append-drop, take-append-le, take_all}
use Rattle.frame_meaning.specs.Cells.{same_number}
use Rattle.composables.specs.declared.items.ItemView.{ItemView}
use Rattle.composables.specs.declared.items.Place.{Place}
use Rattle.composables.specs.TrackFacts.{Lacks}
use Rattle.composables.specs.Joined.{frames_in}
use Rattle.composables.specs.Places.{StandsAt, StandsBehind}
use Rattle.composables.specs.Ranges.{HasNumber, range_from}
use Rattle.composables.proofs.Frames.{frames_in-append}
use Rattle.composables.proofs.Joining.{same-is, same-refl}

drop_got : (xs : List ItemView) (j : ℕ) (v : ItemView) → slice_get xs j ≡ Some v → drop j xs ≡ v ∷ drop (j + 1) xs
drop_got xs j v e = rw add-one (at xs j e) where
  at : (ys : List ItemView) (k : ℕ) → slice_get ys k ≡ Some v → drop k ys ≡ v ∷ drop (suc k) ys
  at [] k f = absurd (never f) where
    never : None ≡ Some v → ⊥
    never h = cc
  at (y ∷ ys) zero f = cc
  at (y ∷ ys) (suc k) f = at ys k f

range_step : (b : Bool) (x : ℕ) (xs : List ItemView) (j : ℕ) (v : ItemView) (i : ℕ) → slice_get xs j ≡ Some v → same_number v.item (Some i) ≡ b
    → range_from x (drop j xs) i ≡ cond b (Some (x, x + v.len)) (range_from (x + v.len) (drop (j + 1) xs) i)
range_step b x xs j v i read e =
    ap (λ (vs : List ItemView). range_from x vs i) (drop_got xs j v read)
    ∙ ap (λ (t : Bool). cond t (Some (x, x + v.len)) (range_from (x + v.len) (drop (j + 1) xs) i)) e

pub range_found : (x : ℕ) (xs : List ItemView) (j : ℕ) (v : ItemView) (i : ℕ) → slice_get xs j ≡ Some v → same_number v.item (Some i) ≡ true
    → range_from x (drop j xs) i ≡ Some (x, x + v.len)
range_found x xs j v i read e = range_step true x xs j v i read e

pub range_next : (x : ℕ) (xs : List ItemView) (j : ℕ) (v : ItemView) (i : ℕ) → slice_get xs j ≡ Some v → same_number v.item (Some i) ≡ false
    → range_from x (drop j xs) i ≡ range_from (x + v.len) (drop (j + 1) xs) i
range_next x xs j v i read e = range_step false x xs j v i read e

pub range_end : (x : ℕ) (xs : List ItemView) (j i : ℕ) → length xs ≤ j → range_from x (drop j xs) i ≡ None
range_end x xs j i h = ap (λ (vs : List ItemView). range_from x vs i) (drop_all j xs h)

-- the range among the first of items, or else among those behind them
range_onto : (b : Bool) (x : ℕ) (v : ItemView) (rest others : Option (ℕ × ℕ)) (o : Option (ℕ × ℕ)) → (rest ≡ o → others ≡ o)
    → cond b (Some (x, x + v.len)) rest ≡ o → cond b (Some (x, x + v.len)) others ≡ o
range_onto true x v rest others o same e = e
range_onto false x v rest others o same e = same e

pub range_here : (x : ℕ) (xs ys : List ItemView) (i : ℕ) (r : ℕ × ℕ) → range_from x xs i ≡ Some r → range_from x (xs ++ ys) i ≡ Some r
range_here x [] ys i r e = absurd (never e) where
  never : None ≡ Some r → ⊥
  never h = cc
range_here x (v ∷ vs) ys i r e =
    range_onto (same_number v.item (Some i)) x v (range_from (x + v.len) vs i) (range_from (x + v.len) (vs ++ ys) i) (Some r) (range_here (x + v.len) vs ys i r) e

past_onto : (b : Bool) (x : ℕ) (v : ItemView) (rest others behind : Option (ℕ × ℕ)) → (rest ≡ None → others ≡ behind)
    → cond b (Some (x, x + v.len)) rest ≡ None → cond b (Some (x, x + v.len)) others ≡ behind
past_onto true x v rest others behind same e = cc
past_onto false x v rest others behind same e = same e

pub range_past : (x : ℕ) (xs ys : List ItemView) (i : ℕ) → range_from x xs i ≡ None → range_from x (xs ++ ys) i ≡ range_from (x + frames_in xs) ys i
range_past x [] ys i e = let n : x ≡ x + 0 = omega arith in ap (λ (k : ℕ). range_from k ys i) n
range_past x (v ∷ vs) ys i e =
    let n : (x + v.len) + frames_in vs ≡ x + (v.len + frames_in vs) = omega arith in
    past_onto (same_number v.item (Some i)) x v (range_from (x + v.len) vs i) (range_from (x + v.len) (vs ++ ys) i) (range_from (x + (v.len + frames_in vs)) ys i)
    (λ none. range_past (x + v.len) vs ys i none ∙ ap (λ (k : ℕ). range_from k ys i) n) e

-- a piece of items and gaps that stands behind so many others
front_piece : (n : ℕ) (xs ps rest : List ItemView) (k : ℕ) → drop n xs ≡ ps ++ rest → k ≤ length ps → n ≤ length xs → take (n + k) xs ≡ take n xs ++ take k ps
front_piece zero xs ps rest k e h b =
    let n : 0 + k ≡ k = omega arith in
    ap (λ (j : ℕ). take j xs) n ∙ (ap (λ (ys : List ItemView). take k ys) e ∙ take-append-le k ps rest h)
front_piece (suc n) [] ps rest k e h b = absurd (omega (arith, b))
front_piece (suc n) (x ∷ xs) ps rest k e h b =
    let m : suc n + k ≡ suc (n + k) = omega arith in
    ap (λ (j : ℕ). take j (x ∷ xs)) m ∙ ap (λ (ys : List ItemView). x ∷ ys) (front_piece n xs ps rest k e h (omega (arith, b)))

pub frames_piece : (n : ℕ) (xs ps rest : List ItemView) (k : ℕ) → drop n xs ≡ ps ++ rest → k ≤ length ps → n ≤ length xs
    → frames_in (take (n + k) xs) ≡ frames_in (take n xs) + frames_in (take k ps)
frames_piece n xs ps rest k e h b = ap frames_in (front_piece n xs ps rest k e h b) ∙ frames_in-append (take n xs) (take k ps)

pub read_piece : (n : ℕ) (xs ps rest : List ItemView) (k : ℕ) → drop n xs ≡ ps ++ rest → k < length ps → slice_get xs (n + k) ≡ slice_get ps k
read_piece zero xs ps rest k e h = (let n : 0 + k ≡ k = omega arith in ap (slice_get xs) n ∙ (ap (λ (ys : List ItemView). slice_get ys k) e ∙ here ps k h)) where
  here : (qs : List ItemView) (j : ℕ) → j < length qs → slice_get (qs ++ rest) j ≡ slice_get qs j
  here [] j b = absurd (omega (arith, b))
  here (q ∷ qs) zero b = refl
  here (q ∷ qs) (suc j) b = here qs j (omega (arith, b))
read_piece (suc n) [] ps rest k e h = absurd (omega (arith, h, ap length e, length-append ps rest))
read_piece (suc n) (x ∷ xs) ps rest k e h =
    let m : suc n + k ≡ suc (n + k) = omega arith in
    ap (slice_get (x ∷ xs)) m ∙ read_piece n xs ps rest k e h

pub behind_piece : (n : ℕ) (xs ps rest : List ItemView) → drop n xs ≡ ps ++ rest → rest ≡ drop (n + length ps) xs
behind_piece zero xs ps rest e = (let n : length ps ≡ 0 + length ps = omega arith in sym (ap (λ (ys : List ItemView). drop (length ps) ys) e ∙ past ps) ∙ ap (λ (j : ℕ). drop j xs) n) where
  past : (qs : List ItemView) → drop (length qs) (qs ++ rest) ≡ rest
  past [] = refl
  past (q ∷ qs) = past qs
behind_piece (suc n) [] ps rest e = (let none : rest ≡ [] = nothing rest (omega (arith, ap length e, length-append ps rest)) in none ∙ sym (drop_all (suc n + length ps) [] (omega arith))) where
  nothing : (ys : List ItemView) → length ys ≡ 0 → ys ≡ []
  nothing [] h = refl
  nothing (y ∷ ys) h = absurd (omega (arith, h))
behind_piece (suc n) (x ∷ xs) ps rest e =
    let m : suc (n + length ps) ≡ suc n + length ps = omega arith in
    behind_piece n xs ps rest e ∙ ap (λ (j : ℕ). drop j (x ∷ xs)) m

pub piece_fits : (n : ℕ) (xs ps rest : List ItemView) → n ≤ length xs → drop n xs ≡ ps ++ rest → n + length ps ≤ length xs
piece_fits n xs ps rest h e = omega (arith, h, ap length e, length-drop n xs, length-append ps rest)

pub frames_whole : (n : ℕ) (xs ps rest : List ItemView) → n ≤ length xs → drop n xs ≡ ps ++ rest → frames_in (take (n + length ps) xs) ≡ frames_in (take n xs) + frames_in ps
frames_whole n xs ps rest h e =
    frames_piece n xs ps rest (length ps) e (omega arith) h ∙ ap (λ (qs : List ItemView). frames_in (take n xs) + frames_in qs) (take_all (length ps) ps (omega arith))

-- its place among all
pub stands_in : (n : ℕ) (xs ps rest : List ItemView) (start : ℕ) (p : Place) → n ≤ length xs → drop n xs ≡ ps ++ rest → start ≡ frames_in (take n xs) → StandsBehind ps n start p → StandsAt xs p
stands_in n xs ps rest start p h e is s =
    let k = p.index - n in
    let at : n + k ≡ p.index = omega (arith, s.behind) in
    let next : n + (k + 1) ≡ p.index + 1 = omega (arith, s.behind) in
    let low : k < length ps = omega (arith, s.behind, s.before) in
    record {
      index = omega (arith, s.before, piece_fits n xs ps rest h e);
      from = omega (arith, s.from, is, frames_piece n xs ps rest k e (omega (arith, low)) h, ap (λ (j : ℕ). frames_in (take j xs)) at);
      to = omega (arith, s.to, is, frames_piece n xs ps rest (k + 1) e (omega (arith, low)) h, ap (λ (j : ℕ). frames_in (take j xs)) next);
    }

pub number_in : (n : ℕ) (xs ps rest : List ItemView) (start : ℕ) (p : Place) (i : ℕ) → drop n xs ≡ ps ++ rest → StandsBehind ps n start p → HasNumber ps (p.index - n) i → HasNumber xs p.index i
number_in n xs ps rest start p i e s has =
    let at : n + (p.index - n) ≡ p.index = omega (arith, s.behind) in
    let low : p.index - n < length ps = omega (arith, s.behind, s.before) in
    rw (← at, read_piece n xs ps rest (p.index - n) e low) has

-- the range is none exactly where no item has the number
lacks_onto : (b : Bool) (v : ItemView) (vs : List ItemView) (i x : ℕ) → same_number v.item (Some i) ≡ b → (range_from (x + v.len) vs i ≡ None → Lacks i vs)
    → cond b (Some (x, x + v.len)) (range_from (x + v.len) vs i) ≡ None → Lacks i (v ∷ vs)
lacks_onto true v vs i x same others none = cc
lacks_onto false v vs i x same others none = ((λ is. differ (sym same ∙ (ap (λ (o : Option ℕ). same_number o (Some i)) is ∙ same-refl (Some i)))), others none) where
  differ : false ≡ true → ⊥
  differ e = cc

pub lacks_of : (x : ℕ) (vs : List ItemView) (i : ℕ) → range_from x vs i ≡ None → Lacks i vs
lacks_of x [] i e = tt
lacks_of x (v ∷ vs) i e = lacks_onto (same_number v.item (Some i)) v vs i x refl (lacks_of (x + v.len) vs i) e

none_onto : (b : Bool) (v : ItemView) (i x : ℕ) (rest : Option (ℕ × ℕ)) → same_number v.item (Some i) ≡ b → v.item ≢ Some i → rest ≡ None
    → cond b (Some (x, x + v.len)) rest ≡ None
none_onto true v i x rest same lacks none = absurd (lacks (same-is v.item (Some i) same))
none_onto false v i x rest same lacks none = none

pub none_of : (x : ℕ) (vs : List ItemView) (i : ℕ) → Lacks i vs → range_from x vs i ≡ None
none_of x [] i l = refl
none_of x (v ∷ vs) i l =
    none_onto (same_number v.item (Some i)) v i x (range_from (x + v.len) vs i) refl l.0 (none_of (x + v.len) vs i l.1)

-- and so is the place
place_none : (o : Option Place) (r : Option (ℕ × ℕ)) → r ≡ option_map (λ (p : Place). (p.from, p.to)) o → IsNone o → r ≡ None
place_none None r e n = e
place_none (Some p) r e n = cc

none_place : (o : Option Place) (r : Option (ℕ × ℕ)) → r ≡ option_map (λ (p : Place). (p.from, p.to)) o → r ≡ None → IsNone o
none_place None r e n = cc
none_place (Some p) r e n = cc

pub none_iff : (o : Option Place) (vs : List ItemView) (i : ℕ) → range_from 0 vs i ≡ option_map (λ (p : Place). (p.from, p.to)) o → IsNone o ↔ Lacks i vs
none_iff o vs i e =
    (λ none. lacks_of 0 vs i (place_none o (range_from 0 vs i) e none), λ lacks. none_place o (range_from 0 vs i) e (none_of 0 vs i lacks))

-- items and gaps of which none has the number are passed by
lacks_each : (i : ℕ) (vs : List ItemView) → All (λ (v : ItemView). v.item ≡ Some i → ⊥) vs → Lacks i vs
lacks_each i [] h = tt
lacks_each i (v ∷ vs) h = (h 0 v (omega arith), lacks_each i vs (λ k d low. h (suc k) d (omega (arith, low))))

pub range_others : (x : ℕ) (old : List ItemView) (k i : ℕ) → All (λ (v : ItemView). v.item ≡ Some i → ⊥) (take k old)
    → range_from (x + frames_in (take k old)) (drop k old) i ≡ range_from x old i
range_others x old k i h =
    sym (ap (λ (vs : List ItemView). range_from x vs i) (sym (take-append-drop k old))
    ∙ range_past x (take k old) (drop k old) i (none_of x (take k old) i (lacks_each i (take k old) h)))

-- where those stand that are left: behind so many, at a frame, with the same range of the number
pub record Stands (xs left : List ItemView) (n from i : ℕ) : Type 0 where
  pub within : n ≤ length xs
  pub left_is : left ≡ drop n xs
  pub from_is : from ≡ frames_in (take n xs)
  pub range : range_from from left i ≡ range_from 0 xs i

pub stands_past : (xs left new : List ItemView) (n from i k s : ℕ) → Stands xs left n from i → k ≤ length left → new ≡ drop k left → s ≡ frames_in (take k left)
    → range_from (from + s) new i ≡ range_from from left i → Stands xs new (n + k) (from + s) i
stands_past xs left new n from i k s st h is frames same =
    let few : length (take k left) ≡ k = length-take-le k left h in
    let parts : drop n xs ≡ take k left ++ drop k left = sym st.left_is ∙ sym (take-append-drop k left) in
    let more : n + length (take k left) ≡ n + k = omega (arith, few) in
    record {
      within = omega (arith, few, piece_fits n xs (take k left) (drop k left) st.within parts);
      left_is = is ∙ (behind_piece n xs (take k left) (drop k left) parts ∙ ap (λ (j : ℕ). drop j xs) more);
      from_is = omega (arith, st.from_is, frames, frames_whole n xs (take k left) (drop k left) st.within parts, ap (λ (j : ℕ). frames_in (take j xs)) more);
      range = same ∙ st.range;
    }

-- fewer are left behind a piece with an item
filled_piece : (ps : List ItemView) → (length ps == 0) ≡ false → 0 < length ps
filled_piece [] h = absurd cc
filled_piece (p ∷ ps) h = omega arith

pub smaller_left : (old new ps rest : List ItemView) (k : ℕ) → new ≡ drop k old → new ≡ ps ++ rest → (length ps == 0) ≡ false → length rest < length old
smaller_left old new ps rest k left parts some =
    omega (arith, filled_piece ps some, ap length left, length-drop k old, ap length parts, length-append ps rest)
