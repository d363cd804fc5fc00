-- The parts of a track at the ends of a range hold their dissolves.
use Rattle.std.proofs.Common.{◌≡◌, ℕ, ◌+◌, ◌-◌, ◌<◌, ◌≤◌, ◌^◌, true, false, leb, ltb, ◌&&◌, List, [], ◌∷◌, ◌++◌, min, Option, Some, None, refl, sym, ap, arith, subst, Bool}
use Rattle.std.proofs.lemmas.Bool.{cond_both, leb-true, ltb-true, and_parts}
use Rattle.frame_meaning.specs.declared.cells.What.{What}
use Rattle.frame_meaning.specs.declared.cells.What.TheVariants.{Media, Nest}
use Rattle.frame_meaning.specs.declared.cells.Mark.{Mark}
use Rattle.frame_meaning.specs.declared.cells.Link.{Link}
use Rattle.frame_meaning.specs.declared.frames.Side.{Side}
use Rattle.frame_meaning.specs.declared.frames.Side.TheVariants.{Dark, Pic}
use Rattle.frame_meaning.specs.Cells.{later_side, same_number}
use Rattle.composables.specs.declared.items.ItemView.{ItemView}
use Rattle.composables.specs.Joined.{IsTight}
use Rattle.composables.specs.TrackFacts.{IsFilled, ShowsAsItem, HasSource, IsNoNest, Holds, EachHolds, first_mark, left_reach, right_reach}
use Rattle.composables.proofs.Joining.{same-is}
use Rattle.composables.specs.Views.{later_view}
use Rattle.edit_splice.specs.Parts.{kept_before, kept_behind, front_view, after_view, renumbered_view}
use Rattle.edit_splice.specs.NewItems.{MeetsFirst, Meet}
use Rattle.edit_splice.proofs.Ends.{first_kept}

-- a mark that is as another was, but that it may reach less far
record Within (k m : Option Mark) : Type 0 where
  left : left_reach k ≤ left_reach m
  right : right_reach k ≤ right_reach m
  filled : IsFilled m → IsFilled k
  no_nest : (s : Side What) → IsNoNest s m → IsNoNest s k

within_itself : (m : Option Mark) → Within m m
within_itself m = record { left = omega arith; right = omega arith; filled = λ f. f; no_nest = λ s h. h }

same_nest : (m k : Mark) (s : Side What) → IsNoNest s (Some m) → IsNoNest s (Some k)
same_nest m k Dark h = tt
same_nest m k (Pic (Media n) s) h = tt
same_nest m k (Pic (Nest j) s) h = h

-- a dissolve is dropped, or it stays, maybe shorter, and does not reach too far
kept_left_cases : (keep : Bool) (n : ℕ) (m : Option Mark) (P : Option Mark → Type 0) → 0 < n → P None → ((k : Option Mark) → Within k m → right_reach k ≤ n → P k) → P (kept_before keep n m)
kept_left_cases keep n None P p none some = none
kept_left_cases true n (Some m) P p none some =
    some (Some (record m { b = min m.b n })) (record { left = omega arith; right = omega arith; filled = λ f. omega (arith, f, p); no_nest = same_nest m (record m { b = min m.b n }) }) (omega arith)
kept_left_cases false n (Some m) P p none some = cond_both (leb m.b n) (Some m) None P (λ t. some (Some m) (within_itself (Some m)) (leb-true m.b n t)) (λ t. none)

kept_right_cases : (keep : Bool) (n : ℕ) (m : Option Mark) (P : Option Mark → Type 0) → P None → ((k : Option Mark) → Within k m → left_reach k ≤ n → P k) → P (kept_behind keep n m)
kept_right_cases keep n None P none some = none
kept_right_cases true n (Some m) P none some =
    cond_both (ltb 0 n) (Some (record m { a = min m.a n })) None P
    (λ t. some (Some (record m { a = min m.a n })) (record { left = omega arith; right = omega arith; filled = λ f. omega (arith, f, ltb-true 0 n t); no_nest = same_nest m (record m { a = min m.a n }) }) (omega arith))
    (λ t. none)
kept_right_cases false n (Some m) P none some =
    cond_both (ltb 0 n && leb m.a n) (Some m) None P (λ t. some (Some m) (within_itself (Some m)) (leb-true m.a n (and_parts (ltb 0 n) (leb m.a n) t).1)) (λ t. none)

-- fewer source frames are needed
source_less : (s : Side What) (len n before after b a : ℕ) → n ≤ len → b ≤ before → a ≤ after → HasSource s len before after → HasSource s n b a
source_less Dark len n before after b a x y z h = tt
source_less (Pic w s) len n before after b a x y z h = let end : s + n + a ≤ 2 ^ 32 = omega (arith, x, z, h.1) in (omega (arith, y, h.0), end)

source_later : (s : Side What) (len k before after : ℕ) → k < len → HasSource s len before after → HasSource (later_side s k) (len - k) 0 after
source_later Dark len k before after lt h = tt
source_later (Pic w s) len k before after lt h = let end : s + k + (len - k) + after ≤ 2 ^ 32 = omega (arith, lt, h.1) in (omega arith, end)

later_no_nest : (s : Side What) (k : ℕ) (m : Option Mark) → IsNoNest s m → IsNoNest (later_side s k) m
later_no_nest s k None h = tt
later_no_nest Dark k (Some m) h = tt
later_no_nest (Pic (Media n) s) k (Some m) h = tt
later_no_nest (Pic (Nest j) s) k (Some m) h = h

shows_later : (o : Option ℕ) (s : Side What) (l : Option Link) (n : ℕ) → ShowsAsItem o s l → ShowsAsItem o (later_side s n) l
shows_later None Dark None n h = h
shows_later None Dark (Some l) n h = h
shows_later None (Pic w s) l n h = h
shows_later (Some i) Dark l n h = h
shows_later (Some i) (Pic w s) l n h = h

shows_number : (o : Option ℕ) (s : Side What) (l : Option Link) (j fresh : ℕ) → o ≡ Some j → ShowsAsItem o s l → ShowsAsItem (Some fresh) s l
shows_number None s l j fresh e h = absurd cc
shows_number (Some i) Dark l j fresh e h = h
shows_number (Some i) (Pic w s) l j fresh e h = tt

-- with a dissolve at its tail that reaches less far
tail_within : (v : ItemView) (tail k : Option Mark) → Within k tail → Holds v tail → Holds v k
tail_within v tail k w h = record {
  filled = h.filled;
  shows = h.shows;
  mark_filled = h.mark_filled;
  room = omega (arith, h.room, w.left);
  source = source_less v.first v.len v.len (left_reach v.mark) (right_reach tail) (left_reach v.mark) (right_reach k) (omega arith) (omega arith) w.right h.source;
  head_no_nest = h.head_no_nest;
  tail_no_nest = w.no_nest v.first h.tail_no_nest;
}

-- with one at its head that reaches less far
head_within : (v : ItemView) (tail k : Option Mark) → Within k v.mark → Holds v tail → Holds (record v { mark = k }) tail
head_within v tail k w h = record {
  filled = h.filled;
  shows = h.shows;
  mark_filled = w.filled h.mark_filled;
  room = omega (arith, h.room, w.right);
  source = source_less v.first v.len v.len (left_reach v.mark) (right_reach tail) (left_reach k) (right_reach tail) (omega arith) w.left (omega arith) h.source;
  head_no_nest = w.no_nest v.first h.head_no_nest;
  tail_no_nest = h.tail_no_nest;
}

-- without the dissolve at its tail
untailed : (v : ItemView) (tail : Option Mark) → Holds v tail → Holds v None
untailed v tail h = record {
  filled = h.filled;
  shows = h.shows;
  mark_filled = h.mark_filled;
  room = omega (arith, h.room);
  source = source_less v.first v.len v.len (left_reach v.mark) (right_reach tail) (left_reach v.mark) 0 (omega arith) (omega arith) (omega arith) h.source;
  head_no_nest = h.head_no_nest;
  tail_no_nest = tt;
}

-- without the one at its head
unheaded : (v : ItemView) (tail : Option Mark) → Holds v tail → Holds (record v { mark = None }) tail
unheaded v tail h = record {
  filled = h.filled;
  shows = h.shows;
  mark_filled = tt;
  room = omega (arith, h.room);
  source = source_less v.first v.len v.len (left_reach v.mark) (right_reach tail) 0 (right_reach tail) (omega arith) (omega arith) (omega arith) h.source;
  head_no_nest = tt;
  tail_no_nest = h.tail_no_nest;
}

shorter : (v : ItemView) (n : ℕ) → 0 < n → n ≤ v.len → right_reach v.mark ≤ n → Holds v None → Holds (record v { len = n }) None
shorter v n some le room h = record {
  filled = some;
  shows = h.shows;
  mark_filled = h.mark_filled;
  room = omega (arith, room);
  source = source_less v.first v.len n (left_reach v.mark) 0 (left_reach v.mark) 0 le (omega arith) (omega arith) h.source;
  head_no_nest = h.head_no_nest;
  tail_no_nest = tt;
}

none_fits : (n : ℕ) → 0 ≤ n
none_fits n = omega arith

front_holds : (keep : Bool) (v : ItemView) (n : ℕ) (tail : Option Mark) → 0 < n → n ≤ v.len → Holds v tail → Holds (front_view keep v n) None
front_holds keep v n tail some le h =
    let P : Option Mark → Type 0 = λ m. Holds (record v { len = n; mark = m }) None in
    let bare : Holds (record v { len = n; mark = None }) None = shorter (record v { mark = None }) n some le (none_fits n) (unheaded v None (untailed v tail h)) in
    kept_left_cases keep n v.mark P some bare (λ k w r. shorter (record v { mark = k }) n some le r (head_within v None k w (untailed v tail h)))

later_holds : (v : ItemView) (k : ℕ) (tail : Option Mark) → k < v.len → left_reach tail ≤ v.len - k → Holds v tail → Holds (later_view v k) tail
later_holds v k tail lt room h = record {
  filled = omega (arith, lt);
  shows = shows_later v.item v.first v.link k h.shows;
  mark_filled = tt;
  room = omega (arith, room);
  source = source_later v.first v.len k (left_reach v.mark) (right_reach tail) lt h.source;
  head_no_nest = tt;
  tail_no_nest = later_no_nest v.first k tail h.tail_no_nest;
}

renumbered_holds : (s : Option ℕ) (fresh : ℕ) (v : ItemView) (tail : Option Mark) → Holds v tail → Holds (renumbered_view s fresh v) tail
renumbered_holds None fresh v tail h = h
renumbered_holds (Some j) fresh v tail h =
    cond_both (same_number v.item (Some j)) (record v { item = Some fresh }) v (λ (w : ItemView). Holds w tail)
    (λ t. record { filled = h.filled; shows = shows_number v.item v.first v.link j fresh (same-is v.item (Some j) t) h.shows; mark_filled = h.mark_filled; room = h.room; source = h.source; head_no_nest = h.head_no_nest; tail_no_nest = h.tail_no_nest })
    (λ t. h)

-- all before the range
pub each-front : (keep : Bool) (us : List ItemView) (v : ItemView) (ws : List ItemView) (n : ℕ) → 0 < n → n ≤ v.len → EachHolds (us ++ v ∷ ws) → EachHolds (us ++ front_view keep v n ∷ [])
each-front keep [] v ws n some le h = (front_holds keep v n (first_mark ws) some le h.0, tt)
each-front keep (u ∷ []) v ws n some le h =
    let P : Option Mark → Type 0 = λ m. Holds u m in
    (kept_left_cases keep n v.mark P some (untailed u v.mark h.0) (λ k w r. tail_within u v.mark k w h.0), each-front keep [] v ws n some le h.1)
each-front keep (u ∷ w ∷ us) v ws n some le h = (h.0, each-front keep (w ∷ us) v ws n some le h.1)

-- all behind it
after_holds : (keep : Bool) (v : ItemView) (n : ℕ) (tail : Option Mark) → Holds v tail → Holds (after_view keep n v) tail
after_holds keep v n tail h = let P : Option Mark → Type 0 = λ m. Holds (record v { mark = m }) tail in kept_right_cases keep n v.mark P (unheaded v tail h) (λ k w r. head_within v tail k w h)

pub each-back : (keep : Bool) (s : Option ℕ) (fresh k : ℕ) (v : ItemView) (ws : List ItemView) → k < v.len → EachHolds (v ∷ ws) → EachHolds (renumbered_view s fresh (later_view v k) ∷ first_kept keep (v.len - k) ws)
each-back keep s fresh k v [] lt h = (renumbered_holds s fresh (later_view v k) None (later_holds v k None lt (none_fits (v.len - k)) h.0), tt)
each-back keep s fresh k v (w ∷ ws) lt h =
    let P : Option Mark → Type 0 = λ m. Holds (later_view v k) m in
    let part = kept_right_cases keep (v.len - k) w.mark P (later_holds v k None lt (none_fits (v.len - k)) (untailed v w.mark h.0)) (λ m in_mark r. later_holds v k m lt r (tail_within v w.mark m in_mark h.0)) in
    (renumbered_holds s fresh (later_view v k) (kept_behind keep (v.len - k) w.mark) part, (after_holds keep w (v.len - k) (first_mark ws) h.1.0, h.1.1))

-- the first of them has no dissolve
pub back-bare : (s : Option ℕ) (fresh k : ℕ) (v : ItemView) → (renumbered_view s fresh (later_view v k)).mark ≡ None
back-bare None fresh k v = refl
back-bare (Some j) fresh k v = cond_both (same_number v.item (Some j)) (record (later_view v k) { item = Some fresh }) (later_view v k) (λ (w : ItemView). w.mark ≡ None) (λ t. refl) (λ t. refl)

-- no two gaps of a track meet
two_gaps : (o p : Option ℕ) → same_number o p ≡ false → o ≡ None → p ≡ None → ⊥
two_gaps None None e f g = absurd (let clash : true ≡ false = e in cc)
two_gaps None (Some j) e f g = absurd cc
two_gaps (Some i) p e f g = absurd cc

tight_tail : (r : ItemView) (rs : List ItemView) → IsTight (r ∷ rs) → IsTight rs
tight_tail r [] t = tt
tight_tail r (s ∷ rs) t = t.1

pub tight-at : (us : List ItemView) (v : ItemView) (ws : List ItemView) → IsTight (us ++ v ∷ ws) → IsTight (v ∷ ws)
tight-at [] v ws t = t
tight-at (u ∷ us) v ws t = tight-at us v ws (tight_tail u (us ++ v ∷ ws) t)

meet-tight : (vs : List ItemView) → IsTight vs → Meet vs
meet-tight [] t = tt
meet-tight (r ∷ []) t = (tt, tt)
meet-tight (r ∷ s ∷ rs) t = ((λ e f. absurd (two_gaps r.item s.item t.0 e f)), meet-tight (s ∷ rs) t.1)

pub tight_front : (keep : Bool) (us : List ItemView) (v : ItemView) (ws : List ItemView) (n : ℕ) → IsTight (us ++ v ∷ ws) → IsTight (us ++ front_view keep v n ∷ [])
tight_front keep [] v ws n t = tt
tight_front keep (u ∷ []) v ws n t = (t.0, tt)
tight_front keep (u ∷ w ∷ us) v ws n t = (t.0, tight_front keep (w ∷ us) v ws n t.1)

pub meet-front : (keep : Bool) (us : List ItemView) (v : ItemView) (ws : List ItemView) (n : ℕ) → IsTight (us ++ v ∷ ws) → Meet (us ++ front_view keep v n ∷ [])
meet-front keep us v ws n t = meet-tight (us ++ front_view keep v n ∷ []) (tight_front keep us v ws n t)

tight_kept : (keep : Bool) (n : ℕ) (ws : List ItemView) → IsTight ws → IsTight (first_kept keep n ws)
tight_kept keep n [] t = tt
tight_kept keep n (w ∷ []) t = tt
tight_kept keep n (w ∷ x ∷ xs) t = t

gap_stays : (s : Option ℕ) (fresh : ℕ) (v : ItemView) → (renumbered_view s fresh v).item ≡ None → v.item ≡ None
gap_stays None fresh v e = e
gap_stays (Some j) fresh v e =
    cond_both (same_number v.item (Some j)) (record v { item = Some fresh }) v (λ (w : ItemView). w.item ≡ None → v.item ≡ None) (λ t h. absurd cc) (λ t h. h) e

back_meets : (keep : Bool) (s : Option ℕ) (fresh k n : ℕ) (v : ItemView) (ws : List ItemView) → IsTight (v ∷ ws) → MeetsFirst (renumbered_view s fresh (later_view v k)) (first_kept keep n ws)
back_meets keep s fresh k n v [] t = tt
back_meets keep s fresh k n v (w ∷ ws) t = λ e f. absurd (two_gaps v.item w.item t.0 (gap_stays s fresh (later_view v k) e) f)

pub meet-back : (keep : Bool) (s : Option ℕ) (fresh k n : ℕ) (v : ItemView) (ws : List ItemView) → IsTight (v ∷ ws) → Meet (renumbered_view s fresh (later_view v k) ∷ first_kept keep n ws)
meet-back keep s fresh k n v ws t = (back_meets keep s fresh k n v ws t, meet-tight (first_kept keep n ws) (tight_kept keep n ws (tight_tail v ws t)))

-- two lists in a row, the second without a dissolve at its front
bare_meets : (r : ItemView) (ys : List ItemView) → first_mark ys ≡ None → MeetsFirst r ys
bare_meets r [] e = tt
bare_meets r (y ∷ ys) e = λ f g. e

pub meet-append : (xs ys : List ItemView) → Meet xs → Meet ys → first_mark ys ≡ None → Meet (xs ++ ys)
meet-append [] ys m k e = k
meet-append (x ∷ []) ys m k e = (bare_meets x ys e, k)
meet-append (x ∷ z ∷ xs) ys m k e = (m.0, meet-append (z ∷ xs) ys m.1 k e)

pub each-append : (xs ys : List ItemView) → EachHolds xs → EachHolds ys → first_mark ys ≡ None → EachHolds (xs ++ ys)
each-append [] ys h k e = k
each-append (x ∷ []) ys h k e = (let P : Option Mark → Type 0 = λ m. Holds x m in subst P (sym e) h.0, k)
each-append (x ∷ z ∷ xs) ys h k e = (h.0, each-append (z ∷ xs) ys h.1 k e)

pub mark-append : (xs ys : List ItemView) → first_mark xs ≡ None → first_mark ys ≡ None → first_mark (xs ++ ys) ≡ None
mark-append [] ys e f = f
mark-append (x ∷ xs) ys e f = e

pub mark-front : (keep : Bool) (us : List ItemView) (v : ItemView) (ws : List ItemView) (n : ℕ) → first_mark (us ++ v ∷ ws) ≡ None → first_mark (us ++ front_view keep v n ∷ []) ≡ None
mark-front keep [] v ws n e = ap (kept_before keep n) e
mark-front keep (u ∷ us) v ws n e = e
