-- Items that were looked for once, one on each track.
use Rattle.std.proofs.Common.{◌≡◌, ℕ, zero, suc, ◌+◌, ◌<◌, ℤ, Bool, cond, List, [], ◌∷◌, ◌&&◌, All, length, take, drop, get_or, Option, Some, None, is_some, slice_set, true, false, refl, sym, ap, ◌∙◌, arith, subst}
use Rattle.std.proofs.lemmas.Option.{slice_get_within}
use Rattle.frame_meaning.specs.declared.cells.Link.{Link}
use Rattle.composables.specs.declared.media.Table.{Table}
use Rattle.composables.specs.Good.{IsGood, IsLinkOf}
use Rattle.composables.specs.Items.{items_of}
use Rattle.frame_meaning.specs.declared.frames.Side.TheVariants.{Dark}
use Rattle.std.specs.Ordering.{int_eq}
use Rattle.composables.specs.declared.items.ItemView.{ItemView}
use Rattle.composables.specs.declared.refusals.Refusal.{Refusal}
use Rattle.composables.specs.declared.refusals.Refusal.TheVariants.{AlreadyLinked, NoItem, OffsetsDiffer}
use Rattle.composables.specs.TrackState.{TrackState}
use Rattle.link_groups.specs.declared.finding.FoundItem.{FoundItem}
use Rattle.link_groups.specs.FoundItems.{AreFound, IsFound, already_found, found_differ, offset_found, other_found}
use Rattle.link_groups.specs.LinkedItems.{item_of}
use Rattle.link_groups.proofs.Linked.{part_linked, part-read}
use Rattle.link_groups.proofs.Relinked.{IsRelinked, relinked}
use Rattle.link_groups.specs.Linking.{already_linked, are_there, found_offset, has_link, item_offset, link_refusal, offsets_differ, or_else, other_offset}

found_more : (n : ℕ) (ts : List TrackState) (is : List ℕ) (fs : List FoundItem) (f : FoundItem) (d : TrackState) (j : ℕ) → AreFound (take n ts) (take n is) fs → n < length ts → n < length is → n < length fs
    → IsFound (get_or ts n d) (get_or is n j) f → AreFound (take (suc n) ts) (take (suc n) is) (slice_set fs n f)
found_more n [] is fs f d j h a b e one = absurd (omega (arith, a))
found_more n (t ∷ ts) [] fs f d j h a b e one = absurd (omega (arith, b))
found_more n (t ∷ ts) (i ∷ is) [] f d j h a b e one = absurd (omega (arith, e))
found_more zero (t ∷ ts) (i ∷ is) (g ∷ gs) f d j h a b e one = (one, tt)
found_more (suc n) (t ∷ ts) (i ∷ is) (g ∷ gs) f d j h a b e one =
    (h.0, found_more n ts is gs f d j h.1 (omega (arith, a)) (omega (arith, b)) (omega (arith, e)) one)

-- one more
pub found-more : (n : ℕ) (ts : List TrackState) (is : List ℕ) (fs : List FoundItem) (f : FoundItem) (d : TrackState) (j : ℕ) → AreFound (take n ts) (take n is) fs → n < length ts → n < length is → n < length fs
    → IsFound (get_or ts n d) (get_or is n j) f → AreFound (take (n + 1) ts) (take (n + 1) is) (slice_set fs n f)
found-more n ts is fs f d j h a b e one =
    let more : suc n ≡ n + 1 = omega arith in
    subst (λ (m : ℕ). AreFound (take m ts) (take m is) (slice_set fs n f)) more (found_more n ts is fs f d j h a b e one)

-- the one at a place
pub found-at : (n : ℕ) (ts : List TrackState) (is : List ℕ) (fs : List FoundItem) (d : TrackState) (j : ℕ) (e : FoundItem) → AreFound ts is fs → n < length ts → IsFound (get_or ts n d) (get_or is n j) (get_or fs n e)
found-at n [] is fs d j e h a = absurd (omega (arith, a))
found-at n (t ∷ ts) [] fs d j e h a = absurd h
found-at n (t ∷ ts) (i ∷ is) [] d j e h a = absurd h
found-at zero (t ∷ ts) (i ∷ is) (f ∷ fs) d j e h a = h.0
found-at (suc n) (t ∷ ts) (i ∷ is) (f ∷ fs) d j e h a = found-at n ts is fs d j e h.1 (omega (arith, a))

-- what is said of them is what is said of the tracks and the numbers

offset_is : (t : TrackState) (i : ℕ) (f : FoundItem) → IsFound t i f → item_offset t i ≡ offset_found f
offset_is t i f h = ap found_offset h.found

other_is : (first : ℤ) (ts : List TrackState) (is : List ℕ) (fs : List FoundItem) → AreFound ts is fs → other_offset first ts is ≡ other_found first (take (length ts) fs)
other_is first [] is fs h = refl
other_is first (t ∷ ts) [] fs h = absurd h
other_is first (t ∷ ts) (i ∷ is) [] h = absurd h
other_is first (t ∷ ts) (i ∷ is) (f ∷ fs) h =
    ap (λ (o : ℤ). cond (int_eq o first) (other_offset first ts is) (Some (OffsetsDiffer first o))) (offset_is t i f h.0)
    ∙ ap (λ (r : Option Refusal). cond (int_eq (offset_found f) first) r (Some (OffsetsDiffer first (offset_found f)))) (other_is first ts is fs h.1)

pub differ-is : (ts : List TrackState) (is : List ℕ) (fs : List FoundItem) → AreFound ts is fs → offsets_differ ts is ≡ found_differ (take (length ts) fs)
differ-is [] is fs h = refl
differ-is (t ∷ ts) [] fs h = absurd h
differ-is (t ∷ ts) (i ∷ is) [] h = absurd h
differ-is (t ∷ ts) (i ∷ is) (f ∷ fs) h =
    ap (λ (o : ℤ). other_offset o (t ∷ ts) (i ∷ is)) (offset_is t i f h.0) ∙ other_is (offset_found f) (t ∷ ts) (i ∷ is) (f ∷ fs) h

pub already-is : (ts : List TrackState) (is : List ℕ) (fs : List FoundItem) → AreFound ts is fs → already_linked ts is ≡ already_found ts is (take (length ts) fs)
already-is [] is fs h = refl
already-is (t ∷ ts) [] fs h = absurd h
already-is (t ∷ ts) (i ∷ is) [] h = absurd h
already-is (t ∷ ts) (i ∷ is) (f ∷ fs) h =
    ap (λ (o : Option (ℕ × ItemView)). cond (has_link o) (Some (AlreadyLinked t.number i)) (already_linked ts is)) h.0.found
    ∙ ap (λ (r : Option Refusal). cond (is_some f.view.link) (Some (AlreadyLinked t.number i)) r) (already-is ts is fs h.1)

pub set-length : (fs : List FoundItem) (n : ℕ) (f : FoundItem) → length (slice_set fs n f) ≡ length fs
set-length [] zero f = refl
set-length [] (suc n) f = refl
set-length (g ∷ gs) zero f = refl
set-length (g ∷ gs) (suc n) f = ap suc (set-length gs n f)

-- one step on

there_step : (n : ℕ) (ts : List TrackState) (is : List ℕ) (d : TrackState) → n < length ts → n < length is → is_some (item_of (get_or ts n d) (get_or is n 0)) ≡ true → are_there (drop n ts) (drop n is) ≡ are_there (drop (suc n) ts) (drop (suc n) is)
there_step n [] is d a b e = absurd (omega (arith, a))
there_step n (t ∷ ts) [] d a b e = absurd (omega (arith, b))
there_step zero (t ∷ ts) (i ∷ is) d a b e = ap (λ (b : Bool). b && are_there ts is) e
there_step (suc n) (t ∷ ts) (i ∷ is) d a b e = there_step n ts is d (omega (arith, a)) (omega (arith, b)) e

pub there-step : (n : ℕ) (ts : List TrackState) (is : List ℕ) (t : TrackState) (p : ℕ × ItemView) → n < length ts → n < length is → t ≡ get_or ts n t → item_of t (get_or is n 0) ≡ Some p → are_there (drop n ts) (drop n is) ≡ are_there (drop (n + 1) ts) (drop (n + 1) is)
there-step n ts is t p a b at e =
    let more : suc n ≡ n + 1 = omega arith in
    there_step n ts is t a b (ap (λ (u : TrackState). is_some (item_of u (get_or is n 0))) (sym at) ∙ ap (λ (o : Option (ℕ × ItemView)). is_some o) e) ∙ ap (λ (m : ℕ). are_there (drop m ts) (drop m is)) more

already_step : (n : ℕ) (ts : List TrackState) (is : List ℕ) (fs : List FoundItem) (d : FoundItem) → n < length ts → length ts ≡ length is → length ts ≡ length fs → is_some (get_or fs n d).view.link ≡ false
    → already_found (drop n ts) (drop n is) (drop n fs) ≡ already_found (drop (suc n) ts) (drop (suc n) is) (drop (suc n) fs)
already_step n [] is fs d a b e h = absurd (omega (arith, a))
already_step n (t ∷ ts) [] fs d a b e h = absurd (omega (arith, b))
already_step n (t ∷ ts) (i ∷ is) [] d a b e h = absurd (omega (arith, e))
already_step zero (t ∷ ts) (i ∷ is) (f ∷ fs) d a b e h = ap (λ (b : Bool). cond b (Some (AlreadyLinked t.number i)) (already_found ts is fs)) h
already_step (suc n) (t ∷ ts) (i ∷ is) (f ∷ fs) d a b e h = already_step n ts is fs d (omega (arith, a)) (omega (arith, b)) (omega (arith, e)) h

pub already-step : (n : ℕ) (ts : List TrackState) (is : List ℕ) (fs : List FoundItem) (d : FoundItem) → n < length ts → length ts ≡ length is → length ts ≡ length fs → is_some (get_or fs n d).view.link ≡ false
    → already_found (drop n ts) (drop n is) (drop n fs) ≡ already_found (drop (n + 1) ts) (drop (n + 1) is) (drop (n + 1) fs)
already-step n ts is fs d a b e h =
    let more : suc n ≡ n + 1 = omega arith in
    already_step n ts is fs d a b e h ∙ ap (λ (m : ℕ). already_found (drop m ts) (drop m is) (drop m fs)) more

-- why they can't be linked
pub refusal-is : (ts : List TrackState) (is : List ℕ) (fs : List FoundItem) → 0 < length ts → are_there ts is ≡ true → AreFound ts is fs
    → link_refusal ts is ≡ or_else (found_differ (take (length ts) fs)) (already_found ts is (take (length ts) fs))
refusal-is [] is fs some there h = absurd (omega (arith, some))
refusal-is (t ∷ ts) is fs some there h =
    ap (λ (b : Bool). cond b (or_else (offsets_differ (t ∷ ts) is) (already_linked (t ∷ ts) is)) (Some NoItem)) there
    ∙ (ap (λ (r : Option Refusal). or_else r (already_linked (t ∷ ts) is)) (differ-is (t ∷ ts) is fs h)
    ∙ ap (λ (r : Option Refusal). or_else (found_differ (take (length (t ∷ ts)) fs)) r) (already-is (t ∷ ts) is fs h))

pub refused-by : (ts : List TrackState) (is : List ℕ) (fs gs : List FoundItem) (first then_this : Option Refusal) → 0 < length ts → are_there ts is ≡ true → AreFound ts is fs → gs ≡ take (length ts) fs
    → first ≡ found_differ gs → then_this ≡ already_found ts is gs → or_else first then_this ≡ link_refusal ts is
refused-by ts is fs gs first then_this some there h same one two =
    ap (λ (r : Option Refusal). or_else r then_this) (one ∙ ap found_differ same)
    ∙ (ap (λ (r : Option Refusal). or_else (found_differ (take (length ts) fs)) r) (two ∙ ap (already_found ts is) same)
    ∙ sym (refusal-is ts is fs some there h))

-- what stands where none was looked for
abbrev pub no_item : FoundItem
no_item = record { index = 0; from = 0; to = 0; view = record { item = None; first = Dark; len = 0; mark = None; link = None } }

-- the item at a place, on its track as it is when its turn comes
found_now : (made : Link) (n : ℕ) (ts us : List TrackState) (is : List ℕ) (fs : List FoundItem) (t : TrackState) → us ≡ part_linked made n ts is → t ≡ get_or us n t → AreFound ts is fs → n < length ts
    → (t ≡ get_or ts n t) × IsFound t (get_or is n 0) (get_or fs n no_item)
found_now made n ts us is fs t e at h lt =
    let same : t ≡ get_or ts n t = at ∙ (ap (λ (l : List TrackState). get_or l n t) e ∙ part-read made n ts is t) in
    (same, subst (λ (u : TrackState). IsFound u (get_or is n 0) (get_or fs n no_item)) (sym same) (found-at n ts is fs t 0 no_item h lt))

pub link-within : (made : Link) (n : ℕ) (ts us : List TrackState) (is : List ℕ) (fs : List FoundItem) (t : TrackState) → us ≡ part_linked made n ts is → t ≡ get_or us n t → AreFound ts is fs → n < length ts
    → (get_or fs n no_item).index < length (items_of t.cells)
link-within made n ts us is fs t e at h lt =
    let r = found_now made n ts us is fs t e at h lt in
    slice_get_within (items_of t.cells) (get_or fs n no_item).index (get_or fs n no_item).view r.1.read

pub link-one : (table : Table) (made : Link) (n : ℕ) (ts us : List TrackState) (is : List ℕ) (fs : List FoundItem) (t : TrackState) → us ≡ part_linked made n ts is → t ≡ get_or us n t → AreFound ts is fs → n < length ts
    → All (IsGood table) ts → All (λ (u : TrackState). IsLinkOf u.number (Some made)) ts → IsRelinked table t (get_or fs n no_item).index (get_or is n 0) (Some made)
link-one table made n ts us is fs t e at h lt good of =
    let r = found_now made n ts us is fs t e at h lt in
    relinked table t (get_or fs n no_item).index (get_or is n 0) (get_or fs n no_item).view (Some made) (subst (IsGood table) (sym r.0) (good n t lt)) r.1.read r.1.number
    (subst (λ (u : TrackState). IsLinkOf u.number (Some made)) (sym r.0) (of n t lt))
