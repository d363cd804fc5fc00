-- How many items and gaps the parts of a splice are, once those that belong together and meet are one.
use Rattle.std.proofs.Common.{◌≡◌, ◌≢◌, ℕ, suc, ◌+◌, ◌-◌, ◌≤◌, Bool, true, false, cond, List, [], ◌∷◌, ◌++◌, length, Option, Some, None, refl, sym, ap, ◌∙◌, arith, subst, take, drop}
use Rattle.std.specs.Option.{option_to_list}
use Rattle.std.proofs.lemmas.List.{length-append, length-take, length-drop, map-append}
use Rattle.std.proofs.lemmas.Option.{slice_get_within}
use Rattle.frame_meaning.specs.declared.cells.Cell.{Cell}
use Rattle.frame_meaning.specs.Cells.{same_number}
use Rattle.composables.specs.declared.items.ItemView.{ItemView}
use Rattle.composables.specs.Items.{items_of}
use Rattle.composables.specs.Joined.{with_view, joined, IsTight, AllFilled}
use Rattle.composables.specs.TrackFacts.{IsKept, NumbersBelow}
use Rattle.composables.specs.TrackState.{TrackState, next_past_all}
use Rattle.composables.proofs.Joining.{items_of-cells_of, filled-append, same-is}
use Rattle.edit_splice.specs.declared.seams.ItemAt.{ItemAt}
use Rattle.edit_splice.specs.declared.seams.Seams.{Seams}
use Rattle.composables.specs.Views.{later_view}
use Rattle.edit_splice.specs.Parts.{AreSeams, EndsAt, StandsFrom, view_after, split_between, front_view, renumbered_view}
use Rattle.edit_splice.specs.Splicing.{spliced_track}
use Rattle.edit_splice.proofs.Ends.{split-at, first_kept}
use Rattle.edit_splice.proofs.Numbers.{next-rises}
use Rattle.edit_splice.proofs.Meeting.{filled-each}
use Rattle.edit_splice.proofs.Cutting.{tight_front}
use Rattle.edit_splice.proofs.Apartness.{lacks-below}
use Rattle.edit_splice.proofs.Keeping.{Stand, stand_of, stand_at, before_range, behind_range, behind_is, behind_none, all_parts, sound_before, sound_behind, cells_all}
use Rattle.edit_splice.specs.Counting.{numbers, begun, number_of, count_by, count_past, back_number}

abbrev one_or_none : Bool → ℕ
one_or_none b = cond b 0 1

-- the first of what is joined has the number of the first
length_with : (r w : ItemView) (zs : List ItemView) (n : ℕ) → length (with_view w zs) ≡ 1 + n → length (with_view r (with_view w zs)) ≡ 1 + (cond (same_number r.item w.item) 0 1 + n)
length_with r w [] n e = by_test (same_number r.item w.item) where
  by_test : (b : Bool) → length (cond b (record r { len = r.len + w.len } ∷ []) (r ∷ w ∷ [])) ≡ 1 + (cond b 0 1 + n)
  by_test true = omega (arith, e)
  by_test false = omega (arith, e)
length_with r w (z ∷ zs) n e = by_inner (same_number w.item z.item) e where
  by_outer : (b : Bool) (u : ItemView) (us : List ItemView) → length (u ∷ us) ≡ 1 + n → length (cond b (record r { len = r.len + u.len } ∷ us) (r ∷ u ∷ us)) ≡ 1 + (cond b 0 1 + n)
  by_outer true u us h = omega (arith, h)
  by_outer false u us h = omega (arith, h)

  by_inner : (b : Bool) → length (cond b (record w { len = w.len + z.len } ∷ zs) (w ∷ z ∷ zs)) ≡ 1 + n
      → length (with_view r (cond b (record w { len = w.len + z.len } ∷ zs) (w ∷ z ∷ zs))) ≡ 1 + (cond (same_number r.item w.item) 0 1 + n)
  by_inner true h = by_outer (same_number r.item w.item) (record w { len = w.len + z.len }) zs h
  by_inner false h = by_outer (same_number r.item w.item) w (z ∷ zs) h

length_more : (r : ItemView) (vs : List ItemView) → length (with_view r (joined vs)) ≡ 1 + begun (Some r.item) (numbers vs)
length_more r [] = omega arith
length_more r (v ∷ vs) = length_with r v (joined vs) (begun (Some v.item) (numbers vs)) (length_more v vs)

pub length-joined : (vs : List ItemView) → length (joined vs) ≡ begun None (numbers vs)
length-joined [] = refl
length-joined (v ∷ vs) = length_more v vs

-- in a row
abbrev pub last_of : Option (Option ℕ) → List (Option ℕ) → Option (Option ℕ)
last_of o [] = o
last_of o (n ∷ ns) = last_of (Some n) ns

begun-append : (o : Option (Option ℕ)) (ms ns : List (Option ℕ)) → begun o (ms ++ ns) ≡ begun o ms + begun (last_of o ms) ns
begun-append o [] ns = omega arith
begun-append o (m ∷ ms) ns = omega (arith, begun-append (Some m) ms ns)

last-append : (o : Option (Option ℕ)) (ms : List (Option ℕ)) (n : Option ℕ) → last_of o (ms ++ n ∷ []) ≡ Some n
last-append o [] n = refl
last-append o (m ∷ ms) n = last-append (Some m) ms n

-- neighbours that do not belong together
begun_apart : (v : ItemView) (vs : List ItemView) → IsTight (v ∷ vs) → begun (Some v.item) (numbers vs) ≡ length vs
begun_apart v [] t = refl
begun_apart v (w ∷ ws) t =
    let none = ap one_or_none t.0 in
    omega (arith, none, begun_apart w ws t.1)

begun-tight : (vs : List ItemView) → IsTight vs → begun None (numbers vs) ≡ length vs
begun-tight [] t = refl
begun-tight (v ∷ vs) t = omega (arith, begun_apart v vs t)

-- before the range
before_begun : (keep : Bool) (next : ℕ) (cs : List Cell) (x : ℕ) (l : Option ItemAt) → Stand next (items_of cs) → EndsAt cs x l
    → (begun None (numbers (before_range keep (items_of cs) l x)) ≡ count_by l) × (last_of None (numbers (before_range keep (items_of cs) l x)) ≡ number_of l)
before_begun keep next cs x None s e = (refl, refl)
before_begun keep next cs x (Some g) s e =
    let vs : List ItemView = items_of cs in
    let us : List ItemView = take g.index vs in
    let front : ItemView = front_view keep g.view (x - g.from) in
    let T : List ItemView → Type 0 = λ zs. IsTight zs in
    let tight : IsTight (us ++ front ∷ []) = tight_front keep us g.view (drop (suc g.index) vs) (x - g.from) (subst T (split-at vs g.index g.view e.1.read) s.tight) in
    let inside = slice_get_within vs g.index g.view e.1.read in
    let row = map-append (λ (v : ItemView). v.item) us (front ∷ []) in
    let count : begun None (numbers (us ++ front ∷ [])) ≡ g.index + 1 = omega (arith, begun-tight (us ++ front ∷ []) tight, length-append us (front ∷ []), length-take g.index vs, inside) in
    (count, ap (last_of None) row ∙ last-append None (numbers us) g.view.item)

-- behind it
item_later : (s : Option ℕ) (fresh k : ℕ) (v : ItemView) → (renumbered_view s fresh (later_view v k)).item ≡ (renumbered_view s fresh v).item
item_later None fresh k v = refl
item_later (Some j) fresh k v = by_test (same_number v.item (Some j)) where
  by_test : (b : Bool) → (cond b (record (later_view v k) { item = Some fresh }) (later_view v k)).item ≡ (cond b (record v { item = Some fresh }) v).item
  by_test true = refl
  by_test false = refl

differ : (fresh : ℕ) (o : Option ℕ) → o ≢ Some fresh → same_number (Some fresh) o ≡ false
differ fresh o ne = by_test (same_number (Some fresh) o) refl where
  by_test : (b : Bool) → same_number (Some fresh) o ≡ b → b ≡ false
  by_test true e = absurd (ne (sym (same-is (Some fresh) o e)))
  by_test false e = refl

not_same : (s : Option ℕ) (fresh : ℕ) (v w : ItemView) → same_number v.item w.item ≡ false → w.item ≢ Some fresh → same_number (renumbered_view s fresh v).item w.item ≡ false
not_same None fresh v w e ne = e
not_same (Some j) fresh v w e ne = by_test (same_number v.item (Some j)) where
  by_test : (b : Bool) → same_number (cond b (record v { item = Some fresh }) v).item w.item ≡ false
  by_test true = differ fresh w.item ne
  by_test false = e

tight_back : (s : Option ℕ) (next fresh : ℕ) (v : ItemView) (ws : List ItemView) → next ≤ fresh → IsTight (v ∷ ws) → NumbersBelow next ws → IsTight (renumbered_view s fresh v ∷ ws)
tight_back s next fresh v [] le t b = tt
tight_back s next fresh v (w ∷ ws) le t b = (not_same s fresh v w t.0 (lacks-below next fresh (w ∷ ws) b le).0, t.1)

numbers_kept : (keep : Bool) (n : ℕ) (ws : List ItemView) → numbers (first_kept keep n ws) ≡ numbers ws
numbers_kept keep n [] = refl
numbers_kept keep n (w ∷ ws) = refl

behind_begun : (keep : Bool) (o : Option (Option ℕ)) (next fresh : ℕ) (cs : List Cell) (y : ℕ) (l r : Option ItemAt) (a : Option ItemView) → next ≤ fresh → Stand next (items_of cs) → StandsFrom cs y r → a ≡ view_after (items_of cs) r
    → begun o (numbers (behind_range keep (items_of cs) l r a y fresh)) ≡ begun o (option_to_list (back_number r (split_between l r) fresh)) + count_past r (length (items_of cs))
behind_begun keep o next fresh cs y l None a le s e is =
    let none : begun o (numbers (behind_range keep (items_of cs) l None a y fresh)) ≡ 0 = ap (λ zs. begun o (numbers zs)) (behind_none keep (items_of cs) l a y fresh) in
    omega (arith, none)
behind_begun keep o next fresh cs y l (Some h) a le s e is =
    let vs : List ItemView = items_of cs in
    let ws : List ItemView = drop (suc h.index) vs in
    let split : Option ℕ = split_between l (Some h) in
    let part : ItemView = renumbered_view split fresh h.view in
    let S : List ItemView → Type 0 = λ zs. Stand next zs in
    let at = stand_at next (take h.index vs) h.view ws (subst S (split-at vs h.index h.view e.read) s) in
    let first = ap (λ (n : Option ℕ). begun o (n ∷ numbers (first_kept keep (h.view.len - (y - h.from)) ws))) (item_later split fresh (y - h.from) h.view)
    ∙ ap (λ ns. begun o (part.item ∷ ns)) (numbers_kept keep (h.view.len - (y - h.from)) ws) in
    let all : begun o (numbers (behind_range keep vs l (Some h) a y fresh)) ≡ begun o (part.item ∷ numbers ws) = ap (λ zs. begun o (numbers zs)) (behind_is keep vs l h a y fresh is) ∙ first in
    let rest = begun_apart part ws (tight_back split next fresh h.view ws le at.1 at.3.1) in
    omega (arith, all, rest, length-drop (suc h.index) vs)

-- all of it
last_through : (o : Option (Option ℕ)) (ms ns : List (Option ℕ)) → last_of o (ms ++ ns) ≡ last_of (last_of o ms) ns
last_through o [] ns = refl
last_through o (m ∷ ms) ns = last_through (Some m) ms ns

pub count-spliced : (keep : Bool) (t : TrackState) (x y : ℕ) (s : Seams) (views : List ItemView) → IsKept t → x ≤ y → AllFilled views → AreSeams t.cells x y s
    → count_by s.left + begun (number_of s.left) (numbers views ++ option_to_list (back_number s.right (split_between s.left s.right) (next_past_all t.next_item views))) + count_past s.right (length (items_of t.cells))
    ≡ length (items_of (spliced_track keep t x y views).cells)
count-spliced keep t x y s views k le filled seams =
    let vs : List ItemView = items_of t.cells in
    let fresh : ℕ = next_past_all t.next_item views in
    let stand = stand_of t k in
    let rises = next-rises t.next_item views in
    let B : List ItemView = before_range keep vs s.left x in
    let A : List ItemView = behind_range keep vs s.left s.right s.after y fresh in
    let nB : List (Option ℕ) = numbers B in
    let nV : List (Option ℕ) = numbers views in
    let nA : List (Option ℕ) = numbers A in
    let back : List (Option ℕ) = option_to_list (back_number s.right (split_between s.left s.right) fresh) in
    let full : AllFilled (all_parts keep vs s x y views fresh) =
    filled-append (B ++ views) A (filled-append B views (filled-each B (sound_before keep t.next_item t.cells x s.left stand seams.left).each) filled)
    (filled-each A (sound_behind keep t.next_item fresh t.cells y s.left s.right s.after rises stand seams.right seams.after).each) in
    let items : length (items_of (spliced_track keep t x y views).cells) ≡ length (joined (all_parts keep vs s x y views fresh)) =
    ap (λ cs. length (items_of cs)) (sym (cells_all keep t.cells x y fresh s views k.whole k.each k.apart le seams)) ∙ ap length (items_of-cells_of (all_parts keep vs s x y views fresh) full) in
    let row : numbers (all_parts keep vs s x y views fresh) ≡ (nB ++ nV) ++ nA = map-append (λ (v : ItemView). v.item) (B ++ views) A ∙ ap (λ ns. ns ++ nA) (map-append (λ (v : ItemView). v.item) B views) in
    let whole = length-joined (all_parts keep vs s x y views fresh) ∙ ap (begun None) row in
    let before = before_begun keep t.next_item t.cells x s.left stand seams.left in
    let last : last_of None (nB ++ nV) ≡ last_of (number_of s.left) nV = last_through None nB nV ∙ ap (λ o. last_of o nV) before.1 in
    let between : begun (last_of None nB) nV ≡ begun (number_of s.left) nV = ap (λ o. begun o nV) before.1 in
    let behind : begun (last_of None (nB ++ nV)) nA ≡ begun (last_of (number_of s.left) nV) nA = ap (λ o. begun o nA) last in
    omega (
      arith,
      items,
      whole,
      begun-append None (nB ++ nV) nA,
      begun-append None nB nV,
      before.0,
      between,
      behind,
      behind_begun keep (last_of (number_of s.left) nV) t.next_item fresh t.cells y s.left s.right s.after rises stand seams.right seams.after,
      begun-append (number_of s.left) nV back,
    )

-- what the code adds up, with the seams that it found
pub counted : (keep : Bool) (t : TrackState) (x y fresh n before between past : ℕ) (s : Seams) (split : Option ℕ) (left right : Option (Option ℕ)) (views : List ItemView) → IsKept t → x ≤ y → AllFilled views → AreSeams t.cells x y s
    → fresh ≡ next_past_all t.next_item views → split ≡ split_between s.left s.right → n ≡ length (items_of t.cells)
    → left ≡ number_of s.left → right ≡ back_number s.right split fresh
    → before ≡ count_by s.left → between ≡ begun left (numbers views ++ option_to_list right) → past ≡ count_past s.right n
    → before + between + past ≡ length (items_of (spliced_track keep t x y views).cells)
counted keep t x y fresh n before between past s split left right views k le filled seams new cut many l r b w p =
    let place : right ≡ back_number s.right (split_between s.left s.right) (next_past_all t.next_item views) =
    r ∙ (ap (λ (o : Option ℕ). back_number s.right o fresh) cut ∙ ap (back_number s.right (split_between s.left s.right)) new) in
    let middle : between ≡ begun (number_of s.left) (numbers views ++ option_to_list (back_number s.right (split_between s.left s.right) (next_past_all t.next_item views))) =
    w ∙ (ap (λ o. begun o (numbers views ++ option_to_list right)) l ∙ ap (λ o. begun (number_of s.left) (numbers views ++ option_to_list o)) place) in
    omega (arith, b, middle, p ∙ ap (count_past s.right) many, count-spliced keep t x y s views k le filled seams)

-- an item or gap at an end of the range is one of them
pub left-within : (cs : List Cell) (x : ℕ) (l : Option ItemAt) → EndsAt cs x l → count_by l ≤ length (items_of cs)
left-within cs x None e = omega arith
left-within cs x (Some g) e = omega (arith, slice_get_within (items_of cs) g.index g.view e.1.read)

pub right-within : (cs : List Cell) (y n : ℕ) (r : Option ItemAt) → StandsFrom cs y r → n ≡ length (items_of cs) → count_by r ≤ n
right-within cs y n None e is = omega arith
right-within cs y n (Some g) e is = omega (arith, is, slice_get_within (items_of cs) g.index g.view e.read)
