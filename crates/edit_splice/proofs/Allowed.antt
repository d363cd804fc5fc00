-- A good track stays good where items that stand by themselves are put in, where an item goes on, and where one reaches
-- back.
use Rattle.std.proofs.Common.{◌≡◌, ℕ, suc, ◌-◌, ◌<◌, ◌≤◌, ◌⊎◌, inl, Bool, true, false, cond, List, [], ◌∷◌, ◌++◌, length, Option, Some, None, IfSome, refl, sym, ap, ◌∙◌, arith, subst, append_assoc, take, drop, slice_get}
use Rattle.frame_meaning.specs.declared.cells.What.{What}
use Rattle.frame_meaning.specs.declared.frames.Side.{Side}
use Rattle.frame_meaning.specs.Cells.{same_number, later_side}
use Rattle.composables.specs.declared.items.ItemView.{ItemView}
use Rattle.composables.specs.declared.media.Table.{Table}
use Rattle.composables.specs.Good.{IsGood, SideLiesIn}
use Rattle.composables.specs.Items.{view_cells, cells_of, items_of}
use Rattle.composables.specs.Joined.{frames_in}
use Rattle.composables.specs.TrackFacts.{IsKept, Apart, HasSource, NumbersBelow}
use Rattle.composables.specs.TrackState.{TrackState, next_past_all}
use Rattle.composables.specs.Views.{later_view}
use Rattle.composables.proofs.Joining.{same-is, cells_of-append}
use Rattle.composables.proofs.Spans.{later-zero}
use Rattle.edit_splice.specs.declared.seams.ItemAt.{ItemAt}
use Rattle.edit_splice.specs.declared.seams.Seams.{Seams}
use Rattle.edit_splice.specs.Parts.{EndsAt, StandsFrom, AreSeams, view_after, split_between, front_view, renumbered_view}
use Rattle.edit_splice.specs.Laws.{IsWithinLimits}
use Rattle.edit_splice.specs.PutIn.{TakesUp, StandsWithin, MayBePutIn, alone, going_on, reaching_back, AllFree, StandAlone, GoesOn, ReachesBack}
use Rattle.edit_splice.specs.NewItems.{AreNewFor, NumbersFrom}
use Rattle.edit_splice.specs.Splicing.{spliced_track}
use Rattle.edit_splice.proofs.Ends.{drop-some, holds-read, first_kept, frames_less}
use Rattle.edit_splice.proofs.Existing.{seams-exist, left_end, right_end}
use Rattle.edit_splice.proofs.Numbers.{next-rises, below-next, below-append}
use Rattle.edit_splice.proofs.Apartness.{Foreign, foreign-append}
use Rattle.edit_splice.proofs.Freedom.{foreign-before, foreign-behind, frames_to, lacks_behind}
use Rattle.edit_splice.proofs.Keeping.{Sound, stand_of, sound_append, before_range, behind_range, behind_is, sound_before, sound_behind, below_all, cells_all, foreign_sides}
use Rattle.edit_splice.proofs.Goodness.{Lie, lie-append, lie-before, lie-behind, good-sound}
use Rattle.edit_splice.proofs.Growing.{longer, cells-longer, cells-on, cells-back, below-on, foreign-on, sound-on, lie-on, sound-back, lie-back, foreign-same, below-same}

-- three parts in a row
good_parts : (table : Table) (u : TrackState) (bs vs zs : List ItemView) → u.cells ≡ cells_of ((bs ++ vs) ++ zs) → Sound bs → Sound vs → Sound zs → Foreign bs vs → Foreign bs zs → Foreign vs zs
    → Lie table u.number bs → Lie table u.number vs → Lie table u.number zs → NumbersBelow u.next_item ((bs ++ vs) ++ zs) → IsWithinLimits u → IsGood table u
good_parts table u bs vs zs is sb sv sz bv bz vz lb lv lz below limits =
    good-sound table u ((bs ++ vs) ++ zs) is (sound_append (bs ++ vs) zs (sound_append bs vs sb sv bv) sz (foreign-append bs vs zs bz vz))
    (lie-append table u.number (bs ++ vs) zs sz.first (lie-append table u.number bs vs sv.first lb lv) lz) below limits.frames limits.items

sound_alone : (table : Table) (t : TrackState) (x y : ℕ) (views : List ItemView) → StandAlone table t x y views → Sound views
sound_alone table t x y views n = record { each = n.each; first = n.first; meet = n.meet; apart = n.apart }

lie_alone : (table : Table) (t : TrackState) (x y : ℕ) (views : List ItemView) → StandAlone table t x y views → Lie table t.number views
lie_alone table t x y views n = record { ranges = n.ranges; links = n.links }

lie_good : (table : Table) (t : TrackState) → IsGood table t → Lie table t.number (items_of t.cells)
lie_good table t g = record { ranges = g.ranges; links = g.links }

below_parts : (n : ℕ) (xs ys : List ItemView) → NumbersBelow n (xs ++ ys) → NumbersBelow n xs × NumbersBelow n ys
below_parts n [] ys b = (tt, b)
below_parts n (x ∷ xs) ys b = let rest = below_parts n xs ys b.1 in ((b.0, rest.0), rest.1)

-- items that stand by themselves
pub good-alone : (keep : Bool) (table : Table) (t : TrackState) (x y : ℕ) (views : List ItemView) → IsGood table t → x ≤ y → y ≤ length t.cells → StandAlone table t x y views → IsWithinLimits (spliced_track keep t x y views) → IsGood table (spliced_track keep t x y views)
good-alone keep table t x y views g order within n limits =
    let k = g.kept in
    let found = seams-exist t.cells x y k.whole (omega (arith, order, within)) in
    let s : Seams = found.0 in
    let fresh : ℕ = next_past_all t.next_item views in
    let stand = stand_of t k in
    let rises = next-rises t.next_item views in
    good_parts table (spliced_track keep t x y views) (before_range keep (items_of t.cells) s.left x) views (behind_range keep (items_of t.cells) s.left s.right s.after y fresh)
    (sym (cells_all keep t.cells x y fresh s views k.whole k.each k.apart order found.1))
    (sound_before keep t.next_item t.cells x s.left stand found.1.left)
    (sound_alone table t x y views n)
    (sound_behind keep t.next_item fresh t.cells y s.left s.right s.after rises stand found.1.right found.1.after)
    (foreign-before keep t x y s.left views stand found.1.left n.free)
    (foreign_sides keep t.next_item fresh t.cells x y s.left s.right s.after rises order stand found.1.left found.1.right found.1.after)
    (foreign-behind keep t fresh x y s.left s.right s.after views rises (below-next t.next_item views) stand found.1.right found.1.after n.free)
    (lie-before keep table t.number t.cells x s.left (lie_good table t g) found.1.left)
    (lie_alone table t x y views n)
    (lie-behind keep table t.number fresh t.cells y s.left s.right s.after (lie_good table t g) found.1.right found.1.after)
    (below_all keep t.next_item t.cells x y s views k.whole k.below order found.1)
    limits

-- the one that goes on
left_held : (t : TrackState) (x i from : ℕ) (v : ItemView) → IsKept t → TakesUp (items_of t.cells) i v from x → EndsAt t.cells x (Some (record { index = i; from = from; view = v }))
left_held t x i from v k s =
    let end = frames_to (items_of t.cells) i v from x s in
    let some = (holds-read (items_of t.cells) i v s.read k.each).0.filled in
    (omega (arith, end, some), record { read = s.read; from = s.starts; begins = omega (arith, end, some); ends = omega (arith, end, some) })

pub good-going-on : (keep : Bool) (table : Table) (t : TrackState) (x y : ℕ) (v : ItemView) (views : List ItemView) → IsGood table t → x ≤ y → y ≤ length t.cells → GoesOn table t x v → StandAlone table t x y views
    → IsWithinLimits (spliced_track keep t x y (v ∷ views)) → IsGood table (spliced_track keep t x y (v ∷ views))
good-going-on keep table t x y v views g order within on n limits =
    let k = g.kept in
    let vs : List ItemView = items_of t.cells in
    let h : ItemAt = record { index = on.index; from = on.from; view = on.before } in
    let l : EndsAt t.cells x (Some h) = left_held t x on.index on.from on.before k on.stands in
    let r = right_end t.cells y k.whole in
    let s : Seams = record { left = Some h; right = r.0; after = view_after vs r.0 } in
    let seams : AreSeams t.cells x y s = record { left = l; right = r.1; after = refl } in
    let fresh : ℕ = next_past_all t.next_item (v ∷ views) in
    let stand = stand_of t k in
    let rises = next-rises t.next_item (v ∷ views) in
    let us : List ItemView = take on.index vs in
    let f : ItemView = front_view keep on.before (x - on.from) in
    let zs : List ItemView = behind_range keep vs s.left s.right s.after y fresh in
    let end = frames_to vs on.index on.before on.from x on.stands in
    let some : 0 < x - on.from = omega (arith, l.0, l.1.begins) in
    let len : on.before.len ≡ x - on.from = omega (arith, end) in
    let side : v.first ≡ later_side f.first f.len = on.side ∙ ap (later_side on.before.first) len in
    let S : Side What → Type 0 = λ d. HasSource d v.len 0 0 in
    let R : Side What → Type 0 = λ d. SideLiesIn table d v.len 0 0 in
    let cells = cells-longer f v some on.part.bare on.item on.link side in
    let row = cells_of-append ((us ++ f ∷ []) ++ v ∷ views) zs ∙ (ap (λ cs. cs ++ cells_of zs) (cells-on us f (longer f v.len) v views cells) ∙ sym (cells_of-append ((us ++ longer f v.len ∷ []) ++ views) zs)) in
    let all = below_all keep t.next_item t.cells x y s (v ∷ views) k.whole k.below order seams in
    let m : ℕ = (spliced_track keep t x y (v ∷ views)).next_item in
    let parts = below_parts m ((us ++ f ∷ []) ++ v ∷ views) zs all in
    let inner = below_parts m (us ++ f ∷ []) (v ∷ views) parts.0 in
    good_parts table (spliced_track keep t x y (v ∷ views)) (us ++ longer f v.len ∷ []) views zs
    (sym (cells_all keep t.cells x y fresh s (v ∷ views) k.whole k.each k.apart order seams) ∙ row)
    (sound-on us f v.len (sound_before keep t.next_item t.cells x s.left stand l) (subst S side on.part.source))
    (sound_alone table t x y views n)
    (sound_behind keep t.next_item fresh t.cells y s.left s.right s.after rises stand r.1 refl)
    (foreign-on us f v.len views (foreign-before keep t x y s.left views stand l n.free))
    (foreign-on us f v.len zs (foreign_sides keep t.next_item fresh t.cells x y s.left s.right s.after rises order stand l r.1 refl))
    (foreign-behind keep t fresh x y s.left s.right s.after views rises (below-next t.next_item (v ∷ views)).1 stand r.1 refl n.free)
    (lie-on table t.number us f v.len (lie-before keep table t.number t.cells x s.left (lie_good table t g) l) (subst R side on.part.range))
    (lie_alone table t x y views n)
    (lie-behind keep table t.number fresh t.cells y s.left s.right s.after (lie_good table t g) r.1 refl)
    (below-append m ((us ++ longer f v.len ∷ []) ++ views) zs (below-append m (us ++ longer f v.len ∷ []) views (below-on m us f v.len inner.0) inner.1.1) parts.1)
    limits

-- the one that reaches back
right_held : (t : TrackState) (y i to : ℕ) (v : ItemView) → IsKept t → TakesUp (items_of t.cells) i v y to → StandsFrom t.cells y (Some (record { index = i; from = y; view = v }))
right_held t y i to v k s =
    let some = (holds-read (items_of t.cells) i v s.read k.each).0.filled in
    record { read = s.read; from = s.starts; begins = omega arith; ends = omega (arith, some) }

cut_whole : (vs : List ItemView) (l : Option ItemAt) (h : ItemAt) → Apart vs → slice_get vs h.index ≡ Some h.view → IfSome l (λ g. (slice_get vs g.index ≡ Some g.view) × (g.index < h.index)) → split_between l (Some h) ≡ None
cut_whole vs None h a e f = refl
cut_whole vs (Some g) h a e f = by_test (same_number g.view.item h.view.item) refl where
  never : (o : Option ℕ) → h.view.item ≡ o → g.view.item ≡ o → o ≡ None
  never None p q = refl
  never (Some i) p q = absurd ((lacks_behind i g.index h.index vs h.view g.view f.0 q f.1 (drop-some vs h.index h.view e) a).0 p)

  by_test : (b : Bool) → same_number g.view.item h.view.item ≡ b → cond b h.view.item None ≡ None
  by_test true p = never h.view.item refl (same-is g.view.item h.view.item p)
  by_test false p = refl

before_it : (t : TrackState) (x y : ℕ) (l : Option ItemAt) (h : ItemAt) → x ≤ y → h.from ≡ y → h.from ≡ frames_in (take h.index (items_of t.cells)) → EndsAt t.cells x l → IfSome l (λ g. (slice_get (items_of t.cells) g.index ≡ Some g.view) × (g.index < h.index))
before_it t x y None h le at is e = tt
before_it t x y (Some g) h le at is e = (e.1.read, frames_less (items_of t.cells) g.index h.index (omega (arith, le, at, is, e.0, e.1.from, e.1.begins)))

pub good-reaching-back : (keep : Bool) (table : Table) (t : TrackState) (x y : ℕ) (v : ItemView) (views : List ItemView) → IsGood table t → x ≤ y → y ≤ length t.cells → ReachesBack table t y v → StandAlone table t x y views
    → IsWithinLimits (spliced_track keep t x y (views ++ v ∷ [])) → IsGood table (spliced_track keep t x y (views ++ v ∷ []))
good-reaching-back keep table t x y v views g order within back n limits =
    let k = g.kept in
    let vs : List ItemView = items_of t.cells in
    let h : ItemAt = record { index = back.index; from = y; view = back.after } in
    let r : StandsFrom t.cells y (Some h) = right_held t y back.index back.to back.after k back.stands in
    let l = left_end t.cells x k.whole (omega (arith, order, within)) in
    let s : Seams = record { left = l.0; right = Some h; after = view_after vs (Some h) } in
    let seams : AreSeams t.cells x y s = record { left = l.1; right = r; after = refl } in
    let put : List ItemView = views ++ v ∷ [] in
    let fresh : ℕ = next_past_all t.next_item put in
    let stand = stand_of t k in
    let rises = next-rises t.next_item put in
    let bs : List ItemView = before_range keep vs s.left x in
    let ws : List ItemView = drop (suc back.index) vs in
    let none : y - y ≡ 0 = omega arith in
    let b : ItemView = later_view back.after 0 in
    let zs : List ItemView = first_kept keep (back.after.len - (y - y)) ws in
    let split = cut_whole vs s.left h k.apart back.stands.read (before_it t x y s.left h order refl back.stands.starts l.1) in
    let one : behind_range keep vs s.left s.right s.after y fresh ≡ b ∷ zs =
    behind_is keep vs s.left h s.after y fresh refl
    ∙ (ap (λ (o : Option ℕ). renumbered_view o fresh (later_view back.after (y - y)) ∷ zs) split ∙ ap (λ (j : ℕ). later_view back.after j ∷ zs) none) in
    let side : b.first ≡ later_side v.first v.len = later-zero back.after.first ∙ back.side in
    let P : List ItemView → Type 0 = λ ds. Sound ds in
    let Q : List ItemView → Type 0 = λ ds. Lie table t.number ds in
    let F : List ItemView → Type 0 = λ ds. Foreign bs ds in
    let V : List ItemView → Type 0 = λ ds. Foreign views ds in
    let m : ℕ = (spliced_track keep t x y put).next_item in
    let N : List ItemView → Type 0 = λ ds. NumbersBelow m ((bs ++ put) ++ ds) in
    let w : ItemView = longer v b.len in
    let cells : view_cells w ≡ view_cells v ++ view_cells b = cells-longer v b back.part.filled refl (sym back.item) (sym back.link) side in
    let row : cells_of ((bs ++ put) ++ b ∷ zs) ≡ cells_of ((bs ++ views) ++ w ∷ zs) =
    ap (λ ds. cells_of (ds ++ b ∷ zs)) (sym (append_assoc bs views (v ∷ []))) ∙ cells-back (bs ++ views) v b w zs cells in
    let all = subst N one (below_all keep t.next_item t.cells x y s put k.whole k.below order seams) in
    let parts = below_parts m (bs ++ put) (b ∷ zs) all in
    let inner = below_parts m bs put parts.0 in
    good_parts table (spliced_track keep t x y put) bs views (w ∷ zs)
    (sym (cells_all keep t.cells x y fresh s put k.whole k.each k.apart order seams) ∙ (ap (λ ds. cells_of ((bs ++ put) ++ ds)) one ∙ row))
    (sound_before keep t.next_item t.cells x s.left stand l.1)
    (sound_alone table t x y views n)
    (sound-back v b zs (subst P one (sound_behind keep t.next_item fresh t.cells y s.left s.right s.after rises stand r refl)) back.part.bare back.item back.link side back.part.source)
    (foreign-before keep t x y s.left views stand l.1 n.free)
    (foreign-same v b b.len zs bs back.item (subst F one (foreign_sides keep t.next_item fresh t.cells x y s.left s.right s.after rises order stand l.1 r refl)))
    (foreign-same v b b.len zs views back.item (subst V one (foreign-behind keep t fresh x y s.left s.right s.after views rises (below_parts fresh views (v ∷ []) (below-next t.next_item put)).0 stand r refl n.free)))
    (lie-before keep table t.number t.cells x s.left (lie_good table t g) l.1)
    (lie_alone table t x y views n)
    (lie-back table t.number v b zs (subst Q one (lie-behind keep table t.number fresh t.cells y s.left s.right s.after (lie_good table t g) r refl)) back.part.bare back.link side back.part.range)
    (below-append m (bs ++ views) (w ∷ zs) (below-append m bs views inner.0 (below_parts m views (v ∷ []) inner.1).0) (below-same m v b b.len zs back.item parts.1))
    limits

-- all that may be put in
pub good-parts : (keep : Bool) (table : Table) (t : TrackState) (x y : ℕ) (views : List ItemView) → IsGood table t → x ≤ y → y ≤ length t.cells → MayBePutIn table t x y views → IsWithinLimits (spliced_track keep t x y views) → IsGood table (spliced_track keep t x y views)
good-parts keep table t x y views g order within (alone {views = vs} n) limits = good-alone keep table t x y vs g order within n limits
good-parts keep table t x y views g order within (going_on {view = v} {views = vs} on n) limits = good-going-on keep table t x y v vs g order within on n limits
good-parts keep table t x y views g order within (reaching_back {view = v} {views = vs} back n) limits = good-reaching-back keep table t x y v vs g order within back n limits

-- new items are among them
free_new : (t : TrackState) (x y : ℕ) (views : List ItemView) → NumbersFrom t.next_item views → AllFree t x y views
free_new t x y [] a = tt
free_new t x y (v ∷ vs) a = (free v.item a.0, free_new t x y vs a.1) where
  free : (o : Option ℕ) → IfSome o (λ i. t.next_item ≤ i) → IfSome o (λ i. (t.next_item ≤ i) ⊎ StandsWithin t x y i)
  free None h = tt
  free (Some i) h = inl h

pub new-parts : (table : Table) (t : TrackState) (x y : ℕ) (views : List ItemView) → AreNewFor table t views → MayBePutIn table t x y views
new-parts table t x y views n =
    alone (record { each = n.new.each; first = n.new.first; meet = n.new.meet; apart = n.new.apart; free = free_new t x y views n.new.above; ranges = n.ranges; links = n.links })
