-- What is put in place of the items and gaps at the ends of a range gives the cells of the splice.
use Rattle.std.proofs.Common.{◌≡◌, ℕ, suc, ◌+◌, ◌-◌, ◌<◌, ◌≤◌, List, [], ◌∷◌, ◌++◌, length, map, Option, Some, None, IfSome, refl, sym, ap, ◌∙◌, arith, take, drop, slice_get, option_map, subst, append_assoc, Bool}
use Rattle.std.proofs.lemmas.List.{append-nil, drop_all, map-append}
use Rattle.frame_meaning.specs.declared.cells.Cell.{Cell}
use Rattle.frame_meaning.specs.Splice.{rule_of, renumbered, split_item, spliced, next_after_splice}
use Rattle.composables.specs.declared.items.ItemView.{ItemView}
use Rattle.composables.specs.Items.{view_cells, cells_of, items_of}
use Rattle.composables.specs.Joined.{AllFilled, frames_in}
use Rattle.composables.specs.TrackFacts.{EachHolds, Apart, Lacks, NumbersBelow}
use Rattle.composables.specs.TrackState.{next_past_all}
use Rattle.composables.proofs.Joining.{cells_of-append, filled-append, length-view_cells}
use Rattle.edit_splice.specs.declared.seams.ItemAt.{ItemAt}
use Rattle.edit_splice.specs.declared.seams.Seams.{Seams}
use Rattle.composables.specs.Views.{later_view}
use Rattle.edit_splice.specs.Parts.{AreSeams, EndsAt, StandsFrom, view_after, split_between, front_view, front_views, renumbered_view, back_views, after_view, after_views, parts_between, first_index, end_at, end_index}
use Rattle.edit_splice.proofs.Spans.{take-cells, drop-cells, view_from}
use Rattle.edit_splice.proofs.Splits.{first_item, last_item, across, begins, ends, behind, split-item, after_split, next-splice}
use Rattle.edit_splice.proofs.Surviving.{before_splice, behind_splice, spliced-steps}
use Rattle.edit_splice.proofs.Marks.{before-kept, before-view, behind-first, behind-parts}
use Rattle.edit_splice.proofs.Renumbering.{view-renumbered, rest-stays}
use Rattle.edit_splice.proofs.Numbers.{if-weaker, below-weaker, below-append, next-append, next-below, next-rises, past-renumbered, split-rises, below-renumbered, len-stays}
use Rattle.edit_splice.proofs.Ends.{split-at, holds-at, apart-at, below-read, holds-read, split-lacks, split-names, split-none, first_kept, after-parts}

-- before the range
left_in : (keep : Bool) (vs us : List ItemView) (v : ItemView) (ws : List ItemView) (x from : ℕ) → vs ≡ us ++ v ∷ ws → EachHolds vs → from ≡ frames_in us → from ≤ x → x ≤ from + v.len
    → before_splice keep x (take x (cells_of vs)) ≡ cells_of us ++ cells_of (front_view keep v (x - from) ∷ [])
left_in keep vs us v ws x from e h is lo hi =
    let P : List ItemView → Type 0 = λ zs. EachHolds zs in
    let start : frames_in us ≤ x = omega (arith, is, lo) in
    let n : x - frames_in us ≡ x - from = omega (arith, is) in
    ap (λ zs. before_splice keep x (take x (cells_of zs))) e
    ∙ (ap (before_splice keep x) (take-cells us v ws x start (omega (arith, is, hi)))
    ∙ (before-kept keep us (v ∷ ws) (view_cells (record v { len = x - frames_in us })) x (subst P e h) start
    ∙ (ap (λ cs. cells_of us ++ cs) (before-view keep (x - frames_in us) (record v { len = x - frames_in us }))
    ∙ (ap (λ (k : ℕ). cells_of us ++ view_cells (front_view keep v k)) n
    ∙ ap (λ cs. cells_of us ++ cs) (sym (append-nil (view_cells (front_view keep v (x - from)))))))))

left_cells : (keep : Bool) (cs : List Cell) (x : ℕ) (l : Option ItemAt) → cells_of (items_of cs) ≡ cs → EachHolds (items_of cs) → EndsAt cs x l
    → before_splice keep x (take x cs) ≡ cells_of (take (first_index l) (items_of cs)) ++ cells_of (front_views keep l x)
left_cells keep cs x None whole h none = ap (λ (k : ℕ). before_splice keep k (take k cs)) none
left_cells keep cs x (Some g) whole h s =
    ap (λ ds. before_splice keep x (take x ds)) (sym whole)
    ∙ left_in keep (items_of cs) (take g.index (items_of cs)) g.view (drop (suc g.index) (items_of cs)) x g.from (split-at (items_of cs) g.index g.view s.1.read) h s.1.from
    (omega (arith, s.0, s.1.begins)) (omega (arith, s.0, s.1.ends))

-- behind it
rest_in : (keep : Bool) (s : Option ℕ) (fresh n : ℕ) (ws : List ItemView) → 0 < n → EachHolds ws → IfSome s (λ i. Lacks i ws) → map (renumbered s fresh) (behind_splice keep n (cells_of ws)) ≡ cells_of (first_kept keep n ws)
rest_in keep s fresh n [] p h l = refl
rest_in keep s fresh n (w ∷ ws) p h l = ap (map (renumbered s fresh)) (behind-first keep n w ws p h) ∙ rest-stays s fresh (after_view keep n w ∷ ws) l

right_in : (keep : Bool) (vs us : List ItemView) (v : ItemView) (ws : List ItemView) (y from fresh : ℕ) (s : Option ℕ) → vs ≡ us ++ v ∷ ws → EachHolds vs → from ≡ frames_in us → from ≤ y → y < from + v.len → IfSome s (λ i. Lacks i ws)
    → map (renumbered s fresh) (behind_splice keep 0 (drop y (cells_of vs))) ≡ view_cells (renumbered_view s fresh (later_view v (y - from))) ++ cells_of (first_kept keep (v.len - (y - from)) ws)
right_in keep vs us v ws y from fresh s e h is lo hi l =
    let P : List ItemView → Type 0 = λ zs. EachHolds zs in
    let rest : EachHolds ws = (holds-at us v ws (subst P e h)).1 in
    let n : y - frames_in us ≡ y - from = omega (arith, is) in
    let k : ℕ = y - from in
    ap (λ zs. map (renumbered s fresh) (behind_splice keep 0 (drop y (cells_of zs)))) e
    ∙ (ap (λ cs. map (renumbered s fresh) (behind_splice keep 0 cs)) (drop-cells us v ws y (omega (arith, is, lo)) (omega (arith, is, hi)))
    ∙ (ap (λ (j : ℕ). map (renumbered s fresh) (behind_splice keep 0 (view_cells (view_from v j) ++ cells_of ws))) n
    ∙ (ap (map (renumbered s fresh)) (behind-parts keep v (y - from) (cells_of ws))
    ∙ (map-append (renumbered s fresh) (view_cells (later_view v (y - from))) (behind_splice keep (v.len - (y - from)) (cells_of ws))
    ∙ (ap (λ cs. cs ++ map (renumbered s fresh) (behind_splice keep (v.len - (y - from)) (cells_of ws))) (view-renumbered s fresh (later_view v (y - from)))
    ∙ ap (λ cs. view_cells (renumbered_view s fresh (later_view v (y - from))) ++ cs) (rest_in keep s fresh (v.len - (y - from)) ws (omega (arith, lo, hi)) rest l))))))

right_cells : (keep : Bool) (cs : List Cell) (y fresh : ℕ) (l r : Option ItemAt) (o : Option ItemView) → cells_of (items_of cs) ≡ cs → EachHolds (items_of cs) → Apart (items_of cs) → StandsFrom cs y r → o ≡ view_after (items_of cs) r
    → map (renumbered (split_between l r) fresh) (behind_splice keep 0 (drop y cs))
    ≡ cells_of (back_views r y (split_between l r) fresh ++ after_views keep r o y) ++ cells_of (drop (end_at r o (length (items_of cs))) (items_of cs))
right_cells keep cs y fresh l None o whole h a past after =
    let none : drop (length (items_of cs)) (items_of cs) ≡ [] = drop_all (length (items_of cs)) (items_of cs) (omega arith) in
    ap (λ ds. map (renumbered (split_between l None) fresh) (behind_splice keep 0 ds)) (drop_all y cs past)
    ∙ sym (ap cells_of none)
right_cells keep cs y fresh l (Some g) o whole h a s after =
    let vs : List ItemView = items_of cs in
    let n : ℕ = g.view.len - (y - g.from) in
    let cut = split-at vs g.index g.view s.read in
    let P : List ItemView → Type 0 = λ zs. Apart zs in
    let lacks = split-lacks l g (drop (suc g.index) vs) (apart-at (take g.index vs) g.view (drop (suc g.index) vs) (subst P cut a)) in
    let part : ItemView = renumbered_view (split_between l (Some g)) fresh (later_view g.view (y - g.from)) in
    ap (λ ds. map (renumbered (split_between l (Some g)) fresh) (behind_splice keep 0 (drop y ds))) (sym whole)
    ∙ (right_in keep vs (take g.index vs) g.view (drop (suc g.index) vs) y g.from fresh (split_between l (Some g)) cut h s.from s.begins s.ends lacks
    ∙ (ap (λ zs. view_cells part ++ cells_of zs) (sym (after-parts keep vs g o y (length vs) after))
    ∙ (ap (λ ds. view_cells part ++ ds) (cells_of-append (after_views keep (Some g) o y) (drop (end_at (Some g) o (length vs)) vs))
    ∙ sym (append_assoc (view_cells part) (cells_of (after_views keep (Some g) o y)) (cells_of (drop (end_at (Some g) o (length vs)) vs))))))

-- the item that is split
abbrev number_of : ItemAt → Option ℕ
number_of h = h.view.item

last_in : (vs us : List ItemView) (v : ItemView) (ws : List ItemView) (x from : ℕ) → vs ≡ us ++ v ∷ ws → from ≡ frames_in us → from < x → x ≤ from + v.len → last_item (take x (cells_of vs)) ≡ Some v.item
last_in vs us v ws x from e is lo hi =
    let part : ItemView = record v { len = x - frames_in us } in
    let some : 0 < x - frames_in us = omega (arith, is, lo) in
    ap (λ zs. last_item (take x (cells_of zs))) e
    ∙ (ap last_item (take-cells us v ws x (omega (arith, is, lo)) (omega (arith, is, hi)))
    ∙ (behind (cells_of us) (view_cells part) (omega (arith, length-view_cells part, some)) ∙ ends part some))

last_is : (cs : List Cell) (x : ℕ) (l : Option ItemAt) → cells_of (items_of cs) ≡ cs → EndsAt cs x l → last_item (take x cs) ≡ option_map number_of l
last_is cs x None whole none = ap (λ (k : ℕ). last_item (take k cs)) none
last_is cs x (Some g) whole s =
    ap (λ ds. last_item (take x ds)) (sym whole)
    ∙ last_in (items_of cs) (take g.index (items_of cs)) g.view (drop (suc g.index) (items_of cs)) x g.from (split-at (items_of cs) g.index g.view s.1.read) s.1.from
    (omega (arith, s.0, s.1.begins)) (omega (arith, s.0, s.1.ends))

first_in : (vs us : List ItemView) (v : ItemView) (ws : List ItemView) (y from : ℕ) → vs ≡ us ++ v ∷ ws → from ≡ frames_in us → from ≤ y → y < from + v.len → first_item (drop y (cells_of vs)) ≡ Some v.item
first_in vs us v ws y from e is lo hi =
    ap (λ zs. first_item (drop y (cells_of zs))) e
    ∙ (ap first_item (drop-cells us v ws y (omega (arith, is, lo)) (omega (arith, is, hi)))
    ∙ begins (view_from v (y - frames_in us)) (cells_of ws) (omega (arith, is, lo, hi)))

first_is : (cs : List Cell) (y : ℕ) (r : Option ItemAt) → cells_of (items_of cs) ≡ cs → StandsFrom cs y r → first_item (drop y cs) ≡ option_map number_of r
first_is cs y None whole past = ap first_item (drop_all y cs past)
first_is cs y (Some g) whole s =
    ap (λ ds. first_item (drop y ds)) (sym whole)
    ∙ first_in (items_of cs) (take g.index (items_of cs)) g.view (drop (suc g.index) (items_of cs)) y g.from (split-at (items_of cs) g.index g.view s.read) s.from s.begins s.ends

across_is : (l r : Option ItemAt) → across (option_map number_of l) (option_map number_of r) ≡ split_between l r
across_is None r = refl
across_is (Some g) None = refl
across_is (Some g) (Some h) = refl

split_is : (cs : List Cell) (x y : ℕ) (s : Seams) → cells_of (items_of cs) ≡ cs → x ≤ y → AreSeams cs x y s → split_item cs x y ≡ split_between s.left s.right
split_is cs x y s whole le a =
    split-item cs x y le
    ∙ (ap (λ o. across o (first_item (drop y cs))) (last_is cs x s.left whole a.left)
    ∙ (ap (across (option_map number_of s.left)) (first_is cs y s.right whole a.right) ∙ across_is s.left s.right))

-- the cells of the whole
in_a_row : (u f m b d : List Cell) → (u ++ ((f ++ m) ++ b)) ++ d ≡ ((u ++ f) ++ m) ++ (b ++ d)
in_a_row u f m b d =
    ap (λ cs. cs ++ d) (sym (append_assoc u (f ++ m) b) ∙ ap (λ cs. cs ++ b) (sym (append_assoc u f m)))
    ∙ append_assoc ((u ++ f) ++ m) b d

pub cells-spliced : (keep : Bool) (cs : List Cell) (x y fresh : ℕ) (s : Seams) (views : List ItemView) → cells_of (items_of cs) ≡ cs → EachHolds (items_of cs) → Apart (items_of cs) → x ≤ y → AreSeams cs x y s
    → (cells_of (take (first_index s.left) (items_of cs)) ++ cells_of (parts_between keep s x y views fresh)) ++ cells_of (drop (end_index s (length (items_of cs))) (items_of cs))
    ≡ spliced (rule_of keep) cs x y (cells_of views) fresh
cells-spliced keep cs x y fresh s views whole h a le seams =
    let vs : List ItemView = items_of cs in
    let split : Option ℕ = split_between s.left s.right in
    let front : List ItemView = front_views keep s.left x in
    let rear : List ItemView = back_views s.right y split fresh ++ after_views keep s.right s.after y in
    let u : List Cell = cells_of (take (first_index s.left) vs) in
    let d : List Cell = cells_of (drop (end_index s (length vs)) vs) in
    let right : map (renumbered (split_item cs x y) fresh) (behind_splice keep 0 (drop y cs)) ≡ cells_of rear ++ d =
    ap (λ (o : Option ℕ). map (renumbered o fresh) (behind_splice keep 0 (drop y cs))) (split_is cs x y s whole le seams)
    ∙ right_cells keep cs y fresh s.left s.right s.after whole h a seams.right seams.after in
    ap (λ ds. (u ++ ds) ++ d) (cells_of-append (front ++ views) rear ∙ ap (λ ds. ds ++ cells_of rear) (cells_of-append front views))
    ∙ (in_a_row u (cells_of front) (cells_of views) (cells_of rear) d
    ∙ (ap (λ ds. (ds ++ cells_of views) ++ (cells_of rear ++ d)) (sym (left_cells keep cs x s.left whole h seams.left))
    ∙ (ap (λ ds. (before_splice keep x (take x cs) ++ cells_of views) ++ ds) (sym right)
    ∙ sym (spliced-steps keep cs x y (cells_of views) fresh le))))

-- the numbers
front_below : (keep : Bool) (n : ℕ) (cs : List Cell) (x : ℕ) (l : Option ItemAt) → EndsAt cs x l → NumbersBelow n (items_of cs) → NumbersBelow n (front_views keep l x)
front_below keep n cs x None e b = tt
front_below keep n cs x (Some g) s b = (below-read n (items_of cs) g.index g.view s.1.read b, tt)

after_below : (keep : Bool) (n : ℕ) (vs : List ItemView) (h : ItemAt) (o : Option ItemView) (y : ℕ) → o ≡ slice_get vs (h.index + 1) → NumbersBelow n vs → NumbersBelow n (after_views keep (Some h) o y)
after_below keep n vs h None y e b = tt
after_below keep n vs h (Some w) y e b = (below-read n vs (h.index + 1) w (sym e) b, tt)

back_next : (keep : Bool) (n fresh : ℕ) (cs : List Cell) (y : ℕ) (l r : Option ItemAt) (o : Option ItemView) → n ≤ fresh → StandsFrom cs y r → o ≡ view_after (items_of cs) r → NumbersBelow n (items_of cs)
    → next_past_all fresh (back_views r y (split_between l r) fresh ++ after_views keep r o y) ≡ after_split (split_between l r) fresh
back_next keep n fresh cs y l None o le s e b = sym (ap (λ (p : Option ℕ). after_split p fresh) (split-none l))
back_next keep n fresh cs y l (Some g) o le s e b =
    let split : Option ℕ = split_between l (Some g) in
    let own = if-weaker g.view.item n fresh le (below-read n (items_of cs) g.index g.view s.read b) in
    ap (λ (k : ℕ). next_past_all k (after_views keep (Some g) o y)) (past-renumbered split fresh (later_view g.view (y - g.from)) (split-names l g) own)
    ∙ next-below (after_split split fresh) (after_views keep (Some g) o y)
    (below-weaker n (after_split split fresh) (after_views keep (Some g) o y) (omega (arith, le, split-rises split fresh)) (after_below keep n (items_of cs) g o y e b))

pub next-spliced : (keep : Bool) (n : ℕ) (cs : List Cell) (x y : ℕ) (s : Seams) (views : List ItemView) → cells_of (items_of cs) ≡ cs → NumbersBelow n (items_of cs) → x ≤ y → AreSeams cs x y s
    → next_past_all n (parts_between keep s x y views (next_past_all n views)) ≡ next_after_splice cs x y (next_past_all n views)
next-spliced keep n cs x y s views whole b le seams =
    let fresh : ℕ = next_past_all n views in
    let split : Option ℕ = split_between s.left s.right in
    let front : List ItemView = front_views keep s.left x in
    let rear : List ItemView = back_views s.right y split fresh ++ after_views keep s.right s.after y in
    next-append n (front ++ views) rear
    ∙ (ap (λ (k : ℕ). next_past_all k rear) (next-append n front views ∙ ap (λ (k : ℕ). next_past_all k views) (next-below n front (front_below keep n cs x s.left seams.left b)))
    ∙ (back_next keep n fresh cs y s.left s.right s.after (next-rises n views) seams.right seams.after b
    ∙ sym (next-splice cs x y fresh split (split_is cs x y s whole le seams))))

back_below : (keep : Bool) (n fresh m : ℕ) (cs : List Cell) (y : ℕ) (l r : Option ItemAt) (o : Option ItemView) → n ≤ m → fresh < m → StandsFrom cs y r → o ≡ view_after (items_of cs) r → NumbersBelow n (items_of cs)
    → NumbersBelow m (back_views r y (split_between l r) fresh ++ after_views keep r o y)
back_below keep n fresh m cs y l None o le lt s e b = tt
back_below keep n fresh m cs y l (Some g) o le lt s e b = (
  below-renumbered (split_between l (Some g)) fresh m (later_view g.view (y - g.from)) lt (if-weaker g.view.item n m le (below-read n (items_of cs) g.index g.view s.read b)),
  below-weaker n m (after_views keep (Some g) o y) le (after_below keep n (items_of cs) g o y e b),
)

pub below-parts : (keep : Bool) (n fresh m : ℕ) (cs : List Cell) (x y : ℕ) (s : Seams) (views : List ItemView) → n ≤ m → fresh < m → AreSeams cs x y s → NumbersBelow n (items_of cs) → NumbersBelow m views → NumbersBelow m (parts_between keep s x y views fresh)
below-parts keep n fresh m cs x y s views le lt seams b new =
    below-append m (front_views keep s.left x ++ views) (back_views s.right y (split_between s.left s.right) fresh ++ after_views keep s.right s.after y)
    (below-append m (front_views keep s.left x) views (below-weaker n m (front_views keep s.left x) le (front_below keep n cs x s.left seams.left b)) new)
    (back_below keep n fresh m cs y s.left s.right s.after le lt seams.right seams.after b)

-- none is empty
front_filled : (keep : Bool) (cs : List Cell) (x : ℕ) (l : Option ItemAt) → EndsAt cs x l → AllFilled (front_views keep l x)
front_filled keep cs x None e = tt
front_filled keep cs x (Some g) s = (omega (arith, s.0, s.1.begins), tt)

after_filled : (keep : Bool) (vs : List ItemView) (h : ItemAt) (o : Option ItemView) (y : ℕ) → o ≡ slice_get vs (h.index + 1) → EachHolds vs → AllFilled (after_views keep (Some h) o y)
after_filled keep vs h None y e k = tt
after_filled keep vs h (Some w) y e k = ((holds-read vs (h.index + 1) w (sym e) k).0.filled, tt)

back_filled : (keep : Bool) (fresh : ℕ) (cs : List Cell) (y : ℕ) (l r : Option ItemAt) (o : Option ItemView) → StandsFrom cs y r → o ≡ view_after (items_of cs) r → EachHolds (items_of cs)
    → AllFilled (back_views r y (split_between l r) fresh ++ after_views keep r o y)
back_filled keep fresh cs y l None o s e h = tt
back_filled keep fresh cs y l (Some g) o s e h =
    (omega (arith, s.begins, s.ends, len-stays (split_between l (Some g)) fresh (later_view g.view (y - g.from))), after_filled keep (items_of cs) g o y e h)

pub filled-parts : (keep : Bool) (fresh : ℕ) (cs : List Cell) (x y : ℕ) (s : Seams) (views : List ItemView) → AreSeams cs x y s → EachHolds (items_of cs) → AllFilled views → AllFilled (parts_between keep s x y views fresh)
filled-parts keep fresh cs x y s views seams h new =
    filled-append (front_views keep s.left x ++ views) (back_views s.right y (split_between s.left s.right) fresh ++ after_views keep s.right s.after y)
    (filled-append (front_views keep s.left x) views (front_filled keep cs x s.left seams.left) new)
    (back_filled keep fresh cs y s.left s.right s.after seams.right seams.after h)
