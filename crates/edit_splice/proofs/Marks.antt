-- The dissolves that a splice keeps. Footprints lie within the items at their cut and do not meet, so only that of the
-- last item before the range can reach into it from the left, and only that of the item after the first behind it
-- from the right.
use Rattle.std.proofs.Common.{◌≡◌, ℕ, zero, suc, ◌+◌, ◌-◌, ◌<◌, ◌≤◌, Bool, true, false, cond, leb, ◌&&◌, List, [], ◌∷◌, ◌++◌, length, min, Option, Some, None, refl, sym, ap, ◌∙◌, arith, append_assoc}
use Rattle.std.proofs.lemmas.Bool.{le-leb, lt-ltb}
use Rattle.frame_meaning.specs.declared.cells.What.{What}
use Rattle.frame_meaning.specs.declared.cells.Mark.{Mark}
use Rattle.frame_meaning.specs.declared.cells.Link.{Link}
use Rattle.frame_meaning.specs.declared.cells.Cell.{Cell}
use Rattle.frame_meaning.specs.declared.frames.Side.{Side}
use Rattle.frame_meaning.specs.Cells.{span, next_side}
use Rattle.composables.specs.declared.items.ItemView.{ItemView}
use Rattle.composables.specs.Items.{marked, view_cells, cells_of}
use Rattle.composables.specs.Joined.{frames_in}
use Rattle.composables.specs.TrackFacts.{EachHolds, first_mark, left_reach, right_reach}
use Rattle.composables.proofs.Joining.{length-view_cells}
use Rattle.composables.specs.Views.{later_view}
use Rattle.edit_splice.specs.Parts.{kept_before, kept_behind, after_view}
use Rattle.edit_splice.proofs.Surviving.{before_splice, behind_splice}
use Rattle.edit_splice.proofs.Spans.{mark_from, view_from}

-- cells in a row
before-append : (keep : Bool) (room : ℕ) (cs ds : List Cell) → before_splice keep room (cs ++ ds) ≡ before_splice keep room cs ++ before_splice keep (room - length cs) ds
before-append keep room [] ds = let e : room - 0 ≡ room = omega arith in sym (ap (λ (k : ℕ). before_splice keep k ds) e)
before-append keep room (c ∷ cs) ds =
    let e : room - 1 - length cs ≡ room - suc (length cs) = omega arith in
    ap (λ es. record c { mark = kept_before keep room c.mark } ∷ es) (before-append keep (room - 1) cs ds ∙ ap (λ (k : ℕ). before_splice keep (room - 1) cs ++ before_splice keep k ds) e)

behind-append : (keep : Bool) (n : ℕ) (cs ds : List Cell) → behind_splice keep n (cs ++ ds) ≡ behind_splice keep n cs ++ behind_splice keep (n + length cs) ds
behind-append keep n [] ds = let e : n + 0 ≡ n = omega arith in sym (ap (λ (k : ℕ). behind_splice keep k ds) e)
behind-append keep n (c ∷ cs) ds =
    let e : n + 1 + length cs ≡ n + suc (length cs) = omega arith in
    ap (λ es. record c { mark = kept_behind keep n c.mark } ∷ es) (behind-append keep (n + 1) cs ds ∙ ap (λ (k : ℕ). behind_splice keep (n + 1) cs ++ behind_splice keep k ds) e)

-- the cells of one item or gap
before-span : (keep : Bool) (room : ℕ) (i : Option ℕ) (s : Side What) (l : Option Link) (n : ℕ) → before_splice keep room (span i s l n) ≡ span i s l n
before-span keep room i s l zero = refl
before-span keep room i s l (suc n) = ap (λ cs. record { item = i; side = s; mark = None; link = l } ∷ cs) (before-span keep (room - 1) i (next_side s) l n)

before_marked : (keep : Bool) (room : ℕ) (m : Option Mark) (i : Option ℕ) (s : Side What) (l : Option Link) (n : ℕ) → before_splice keep room (marked m (span i s l n)) ≡ marked (kept_before keep room m) (span i s l n)
before_marked keep room m i s l zero = refl
before_marked keep room m i s l (suc n) = ap (λ cs. record { item = i; side = s; mark = kept_before keep room m; link = l } ∷ cs) (before-span keep (room - 1) i (next_side s) l n)

behind-span : (keep : Bool) (n : ℕ) (i : Option ℕ) (s : Side What) (l : Option Link) (k : ℕ) → behind_splice keep n (span i s l k) ≡ span i s l k
behind-span keep n i s l zero = refl
behind-span keep n i s l (suc k) = ap (λ cs. record { item = i; side = s; mark = None; link = l } ∷ cs) (behind-span keep (n + 1) i (next_side s) l k)

behind_marked : (keep : Bool) (n : ℕ) (m : Option Mark) (i : Option ℕ) (s : Side What) (l : Option Link) (k : ℕ) → behind_splice keep n (marked m (span i s l k)) ≡ marked (kept_behind keep n m) (span i s l k)
behind_marked keep n m i s l zero = refl
behind_marked keep n m i s l (suc k) = ap (λ cs. record { item = i; side = s; mark = kept_behind keep n m; link = l } ∷ cs) (behind-span keep (n + 1) i (next_side s) l k)

pub before-view : (keep : Bool) (room : ℕ) (v : ItemView) → before_splice keep room (view_cells v) ≡ view_cells (record v { mark = kept_before keep room v.mark })
before-view keep room v = before_marked keep room v.mark v.item v.first v.link v.len

pub behind-view : (keep : Bool) (n : ℕ) (v : ItemView) → behind_splice keep n (view_cells v) ≡ view_cells (after_view keep n v)
behind-view keep n v = behind_marked keep n v.mark v.item v.first v.link v.len

-- a dissolve that does not reach so far stays
kept_left : (keep : Bool) (room : ℕ) (m : Option Mark) → right_reach m ≤ room → kept_before keep room m ≡ m
kept_left keep room None h = refl
kept_left true room (Some m) h = let e : min m.b room ≡ m.b = omega (arith, h) in ap (λ (n : ℕ). Some (record m { b = n })) e
kept_left false room (Some m) h = ap (λ (b : Bool). cond b (Some m) None) (le-leb m.b room h)

kept_right : (keep : Bool) (n : ℕ) (m : Option Mark) → 0 < n → left_reach m ≤ n → kept_behind keep n m ≡ m
kept_right keep n None p h = refl
kept_right true n (Some m) p h =
    let e : min m.a n ≡ m.a = omega (arith, h) in
    ap (λ (b : Bool). cond b (Some (record m { a = min m.a n })) None) (lt-ltb 0 n p) ∙ ap (λ (k : ℕ). Some (record m { a = k })) e
kept_right false n (Some m) p h = ap (λ (b : Bool). cond (b && leb m.a n) (Some m) None) (lt-ltb 0 n p) ∙ ap (λ (b : Bool). cond b (Some m) None) (le-leb m.a n h)

none_at_seam : (keep : Bool) (m : Option Mark) → kept_behind keep 0 m ≡ None
none_at_seam keep None = refl
none_at_seam true (Some m) = refl
none_at_seam false (Some m) = refl

none_from : (keep : Bool) (k : ℕ) (m : Option Mark) → kept_behind keep 0 (mark_from k m) ≡ None
none_from keep k m = none_at_seam keep (mark_from k m)

-- the later part of an item or gap has none
pub behind-later : (keep : Bool) (v : ItemView) (k : ℕ) → behind_splice keep 0 (view_cells (view_from v k)) ≡ view_cells (later_view v k)
behind-later keep v k = behind-view keep 0 (view_from v k) ∙ ap (λ (m : Option Mark). view_cells (record (later_view v k) { mark = m })) (none_from keep k v.mark)

-- items before the last one before the range keep theirs
pub before-kept : (keep : Bool) (us zs : List ItemView) (ds : List Cell) (x : ℕ) → EachHolds (us ++ zs) → frames_in us ≤ x → before_splice keep x (cells_of us ++ ds) ≡ cells_of us ++ before_splice keep (x - frames_in us) ds
before-kept keep [] zs ds x h le = let e : x - 0 ≡ x = omega arith in sym (ap (λ (k : ℕ). before_splice keep k ds) e)
before-kept keep (u ∷ us) zs ds x h le =
    let past : x - length (view_cells u) ≡ x - u.len = omega (arith, length-view_cells u) in
    let rest : x - u.len - frames_in us ≡ x - (u.len + frames_in us) = omega arith in
    let stays : kept_before keep x u.mark ≡ u.mark = kept_left keep x u.mark (omega (arith, h.0.room, le)) in
    ap (before_splice keep x) (append_assoc (view_cells u) (cells_of us) ds)
    ∙ (before-append keep x (view_cells u) (cells_of us ++ ds)
    ∙ (ap (λ cs. cs ++ before_splice keep (x - length (view_cells u)) (cells_of us ++ ds)) (before-view keep x u ∙ ap (λ (m : Option Mark). view_cells (record u { mark = m })) stays)
    ∙ (ap (λ (k : ℕ). view_cells u ++ before_splice keep k (cells_of us ++ ds)) past
    ∙ (ap (λ cs. view_cells u ++ cs) (before-kept keep us zs ds (x - u.len) h.1 (omega (arith, le)))
    ∙ (ap (λ (k : ℕ). view_cells u ++ (cells_of us ++ before_splice keep k ds)) rest
    ∙ sym (append_assoc (view_cells u) (cells_of us) (before_splice keep (x - (u.len + frames_in us)) ds)))))))

-- items behind the first of which the dissolve begins behind the range keep theirs
behind-kept : (keep : Bool) (n : ℕ) (ws : List ItemView) → 0 < n → EachHolds ws → left_reach (first_mark ws) ≤ n → behind_splice keep n (cells_of ws) ≡ cells_of ws
behind-kept keep n [] p h le = refl
behind-kept keep n (w ∷ ws) p h le =
    let past : n + length (view_cells w) ≡ n + w.len = omega (arith, length-view_cells w) in
    behind-append keep n (view_cells w) (cells_of ws)
    ∙ (ap (λ cs. cs ++ behind_splice keep (n + length (view_cells w)) (cells_of ws)) (behind-view keep n w ∙ ap (λ (m : Option Mark). view_cells (record w { mark = m })) (kept_right keep n w.mark p le))
    ∙ (ap (λ (k : ℕ). view_cells w ++ behind_splice keep k (cells_of ws)) past
    ∙ ap (λ cs. view_cells w ++ cs) (behind-kept keep (n + w.len) ws (omega (arith, p)) h.1 (omega (arith, h.0.room)))))

-- so only the item after the first behind the range can lose one
pub behind-first : (keep : Bool) (n : ℕ) (w : ItemView) (ws : List ItemView) → 0 < n → EachHolds (w ∷ ws) → behind_splice keep n (cells_of (w ∷ ws)) ≡ cells_of (after_view keep n w ∷ ws)
behind-first keep n w ws p h =
    let past : n + length (view_cells w) ≡ n + w.len = omega (arith, length-view_cells w) in
    behind-append keep n (view_cells w) (cells_of ws)
    ∙ (ap (λ cs. cs ++ behind_splice keep (n + length (view_cells w)) (cells_of ws)) (behind-view keep n w)
    ∙ (ap (λ (k : ℕ). view_cells (after_view keep n w) ++ behind_splice keep k (cells_of ws)) past
    ∙ ap (λ cs. view_cells (after_view keep n w) ++ cs) (behind-kept keep (n + w.len) ws (omega (arith, p)) h.1 (omega (arith, h.0.room)))))

-- the cells behind the range, of which the first are of one item or gap
pub behind-parts : (keep : Bool) (v : ItemView) (k : ℕ) (ds : List Cell) → behind_splice keep 0 (view_cells (view_from v k) ++ ds) ≡ view_cells (later_view v k) ++ behind_splice keep (v.len - k) ds
behind-parts keep v k ds =
    let past : 0 + length (view_cells (view_from v k)) ≡ v.len - k = omega (arith, length-view_cells (view_from v k)) in
    behind-append keep 0 (view_cells (view_from v k)) ds
    ∙ (ap (λ cs. cs ++ behind_splice keep (0 + length (view_cells (view_from v k))) ds) (behind-later keep v k)
    ∙ ap (λ (j : ℕ). view_cells (later_view v k) ++ behind_splice keep j ds) past)
