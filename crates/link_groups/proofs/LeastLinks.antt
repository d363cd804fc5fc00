-- The least link that reaches a track which is not named, item by item and track by track.
use Rattle.std.proofs.Common.{◌≡◌, ℕ, zero, suc, ◌+◌, ◌-◌, ◌<◌, ◌≤◌, ◌^◌, ◌⊎◌, inl, inr, Bool, true, false, cond, not, ◌&&◌, List, [], ◌∷◌, ◌++◌, drop, take, length, get_or, Option, Some, None, refl, sym, ap, ◌∙◌, arith, subst, slice_get, ⊎_elim, append_assoc}
use Rattle.std.proofs.lemmas.Bool.{cases_lt}
use Rattle.std.proofs.lemmas.List.{append-nil, drop_all, drop-append-le, take_more, take_all}
use Rattle.std.proofs.lemmas.Option.{slice_get_within, get_or_from_slice_get}
use Rattle.std.proofs.Math.Seq.{drop-append-add}
use Rattle.frame_meaning.specs.declared.cells.Cell.{Cell}
use Rattle.frame_meaning.specs.declared.cells.Link.{Link}
use Rattle.frame_meaning.specs.declared.cells.Mark.{Mark}
use Rattle.frame_meaning.specs.declared.cells.What.{What}
use Rattle.frame_meaning.specs.declared.frames.Side.{Side}
use Rattle.frame_meaning.specs.Cells.{next_side, span}
use Rattle.composables.specs.declared.items.ItemView.{ItemView}
use Rattle.composables.specs.Items.{cells_of, items_of, marked, view_cells}
use Rattle.composables.specs.Joined.{frames_in}
use Rattle.composables.specs.Links.{cells_from, first_unnamed, is_named, least_link, least_outside, link_before, outside}
use Rattle.composables.specs.TrackFacts.{EachHolds, IsKept}
use Rattle.composables.specs.TrackSets.{has_track, tracks_from, tracks_in}
use Rattle.composables.specs.TrackState.{TrackState}
use Rattle.composables.proofs.Frames.{frames_in-append, frames_in-take_le, no_view}
use Rattle.composables.proofs.Joining.{cells_of-append, length-cells_of}
use Rattle.link_groups.proofs.LinkOrder.{Before, is-before, not-before, before-is, not-is, before-then}

-- what is before m is before l, or l is before m
before_cases : (k l m : Link) → Before k m → Before k l ⊎ Before l m
before_cases k l m p = by (link_before k l) refl where
  by : (b : Bool) → link_before k l ≡ b → Before k l ⊎ Before l m
  by true e = inl (is-before k l e)
  by false e = inr (behind p (not-before k l e)) where
    behind : Before k m → (Before k l → ⊥) → Before l m
    behind p n = at (cases_lt k.home l.home) p where
      at : (k.home < l.home) ⊎ (l.home ≤ k.home) → Before k m → Before l m
      at (inl less) q = absurd (n (inl less))
      at (inr le) (inl q) = inl (omega (arith, le, q))
      at (inr le) (inr q) = in_home (cases_lt l.home m.home) where
        in_home : (l.home < m.home) ⊎ (m.home ≤ l.home) → Before l m
        in_home (inl less) = inl less
        in_home (inr more) = let same : l.home ≡ m.home = omega (arith, le, more, q.0) in inr (same, number (cases_lt k.number l.number)) where
          number : (k.number < l.number) ⊎ (l.number ≤ k.number) → l.number < m.number
          number (inl less) = let home : k.home ≡ l.home = omega (arith, le, more, q.0) in absurd (n (inr (home, less)))
          number (inr le) = omega (arith, le, q.1)

least_both : (l m : Link) (b : Bool) → link_before m l ≡ b → least_link (Some l) (Some m) ≡ cond b (Some m) (Some l)
least_both l m b e = ap (λ (b : Bool). cond b (Some m) (Some l)) e

-- the least of three, whichever two come first
three : (l m n : Link) → least_link (Some l) (least_link (Some m) (Some n)) ≡ least_link (least_link (Some l) (Some m)) (Some n)
three l m n = by (link_before n m) (link_before m l) refl refl where
  by : (a b : Bool) → link_before n m ≡ a → link_before m l ≡ b → least_link (Some l) (least_link (Some m) (Some n)) ≡ least_link (least_link (Some l) (Some m)) (Some n)
  by true true e f =
      ap (least_link (Some l)) (least_both m n true e)
      ∙ (least_both l n true (before-is n l (before-then n m l (is-before n m e) (is-before m l f)))
      ∙ sym (ap (λ (o : Option Link). least_link o (Some n)) (least_both l m true f) ∙ least_both m n true e))
  by true false e f =
      ap (least_link (Some l)) (least_both m n true e)
      ∙ sym (ap (λ (o : Option Link). least_link o (Some n)) (least_both l m false f))
  by false true e f =
      ap (least_link (Some l)) (least_both m n false e)
      ∙ (least_both l m true f
      ∙ sym (ap (λ (o : Option Link). least_link o (Some n)) (least_both l m true f) ∙ least_both m n false e))
  by false false e f =
      ap (least_link (Some l)) (least_both m n false e)
      ∙ (least_both l m false f
      ∙ sym (ap (λ (o : Option Link). least_link o (Some n)) (least_both l m false f)
      ∙ least_both l n false (not-is n l (λ p. ⊎_elim (not-before n m e) (not-before m l f) (before_cases n m l p)))))

pub least-assoc : (a b c : Option Link) → least_link a (least_link b c) ≡ least_link (least_link a b) c
least-assoc None b c = refl
least-assoc (Some l) None c = refl
least-assoc (Some l) (Some m) None = sym (least_end (least_link (Some l) (Some m))) where
  least_end : (o : Option Link) → least_link o None ≡ o
  least_end None = refl
  least_end (Some l) = refl
least-assoc (Some l) (Some m) (Some n) = three l m n

pub least-none : (o : Option Link) → least_link o None ≡ o
least-none None = refl
least-none (Some l) = refl

least_self : (o : Option Link) → least_link o o ≡ o
least_self None = refl
least_self (Some l) = by (link_before l l) where
  by : (b : Bool) → cond b (Some l) (Some l) ≡ Some l
  by true = refl
  by false = refl

-- of cells one after another

pub outside-append : (named : List TrackState) (cs ds : List Cell) → least_outside named (cs ++ ds) ≡ least_link (least_outside named cs) (least_outside named ds)
outside-append named [] ds = refl
outside-append named (c ∷ cs) ds =
    ap (least_link (outside named c.link)) (outside-append named cs ds) ∙ least-assoc (outside named c.link) (least_outside named cs) (least_outside named ds)

span_outside : (named : List TrackState) (i : Option ℕ) (s : Side What) (l : Option Link) (n : ℕ) → least_outside named (span i s l (suc n)) ≡ outside named l
span_outside named i s l zero = least-none (outside named l)
span_outside named i s l (suc n) = ap (least_link (outside named l)) (span_outside named i (next_side s) l n) ∙ least_self (outside named l)

drop_span : (named : List TrackState) (i : Option ℕ) (s : Side What) (l : Option Link) (k n : ℕ) → k < n → least_outside named (drop k (span i s l n)) ≡ outside named l
drop_span named i s l k zero h = absurd (omega (arith, h))
drop_span named i s l zero (suc n) h = span_outside named i s l n
drop_span named i s l (suc k) (suc n) h = drop_span named i (next_side s) l k n (omega (arith, h))

marked_outside : (named : List TrackState) (m : Option Mark) (k : ℕ) (cs : List Cell) → least_outside named (drop k (marked m cs)) ≡ least_outside named (drop k cs)
marked_outside named m k [] = refl
marked_outside named m zero (c ∷ cs) = refl
marked_outside named m (suc k) (c ∷ cs) = refl

view_outside : (named : List TrackState) (v : ItemView) (k : ℕ) → k < v.len → least_outside named (drop k (view_cells v)) ≡ outside named v.link
view_outside named v k h =
    marked_outside named v.mark k (span v.item v.first v.link v.len) ∙ drop_span named v.item v.first v.link k v.len h

-- the items up to an index, and one more

more_cells : (vs : List ItemView) (i : ℕ) (v : ItemView) → slice_get vs i ≡ Some v → cells_of (take (i + 1) vs) ≡ cells_of (take i vs) ++ view_cells v
more_cells vs i v e =
    let lt = slice_get_within vs i v e in
    ap cells_of (take_more vs i no_view lt ∙ ap (λ (u : ItemView). take i vs ++ u ∷ []) (get_or_from_slice_get vs i v no_view e))
    ∙ (cells_of-append (take i vs) (v ∷ []) ∙ ap (λ (cs : List Cell). cells_of (take i vs) ++ cs) (append-nil (view_cells v)))

pub frames-more : (vs : List ItemView) (i : ℕ) (v : ItemView) → slice_get vs i ≡ Some v → frames_in (take (i + 1) vs) ≡ frames_in (take i vs) + v.len
frames-more vs i v e =
    let lt = slice_get_within vs i v e in
    let one : v.len + 0 ≡ v.len = omega arith in
    ap frames_in (take_more vs i no_view lt ∙ ap (λ (u : ItemView). take i vs ++ u ∷ []) (get_or_from_slice_get vs i v no_view e))
    ∙ (frames_in-append (take i vs) (v ∷ []) ∙ ap (λ (n : ℕ). frames_in (take i vs) + n) one)

pub drop_over : (y : ℕ) (cs ds : List Cell) → drop y (cs ++ ds) ≡ drop y cs ++ drop (y - length cs) ds
drop_over y cs ds = ⊎_elim before behind (cases_lt (length cs) y) where
  before : length cs < y → drop y (cs ++ ds) ≡ drop y cs ++ drop (y - length cs) ds
  before less =
      let e : y ≡ length cs + (y - length cs) = omega (arith, less) in
      ap (λ (n : ℕ). drop n (cs ++ ds)) e
      ∙ (drop-append-add cs ds (y - length cs) ∙ ap (λ (l : List Cell). l ++ drop (y - length cs) ds) (sym (drop_all y cs (omega (arith, less)))))

  behind : y ≤ length cs → drop y (cs ++ ds) ≡ drop y cs ++ drop (y - length cs) ds
  behind le =
      let z : y - length cs ≡ 0 = omega (arith, le) in
      drop-append-le y cs ds le ∙ ap (λ (n : ℕ). drop y cs ++ drop n ds) (sym z)

-- nothing of the items before a place
pub none-before : (named : List TrackState) (y i : ℕ) (vs : List ItemView) → frames_in (take i vs) ≤ y → None ≡ least_outside named (drop y (cells_of (take i vs)))
none-before named y i vs le =
    let all = length-cells_of (take i vs) in
    sym (ap (least_outside named) (drop_all y (cells_of (take i vs)) (omega (arith, all, le))))

pub item-passed : (named : List TrackState) (y i : ℕ) (vs : List ItemView) (v : ItemView) → slice_get vs i ≡ Some v → frames_in (take (i + 1) vs) ≤ y
    → least_outside named (drop y (cells_of (take (i + 1) vs))) ≡ least_outside named (drop y (cells_of (take i vs)))
item-passed named y i vs v e le =
    let all = length-cells_of (take (i + 1) vs) in
    let fewer = length-cells_of (take i vs) in
    let frames = frames-more vs i v e in
    ap (least_outside named) (drop_all y (cells_of (take (i + 1) vs)) (omega (arith, all, le)))
    ∙ sym (ap (least_outside named) (drop_all y (cells_of (take i vs)) (omega (arith, fewer, frames, le))))

pub item-met : (named : List TrackState) (y i : ℕ) (vs : List ItemView) (v : ItemView) → slice_get vs i ≡ Some v → y < frames_in (take (i + 1) vs) → 0 < v.len
    → least_outside named (drop y (cells_of (take (i + 1) vs))) ≡ least_link (least_outside named (drop y (cells_of (take i vs)))) (outside named v.link)
item-met named y i vs v e less some =
    let frames = frames-more vs i v e in
    let fewer = length-cells_of (take i vs) in
    let within : y - length (cells_of (take i vs)) < v.len = omega (arith, fewer, frames, less, some) in
    ap (λ (cs : List Cell). least_outside named (drop y cs)) (more_cells vs i v e)
    ∙ (ap (least_outside named) (drop_over y (cells_of (take i vs)) (view_cells v))
    ∙ (outside-append named (drop y (cells_of (take i vs))) (drop (y - length (cells_of (take i vs))) (view_cells v))
    ∙ ap (least_link (least_outside named (drop y (cells_of (take i vs))))) (view_outside named v (y - length (cells_of (take i vs))) within)))

-- the tracks up to an index, and one more

pub tracks-more : (named : List TrackState) (y i : ℕ) (ts : List TrackState) (t : TrackState) → i < length ts → t ≡ get_or ts i t
    → least_outside named (cells_from y (take (i + 1) ts)) ≡ least_link (least_outside named (cells_from y (take i ts))) (least_outside named (drop y t.cells))
tracks-more named y i ts t lt is =
    ap (λ (us : List TrackState). least_outside named (cells_from y us)) (take_more ts i t lt ∙ ap (λ (u : TrackState). take i ts ++ u ∷ []) (sym is))
    ∙ (ap (least_outside named) (from_append y (take i ts) t)
    ∙ outside-append named (cells_from y (take i ts)) (drop y t.cells)) where
      from_append : (y : ℕ) (ts : List TrackState) (t : TrackState) → cells_from y (ts ++ t ∷ []) ≡ cells_from y ts ++ drop y t.cells
      from_append y [] t = append-nil (drop y t.cells)
      from_append y (u ∷ us) t =
          ap (λ (cs : List Cell). drop y u.cells ++ cs) (from_append y us t) ∙ sym (append_assoc (drop y u.cells) (cells_from y us) (drop y t.cells))

pub tracks-all : (named : List TrackState) (y i : ℕ) (ts : List TrackState) → length ts ≤ i → least_outside named (cells_from y (take i ts)) ≡ least_outside named (cells_from y ts)
tracks-all named y i ts le = ap (λ (us : List TrackState). least_outside named (cells_from y us)) (take_all i ts le)

-- the first track of a set that is not named

true_false : true ≡ false → ⊥
true_false e = cc

if_step : (c b : Bool) (named : List TrackState) (t : ℕ) (rest : List ℕ) → is_named named t ≡ b → (c && not b) ≡ false → first_unnamed named (cond c (t ∷ rest) rest) ≡ first_unnamed named rest
if_step false b named t rest e f = refl
if_step true true named t rest e f = ap (λ (b : Bool). cond b (first_unnamed named rest) (Some t)) e
if_step true false named t rest e f = absurd (true_false f)

found_step : (c b : Bool) (named : List TrackState) (t : ℕ) (rest : List ℕ) → is_named named t ≡ b → (c && not b) ≡ true → first_unnamed named (cond c (t ∷ rest) rest) ≡ Some t
found_step false b named t rest e f = absurd (true_false (sym f))
found_step true true named t rest e f = absurd (true_false (sym f))
found_step true false named t rest e f = ap (λ (b : Bool). cond b (first_unnamed named rest) (Some t)) e

-- the tracks of a set from t on
unfoldable pub tracks_after : ℕ → ℕ → List ℕ
tracks_after s t = tracks_from s t (32 - t)

pub at-start : (s : ℕ) → tracks_in s ≡ tracks_after s 0
unfolding tracks_in tracks_after
at-start s = refl

one_more : (s t n m : ℕ) → n ≡ suc m → tracks_from s t n ≡ cond (has_track s t) (t ∷ tracks_from s (suc t) m) (tracks_from s (suc t) m)
one_more s t n m e = ap (tracks_from s t) e

pub passed : (named : List TrackState) (s t : ℕ) → t < 32 → (has_track s t && not (is_named named t)) ≡ false → first_unnamed named (tracks_after s t) ≡ first_unnamed named (tracks_after s (t + 1))
unfolding tracks_after
passed named s t h f =
    let next : suc t ≡ t + 1 = omega arith in
    ap (first_unnamed named) (one_more s t (32 - t) (32 - suc t) (omega (arith, h)))
    ∙ (if_step (has_track s t) (is_named named t) named t (tracks_from s (suc t) (32 - suc t)) refl f
    ∙ ap (λ (k : ℕ). first_unnamed named (tracks_from s k (32 - k))) next)

pub found : (named : List TrackState) (s t : ℕ) → t < 32 → (has_track s t && not (is_named named t)) ≡ true → first_unnamed named (tracks_after s t) ≡ Some t
unfolding tracks_after
found named s t h f =
    ap (first_unnamed named) (one_more s t (32 - t) (32 - suc t) (omega (arith, h)))
    ∙ found_step (has_track s t) (is_named named t) named t (tracks_from s (suc t) (32 - suc t)) refl f

pub at-end : (named : List TrackState) (s t : ℕ) → t ≡ 32 → first_unnamed named (tracks_after s t) ≡ None
unfolding tracks_after
at-end named s t e = let z : 32 - t ≡ 0 = omega (arith, e) in ap (λ (k : ℕ). first_unnamed named (tracks_from s t k)) z

-- an item or gap that is there has a frame
pub filled-at : (vs : List ItemView) (i : ℕ) (v : ItemView) → slice_get vs i ≡ Some v → EachHolds vs → 0 < v.len
filled-at [] i v e h = absurd (omega (arith, slice_get_within [] i v e))
filled-at (w ∷ ws) zero v e h = let same : w ≡ v = cc in subst (λ (u : ItemView). 0 < u.len) same h.0.filled
filled-at (w ∷ ws) (suc i) v e h = filled-at ws i v e h.1

pub frames-within : (t : TrackState) (i : ℕ) → IsKept t → frames_in (take i (items_of t.cells)) < 2 ^ 32
frames-within t i kept = omega (arith, frames_in-take_le i (items_of t.cells), length-cells_of (items_of t.cells), ap length kept.whole, kept.short)
