-- A track of which the mark at a cut is set.
use Rattle.std.proofs.Common.{◌≡◌, ℕ, zero, suc, ◌+◌, ◌<◌, ◌≤◌, ◌^◌, Bool, true, false, not, leb, eqb, cond, ◌&&◌, List, [], ◌∷◌, ◌++◌, length, Option, Some, None, IfSome, IsSome, IsNone, Result, Ok, Err, refl, sym, ap, ◌∙◌, arith, subst, append_assoc}
use Rattle.std.proofs.lemmas.Bool.{and_parts, leb-true, eqb-false, false≢true}
use Rattle.frame_meaning.specs.declared.cells.What.{What}
use Rattle.frame_meaning.specs.declared.cells.What.TheVariants.{Media, Nest}
use Rattle.frame_meaning.specs.declared.cells.Mark.{Mark}
use Rattle.frame_meaning.specs.declared.cells.Link.{Link}
use Rattle.frame_meaning.specs.declared.cells.Cell.{Cell}
use Rattle.frame_meaning.specs.declared.frames.Side.{Side}
use Rattle.frame_meaning.specs.declared.frames.Side.TheVariants.{Dark, Pic}
use Rattle.frame_meaning.specs.Cells.{span}
use Rattle.frame_meaning.specs.Render.{cell_at}
use Rattle.composables.specs.declared.items.ItemView.{ItemView}
use Rattle.composables.specs.declared.calls.Dissolve.{Dissolve}
use Rattle.composables.specs.declared.calls.Undissolve.{Undissolve}
use Rattle.composables.specs.declared.media.Table.{Table}
use Rattle.composables.specs.declared.refusals.Done.{Done}
use Rattle.composables.specs.declared.refusals.Done.TheVariants.{Plain}
use Rattle.composables.specs.declared.refusals.Refusal.{Refusal}
use Rattle.composables.specs.declared.refusals.Refusal.TheVariants.{DissolveRoom, NotACut}
use Rattle.composables.specs.declared.refusals.Which.TheVariants.{Left, Right}
use Rattle.composables.specs.Bounds.{bounds_of}
use Rattle.composables.specs.Changes.{changed_at, changed_track, with_mark}
use Rattle.composables.specs.Good.{IsGood, EachLiesIn, EachLinkOf, LiesIn, SideLiesIn}
use Rattle.composables.specs.Items.{marked, view_cells, cells_of, items_of}
use Rattle.composables.specs.Joined.{frames_in, IsTight, AllFilled}
use Rattle.composables.specs.TrackFacts.{Apart, EachHolds, HasSource, Holds, IsKept, IsNoNest, Lacks, NumbersBelow, first_mark, left_reach, right_reach}
use Rattle.composables.specs.TrackState.{TrackState}
use Rattle.composables.proofs.Joining.{items_of-tight, length-cells_of, cells_of-append}
use Rattle.composables.proofs.Frames.{frames_in-append}
use Rattle.dissolves.specs.Pieces.{SideReaches}
use Rattle.dissolves.specs.declared.cuts.Cut.{Cut}
use Rattle.dissolves.specs.Cuts.{IsCutAt, dissolve_refusal, has_frames, is_nest, lie_in, room_left, room_refusal, room_right}
use Rattle.composables.specs.Answers.{unless}
use Rattle.dissolves.specs.Marking.{dissolve_on, mark_asked, mark_at_place, marked_track, undissolve_on, undissolve_refusal}
use Rattle.dissolves.proofs.AtCuts.{filled_each, mark_there, refusal_is, sides_of, tight_items, Sides}

-- the cells

mark_behind : (xs ys : List Cell) (m : Option Mark) → mark_at_place (xs ++ ys) (length xs) m ≡ xs ++ mark_at_place ys 0 m
mark_behind [] ys m = refl
mark_behind (x ∷ xs) ys m = ap (λ zs. x ∷ zs) (mark_behind xs ys m)

mark_front : (k m : Option Mark) (i : Option ℕ) (s : Side What) (l : Option Link) (n : ℕ) (ys : List Cell) → 0 < n → mark_at_place (marked k (span i s l n) ++ ys) 0 m ≡ marked m (span i s l n) ++ ys
mark_front k m i s l zero ys h = absurd (omega arith)
mark_front k m i s l (suc n) ys h = refl

marked_cells : (us ws : List ItemView) (r : ItemView) (p : ℕ) (m : Option Mark) → p ≡ frames_in us → 0 < r.len → mark_at_place (cells_of (us ++ r ∷ ws)) p m ≡ cells_of (us ++ with_mark m r ∷ ws)
marked_cells us ws r p m is filled =
    let at : p ≡ length (cells_of us) = is ∙ sym (length-cells_of us) in
    ap (λ (cs : List Cell). mark_at_place cs p m) (cells_of-append us (r ∷ ws))
    ∙ (ap (λ (k : ℕ). mark_at_place (cells_of us ++ (view_cells r ++ cells_of ws)) k m) at
    ∙ (mark_behind (cells_of us) (view_cells r ++ cells_of ws) m
    ∙ (ap (λ (cs : List Cell). cells_of us ++ cs) (mark_front r.mark m r.item r.first r.link r.len (cells_of ws) filled)
    ∙ sym (cells_of-append us (with_mark m r ∷ ws)))))

changed_is : (f : ItemView → ItemView) (us ws : List ItemView) (r : ItemView) → changed_at f (length us) (us ++ r ∷ ws) ≡ us ++ f r ∷ ws
changed_is f [] ws r = refl
changed_is f (u ∷ us) ws r = ap (λ zs. u ∷ zs) (changed_is f us ws r)

-- what the mark does not touch

tight_marked : (us ws : List ItemView) (r : ItemView) (m : Option Mark) → IsTight (us ++ r ∷ ws) → IsTight (us ++ with_mark m r ∷ ws)
tight_marked [] [] r m h = tt
tight_marked [] (w ∷ ws) r m h = h
tight_marked (u ∷ []) ws r m h = (h.0, tight_marked [] ws r m h.1)
tight_marked (u ∷ v ∷ us) ws r m h = (h.0, tight_marked (v ∷ us) ws r m h.1)

filled_marked : (us ws : List ItemView) (r : ItemView) (m : Option Mark) → AllFilled (us ++ r ∷ ws) → AllFilled (us ++ with_mark m r ∷ ws)
filled_marked [] ws r m h = h
filled_marked (u ∷ us) ws r m h = (h.0, filled_marked us ws r m h.1)

lacks_marked : (i : ℕ) (us ws : List ItemView) (r : ItemView) (m : Option Mark) → Lacks i (us ++ r ∷ ws) → Lacks i (us ++ with_mark m r ∷ ws)
lacks_marked i [] ws r m h = h
lacks_marked i (u ∷ us) ws r m h = (h.0, lacks_marked i us ws r m h.1)

apart_marked : (us ws : List ItemView) (r : ItemView) (m : Option Mark) → Apart (us ++ r ∷ ws) → Apart (us ++ with_mark m r ∷ ws)
apart_marked [] ws r m h = h
apart_marked (u ∷ us) ws r m h = (own u.item h.0, apart_marked us ws r m h.1) where
  own : (o : Option ℕ) → IfSome o (λ i. Lacks i (us ++ r ∷ ws)) → IfSome o (λ i. Lacks i (us ++ with_mark m r ∷ ws))
  own None f = tt
  own (Some i) f = lacks_marked i us ws r m f

below_marked : (n : ℕ) (us ws : List ItemView) (r : ItemView) (m : Option Mark) → NumbersBelow n (us ++ r ∷ ws) → NumbersBelow n (us ++ with_mark m r ∷ ws)
below_marked n [] ws r m h = h
below_marked n (u ∷ us) ws r m h = (h.0, below_marked n us ws r m h.1)

links_marked : (n : ℕ) (us ws : List ItemView) (r : ItemView) (m : Option Mark) → EachLinkOf n (us ++ r ∷ ws) → EachLinkOf n (us ++ with_mark m r ∷ ws)
links_marked n [] ws r m h = h
links_marked n (u ∷ us) ws r m h = (h.0, links_marked n us ws r m h.1)

frames_marked : (us ws : List ItemView) (r : ItemView) (m : Option Mark) → frames_in (us ++ with_mark m r ∷ ws) ≡ frames_in (us ++ r ∷ ws)
frames_marked us ws r m = frames_in-append us (with_mark m r ∷ ws) ∙ sym (frames_in-append us (r ∷ ws))

count_marked : (us ws : List ItemView) (r : ItemView) (m : Option Mark) → length (us ++ with_mark m r ∷ ws) ≡ length (us ++ r ∷ ws)
count_marked [] ws r m = refl
count_marked (u ∷ us) ws r m = ap suc (count_marked us ws r m)

-- what it does

first_same : (us ws ws' : List ItemView) (l : ItemView) → first_mark (us ++ l ∷ ws) ≡ first_mark (us ++ l ∷ ws')
first_same [] ws ws' l = refl
first_same (u ∷ us) ws ws' l = refl

-- the sides of a cut hold a mark
pub record Fits (table : Table) (l r : ItemView) (tail m : Option Mark) : Type 0 where
  pub left : Holds l m
  pub right : Holds (with_mark m r) tail
  pub left_range : SideLiesIn table l.first l.len (left_reach l.mark) (right_reach m)
  pub right_range : SideLiesIn table r.first r.len (left_reach m) (right_reach tail)

each_marked : (us ws : List ItemView) (l r : ItemView) (m : Option Mark) → Holds l m → Holds (with_mark m r) (first_mark ws) → EachHolds (us ++ l ∷ r ∷ ws) → EachHolds (us ++ l ∷ with_mark m r ∷ ws)
each_marked [] ws l r m a b h = (a, (b, h.1.1))
each_marked (u ∷ us) ws l r m a b h = (
  subst (Holds u) (first_same us (r ∷ ws) (with_mark m r ∷ ws) l) h.0,
  each_marked us ws l r m a b h.1,
)

ranges_marked : (table : Table) (us ws : List ItemView) (l r : ItemView) (m : Option Mark) → SideLiesIn table l.first l.len (left_reach l.mark) (right_reach m)
    → SideLiesIn table r.first r.len (left_reach m) (right_reach (first_mark ws)) → EachLiesIn table (us ++ l ∷ r ∷ ws) → EachLiesIn table (us ++ l ∷ with_mark m r ∷ ws)
ranges_marked table [] ws l r m a b h = (a, (b, h.1.1))
ranges_marked table (u ∷ us) ws l r m a b h = (
  subst (λ (o : Option Mark). SideLiesIn table u.first u.len (left_reach u.mark) (right_reach o)) (first_same us (r ∷ ws) (with_mark m r ∷ ws) l) h.0,
  ranges_marked table us ws l r m a b h.1,
)

-- the track after it

pub record IsMarked (table : Table) (t : TrackState) (p : ℕ) (c : Cut) (m : Option Mark) : Type 0 where
  pub state : changed_track t c.index (with_mark m) ≡ marked_track t p m
  pub good : IsGood table (changed_track t c.index (with_mark m))

pub mark_set : (table : Table) (t : TrackState) (p : ℕ) (c : Cut) (m : Option Mark) → IsGood table t → Sides t p c → Fits table c.left c.right c.tail m → IsMarked table t p c m
mark_set table t p c m good s fits =
    let vs = items_of t.cells in
    let kept = good.kept in
    let l = c.left in
    let r = c.right in
    let ws = s.behind in
    let ls = s.before ++ l ∷ [] in
    let ys = ls ++ with_mark m r ∷ ws in
    let zs = s.before ++ l ∷ with_mark m r ∷ ws in
    let long : ys ≡ zs = append_assoc s.before (l ∷ []) (with_mark m r ∷ ws) in
    let was : vs ≡ s.before ++ l ∷ r ∷ ws = s.all ∙ append_assoc s.before (l ∷ []) (r ∷ ws) in
    let filled = subst AllFilled s.all (filled_each vs kept.each) in
    let tight = subst IsTight s.all (tight_items t kept) in
    let items : items_of (cells_of ys) ≡ ys = items_of-tight ys (filled_marked ls ws r m filled) (tight_marked ls ws r m tight) in
    let changed : changed_at (with_mark m) c.index vs ≡ ys =
    ap (λ (i : ℕ). changed_at (with_mark m) i vs) s.index ∙ (ap (changed_at (with_mark m) (length ls)) s.all ∙ changed_is (with_mark m) ls ws r) in
    let cells : mark_at_place t.cells p m ≡ cells_of ys =
    ap (λ (cs : List Cell). mark_at_place cs p m) s.cells ∙ marked_cells ls ws r p m s.place fits.right.filled in
    let tail : Holds (with_mark m r) (first_mark ws) = subst (Holds (with_mark m r)) s.tail fits.right in
    let tail_range : SideLiesIn table r.first r.len (left_reach m) (right_reach (first_mark ws)) =
    subst (λ (o : Option Mark). SideLiesIn table r.first r.len (left_reach m) (right_reach o)) s.tail fits.right_range in
    let len : length (cells_of ys) ≡ length t.cells =
    length-cells_of ys ∙ (frames_marked ls ws r m ∙ (sym (length-cells_of (ls ++ r ∷ ws)) ∙ sym (ap length s.cells))) in
    let u : TrackState = record t { cells = cells_of ys } in
    let u_kept : IsKept u = record {
      whole = ap cells_of items;
      not_before = ap first_mark (items ∙ long) ∙ (first_same s.before (with_mark m r ∷ ws) (r ∷ ws) l ∙ (sym (ap first_mark was) ∙ kept.not_before));
      each = subst EachHolds (sym (items ∙ long)) (each_marked s.before ws l r m fits.left tail (subst EachHolds was kept.each));
      apart = subst Apart (sym items) (apart_marked ls ws r m (subst Apart s.all kept.apart));
      below = subst (NumbersBelow t.next_item) (sym items) (below_marked t.next_item ls ws r m (subst (NumbersBelow t.next_item) s.all kept.below));
      short = omega (arith, len, kept.short);
    } in
    let u_good : IsGood table u = record {
      kept = u_kept;
      ranges = subst (EachLiesIn table) (sym (items ∙ long)) (ranges_marked table s.before ws l r m fits.left_range tail_range (subst (EachLiesIn table) was good.ranges));
      links = subst (EachLinkOf t.number) (sym items) (links_marked t.number ls ws r m (subst (EachLinkOf t.number) s.all good.links));
      frames = omega (arith, len, good.frames);
      items = omega (arith, ap length items, count_marked ls ws r m, ap length s.all, good.items);
    } in
    let same : u ≡ changed_track t c.index (with_mark m) = ap (λ (vs : List ItemView). record t { cells = cells_of vs }) (sym changed) in
    record {
      state = sym same ∙ ap (λ (cs : List Cell). record t { cells = cs }) (sym cells);
      good = subst (IsGood table) same u_good;
    }

-- a mark that is taken away

holds_no_tail : (v : ItemView) (o : Option Mark) → Holds v o → Holds v None
holds_no_tail v o h = record {
  filled = h.filled;
  shows = h.shows;
  mark_filled = h.mark_filled;
  room = omega (arith, h.room);
  source = less v.first h.source;
  head_no_nest = h.head_no_nest;
  tail_no_nest = tt;
} where
  less : (s : Side What) → HasSource s v.len (left_reach v.mark) (right_reach o) → HasSource s v.len (left_reach v.mark) 0
  less Dark p = tt
  less (Pic w k) p = let after : k + v.len + 0 ≤ 2 ^ 32 = omega (arith, p.1) in (p.0, after)

holds_no_head : (v : ItemView) (o : Option Mark) → Holds v o → Holds (with_mark None v) o
holds_no_head v o h = record {
  filled = h.filled;
  shows = h.shows;
  mark_filled = tt;
  room = omega (arith, h.room);
  source = less v.first h.source;
  head_no_nest = tt;
  tail_no_nest = h.tail_no_nest;
} where
  less : (s : Side What) → HasSource s v.len (left_reach v.mark) (right_reach o) → HasSource s v.len 0 (right_reach o)
  less Dark p = tt
  less (Pic w k) p = (omega arith, p.1)

lies_less : (table : Table) (s : Side What) (len before after m n : ℕ) → m ≤ before → n ≤ after → SideLiesIn table s len before after → SideLiesIn table s len m n
lies_less table Dark len before after m n p q h = tt
lies_less table (Pic w k) len before after m n p q h = in_range (bounds_of table w) h where
  in_range : (o : Option (ℕ × ℕ)) → LiesIn o k len before after → LiesIn o k len m n
  in_range None f = f
  in_range (Some (from, to)) f = (omega (arith, f.0), omega (arith, f.1))

-- what the sides of a cut hold
pub record HoldBoth (table : Table) (l r : ItemView) (tail : Option Mark) : Type 0 where
  pub left : Holds l r.mark
  pub right : Holds r tail
  pub left_range : SideLiesIn table l.first l.len (left_reach l.mark) (right_reach r.mark)
  pub right_range : SideLiesIn table r.first r.len (left_reach r.mark) (right_reach tail)

pub hold_both : (table : Table) (t : TrackState) (p : ℕ) (c : Cut) → IsGood table t → Sides t p c → HoldBoth table c.left c.right c.tail
hold_both table t p c good s =
    let was : items_of t.cells ≡ s.before ++ c.left ∷ c.right ∷ s.behind = s.all ∙ append_assoc s.before (c.left ∷ []) (c.right ∷ s.behind) in
    let h = held s.before (subst EachHolds was good.kept.each) in
    let lie = lies s.before (subst (EachLiesIn table) was good.ranges) in
    record {
      left = h.0;
      right = subst (Holds c.right) (sym s.tail) h.1.0;
      left_range = lie.0;
      right_range = subst (λ (o : Option Mark). SideLiesIn table c.right.first c.right.len (left_reach c.right.mark) (right_reach o)) (sym s.tail) lie.1.0;
    } where
      held : (us : List ItemView) → EachHolds (us ++ c.left ∷ c.right ∷ s.behind) → EachHolds (c.left ∷ c.right ∷ s.behind)
      held [] h = h
      held (u ∷ us) h = held us h.1

      lies : (us : List ItemView) → EachLiesIn table (us ++ c.left ∷ c.right ∷ s.behind) → EachLiesIn table (c.left ∷ c.right ∷ s.behind)
      lies [] h = h
      lies (u ∷ us) h = lies us h.1

pub fits_none : (table : Table) (l r : ItemView) (tail : Option Mark) → HoldBoth table l r tail → Fits table l r tail None
fits_none table l r tail h = record {
  left = holds_no_tail l r.mark h.left;
  right = holds_no_head r tail h.right;
  left_range = lies_less table l.first l.len (left_reach l.mark) (right_reach r.mark) (left_reach l.mark) 0 (omega arith) (omega arith) h.left_range;
  right_range = lies_less table r.first r.len (left_reach r.mark) (right_reach tail) 0 (right_reach tail) (omega arith) (omega arith) h.right_range;
}

-- a mark for which there is room

no_nest : (s : Side What) (m : Mark) → not (is_nest s) ≡ true → IsNoNest s (Some m)
no_nest Dark m h = tt
no_nest (Pic (Media n) k) m h = tt
no_nest (Pic (Nest j) k) m h = false≢true h

fits_left : (table : Table) (l : ItemView) (o : Option Mark) (m : Mark) → Holds l o → SideLiesIn table l.first l.len (left_reach l.mark) (right_reach o) → room_left table l m ≡ true
    → SideReaches l.first (l.len + m.b) → Holds l (Some m) × SideLiesIn table l.first l.len (left_reach l.mark) m.b
fits_left table l o m h lie room reach =
    let p = and_parts (not (is_nest l.first) && leb (right_reach l.mark + m.a) l.len) (has_frames table l.first 0 (l.len + m.b)) room in
    let q = and_parts (not (is_nest l.first)) (leb (right_reach l.mark + m.a) l.len) p.0 in (
      record {
        filled = h.filled;
        shows = h.shows;
        mark_filled = h.mark_filled;
        room = leb-true (right_reach l.mark + m.a) l.len q.1;
        source = source_to l.first h.source reach;
        head_no_nest = h.head_no_nest;
        tail_no_nest = no_nest l.first m q.0;
      },
      range_to l.first lie p.1,
    ) where
      source_to : (s : Side What) → HasSource s l.len (left_reach l.mark) (right_reach o) → SideReaches s (l.len + m.b) → HasSource s l.len (left_reach l.mark) m.b
      source_to Dark f g = tt
      source_to (Pic w k) f g = let after : k + l.len + m.b ≤ 2 ^ 32 = omega (arith, g) in (f.0, after)

      range_in : (b : Option (ℕ × ℕ)) (k : ℕ) → LiesIn b k l.len (left_reach l.mark) (right_reach o) → lie_in b k 0 (l.len + m.b) ≡ true → LiesIn b k l.len (left_reach l.mark) m.b
      range_in None k f g = f
      range_in (Some (from, to)) k f g =
          let x = and_parts (leb (from + 0) k) (leb (k + (l.len + m.b)) to) g in
          (f.0, omega (arith, leb-true (k + (l.len + m.b)) to x.1))

      range_to : (s : Side What) → SideLiesIn table s l.len (left_reach l.mark) (right_reach o) → has_frames table s 0 (l.len + m.b) ≡ true → SideLiesIn table s l.len (left_reach l.mark) m.b
      range_to Dark f g = tt
      range_to (Pic w k) f g = range_in (bounds_of table w) k f g

fits_right : (table : Table) (r : ItemView) (tail : Option Mark) (m : Mark) → 0 < m.a + m.b → Holds r tail → SideLiesIn table r.first r.len (left_reach r.mark) (right_reach tail) → room_right table r tail m ≡ true
    → Holds (with_mark (Some m) r) tail × SideLiesIn table r.first r.len m.a (right_reach tail)
fits_right table r tail m some h lie room =
    let p = and_parts (not (is_nest r.first) && leb (m.b + left_reach tail) r.len) (has_frames table r.first m.a r.len) room in
    let q = and_parts (not (is_nest r.first)) (leb (m.b + left_reach tail) r.len) p.0 in (
      record {
        filled = h.filled;
        shows = h.shows;
        mark_filled = some;
        room = leb-true (m.b + left_reach tail) r.len q.1;
        source = source_from r.first h.source p.1;
        head_no_nest = no_nest r.first m q.0;
        tail_no_nest = h.tail_no_nest;
      },
      range_from r.first lie p.1,
    ) where
      before_in : (b : Option (ℕ × ℕ)) (k : ℕ) → lie_in b k m.a r.len ≡ true → m.a ≤ k
      before_in None k g = absurd (false≢true g)
      before_in (Some (from, to)) k g = omega (arith, leb-true (from + m.a) k (and_parts (leb (from + m.a) k) (leb (k + r.len) to) g).0)

      source_from : (s : Side What) → HasSource s r.len (left_reach r.mark) (right_reach tail) → has_frames table s m.a r.len ≡ true → HasSource s r.len m.a (right_reach tail)
      source_from Dark f g = tt
      source_from (Pic w k) f g = (before_in (bounds_of table w) k g, f.1)

      range_in : (b : Option (ℕ × ℕ)) (k : ℕ) → LiesIn b k r.len (left_reach r.mark) (right_reach tail) → lie_in b k m.a r.len ≡ true → LiesIn b k r.len m.a (right_reach tail)
      range_in None k f g = f
      range_in (Some (from, to)) k f g = (leb-true (from + m.a) k (and_parts (leb (from + m.a) k) (leb (k + r.len) to) g).0, f.1)

      range_from : (s : Side What) → SideLiesIn table s r.len (left_reach r.mark) (right_reach tail) → has_frames table s m.a r.len ≡ true → SideLiesIn table s r.len m.a (right_reach tail)
      range_from Dark f g = tt
      range_from (Pic w k) f g = range_in (bounds_of table w) k f g

both_rooms : (x y : Bool) → cond x (cond y None (Some (DissolveRoom Right))) (Some (DissolveRoom Left)) ≡ None → (x ≡ true) × (y ≡ true)
both_rooms true true h = (refl, refl)
both_rooms true false h = cc
both_rooms false y h = cc

pub fits_some : (table : Table) (l r : ItemView) (tail : Option Mark) (m : Mark) → eqb (m.a + m.b) 0 ≡ false → HoldBoth table l r tail → room_refusal table l r tail m ≡ None → SideReaches l.first (l.len + m.b)
    → Fits table l r tail (Some m)
fits_some table l r tail m filled h room reach =
    let none = eqb-false (m.a + m.b) 0 filled in
    let some : 0 < m.a + m.b = omega (arith, none) in
    let rooms = both_rooms (room_left table l m) (room_right table r tail m) room in
    let left = fits_left table l r.mark m h.left h.left_range rooms.0 reach in
    let right = fits_right table r tail m some h.right h.right_range rooms.1 in
    record { left = left.0; right = right.0; left_range = left.1; right_range = right.1 }

-- what the calls leave

pub record Marks (table : Table) (t : TrackState) (p : ℕ) (c : Cut) (m : Option Mark) (result : Result (TrackState × Done) Refusal) : Type 0 where
  pub track : IsMarked table t p c m
  pub meant : result ≡ Ok (changed_track t c.index (with_mark m), Plain)

marks : (table : Table) (t : TrackState) (p : ℕ) (c : Cut) (m : Option Mark) (o : Option Refusal) → o ≡ None → IsMarked table t p c m → Marks table t p c m (unless o (Ok (marked_track t p m, Plain)))
marks table t p c m o is track = record {
  track = track;
  meant = ap (λ (why : Option Refusal). unless why (Ok (marked_track t p m, Plain))) is ∙ ap (λ (u : TrackState). Ok (u, Plain)) (sym track.state);
}

pub dissolve_marks : (table : Table) (t : TrackState) (call : Dissolve) (c : Cut) → eqb (call.a + call.b) 0 ≡ false → IsGood table t → IsCutAt t.cells call.at c
    → room_refusal table c.left c.right c.tail (mark_asked call) ≡ None → SideReaches c.left.first (c.left.len + call.b)
    → Marks table t call.at c (Some (mark_asked call)) (dissolve_on table t call)
dissolve_marks table t call c filled good cut room reach =
    let m = mark_asked call in
    let s = sides_of t call.at c good.kept cut in
    marks table t call.at c (Some m) (dissolve_refusal table t.cells call.at m) (refusal_is table t call.at c m good.kept s filled ∙ room)
    (mark_set table t call.at c (Some m) good s (fits_some table c.left c.right c.tail m filled (hold_both table t call.at c good s) room reach))

pub dissolve_refused : (table : Table) (t : TrackState) (call : Dissolve) (c : Cut) (why : Refusal) → eqb (call.a + call.b) 0 ≡ false → IsKept t → IsCutAt t.cells call.at c
    → room_refusal table c.left c.right c.tail (mark_asked call) ≡ Some why → dissolve_on table t call ≡ Err why
dissolve_refused table t call c why filled kept cut room =
    let m = mark_asked call in
    ap (λ (o : Option Refusal). unless o (Ok (marked_track t call.at (Some m), Plain)))
    (refusal_is table t call.at c m kept (sides_of t call.at c kept cut) filled ∙ room)

pub undissolve_marks : (table : Table) (t : TrackState) (call : Undissolve) (c : Cut) → IsGood table t → IsCutAt t.cells call.at c → IsSome c.right.mark
    → Marks table t call.at c None (undissolve_on t call)
undissolve_marks table t call c good cut some =
    let s = sides_of t call.at c good.kept cut in
    let there = mark_there t call.at c good.kept s in
    marks table t call.at c None (undissolve_refusal (cell_at t.cells call.at).mark call.at)
    (ap (λ (o : Option Mark). undissolve_refusal o call.at) there ∙ allowed c.right.mark some)
    (mark_set table t call.at c None good s (fits_none table c.left c.right c.tail (hold_both table t call.at c good s))) where
      allowed : (o : Option Mark) → IsSome o → undissolve_refusal o call.at ≡ None
      allowed None h = absurd cc
      allowed (Some m) h = refl

pub undissolve_refused : (t : TrackState) (call : Undissolve) (c : Cut) → IsKept t → IsCutAt t.cells call.at c → IsNone c.right.mark → undissolve_on t call ≡ Err (NotACut call.at)
undissolve_refused t call c kept cut none =
    let there = mark_there t call.at c kept (sides_of t call.at c kept cut) in
    ap (λ (o : Option Mark). unless {A = TrackState × Done} (undissolve_refusal o call.at) (Ok (marked_track t call.at None, Plain))) there ∙ refused c.right.mark none where
      refused : (o : Option Mark) → IsNone o → unless {A = TrackState × Done} (undissolve_refusal o call.at) (Ok (marked_track t call.at None, Plain)) ≡ Err (NotACut call.at)
      refused None h = refl
      refused (Some m) h = absurd cc
