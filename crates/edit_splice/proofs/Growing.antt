-- An item or gap that goes on, and one that reaches back: with the frames put in it is one.
use Rattle.std.proofs.Common.{◌≡◌, ℕ, zero, suc, ◌+◌, ◌<◌, ◌≤◌, ◌^◌, List, [], ◌∷◌, ◌++◌, Option, Some, None, IfSome, sym, ap, ◌∙◌, arith, subst, append_assoc}
use Rattle.frame_meaning.specs.declared.cells.What.{What}
use Rattle.frame_meaning.specs.declared.cells.What.TheVariants.{Media, Nest}
use Rattle.frame_meaning.specs.declared.cells.Mark.{Mark}
use Rattle.frame_meaning.specs.declared.cells.Link.{Link}
use Rattle.frame_meaning.specs.declared.frames.Side.{Side}
use Rattle.frame_meaning.specs.declared.frames.Side.TheVariants.{Dark, Pic}
use Rattle.frame_meaning.specs.Cells.{span, next_side, later_side}
use Rattle.composables.specs.declared.items.ItemView.{ItemView}
use Rattle.composables.specs.declared.media.Table.{Table}
use Rattle.composables.specs.Bounds.{bounds_of}
use Rattle.composables.specs.Good.{LiesIn, SideLiesIn, EachLiesIn, EachLinkOf}
use Rattle.composables.specs.Items.{marked, view_cells, cells_of}
use Rattle.composables.specs.TrackFacts.{ShowsAsItem, HasSource, IsNoNest, Holds, EachHolds, Lacks, Apart, NumbersBelow, first_mark, left_reach, right_reach}
use Rattle.composables.proofs.Spans.{later-zero}
use Rattle.edit_splice.specs.NewItems.{MeetsFirst, Meet}
use Rattle.edit_splice.proofs.Spans.{later_next, marked-none}
use Rattle.edit_splice.proofs.Meeting.{if-lacks}
use Rattle.edit_splice.proofs.Apartness.{Foreign}
use Rattle.edit_splice.proofs.Keeping.{Sound}
use Rattle.edit_splice.proofs.Goodness.{Lie}

abbrev pub longer : ItemView → ℕ → ItemView
longer v n = record v { len = v.len + n }

-- its cells
span_more : (i : Option ℕ) (s : Side What) (l : Option Link) (m n : ℕ) → span i s l (m + n) ≡ span i s l m ++ span i (later_side s m) l n
span_more i s l zero n = let e : 0 + n ≡ n = omega arith in ap (span i s l) e ∙ ap (λ (t : Side What). span i t l n) (sym (later-zero s))
span_more i s l (suc m) n =
    let e : suc m + n ≡ suc (m + n) = omega arith in
    ap (span i s l) e
    ∙ ap (λ cs. record { item = i; side = s; mark = None; link = l } ∷ cs) (span_more i (next_side s) l m n ∙ ap (λ (t : Side What). span i (next_side s) l m ++ span i t l n) (later_next s m))

marked_more : (k : Option Mark) (i : Option ℕ) (s : Side What) (l : Option Link) (m n : ℕ) → 0 < m → marked k (span i s l (m + n)) ≡ marked k (span i s l m) ++ span i (later_side s m) l n
marked_more k i s l zero n h = absurd (omega (arith, h))
marked_more k i s l (suc m) n h =
    let e : suc m + n ≡ suc (m + n) = omega arith in
    ap (λ (j : ℕ). marked k (span i s l j)) e
    ∙ ap (λ cs. record { item = i; side = s; mark = k; link = l } ∷ cs) (span_more i (next_side s) l m n ∙ ap (λ (t : Side What). span i (next_side s) l m ++ span i t l n) (later_next s m))

bare_cells : (v : ItemView) (i : Option ℕ) (s : Side What) (l : Option Link) → v.mark ≡ None → v.item ≡ i → v.link ≡ l → v.first ≡ s → view_cells v ≡ span i s l v.len
bare_cells v i s l m e f g =
    ap (λ (k : Option Mark). marked k (span v.item v.first v.link v.len)) m
    ∙ (marked-none v.item v.first v.link v.len
    ∙ (ap (λ (o : Option ℕ). span o v.first v.link v.len) e
    ∙ (ap (λ (t : Side What). span i t v.link v.len) g ∙ ap (λ (o : Option Link). span i s o v.len) f)))

pub cells-longer : (u v : ItemView) → 0 < u.len → v.mark ≡ None → v.item ≡ u.item → v.link ≡ u.link → v.first ≡ later_side u.first u.len → view_cells (longer u v.len) ≡ view_cells u ++ view_cells v
cells-longer u v h m e f g =
    marked_more u.mark u.item u.first u.link u.len v.len h
    ∙ ap (λ cs. view_cells u ++ cs) (sym (bare_cells v u.item (later_side u.first u.len) u.link m e f g))

-- among others
pub cells-on : (us : List ItemView) (f g v : ItemView) (vs : List ItemView) → view_cells g ≡ view_cells f ++ view_cells v → cells_of ((us ++ f ∷ []) ++ v ∷ vs) ≡ cells_of ((us ++ g ∷ []) ++ vs)
cells-on [] f g v vs e = sym (append_assoc (view_cells f) (view_cells v) (cells_of vs)) ∙ ap (λ cs. cs ++ cells_of vs) (sym e)
cells-on (u ∷ us) f g v vs e = ap (λ cs. view_cells u ++ cs) (cells-on us f g v vs e)

pub cells-back : (xs : List ItemView) (v b w : ItemView) (zs : List ItemView) → view_cells w ≡ view_cells v ++ view_cells b → cells_of ((xs ++ v ∷ []) ++ b ∷ zs) ≡ cells_of (xs ++ w ∷ zs)
cells-back [] v b w zs e = sym (append_assoc (view_cells v) (view_cells b) (cells_of zs)) ∙ ap (λ cs. cs ++ cells_of zs) (sym e)
cells-back (x ∷ xs) v b w zs e = ap (λ cs. view_cells x ++ cs) (cells-back xs v b w zs e)

-- its source frames
source_on : (s : Side What) (len n before : ℕ) → HasSource s len before 0 → HasSource (later_side s len) n 0 0 → HasSource s (len + n) before 0
source_on Dark len n before h k = tt
source_on (Pic w s) len n before h k = let end : s + (len + n) + 0 ≤ 2 ^ 32 = omega (arith, k.1) in (h.0, end)

source_back : (s : Side What) (n len before after : ℕ) → HasSource s n 0 0 → HasSource (later_side s n) len before after → HasSource s (n + len) 0 after
source_back Dark n len before after h k = tt
source_back (Pic w s) n len before after h k = let end : s + (n + len) + after ≤ 2 ^ 32 = omega (arith, k.1) in (h.0, end)

bounds_on : (o : Option (ℕ × ℕ)) (s len n before : ℕ) → LiesIn o s len before 0 → LiesIn o (s + len) n 0 0 → LiesIn o s (len + n) before 0
bounds_on None s len n before h k = h
bounds_on (Some (from, to)) s len n before h k = let end : s + (len + n) + 0 ≤ to = omega (arith, k.1) in (h.0, end)

bounds_back : (o : Option (ℕ × ℕ)) (s n len before after : ℕ) → LiesIn o s n 0 0 → LiesIn o (s + n) len before after → LiesIn o s (n + len) 0 after
bounds_back None s n len before after h k = h
bounds_back (Some (from, to)) s n len before after h k = let end : s + (n + len) + after ≤ to = omega (arith, k.1) in (h.0, end)

pub lies-on : (table : Table) (s : Side What) (len n before : ℕ) → SideLiesIn table s len before 0 → SideLiesIn table (later_side s len) n 0 0 → SideLiesIn table s (len + n) before 0
lies-on table Dark len n before h k = tt
lies-on table (Pic w s) len n before h k = bounds_on (bounds_of table w) s len n before h k

pub lies-back-on : (table : Table) (s : Side What) (n len before after : ℕ) → SideLiesIn table s n 0 0 → SideLiesIn table (later_side s n) len before after → SideLiesIn table s (n + len) 0 after
lies-back-on table Dark n len before after h k = tt
lies-back-on table (Pic w s) n len before after h k = bounds_back (bounds_of table w) s n len before after h k

-- it goes on
pub holds-on : (u : ItemView) (n : ℕ) → Holds u None → HasSource (later_side u.first u.len) n 0 0 → Holds (longer u n) None
holds-on u n h k = record {
  filled = omega (arith, h.filled);
  shows = h.shows;
  mark_filled = h.mark_filled;
  room = omega (arith, h.room);
  source = source_on u.first u.len n (left_reach u.mark) h.source k;
  head_no_nest = h.head_no_nest;
  tail_no_nest = tt;
}

each_last : (us : List ItemView) (v : ItemView) → EachHolds (us ++ v ∷ []) → Holds v None
each_last [] v h = h.0
each_last (u ∷ us) v h = each_last us v h.1

each_on : (us : List ItemView) (v : ItemView) (n : ℕ) → EachHolds (us ++ v ∷ []) → Holds (longer v n) None → EachHolds (us ++ longer v n ∷ [])
each_on [] v n h k = (k, tt)
each_on (u ∷ []) v n h k = (h.0, (k, tt))
each_on (u ∷ z ∷ us) v n h k = (h.0, each_on (z ∷ us) v n h.1 k)

mark_on : (us : List ItemView) (v : ItemView) (n : ℕ) → first_mark (us ++ v ∷ []) ≡ None → first_mark (us ++ longer v n ∷ []) ≡ None
mark_on [] v n e = e
mark_on (u ∷ us) v n e = e

meet_on : (us : List ItemView) (v : ItemView) (n : ℕ) → Meet (us ++ v ∷ []) → Meet (us ++ longer v n ∷ [])
meet_on [] v n m = (tt, tt)
meet_on (u ∷ []) v n m = (m.0, (tt, tt))
meet_on (u ∷ z ∷ us) v n m = (m.0, meet_on (z ∷ us) v n m.1)

lacks_on : (i : ℕ) (us : List ItemView) (v : ItemView) (n : ℕ) → Lacks i (us ++ v ∷ []) → Lacks i (us ++ longer v n ∷ [])
lacks_on i [] v n l = (l.0, tt)
lacks_on i (u ∷ us) v n l = (l.0, lacks_on i us v n l.1)

apart_on : (us : List ItemView) (v : ItemView) (n : ℕ) → Apart (us ++ v ∷ []) → Apart (us ++ longer v n ∷ [])
apart_on [] v n a = (a.0, tt)
apart_on (u ∷ us) v n a = (if-lacks u.item (us ++ v ∷ []) (us ++ longer v n ∷ []) (λ i. lacks_on i us v n) a.0, apart_on us v n a.1)

pub below-on : (m : ℕ) (us : List ItemView) (v : ItemView) (n : ℕ) → NumbersBelow m (us ++ v ∷ []) → NumbersBelow m (us ++ longer v n ∷ [])
below-on m [] v n b = (b.0, tt)
below-on m (u ∷ us) v n b = (b.0, below-on m us v n b.1)

pub foreign-on : (us : List ItemView) (v : ItemView) (n : ℕ) (ys : List ItemView) → Foreign (us ++ v ∷ []) ys → Foreign (us ++ longer v n ∷ []) ys
foreign-on [] v n ys f = (f.0, tt)
foreign-on (u ∷ us) v n ys f = (f.0, foreign-on us v n ys f.1)

lies_last : (table : Table) (us : List ItemView) (v : ItemView) → EachLiesIn table (us ++ v ∷ []) → SideLiesIn table v.first v.len (left_reach v.mark) 0
lies_last table [] v h = h.0
lies_last table (u ∷ us) v h = lies_last table us v h.1

lies_longer : (table : Table) (us : List ItemView) (v : ItemView) (n : ℕ) → EachLiesIn table (us ++ v ∷ []) → SideLiesIn table v.first (v.len + n) (left_reach v.mark) 0 → EachLiesIn table (us ++ longer v n ∷ [])
lies_longer table [] v n h k = (k, tt)
lies_longer table (u ∷ []) v n h k = (h.0, (k, tt))
lies_longer table (u ∷ z ∷ us) v n h k = (h.0, lies_longer table (z ∷ us) v n h.1 k)

links_on : (number : ℕ) (us : List ItemView) (v : ItemView) (n : ℕ) → EachLinkOf number (us ++ v ∷ []) → EachLinkOf number (us ++ longer v n ∷ [])
links_on number [] v n h = (h.0, tt)
links_on number (u ∷ us) v n h = (h.0, links_on number us v n h.1)

pub sound-on : (us : List ItemView) (v : ItemView) (n : ℕ) → Sound (us ++ v ∷ []) → HasSource (later_side v.first v.len) n 0 0 → Sound (us ++ longer v n ∷ [])
sound-on us v n s k = record {
  each = each_on us v n s.each (holds-on v n (each_last us v s.each) k);
  first = mark_on us v n s.first;
  meet = meet_on us v n s.meet;
  apart = apart_on us v n s.apart;
}

pub lie-on : (table : Table) (number : ℕ) (us : List ItemView) (v : ItemView) (n : ℕ) → Lie table number (us ++ v ∷ []) → SideLiesIn table (later_side v.first v.len) n 0 0 → Lie table number (us ++ longer v n ∷ [])
lie-on table number us v n h k = record {
  ranges = lies_longer table us v n h.ranges (lies-on table v.first v.len n (left_reach v.mark) (lies_last table us v h.ranges) k);
  links = links_on number us v n h.links;
}

-- it reaches back
shows_back : (o : Option ℕ) (s : Side What) (l : Option Link) (n : ℕ) → ShowsAsItem o (later_side s n) l → ShowsAsItem o s l
shows_back None Dark None n h = h
shows_back None Dark (Some l) n h = h
shows_back None (Pic w s) l n h = h
shows_back (Some i) Dark l n h = h
shows_back (Some i) (Pic w s) l n h = h

no_nest_back : (s : Side What) (n : ℕ) (m : Option Mark) → IsNoNest (later_side s n) m → IsNoNest s m
no_nest_back s n None h = tt
no_nest_back Dark n (Some m) h = tt
no_nest_back (Pic (Media k) s) n (Some m) h = tt
no_nest_back (Pic (Nest j) s) n (Some m) h = h

pub holds-back : (v b : ItemView) (tail : Option Mark) → Holds b tail → v.mark ≡ None → v.item ≡ b.item → v.link ≡ b.link → b.first ≡ later_side v.first v.len → HasSource v.first v.len 0 0 → Holds (longer v b.len) tail
holds-back v b tail h m e f g k =
    let S : Side What → Type 0 = λ t. HasSource t b.len (left_reach b.mark) (right_reach tail) in
    let N : Side What → Type 0 = λ t. IsNoNest t tail in
    let W : Option ℕ → Type 0 = λ o. ShowsAsItem o v.first v.link in
    let L : Option Link → Type 0 = λ l. ShowsAsItem b.item (later_side v.first v.len) l in
    let F : Side What → Type 0 = λ t. ShowsAsItem b.item t b.link in
    let all : HasSource v.first (v.len + b.len) 0 (right_reach tail) = source_back v.first v.len b.len (left_reach b.mark) (right_reach tail) k (subst S g h.source) in
    record {
      filled = omega (arith, h.filled);
      shows = subst W (sym e) (shows_back b.item v.first v.link v.len (subst L (sym f) (subst F g h.shows)));
      mark_filled = rw m tt;
      room = rw m (omega (arith, h.room));
      source = rw m all;
      head_no_nest = rw m tt;
      tail_no_nest = no_nest_back v.first v.len tail (subst N g h.tail_no_nest);
    }

meets_back : (v b : ItemView) (n : ℕ) (zs : List ItemView) → v.item ≡ b.item → MeetsFirst b zs → MeetsFirst (longer v n) zs
meets_back v b n [] e m = tt
meets_back v b n (z ∷ zs) e m = λ f g. m (sym e ∙ f) g

pub sound-back : (v b : ItemView) (zs : List ItemView) → Sound (b ∷ zs) → v.mark ≡ None → v.item ≡ b.item → v.link ≡ b.link → b.first ≡ later_side v.first v.len → HasSource v.first v.len 0 0 → Sound (longer v b.len ∷ zs)
sound-back v b zs s m e f g k =
    let P : Option ℕ → Type 0 = λ o. IfSome o (λ i. Lacks i zs) in
    record {
      each = (holds-back v b (first_mark zs) s.each.0 m e f g k, s.each.1);
      first = m;
      meet = (meets_back v b b.len zs e s.meet.0, s.meet.1);
      apart = (subst P (sym e) s.apart.0, s.apart.1);
    }

pub lie-back : (table : Table) (number : ℕ) (v b : ItemView) (zs : List ItemView) → Lie table number (b ∷ zs) → v.mark ≡ None → v.link ≡ b.link → b.first ≡ later_side v.first v.len → SideLiesIn table v.first v.len 0 0
    → Lie table number (longer v b.len ∷ zs)
lie-back table number v b zs h m f g k =
    let S : Side What → Type 0 = λ t. SideLiesIn table t b.len (left_reach b.mark) (right_reach (first_mark zs)) in
    let L : Option Link → Type 0 = λ l. EachLinkOf number (record b { link = l } ∷ zs) in
    let all : SideLiesIn table v.first (v.len + b.len) 0 (right_reach (first_mark zs)) = lies-back-on table v.first v.len b.len (left_reach b.mark) (right_reach (first_mark zs)) k (subst S g h.ranges.0) in
    record { ranges = (rw m all, h.ranges.1); links = ((subst L (sym f) h.links).0, h.links.1) }

lacks_same : (i : ℕ) (v b : ItemView) (n : ℕ) (zs : List ItemView) → v.item ≡ b.item → Lacks i (b ∷ zs) → Lacks i (longer v n ∷ zs)
lacks_same i v b n zs e l = ((λ f. l.0 (sym e ∙ f)), l.1)

pub foreign-same : (v b : ItemView) (n : ℕ) (zs xs : List ItemView) → v.item ≡ b.item → Foreign xs (b ∷ zs) → Foreign xs (longer v n ∷ zs)
foreign-same v b n zs [] e f = tt
foreign-same v b n zs (x ∷ xs) e f = (if-lacks x.item (b ∷ zs) (longer v n ∷ zs) (λ i. lacks_same i v b n zs e) f.0, foreign-same v b n zs xs e f.1)

pub below-same : (m : ℕ) (v b : ItemView) (n : ℕ) (zs : List ItemView) → v.item ≡ b.item → NumbersBelow m (b ∷ zs) → NumbersBelow m (longer v n ∷ zs)
below-same m v b n zs e h = let P : Option ℕ → Type 0 = λ o. IfSome o (λ i. i < m) in (subst P (sym e) h.0, h.1)
