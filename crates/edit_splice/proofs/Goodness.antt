-- What a splice leaves of a track that is good in a table is good in it, within the limits.
use Rattle.std.proofs.Common.{◌≡◌, ℕ, suc, ◌-◌, ◌≤◌, List, [], ◌++◌, length, Option, Some, None, sym, ap, ◌∙◌, arith, subst, take, drop, Bool}
use Rattle.frame_meaning.specs.declared.cells.Cell.{Cell}
use Rattle.composables.specs.declared.items.ItemView.{ItemView}
use Rattle.composables.specs.declared.media.Table.{Table}
use Rattle.composables.specs.declared.TheConstants.{MAX_FRAMES, MAX_ITEMS}
use Rattle.composables.specs.Good.{IsGood, EachLiesIn, EachLinkOf}
use Rattle.composables.specs.Items.{cells_of, items_of}
use Rattle.composables.specs.Joined.{joined}
use Rattle.composables.specs.TrackFacts.{NumbersBelow, first_mark}
use Rattle.composables.specs.TrackState.{TrackState, next_past_all}
use Rattle.composables.proofs.Joining.{items_of-cells_of}
use Rattle.edit_splice.specs.declared.seams.ItemAt.{ItemAt}
use Rattle.edit_splice.specs.declared.seams.Seams.{Seams}
use Rattle.edit_splice.specs.Parts.{AreSeams, EndsAt, StandsFrom, view_after, split_between}
use Rattle.edit_splice.specs.Splicing.{spliced_track}
use Rattle.edit_splice.specs.NewItems.{AreNewFor}
use Rattle.edit_splice.specs.Laws.{IsWithinLimits}
use Rattle.edit_splice.proofs.Ends.{split-at}
use Rattle.edit_splice.proofs.Numbers.{next-rises}
use Rattle.edit_splice.proofs.Existing.{seams-exist}
use Rattle.edit_splice.proofs.Lying.{lies-front, lies-at, lies-back, lies-append, lies-joined, links-front, links-at, links-back, links-append, links-joined}
use Rattle.edit_splice.proofs.Meeting.{filled-each}
use Rattle.edit_splice.proofs.Keeping.{Sound, before_range, behind_range, kept_behind_range, behind_is, behind_none, all_parts, kept_sound, stand_of, sound_behind, sound_all, below_all, cells_all}

-- what items and gaps show lies in the ranges of the table, and their links are a track's own
pub record Lie (table : Table) (number : ℕ) (zs : List ItemView) : Type 0 where
  pub ranges : EachLiesIn table zs
  pub links : EachLinkOf number zs

lie_nothing : (table : Table) (number : ℕ) → Lie table number []
lie_nothing table number = record { ranges = tt; links = tt }

pub lie-append : (table : Table) (number : ℕ) (xs ys : List ItemView) → first_mark ys ≡ None → Lie table number xs → Lie table number ys → Lie table number (xs ++ ys)
lie-append table number xs ys e p q = record { ranges = lies-append table xs ys p.ranges q.ranges e; links = links-append number xs ys p.links q.links }

-- before the range and behind it
pub lie-before : (keep : Bool) (table : Table) (number : ℕ) (cs : List Cell) (x : ℕ) (l : Option ItemAt) → Lie table number (items_of cs) → EndsAt cs x l → Lie table number (before_range keep (items_of cs) l x)
lie-before keep table number cs x None h e = lie_nothing table number
lie-before keep table number cs x (Some g) h e =
    let vs : List ItemView = items_of cs in
    let R : List ItemView → Type 0 = λ zs. EachLiesIn table zs in
    let L : List ItemView → Type 0 = λ zs. EachLinkOf number zs in
    let cut = split-at vs g.index g.view e.1.read in
    record {
      ranges = lies-front keep table (take g.index vs) g.view (drop (suc g.index) vs) (x - g.from) (omega (arith, e.0, e.1.begins, e.1.ends)) (subst R cut h.ranges);
      links = links-front keep number (take g.index vs) g.view (drop (suc g.index) vs) (x - g.from) (subst L cut h.links);
    }

pub lie-behind : (keep : Bool) (table : Table) (number fresh : ℕ) (cs : List Cell) (y : ℕ) (l r : Option ItemAt) (o : Option ItemView) → Lie table number (items_of cs) → StandsFrom cs y r → o ≡ view_after (items_of cs) r
    → Lie table number (behind_range keep (items_of cs) l r o y fresh)
lie-behind keep table number fresh cs y l None o h e is =
    let P : List ItemView → Type 0 = λ zs. Lie table number zs in
    subst P (sym (behind_none keep (items_of cs) l o y fresh)) (lie_nothing table number)
lie-behind keep table number fresh cs y l (Some g) o h e is =
    let vs : List ItemView = items_of cs in
    let P : List ItemView → Type 0 = λ zs. Lie table number zs in
    let R : List ItemView → Type 0 = λ zs. EachLiesIn table zs in
    let L : List ItemView → Type 0 = λ zs. EachLinkOf number zs in
    let cut = split-at vs g.index g.view e.read in
    let us : List ItemView = take g.index vs in
    let ws : List ItemView = drop (suc g.index) vs in
    let whole : Lie table number (kept_behind_range keep vs l g y fresh) = record {
      ranges = lies-back keep table (split_between l (Some g)) fresh (y - g.from) g.view ws (omega (arith, e.begins, e.ends)) (lies-at table us g.view ws (subst R cut h.ranges));
      links = links-back keep number (split_between l (Some g)) fresh (y - g.from) (g.view.len - (y - g.from)) g.view ws (links-at number us g.view ws (subst L cut h.links));
    } in
    subst P (sym (behind_is keep vs l g o y fresh is)) whole

lie_all : (keep : Bool) (table : Table) (number next : ℕ) (cs : List Cell) (x y : ℕ) (s : Seams) (views : List ItemView) → Lie table number (items_of cs) → AreSeams cs x y s → first_mark views ≡ None
    → first_mark (behind_range keep (items_of cs) s.left s.right s.after y (next_past_all next views)) ≡ None → Lie table number views
    → Lie table number (all_parts keep (items_of cs) s x y views (next_past_all next views))
lie_all keep table number next cs x y s views h a first bare new =
    let vs : List ItemView = items_of cs in
    let fresh : ℕ = next_past_all next views in
    lie-append table number (before_range keep vs s.left x ++ views) (behind_range keep vs s.left s.right s.after y fresh) bare
    (lie-append table number (before_range keep vs s.left x) views first (lie-before keep table number cs x s.left h a.left) new)
    (lie-behind keep table number fresh cs y s.left s.right s.after h a.right a.after)

-- a track of such parts
pub good-sound : (table : Table) (u : TrackState) (zs : List ItemView) → u.cells ≡ cells_of zs → Sound zs → Lie table u.number zs → NumbersBelow u.next_item zs
    → length u.cells ≤ MAX_FRAMES → length (items_of u.cells) ≤ MAX_ITEMS → IsGood table u
good-sound table u zs is s lie below frames items =
    let all : items_of u.cells ≡ joined zs = ap items_of is ∙ items_of-cells_of zs (filled-each zs s.each) in
    let R : List ItemView → Type 0 = λ vs. EachLiesIn table vs in
    let L : List ItemView → Type 0 = λ vs. EachLinkOf u.number vs in
    record {
      kept = kept_sound u zs is s below (omega (arith, frames));
      ranges = subst R (sym all) (lies-joined table zs s.each s.apart lie.ranges);
      links = subst L (sym all) (links-joined u.number zs lie.links);
      frames = frames;
      items = items;
    }

-- a splice of new items
pub good-spliced : (keep : Bool) (table : Table) (t : TrackState) (x y : ℕ) (views : List ItemView) → IsGood table t → x ≤ y → y ≤ length t.cells → AreNewFor table t views
    → IsWithinLimits (spliced_track keep t x y views) → IsGood table (spliced_track keep t x y views)
good-spliced keep table t x y views g order within n limits =
    let k = g.kept in
    let found = seams-exist t.cells x y k.whole (omega (arith, order, within)) in
    let fresh : ℕ = next_past_all t.next_item views in
    let old : Lie table t.number (items_of t.cells) = record { ranges = g.ranges; links = g.links } in
    let new : Lie table t.number views = record { ranges = n.ranges; links = n.links } in
    let behind = sound_behind keep t.next_item fresh t.cells y found.0.left found.0.right found.0.after (next-rises t.next_item views) (stand_of t k) found.1.right found.1.after in
    good-sound table (spliced_track keep t x y views) (all_parts keep (items_of t.cells) found.0 x y views fresh)
    (sym (cells_all keep t.cells x y fresh found.0 views k.whole k.each k.apart order found.1))
    (sound_all keep t.next_item t.cells x y found.0 views order (stand_of t k) found.1 n.new)
    (lie_all keep table t.number t.next_item t.cells x y found.0 views old found.1 n.new.first behind.first new)
    (below_all keep t.next_item t.cells x y found.0 views k.whole k.below order found.1)
    limits.frames limits.items
