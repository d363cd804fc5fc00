-- New items may be put in place of any range of a track: what the splice leaves is a track again.
use Rattle.std.proofs.Common.{◌≡◌, ℕ, zero, suc, ◌+◌, ◌-◌, ◌<◌, ◌≤◌, ◌^◌, List, [], ◌∷◌, ◌++◌, length, map, min, Option, Some, None, IfSome, refl, sym, ap, ◌∙◌, arith, take, drop, slice_get, subst, append_assoc, Bool}
use Rattle.std.proofs.lemmas.List.{drop_all, length-append, length-take, length-drop, length-map}
use Rattle.frame_meaning.specs.declared.cells.Cell.{Cell}
use Rattle.frame_meaning.specs.Splice.{Rule, rule_of, with_marks, renumbered, split_item, spliced, next_after_splice}
use Rattle.composables.specs.declared.items.ItemView.{ItemView}
use Rattle.composables.specs.Items.{cells_of, items_of}
use Rattle.composables.specs.Joined.{frames_in, IsTight, joined}
use Rattle.composables.specs.TrackFacts.{IsKept, EachHolds, Apart, Lacks, NumbersBelow, first_mark}
use Rattle.composables.specs.TrackState.{TrackState, next_past_all}
use Rattle.composables.proofs.Joining.{cells_of-append, items_of-cells_of, tight-joined, length-cells_of}
use Rattle.edit_splice.specs.declared.seams.ItemAt.{ItemAt}
use Rattle.edit_splice.specs.declared.seams.Seams.{Seams}
use Rattle.composables.specs.Views.{later_view}
use Rattle.edit_splice.specs.Parts.{AreSeams, EndsAt, StandsFrom, view_after, split_between, front_view, front_views, renumbered_view, back_views, after_views, parts_between, first_index, end_at, end_index}
use Rattle.edit_splice.specs.Splicing.{spliced_track}
use Rattle.edit_splice.specs.NewItems.{AreNew, NumbersFrom, Meet}
use Rattle.edit_splice.proofs.Ends.{split-at, drop-some, holds-at, below-read, first_kept, after-parts, index-order}
use Rattle.edit_splice.proofs.Numbers.{below-weaker, below-append, next-rises, below-next}
use Rattle.edit_splice.proofs.Surviving.{length-marks}
use Rattle.edit_splice.proofs.Whole.{cells-spliced, next-spliced}
use Rattle.edit_splice.proofs.Meeting.{apart-joined, below-joined, mark-joined, each-joined, cells-joined, filled-each}
use Rattle.edit_splice.proofs.Cutting.{each-front, each-back, back-bare, tight-at, meet-front, meet-back, meet-append, each-append, mark-append, mark-front}
use Rattle.edit_splice.proofs.Apartness.{Foreign, apart-append, foreign-append, foreign-new, foreign-front, foreign-back-new, apart-front, apart-back, below-front, lacks-below}
use Rattle.edit_splice.proofs.Existing.{seams-exist}

-- what stands before the range and what stands behind it
abbrev pub before_range : Bool → List ItemView → Option ItemAt → ℕ → List ItemView
before_range keep vs l x = take (first_index l) vs ++ front_views keep l x

abbrev pub behind_range : Bool → List ItemView → Option ItemAt → Option ItemAt → Option ItemView → ℕ → ℕ → List ItemView
behind_range keep vs l r o y fresh = (back_views r y (split_between l r) fresh ++ after_views keep r o y) ++ drop (end_at r o (length vs)) vs

-- items and gaps that may stand in a row once gaps that meet are one
pub record Sound (zs : List ItemView) : Type 0 where
  pub each : EachHolds zs
  pub first : first_mark zs ≡ None
  pub meet : Meet zs
  pub apart : Apart zs

sound_nothing : Sound []
sound_nothing = record { each = tt; first = refl; meet = tt; apart = tt }

pub sound_append : (xs ys : List ItemView) → Sound xs → Sound ys → Foreign xs ys → Sound (xs ++ ys)
sound_append xs ys s t f = record {
  each = each-append xs ys s.each t.each t.first;
  first = mark-append xs ys s.first t.first;
  meet = meet-append xs ys s.meet t.meet t.first;
  apart = apart-append xs ys s.apart t.apart f;
}

pub sound_new : (next : ℕ) (views : List ItemView) → AreNew next views → Sound views
sound_new next views n = record { each = n.each; first = n.first; meet = n.meet; apart = n.apart }

-- the items and gaps of a track
pub record Stand (next : ℕ) (vs : List ItemView) : Type 0 where
  pub each : EachHolds vs
  pub first : first_mark vs ≡ None
  pub tight : IsTight vs
  pub apart : Apart vs
  pub below : NumbersBelow next vs

pub stand_of : (t : TrackState) → IsKept t → Stand t.next_item (items_of t.cells)
stand_of t k =
    let vs : List ItemView = items_of t.cells in
    let P : List ItemView → Type 0 = λ zs. IsTight zs in
    let same : joined vs ≡ vs = sym (items_of-cells_of vs (filled-each vs k.each)) ∙ ap items_of k.whole in
    record { each = k.each; first = k.not_before; tight = subst P same (tight-joined vs); apart = k.apart; below = k.below }

sound_front : (keep : Bool) (next : ℕ) (us : List ItemView) (v : ItemView) (ws : List ItemView) (n : ℕ) → Stand next (us ++ v ∷ ws) → 0 < n → n ≤ v.len → Sound (us ++ front_view keep v n ∷ [])
sound_front keep next us v ws n s some le = record {
  each = each-front keep us v ws n some le s.each;
  first = mark-front keep us v ws n s.first;
  meet = meet-front keep us v ws n s.tight;
  apart = apart-front keep us v ws n s.apart;
}

pub sound_before : (keep : Bool) (next : ℕ) (cs : List Cell) (x : ℕ) (l : Option ItemAt) → Stand next (items_of cs) → EndsAt cs x l → Sound (before_range keep (items_of cs) l x)
sound_before keep next cs x None s e = sound_nothing
sound_before keep next cs x (Some g) s e =
    let vs : List ItemView = items_of cs in
    let P : List ItemView → Type 0 = λ zs. Stand next zs in
    sound_front keep next (take g.index vs) g.view (drop (suc g.index) vs) (x - g.from) (subst P (split-at vs g.index g.view e.1.read) s) (omega (arith, e.0, e.1.begins)) (omega (arith, e.0, e.1.ends))

pub below_before : (keep : Bool) (next : ℕ) (cs : List Cell) (x : ℕ) (l : Option ItemAt) → Stand next (items_of cs) → EndsAt cs x l → NumbersBelow next (before_range keep (items_of cs) l x)
below_before keep next cs x None s e = tt
below_before keep next cs x (Some g) s e =
    let vs : List ItemView = items_of cs in
    let P : List ItemView → Type 0 = λ zs. NumbersBelow next zs in
    below-front keep next (take g.index vs) g.view (drop (suc g.index) vs) (x - g.from) (subst P (split-at vs g.index g.view e.1.read) s.below)

-- behind the range
pub stand_at : (next : ℕ) (us : List ItemView) (v : ItemView) (ws : List ItemView) → Stand next (us ++ v ∷ ws) → EachHolds (v ∷ ws) × IsTight (v ∷ ws) × Apart (v ∷ ws) × NumbersBelow next (v ∷ ws)
stand_at next us v ws s = (holds-at us v ws s.each, tight-at us v ws s.tight, all_apart us v ws s.apart, all_below next us v ws s.below) where
  all_apart : (us : List ItemView) (v : ItemView) (ws : List ItemView) → Apart (us ++ v ∷ ws) → Apart (v ∷ ws)
  all_apart [] v ws a = a
  all_apart (u ∷ us) v ws a = all_apart us v ws a.1

  all_below : (n : ℕ) (us : List ItemView) (v : ItemView) (ws : List ItemView) → NumbersBelow n (us ++ v ∷ ws) → NumbersBelow n (v ∷ ws)
  all_below n [] v ws b = b
  all_below n (u ∷ us) v ws b = all_below n us v ws b.1

abbrev pub kept_behind_range : Bool → List ItemView → Option ItemAt → ItemAt → ℕ → ℕ → List ItemView
kept_behind_range keep vs l h y fresh = renumbered_view (split_between l (Some h)) fresh (later_view h.view (y - h.from)) ∷ first_kept keep (h.view.len - (y - h.from)) (drop (suc h.index) vs)

pub behind_is : (keep : Bool) (vs : List ItemView) (l : Option ItemAt) (h : ItemAt) (o : Option ItemView) (y fresh : ℕ) → o ≡ slice_get vs (h.index + 1) → behind_range keep vs l (Some h) o y fresh ≡ kept_behind_range keep vs l h y fresh
behind_is keep vs l h o y fresh e =
    ap (λ zs. renumbered_view (split_between l (Some h)) fresh (later_view h.view (y - h.from)) ∷ zs) (after-parts keep vs h o y (length vs) e)

pub behind_none : (keep : Bool) (vs : List ItemView) (l : Option ItemAt) (o : Option ItemView) (y fresh : ℕ) → behind_range keep vs l None o y fresh ≡ []
behind_none keep vs l o y fresh = drop_all (length vs) vs (omega arith)

sound_back : (keep : Bool) (next fresh k : ℕ) (s : Option ℕ) (v : ItemView) (ws : List ItemView) → next ≤ fresh → k < v.len → EachHolds (v ∷ ws) → IsTight (v ∷ ws) → Apart (v ∷ ws) → NumbersBelow next (v ∷ ws)
    → Sound (renumbered_view s fresh (later_view v k) ∷ first_kept keep (v.len - k) ws)
sound_back keep next fresh k s v ws le lt h t a b = record {
  each = each-back keep s fresh k v ws lt h;
  first = back-bare s fresh k v;
  meet = meet-back keep s fresh k (v.len - k) v ws t;
  apart = apart-back keep s fresh k (v.len - k) v ws a (lacks-below next fresh ws b.1 le);
}

pub sound_behind : (keep : Bool) (next fresh : ℕ) (cs : List Cell) (y : ℕ) (l r : Option ItemAt) (o : Option ItemView) → next ≤ fresh → Stand next (items_of cs) → StandsFrom cs y r → o ≡ view_after (items_of cs) r → Sound (behind_range keep (items_of cs) l r o y fresh)
sound_behind keep next fresh cs y l None o le s e is =
    let P : List ItemView → Type 0 = λ zs. Sound zs in
    subst P (sym (behind_none keep (items_of cs) l o y fresh)) sound_nothing
sound_behind keep next fresh cs y l (Some h) o le s e is =
    let vs : List ItemView = items_of cs in
    let P : List ItemView → Type 0 = λ zs. Sound zs in
    let S : List ItemView → Type 0 = λ zs. Stand next zs in
    let at = stand_at next (take h.index vs) h.view (drop (suc h.index) vs) (subst S (split-at vs h.index h.view e.read) s) in
    subst P (sym (behind_is keep vs l h o y fresh is))
    (sound_back keep next fresh (y - h.from) (split_between l (Some h)) h.view (drop (suc h.index) vs) le (omega (arith, e.begins, e.ends)) at.0 at.1 at.2 at.3)

-- no number is on two sides
pub foreign_nothing : (xs : List ItemView) → Foreign xs []
foreign_nothing [] = tt
foreign_nothing (x ∷ xs) = (nothing x.item, foreign_nothing xs) where
  nothing : (o : Option ℕ) → IfSome o (λ i. Lacks i [])
  nothing None = tt
  nothing (Some i) = tt

pub foreign_sides : (keep : Bool) (next fresh : ℕ) (cs : List Cell) (x y : ℕ) (l r : Option ItemAt) (o : Option ItemView) → next ≤ fresh → x ≤ y → Stand next (items_of cs) → EndsAt cs x l → StandsFrom cs y r → o ≡ view_after (items_of cs) r
    → Foreign (before_range keep (items_of cs) l x) (behind_range keep (items_of cs) l r o y fresh)
foreign_sides keep next fresh cs x y None r o le order s e f is = tt
foreign_sides keep next fresh cs x y (Some g) None o le order s e f is =
    let P : List ItemView → Type 0 = λ zs. Foreign (before_range keep (items_of cs) (Some g) x) zs in
    subst P (sym (behind_none keep (items_of cs) (Some g) o y fresh)) (foreign_nothing (before_range keep (items_of cs) (Some g) x))
foreign_sides keep next fresh cs x y (Some g) (Some h) o le order s e f is =
    let vs : List ItemView = items_of cs in
    let P : List ItemView → Type 0 = λ zs. Foreign (before_range keep vs (Some g) x) zs in
    let below = below-weaker next fresh vs le s.below in
    subst P (sym (behind_is keep vs (Some g) h o y fresh is))
    (foreign-front keep vs g h (x - g.from) fresh (y - h.from) (h.view.len - (y - h.from)) e.1.read (drop-some vs h.index h.view f.read) (index-order vs x y g h e.0 order e.1 f) s.apart
    (below_take fresh g.index vs below) (below-read fresh vs g.index g.view e.1.read below)) where
      below_take : (n i : ℕ) (vs : List ItemView) → NumbersBelow n vs → NumbersBelow n (take i vs)
      below_take n zero vs b = tt
      below_take n (suc i) [] b = tt
      below_take n (suc i) (v ∷ vs) b = (b.0, below_take n i vs b.1)

pub foreign_behind : (keep : Bool) (next fresh : ℕ) (cs : List Cell) (y : ℕ) (l r : Option ItemAt) (o : Option ItemView) (views : List ItemView) → Stand next (items_of cs) → StandsFrom cs y r → o ≡ view_after (items_of cs) r → NumbersFrom next views → NumbersBelow fresh views
    → Foreign views (behind_range keep (items_of cs) l r o y fresh)
foreign_behind keep next fresh cs y l None o views s f is above below =
    let P : List ItemView → Type 0 = λ zs. Foreign views zs in
    subst P (sym (behind_none keep (items_of cs) l o y fresh)) (foreign_nothing views)
foreign_behind keep next fresh cs y l (Some h) o views s f is above below =
    let vs : List ItemView = items_of cs in
    let P : List ItemView → Type 0 = λ zs. Foreign views zs in
    let S : List ItemView → Type 0 = λ zs. Stand next zs in
    let at = stand_at next (take h.index vs) h.view (drop (suc h.index) vs) (subst S (split-at vs h.index h.view f.read) s) in
    subst P (sym (behind_is keep vs l h o y fresh is))
    (foreign-back-new keep (split_between l (Some h)) next fresh (y - h.from) (h.view.len - (y - h.from)) views h.view (drop (suc h.index) vs) above below at.3)

-- all of it
abbrev pub all_parts : Bool → List ItemView → Seams → ℕ → ℕ → List ItemView → ℕ → List ItemView
all_parts keep vs s x y views fresh = (before_range keep vs s.left x ++ views) ++ behind_range keep vs s.left s.right s.after y fresh

pub sound_all : (keep : Bool) (next : ℕ) (cs : List Cell) (x y : ℕ) (s : Seams) (views : List ItemView) → x ≤ y → Stand next (items_of cs) → AreSeams cs x y s → AreNew next views
    → Sound (all_parts keep (items_of cs) s x y views (next_past_all next views))
sound_all keep next cs x y s views order t a n =
    let vs : List ItemView = items_of cs in
    let fresh : ℕ = next_past_all next views in
    let le = next-rises next views in
    sound_append (before_range keep vs s.left x ++ views) (behind_range keep vs s.left s.right s.after y fresh)
    (sound_append (before_range keep vs s.left x) views (sound_before keep next cs x s.left t a.left) (sound_new next views n) (foreign-new next (before_range keep vs s.left x) views (below_before keep next cs x s.left t a.left) n.above))
    (sound_behind keep next fresh cs y s.left s.right s.after le t a.right a.after)
    (foreign-append (before_range keep vs s.left x) views (behind_range keep vs s.left s.right s.after y fresh)
    (foreign_sides keep next fresh cs x y s.left s.right s.after le order t a.left a.right a.after)
    (foreign_behind keep next fresh cs y s.left s.right s.after views t a.right a.after n.above (below-next next views)))

views_in_a_row : (u f m b d : List ItemView) → (u ++ ((f ++ m) ++ b)) ++ d ≡ ((u ++ f) ++ m) ++ (b ++ d)
views_in_a_row u f m b d =
    ap (λ cs. cs ++ d) (sym (append_assoc u (f ++ m) b) ∙ ap (λ cs. cs ++ b) (sym (append_assoc u f m)))
    ∙ append_assoc ((u ++ f) ++ m) b d

parts_in_a_row : (keep : Bool) (vs : List ItemView) (s : Seams) (x y : ℕ) (views : List ItemView) (fresh : ℕ)
    → (take (first_index s.left) vs ++ parts_between keep s x y views fresh) ++ drop (end_index s (length vs)) vs ≡ all_parts keep vs s x y views fresh
parts_in_a_row keep vs s x y views fresh =
    views_in_a_row (take (first_index s.left) vs) (front_views keep s.left x) views (back_views s.right y (split_between s.left s.right) fresh ++ after_views keep s.right s.after y) (drop (end_index s (length vs)) vs)

pub cells_all : (keep : Bool) (cs : List Cell) (x y fresh : ℕ) (s : Seams) (views : List ItemView) → cells_of (items_of cs) ≡ cs → EachHolds (items_of cs) → Apart (items_of cs) → x ≤ y → AreSeams cs x y s
    → cells_of (all_parts keep (items_of cs) s x y views fresh) ≡ spliced (rule_of keep) cs x y (cells_of views) fresh
cells_all keep cs x y fresh s views whole h a order seams =
    let vs : List ItemView = items_of cs in
    let u : List ItemView = take (first_index s.left) vs in
    let p : List ItemView = parts_between keep s x y views fresh in
    let d : List ItemView = drop (end_index s (length vs)) vs in
    ap cells_of (sym (parts_in_a_row keep vs s x y views fresh))
    ∙ (cells_of-append (u ++ p) d
    ∙ (ap (λ ds. ds ++ cells_of d) (cells_of-append u p) ∙ cells-spliced keep cs x y fresh s views whole h a order seams))

-- the numbers
pub below_some : (n i : ℕ) (vs : List ItemView) → NumbersBelow n vs → NumbersBelow n (take i vs) × NumbersBelow n (drop i vs)
below_some n zero vs b = (tt, b)
below_some n (suc i) [] b = (tt, tt)
below_some n (suc i) (v ∷ vs) b = let rest = below_some n i vs b.1 in ((b.0, rest.0), rest.1)

pub below_all : (keep : Bool) (next : ℕ) (cs : List Cell) (x y : ℕ) (s : Seams) (views : List ItemView) → cells_of (items_of cs) ≡ cs → NumbersBelow next (items_of cs) → x ≤ y → AreSeams cs x y s
    → NumbersBelow (next_after_splice cs x y (next_past_all next views)) (all_parts keep (items_of cs) s x y views (next_past_all next views))
below_all keep next cs x y s views whole b order seams =
    let vs : List ItemView = items_of cs in
    let fresh : ℕ = next_past_all next views in
    let parts : List ItemView = parts_between keep s x y views fresh in
    let m : ℕ = next_past_all next parts in
    let le : next ≤ m = next-rises next parts in
    let u : List ItemView = take (first_index s.left) vs in
    let d : List ItemView = drop (end_index s (length vs)) vs in
    let K : ℕ → Type 0 = λ k. NumbersBelow k (all_parts keep vs s x y views fresh) in
    let Z : List ItemView → Type 0 = λ zs. NumbersBelow m zs in
    subst K (next-spliced keep next cs x y s views whole b order seams)
    (subst Z (parts_in_a_row keep vs s x y views fresh)
    (below-append m (u ++ parts) d
    (below-append m u parts (below-weaker next m u le (below_some next (first_index s.left) vs b).0) (below-next next parts))
    (below-weaker next m d le (below_some next (end_index s (length vs)) vs b).1)))

-- the length
pub length-spliced : (rule : Rule) (cs : List Cell) (x y : ℕ) (ms : List Cell) (fresh : ℕ) → length (spliced rule cs x y ms fresh) ≡ min x (length cs) + length ms + (length cs - y)
length-spliced rule cs x y ms fresh =
    let all : List Cell = with_marks rule x y 0 cs in
    let count = length-marks rule x y 0 cs in
    let behind = length-map (drop y all) (renumbered (split_item cs x y) fresh) ∙ length-drop y all in
    length-append (take x all ++ ms) (map (renumbered (split_item cs x y) fresh) (drop y all))
    ∙ omega (arith, count, length-take x all, behind, length-append (take x all) ms)

pub kept_sound : (u : TrackState) (zs : List ItemView) → u.cells ≡ cells_of zs → Sound zs → NumbersBelow u.next_item zs → length u.cells < 2 ^ 32 → IsKept u
kept_sound u zs is s below short =
    let items : items_of u.cells ≡ joined zs = ap items_of is ∙ items_of-cells_of zs (filled-each zs s.each) in
    let E : List ItemView → Type 0 = λ vs. EachHolds vs in
    let A : List ItemView → Type 0 = λ vs. Apart vs in
    let B : List ItemView → Type 0 = λ vs. NumbersBelow u.next_item vs in
    record {
      whole = ap cells_of items ∙ (cells-joined zs s.each s.apart s.meet ∙ sym is);
      not_before = ap first_mark items ∙ (mark-joined zs ∙ s.first);
      each = subst E (sym items) (each-joined zs s.each s.apart s.meet);
      apart = subst A (sym items) (apart-joined zs s.apart);
      below = subst B (sym items) (below-joined u.next_item zs below);
      short = short;
    }

-- a splice of new items leaves a track
pub kept_spliced : (keep : Bool) (t : TrackState) (x y : ℕ) (views : List ItemView) → IsKept t → x ≤ y → y ≤ length t.cells → AreNew t.next_item views → length t.cells + frames_in views < 2 ^ 32 → IsKept (spliced_track keep t x y views)
kept_spliced keep t x y views k order within n short =
    let found = seams-exist t.cells x y k.whole (omega (arith, order, within)) in
    let fresh : ℕ = next_past_all t.next_item views in
    kept_sound (spliced_track keep t x y views) (all_parts keep (items_of t.cells) found.0 x y views fresh)
    (sym (cells_all keep t.cells x y fresh found.0 views k.whole k.each k.apart order found.1))
    (sound_all keep t.next_item t.cells x y found.0 views order (stand_of t k) found.1 n)
    (below_all keep t.next_item t.cells x y found.0 views k.whole k.below order found.1)
    (omega (arith, order, within, short, length-spliced (rule_of keep) t.cells x y (cells_of views) fresh, length-cells_of views))

-- the same where the new numbers are from a higher one on
from_weaker : (m n : ℕ) (vs : List ItemView) → n ≤ m → NumbersFrom m vs → NumbersFrom n vs
from_weaker m n [] le a = tt
from_weaker m n (v ∷ vs) le a = (from_item v.item a.0, from_weaker m n vs le a.1) where
  from_item : (o : Option ℕ) → IfSome o (λ i. m ≤ i) → IfSome o (λ i. n ≤ i)
  from_item None h = tt
  from_item (Some i) h = omega (arith, le, h)

pub new-weaker : (m n : ℕ) (views : List ItemView) → n ≤ m → AreNew m views → AreNew n views
new-weaker m n views le a = record { each = a.each; first = a.first; meet = a.meet; apart = a.apart; above = from_weaker m n views le a.above }

pub kept_put : (keep : Bool) (t : TrackState) (x y m : ℕ) (views : List ItemView) → IsKept t → x ≤ y → y ≤ length t.cells → t.next_item ≤ m → AreNew m views → length t.cells ≤ 100 → frames_in views < 100 → IsKept (spliced_track keep t x y views)
kept_put keep t x y m views k order within next n short few = kept_spliced keep t x y views k order within (new-weaker m t.next_item views next n) (omega (arith, short, few))
