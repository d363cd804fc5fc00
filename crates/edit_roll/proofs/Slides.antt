-- An item that slides between its neighbours, and what is put in.
use Rattle.std.proofs.Common.{◌≡◌, ℕ, zero, suc, ◌+◌, ◌-◌, ◌≤◌, Bool, true, false, ◌&&◌, ℤ, pos, negsuc, neg_ℤ, List, [], ◌∷◌, slice_get, Option, Some, None, IfSome, Ok, refl, sym, ap, ◌∙◌, arith, subst, inr, ◌⊎◌, w32, SFits, to_z, of_z, option_map, cond}
use Rattle.std.proofs.lemmas.Int.{to_z-of_z}
use Rattle.std.proofs.lemmas.Option.{slice_get_within}
use Rattle.frame_meaning.specs.declared.cells.Cell.{Cell}
use Rattle.frame_meaning.specs.declared.cells.What.{What}
use Rattle.frame_meaning.specs.declared.frames.Side.{Side}
use Rattle.frame_meaning.specs.Render.{cell_at}
use Rattle.composables.specs.declared.calls.Slide.{Slide}
use Rattle.composables.specs.declared.items.ItemView.{ItemView}
use Rattle.composables.specs.declared.items.Place.{Place}
use Rattle.composables.specs.declared.media.Table.{Table}
use Rattle.composables.specs.declared.refusals.Done.TheVariants.{By}
use Rattle.composables.specs.Good.{EachLinkOf, IsGood, IsLinkOf}
use Rattle.composables.specs.Items.{cell_in, items_of}
use Rattle.composables.specs.Limits.{track_within_limits}
use Rattle.composables.specs.Ranges.{on_range, range_of}
use Rattle.composables.specs.TrackFacts.{EachHolds, ShowsAsItem}
use Rattle.composables.specs.TrackState.{TrackState}
use Rattle.edit_delta.specs.declared.deltas.Used.{Used}
use Rattle.edit_delta.specs.declared.deltas.Way.TheVariants.{Earlier, Later, Still}
use Rattle.edit_delta.specs.Nearest.{by_sign, greatest, nearest}
use Rattle.edit_delta.specs.Parts.{AreParts}
use Rattle.edit_delta.specs.Reaching.{going_on, reaching_back}
use Rattle.edit_delta.specs.Using.{IsUsed, used_on}
use Rattle.edit_delta.proofs.Answered.{IsUsedOf, earlier-means, later-means, still-means}
use Rattle.edit_delta.proofs.Greatest.{nearest-same}
use Rattle.edit_delta.proofs.Pieces.{goes-on, reaches-back}
use Rattle.edit_delta.proofs.Spots.{Spot, side-head, spot-head, spot-last}
use Rattle.edit_splice.specs.PutIn.{going_on as goes, reaching_back as reaches, StandAlone, StandsWithin}
use Rattle.edit_splice.specs.Splicing.{spliced_track}
use Rattle.edit_roll.specs.Neighbours.{has_neighbours, may_move_earlier, may_move_later, move_allows}
use Rattle.edit_roll.specs.NeighboursInside.{FitsBetween, fits_between}
use Rattle.edit_roll.specs.Sliding.{bare_item, bare_view, slid_earlier, slid_later, slide_allows, slide_range, slide_track}
use Rattle.edit_roll.proofs.Moves.{Around, after-fits, before-fits, same-moves}

-- the deltas allowed for the item are those between its neighbours
abbrev pub SlideUsed : Table → TrackState → ℕ → ℕ → ℤ → Used → Type 0
SlideUsed table t x y by u = IsUsedOf (λ n. has_neighbours t.cells x y && may_move_later table t x y n) (λ n. has_neighbours t.cells x y && may_move_earlier table t x y n) by u

with_both : (table : Table) (t : TrackState) (x y : ℕ) (e : ℤ) → has_neighbours t.cells x y ≡ true → slide_allows table t x y e ≡ move_allows table t x y e
with_both table t x y (pos n) h = ap (λ (b : Bool). b && may_move_later table t x y n) h
with_both table t x y (negsuc n) h = ap (λ (b : Bool). b && may_move_earlier table t x y (suc n)) h

pub slide-used : (table : Table) (t : TrackState) (x y : ℕ) (l r : ItemView) (by : ℤ) (u : Used) → Around table t x y l r → has_neighbours t.cells x y ≡ true → SFits w32 by → IsUsed (nearest (fits_between table l r) (to_z w32 (of_z w32 by))) u
    → SlideUsed table t x y by u
slide-used table t x y l r by u a both fits is = record {
  used = subst (λ (d : ℤ). IsUsed d u)
      (ap (nearest (fits_between table l r)) (to_z-of_z w32 by fits)
      ∙ nearest-same (fits_between table l r) (slide_allows table t x y) by (λ e between. same-moves table t x y l r e a ∙ sym (with_both table t x y e both))) is;
}

-- without a neighbour at one side only 0 is allowed
no_greatest : (f : ℕ → Bool) (n : ℕ) → ((k : ℕ) → f k ≡ false) → greatest f n ≡ 0
no_greatest f zero h = refl
no_greatest f (suc n) h = ap (λ (b : Bool). cond b (suc n) (greatest f n)) (h (suc n)) ∙ no_greatest f n h

none_allowed : (table : Table) (t : TrackState) (x y : ℕ) (e : ℤ) → has_neighbours t.cells x y ≡ false → slide_allows table t x y e ≡ false
none_allowed table t x y (pos n) h = ap (λ (b : Bool). b && may_move_later table t x y n) h
none_allowed table t x y (negsuc n) h = ap (λ (b : Bool). b && may_move_earlier table t x y (suc n)) h

no_nearest : (f : ℤ → Bool) (by : ℤ) → ((e : ℤ) → f e ≡ false) → nearest f by ≡ pos 0
no_nearest f (pos n) h = ap pos (no_greatest (λ k. f (pos k)) n (λ k. h (pos k)))
no_nearest f (negsuc n) h = ap (λ (k : ℕ). neg_ℤ (pos k)) (no_greatest (λ k. f (neg_ℤ (pos k))) (suc n) (λ k. h (neg_ℤ (pos k))))

slide-none : (table : Table) (t : TrackState) (by : ℤ) (x y : ℕ) → has_neighbours t.cells x y ≡ false → slide_range table t by x y ≡ Ok (t, By (pos 0))
slide-none table t by x y h =
    let z = no_nearest (slide_allows table t x y) by (λ e. none_allowed table t x y e h) in
    ap (used_on t (by_sign (slid_later t x y) (slid_earlier t x y))) z

pub slide-nowhere : (table : Table) (t : TrackState) (by : ℤ) (x y : ℕ) → has_neighbours t.cells x y ≡ false → nearest (slide_allows table t x y) by ≡ pos 0
slide-nowhere table t by x y h = no_nearest (slide_allows table t x y) by (λ e. none_allowed table t x y e h)

-- the item itself may be put in beside where it stood
link_there : (number : ℕ) (vs : List ItemView) (i : ℕ) (v : ItemView) → slice_get vs i ≡ Some v → EachLinkOf number vs → IsLinkOf number v.link
link_there number [] i v e h = absurd (omega (arith, slice_get_within [] i v e))
link_there number (w ∷ ws) zero v e h = let same : w ≡ v = cc in subst (λ (u : ItemView). IsLinkOf number u.link) same h.0
link_there number (w ∷ ws) (suc i) v e h = link_there number ws i v e h.1

pub shows-there : (vs : List ItemView) (i : ℕ) (v : ItemView) → slice_get vs i ≡ Some v → EachHolds vs → ShowsAsItem v.item v.first v.link
shows-there [] i v e h = absurd (omega (arith, slice_get_within [] i v e))
shows-there (w ∷ ws) zero v e h = let same : w ≡ v = cc in subst (λ (u : ItemView). ShowsAsItem u.item u.first u.link) same h.0.shows
shows-there (w ∷ ws) (suc i) v e h = shows-there ws i v e h.1

abbrev IsFree : TrackState → ℕ → ℕ → Option ℕ → Type 0
IsFree t x y o = IfSome o (λ i. (t.next_item ≤ i) ⊎ StandsWithin t x y i)

free_item : (table : Table) (t : TrackState) (i : ℕ) (v : ItemView) (x y a b : ℕ) → Spot table t i v x y → a ≤ x → y ≤ b → IsFree t a b v.item
free_item table t i v x y a b s le ge = by v.item refl where
  by : (o : Option ℕ) → v.item ≡ o → IsFree t a b o
  by None e = tt
  by (Some n) e = inr (record { index = i; view = v; from = x; to = y; stands = record { read = s.read; starts = s.starts; stops = s.stops }; is = e; begins = le; ends = ge })

lone_item : (o : Option ℕ) → IfSome o (λ i. Unit {0})
lone_item None = tt
lone_item (Some i) = tt

pub bare-alone : (table : Table) (t : TrackState) (i : ℕ) (v : ItemView) (x y a b : ℕ) → IsGood table t → Spot table t i v x y → a ≤ x → y ≤ b → StandAlone table t a b (bare_view v ∷ [])
bare-alone table t i v x y a b good s le ge = record {
  each = (
    record {
      filled = s.filled;
      shows = shows-there (items_of t.cells) i v s.read good.kept.each;
      mark_filled = tt;
      room = omega arith;
      source = s.source;
      head_no_nest = tt;
      tail_no_nest = tt;
    },
    tt,
  );
  first = refl;
  meet = (tt, tt);
  apart = (lone_item v.item, tt);
  free = (free_item table t i v x y a b s le ge, tt);
  ranges = (s.lies, tt);
  links = (link_there t.number (items_of t.cells) i v s.read good.links, tt);
}

-- the two parts of a slide
pub slide-on : (table : Table) (t : TrackState) (i : ℕ) (v l r g b : ItemView) (x y n : ℕ) → IsGood table t → Spot table t i v x y → Around table t x y l r → FitsBetween table l r (Later n)
    → g ≡ going_on (cell_in l (l.len - 1)) n → b ≡ bare_view v → AreParts table t x (y + n) (g ∷ b ∷ [])
slide-on table t i v l r g b x y n good s a f is bare = subst (λ (u : ItemView). AreParts table t x (y + n) (u ∷ b ∷ [])) (sym is) (subst (λ (u : ItemView). AreParts table t x (y + n) (on ∷ u ∷ [])) (sym bare) parts) where
  on : ItemView
  on = going_on (cell_in l (l.len - 1)) n

  parts : AreParts table t x (y + n) (on ∷ bare_view v ∷ [])
  parts = record {
    order = omega (arith, s.long);
    within = omega (arith, f.1, a.right.within);
    few = omega arith;
    filled = (f.0, (s.filled, tt));
    may = goes (goes-on table t a.before l (x - l.len) x n a.left f.0 (after-fits table t x y l r n a f)) (bare-alone table t i v x y x (y + n) good s (omega arith) (omega arith));
    numbers = (a.left.number, (s.number, tt));
    short = omega (arith, s.long, f.1, a.right.within, good.frames);
  }

pub slide-back : (table : Table) (t : TrackState) (i : ℕ) (v l r g b : ItemView) (x y n : ℕ) → IsGood table t → Spot table t i v x y → Around table t x y l r → FitsBetween table l r (Earlier n)
    → g ≡ reaching_back (cell_in r 0) n → b ≡ bare_view v → AreParts table t (x - n) y (b ∷ g ∷ [])
slide-back table t i v l r g b x y n good s a f is bare = subst (λ (u : ItemView). AreParts table t (x - n) y (b ∷ u ∷ [])) (sym is) (subst (λ (u : ItemView). AreParts table t (x - n) y (u ∷ back ∷ [])) (sym bare) parts) where
  back : ItemView
  back = reaching_back (cell_in r 0) n

  parts : AreParts table t (x - n) y (bare_view v ∷ back ∷ [])
  parts = record {
    order = omega (arith, s.long);
    within = s.within;
    few = omega arith;
    filled = (s.filled, (f.0, tt));
    may = reaches {views = bare_view v ∷ []} (reaches-back table t a.behind r y (y + r.len) n a.right f.0 (before-fits table t x y l r n a f)) (bare-alone table t i v x y (x - n) y good s (omega arith) (omega arith));
    numbers = (s.number, (a.right.number, tt));
    short = omega (arith, s.long, f.1, a.left.long, s.within, good.frames);
  }

-- what is meant
bare_is : (table : Table) (t : TrackState) (i : ℕ) (v b : ItemView) (x y : ℕ) → Spot table t i v x y → b ≡ bare_view v → bare_item (cell_at t.cells x) (y - x) ≡ b
bare_is table t i v b x y s bare =
    let len : y - x ≡ v.len = omega (arith, s.long) in
    ap (λ (c : Cell). bare_item c (y - x)) (spot-head table t i v x y s)
    ∙ (ap (bare_item (cell_in v 0)) len
    ∙ (ap (λ (d : Side What). record { item = v.item; first = d; len = v.len; mark = None; link = v.link }) (side-head v) ∙ sym bare))

pub slide-still : (table : Table) (t : TrackState) (x y : ℕ) (by : ℤ) (u : Used) → SlideUsed table t x y by u → u.way ≡ Still → slide_range table t by x y ≡ Ok (t, u.done)
slide-still table t x y by u is way =
    still-means t (slid_later t x y) (slid_earlier t x y) (λ n. has_neighbours t.cells x y && may_move_later table t x y n) (λ n. has_neighbours t.cells x y && may_move_earlier table t x y n) by u is way

pub slide-later : (table : Table) (t : TrackState) (i : ℕ) (v l r g b : ItemView) (x y n : ℕ) (by : ℤ) (u : Used) → Spot table t i v x y → Around table t x y l r → SlideUsed table t x y by u → u.way ≡ Later n
    → g ≡ going_on (cell_in l (l.len - 1)) n → b ≡ bare_view v → slide_range table t by x y ≡ track_within_limits (spliced_track false t x (y + n) (g ∷ b ∷ [])) u.done
slide-later table t i v l r g b x y n by u s a is way e bare =
    later-means t (slid_later t x y) (slid_earlier t x y) (λ n. has_neighbours t.cells x y && may_move_later table t x y n) (λ n. has_neighbours t.cells x y && may_move_earlier table t x y n) n by u is way
    ∙ (ap (λ (w : ItemView). track_within_limits (spliced_track false t x (y + n) (w ∷ bare_item (cell_at t.cells x) (y - x) ∷ [])) u.done) (ap (λ (c : Cell). going_on c n) (spot-last table t a.before l (x - l.len) x a.left) ∙ sym e)
    ∙ ap (λ (w : ItemView). track_within_limits (spliced_track false t x (y + n) (g ∷ w ∷ [])) u.done) (bare_is table t i v b x y s bare))

pub slide-earlier : (table : Table) (t : TrackState) (i : ℕ) (v l r g b : ItemView) (x y n : ℕ) (by : ℤ) (u : Used) → Spot table t i v x y → Around table t x y l r → SlideUsed table t x y by u → u.way ≡ Earlier n
    → g ≡ reaching_back (cell_in r 0) n → b ≡ bare_view v → slide_range table t by x y ≡ track_within_limits (spliced_track false t (x - n) y (b ∷ g ∷ [])) u.done
slide-earlier table t i v l r g b x y n by u s a is way e bare =
    earlier-means t (slid_later t x y) (slid_earlier t x y) (λ n. has_neighbours t.cells x y && may_move_later table t x y n) (λ n. has_neighbours t.cells x y && may_move_earlier table t x y n) n by u is way
    ∙ (ap (λ (w : ItemView). track_within_limits (spliced_track false t (x - n) y (bare_item (cell_at t.cells x) (y - x) ∷ w ∷ [])) u.done) (ap (λ (c : Cell). reaching_back c n) (spot-head table t a.behind r y (y + r.len) a.right) ∙ sym e)
    ∙ ap (λ (w : ItemView). track_within_limits (spliced_track false t (x - n) y (w ∷ g ∷ [])) u.done) (bare_is table t i v b x y s bare))

-- the item that was found
pub slide-means : (table : Table) (c : Slide) (t : TrackState) (o : Option Place) (p : Place) → SFits w32 c.by → range_of t.cells c.item ≡ option_map (λ (p : Place). (p.from, p.to)) o → o ≡ Some p
    → slide_track table c t ≡ slide_range table t (to_z w32 (of_z w32 c.by)) p.from p.to
slide-means table c t o p fits range found =
    ap (on_range (slide_range table t c.by)) (range ∙ ap (option_map (λ (p : Place). (p.from, p.to))) found)
    ∙ ap (λ (z : ℤ). slide_range table t z p.from p.to) (sym (to_z-of_z w32 c.by fits))

pub slide-stays : (table : Table) (c : Slide) (t : TrackState) (o : Option Place) (p : Place) → range_of t.cells c.item ≡ option_map (λ (p : Place). (p.from, p.to)) o → o ≡ Some p → has_neighbours t.cells p.from p.to ≡ false
    → slide_track table c t ≡ Ok (t, By (pos 0))
slide-stays table c t o p range found none =
    ap (on_range (slide_range table t c.by)) (range ∙ ap (option_map (λ (p : Place). (p.from, p.to))) found) ∙ slide-none table t c.by p.from p.to none
