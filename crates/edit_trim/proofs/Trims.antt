-- What a trim of an item at its place means, and what it puts in.
use Rattle.std.proofs.Common.{◌≡◌, ℕ, ◌+◌, ◌-◌, ◌<◌, ◌≤◌, ◌^◌, Bool, true, false, ◌&&◌, leb, min, ℤ, List, [], ◌∷◌, length, Option, Some, Result, Ok, refl, sym, ap, ◌∙◌, arith, subst, w32, SFits, to_z, of_z, option_map}
use Rattle.std.proofs.lemmas.Int.{to_z-of_z}
use Rattle.std.proofs.lemmas.Bool.{leb-true}
use Rattle.frame_meaning.specs.declared.cells.Cell.{Cell}
use Rattle.frame_meaning.specs.declared.cells.What.{What}
use Rattle.frame_meaning.specs.declared.frames.Side.{Side}
use Rattle.frame_meaning.specs.Cells.{later_side}
use Rattle.frame_meaning.specs.Render.{cell_at}
use Rattle.composables.specs.declared.calls.End.TheVariants.{Head, Tail}
use Rattle.composables.specs.declared.calls.End.{End}
use Rattle.composables.specs.declared.calls.Trim.{Trim}
use Rattle.composables.specs.declared.items.ItemView.{ItemView}
use Rattle.composables.specs.declared.items.Place.{Place}
use Rattle.composables.specs.Ranges.{on_range, range_of}
use Rattle.composables.specs.declared.media.Table.{Table}
use Rattle.composables.specs.declared.refusals.Done.{Done}
use Rattle.composables.specs.declared.refusals.Refusal.{Refusal}
use Rattle.composables.specs.declared.TheConstants.{MAX_FRAMES}
use Rattle.composables.specs.Items.{cell_in}
use Rattle.composables.specs.Limits.{track_within_limits}
use Rattle.composables.specs.TrackState.{TrackState}
use Rattle.composables.specs.Views.{gap_view}
use Rattle.edit_delta.specs.declared.deltas.Way.TheVariants.{Earlier, Later, Still}
use Rattle.edit_delta.specs.Nearest.{AreUpTo, lies_within, nearest}
use Rattle.edit_delta.specs.Reaching.{going_on, has_after, has_before, keeps_a_cell, reaching_back}
use Rattle.edit_delta.specs.declared.deltas.Used.{Used}
use Rattle.edit_delta.specs.Using.{IsUsed}
use Rattle.edit_delta.proofs.Spots.{Spot, side-head, spot-head, spot-last}
use Rattle.edit_delta.proofs.Answered.{IsUsedOf, earlier-means, later-means, still-means, up-both, used-of}
use Rattle.edit_splice.specs.Splicing.{spliced_track}
use Rattle.edit_trim.specs.Darkness.{dark_before, dark_behind}
use Rattle.edit_trim.specs.Trimming.{head_earlier, head_later, head_may_grow, tail_earlier, tail_later, tail_may_grow, trim_end, trim_track}
use Rattle.edit_delta.proofs.Pieces.{gap-alone, keeps-up, up-true}

left_true : (a b : Bool) → a && b ≡ true → a ≡ true
left_true true b e = refl
left_true false b e = absurd cc

-- the ends of what is allowed
pub head-up : (table : Table) (t : TrackState) (i : ℕ) (v : ItemView) (x y dark reach most : ℕ) → Spot table t i v x y → AreUpTo (dark_before t.cells x) dark → AreUpTo (has_before table v.first) reach → most ≡ min dark reach
    → AreUpTo (head_may_grow table t x) most
head-up table t i v x y dark reach most s d r e =
    let side : v.first ≡ (cell_at t.cells x).side = sym (ap (λ (c : Cell). c.side) (spot-head table t i v x y s) ∙ side-head v) in
    up-both (dark_before t.cells x) (has_before table (cell_at t.cells x).side) dark reach most e d (subst (λ (z : Side What). AreUpTo (has_before table z) reach) side r)

pub tail-up : (table : Table) (t : TrackState) (i : ℕ) (v : ItemView) (x y dark reach most : ℕ) → Spot table t i v x y → AreUpTo (dark_behind t.cells y) dark → AreUpTo (has_after table (later_side v.first (v.len - 1))) reach → most ≡ min dark reach
    → AreUpTo (tail_may_grow table t y) most
tail-up table t i v x y dark reach most s d r e =
    let side : later_side v.first (v.len - 1) ≡ (cell_at t.cells (y - 1)).side = sym (ap (λ (c : Cell). c.side) (spot-last table t i v x y s)) in
    up-both (dark_behind t.cells y) (has_after table (cell_at t.cells (y - 1)).side) dark reach most e d (subst (λ (z : Side What). AreUpTo (has_after table z) reach) side r)

pub dark-there : (cs : List Cell) (x dark reach most n : ℕ) → AreUpTo (dark_before cs x) dark → most ≡ min dark reach → dark < 2 ^ 32 → n ≤ most → n ≤ x
dark-there cs x dark reach most n d e small le =
    leb-true n x (left_true (leb n x) _ (up-true (dark_before cs x) dark n d (omega (arith, le, e)) small))

pub room-there : (cs : List Cell) (y dark reach most n : ℕ) → AreUpTo (dark_behind cs y) dark → most ≡ min dark reach → dark < 2 ^ 32 → n ≤ most → y + n ≤ MAX_FRAMES
room-there cs y dark reach most n d e small le =
    leb-true (y + n) MAX_FRAMES (left_true (leb (y + n) MAX_FRAMES) _ (up-true (dark_behind cs y) dark n d (omega (arith, le, e)) small))

-- what is meant by the delta that is used
abbrev one_put : TrackState → ℕ → ℕ → Done → List ItemView → Result (TrackState × Done) Refusal
one_put t x y done views = track_within_limits (spliced_track false t x y views) done

abbrev pub HeadUsed : Table → TrackState → ℕ → ℕ → ℤ → Used → Type 0
HeadUsed table t x y by u = IsUsedOf (keeps_a_cell x y) (head_may_grow table t x) by u

abbrev pub TailUsed : Table → TrackState → ℕ → ℕ → ℤ → Used → Type 0
TailUsed table t x y by u = IsUsedOf (tail_may_grow table t y) (keeps_a_cell x y) by u

pub head-used : (table : Table) (t : TrackState) (i : ℕ) (v : ItemView) (x y dark reach most : ℕ) (by : ℤ) (u : Used) → Spot table t i v x y → SFits w32 by → AreUpTo (dark_before t.cells x) dark → AreUpTo (has_before table v.first) reach
    → most ≡ min dark reach → IsUsed (nearest (lies_within most (v.len - 1)) (to_z w32 (of_z w32 by))) u → HeadUsed table t x y by u
head-used table t i v x y dark reach most by u s fits d r e is =
    used-of (keeps_a_cell x y) (head_may_grow table t x) most (v.len - 1) by u fits (keeps-up table t i v x y s) (head-up table t i v x y dark reach most s d r e) is

pub tail-used : (table : Table) (t : TrackState) (i : ℕ) (v : ItemView) (x y dark reach most : ℕ) (by : ℤ) (u : Used) → Spot table t i v x y → SFits w32 by → AreUpTo (dark_behind t.cells y) dark
    → AreUpTo (has_after table (later_side v.first (v.len - 1))) reach → most ≡ min dark reach → IsUsed (nearest (lies_within (v.len - 1) most) (to_z w32 (of_z w32 by))) u → TailUsed table t x y by u
tail-used table t i v x y dark reach most by u s fits d r e is =
    used-of (tail_may_grow table t y) (keeps_a_cell x y) (v.len - 1) most by u fits (tail-up table t i v x y dark reach most s d r e) (keeps-up table t i v x y s) is

pub head-still : (table : Table) (t : TrackState) (x y : ℕ) (by : ℤ) (u : Used) → HeadUsed table t x y by u → u.way ≡ Still → trim_end table t Head by x y ≡ Ok (t, u.done)
head-still table t x y by u is way = still-means t (head_later t x) (head_earlier t x) (keeps_a_cell x y) (head_may_grow table t x) by u is way

pub head-later : (table : Table) (t : TrackState) (g : ItemView) (x y n : ℕ) (by : ℤ) (u : Used) → HeadUsed table t x y by u → u.way ≡ Later n → 0 < n → g ≡ gap_view n
    → trim_end table t Head by x y ≡ track_within_limits (spliced_track false t x (x + n) (g ∷ [])) u.done
head-later table t g x y n by u is way h e =
    later-means t (head_later t x) (head_earlier t x) (keeps_a_cell x y) (head_may_grow table t x) n by u is way
    ∙ ap (one_put t x (x + n) u.done) (gap-alone n h ∙ ap (λ (u : ItemView). u ∷ []) (sym e))

pub head-earlier : (table : Table) (t : TrackState) (i : ℕ) (v g : ItemView) (x y n : ℕ) (by : ℤ) (u : Used) → Spot table t i v x y → HeadUsed table t x y by u → u.way ≡ Earlier n → g ≡ reaching_back (cell_in v 0) n
    → trim_end table t Head by x y ≡ track_within_limits (spliced_track false t (x - n) x (g ∷ [])) u.done
head-earlier table t i v g x y n by u s is way e =
    earlier-means t (head_later t x) (head_earlier t x) (keeps_a_cell x y) (head_may_grow table t x) n by u is way
    ∙ ap (one_put t (x - n) x u.done) (ap (λ (c : Cell). reaching_back c n ∷ []) (spot-head table t i v x y s) ∙ ap (λ (u : ItemView). u ∷ []) (sym e))

pub tail-still : (table : Table) (t : TrackState) (x y : ℕ) (by : ℤ) (u : Used) → TailUsed table t x y by u → u.way ≡ Still → trim_end table t Tail by x y ≡ Ok (t, u.done)
tail-still table t x y by u is way = still-means t (tail_later t y) (tail_earlier t y) (tail_may_grow table t y) (keeps_a_cell x y) by u is way

pub tail-later : (table : Table) (t : TrackState) (i : ℕ) (v g : ItemView) (x y z n : ℕ) (by : ℤ) (u : Used) → Spot table t i v x y → TailUsed table t x y by u → u.way ≡ Later n → z ≡ min (y + n) (length t.cells)
    → g ≡ going_on (cell_in v (v.len - 1)) n → trim_end table t Tail by x y ≡ track_within_limits (spliced_track false t y z (g ∷ [])) u.done
tail-later table t i v g x y z n by u s is way end e =
    later-means t (tail_later t y) (tail_earlier t y) (tail_may_grow table t y) (keeps_a_cell x y) n by u is way
    ∙ (ap (λ (w : ℕ). one_put t y w u.done (going_on (cell_at t.cells (y - 1)) n ∷ [])) (sym end)
    ∙ ap (one_put t y z u.done) (ap (λ (c : Cell). going_on c n ∷ []) (spot-last table t i v x y s) ∙ ap (λ (u : ItemView). u ∷ []) (sym e)))

pub tail-earlier : (table : Table) (t : TrackState) (g : ItemView) (x y n : ℕ) (by : ℤ) (u : Used) → TailUsed table t x y by u → u.way ≡ Earlier n → 0 < n → g ≡ gap_view n
    → trim_end table t Tail by x y ≡ track_within_limits (spliced_track false t (y - n) y (g ∷ [])) u.done
tail-earlier table t g x y n by u is way h e =
    earlier-means t (tail_later t y) (tail_earlier t y) (tail_may_grow table t y) (keeps_a_cell x y) n by u is way
    ∙ ap (one_put t (y - n) y u.done) (gap-alone n h ∙ ap (λ (u : ItemView). u ∷ []) (sym e))

-- an end of the item that was found
pub track-means : (table : Table) (c : Trim) (t : TrackState) (o : Option Place) (p : Place) (e : End) → SFits w32 c.by → range_of t.cells c.item ≡ option_map (λ (p : Place). (p.from, p.to)) o → o ≡ Some p → c.end ≡ e
    → trim_track table c t ≡ trim_end table t e (to_z w32 (of_z w32 c.by)) p.from p.to
track-means table c t o p e fits range found is =
    ap (on_range (trim_end table t c.end c.by)) (range ∙ ap (option_map (λ (p : Place). (p.from, p.to))) found)
    ∙ (ap (λ (z : End). trim_end table t z c.by p.from p.to) is
    ∙ ap (λ (z : ℤ). trim_end table t e z p.from p.to) (sym (to_z-of_z w32 c.by fits)))
