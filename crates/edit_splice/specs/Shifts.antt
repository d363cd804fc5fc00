-- A shift: cells in place of the places [x, y) on each named track, by which what is behind them moves.
use Rattle.std.specs.Prelude.{ℕ, ◌+◌, ◌-◌, Bool, List, [], Option, None, map, min, nat_eq, nat_lt, length, if◌then◌else◌}
use Rattle.composables.specs.declared.items.ItemView.{ItemView}
use Rattle.composables.specs.declared.refusals.Done.{Done}
use Rattle.composables.specs.declared.refusals.Refusal.{Refusal}
use Rattle.composables.specs.Joined.{frames_in}
use Rattle.composables.specs.TrackState.{TrackState}
use Rattle.edit_splice.specs.Splicing.{spliced_track}
use Rattle.composables.specs.Answers.{Applied, unless}
use Rattle.composables.specs.Limits.{within_limits}
use Rattle.composables.specs.Links.{cells_from, link_outside, links_split}
use Rattle.composables.specs.Views.{gap_views}

-- another track than the call's own: x and y are cut to its length, and as many dark frames are put in where x is
-- below it
abbrev pub shifted_along : Bool → TrackState → ℕ → ℕ → ℕ → TrackState
shifted_along keep t x y len = spliced_track keep t (min x (length t.cells)) (min y (length t.cells)) dark where
  dark : List ItemView
  dark = if nat_lt x (length t.cells) then gap_views len else []

abbrev pub shifted_track : Bool → ℕ → ℕ → ℕ → List ItemView → TrackState → TrackState
shifted_track keep own x y views t =
    if nat_eq t.number own then spliced_track keep t x y views else shifted_along keep t x y (frames_in views)

abbrev pub shifted : Bool → ℕ → ℕ → ℕ → List ItemView → List TrackState → List TrackState
shifted keep own x y views named = map (shifted_track keep own x y views) named

-- the refusal of a shift that puts len frames in place of [x, y), for the links of what it moves
abbrev pub shift_refusal : ℕ → ℕ → ℕ → List TrackState → Option Refusal
shift_refusal x y len named = if nat_eq len (y - x) then None else link_outside named (cells_from y named)

-- the tracks after it: where it moves, links are split
abbrev pub after_shift : Bool → ℕ → ℕ → ℕ → List ItemView → List TrackState → List TrackState
after_shift keep own x y views named =
    if nat_eq (frames_in views) (y - x)
    then shifted keep own x y views named
    else links_split x (x + frames_in views) (shifted keep own x y views named)

-- what a shift means, where the track own gets these items and gaps
abbrev pub shift_of : Bool → ℕ → ℕ → ℕ → List ItemView → Done → List TrackState → Applied
shift_of keep own x y views done named =
    unless (shift_refusal x y (frames_in views) named) (within_limits (after_shift keep own x y views named) done)
