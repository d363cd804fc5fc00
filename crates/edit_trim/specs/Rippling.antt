-- What a ripple means, as OpenTimelineIO's editAlgorithm names it; its limits and named tracks are this project's own. An
-- end of the item moves, and all that is behind it comes as much later or earlier on all named tracks.
use Rattle.std.specs.Prelude.{ℕ, ◌+◌, ◌-◌, ℤ, Bool, true, ◌&&◌, ◌||◌, List, [], ◌∷◌, nat_eq, nat_le, nat_lt, length, unwrap_or, if◌then◌else◌, false}
use Rattle.frame_meaning.specs.Render.{cell_at}
use Rattle.composables.specs.declared.calls.End.{End}
use Rattle.composables.specs.declared.calls.End.TheVariants.{Head, Tail}
use Rattle.composables.specs.declared.calls.Ripple.{Ripple}
use Rattle.composables.specs.declared.media.Table.{Table}
use Rattle.composables.specs.declared.refusals.Done.{Done}
use Rattle.composables.specs.declared.TheConstants.{MAX_FRAMES}
use Rattle.composables.specs.Answers.{Applied}
use Rattle.composables.specs.Links.{links_split}
use Rattle.composables.specs.OwnTracks.{for_own, track_numbered}
use Rattle.composables.specs.Ranges.{on_range, range_of}
use Rattle.composables.specs.TrackState.{TrackState}
use Rattle.edit_delta.specs.Nearest.{by_sign, nearest}
use Rattle.edit_delta.specs.Reaching.{going_on, has_after, has_before, keeps_a_cell, reaching_back}
use Rattle.edit_splice.specs.Shifts.{shift_of}
use Rattle.edit_delta.specs.Using.{used_from}

-- a named track has room for n frames more at a place; one that does not have the place does not grow
abbrev pub has_room : ℕ → ℕ → ℕ → TrackState → Bool
has_room own place n t =
    if nat_eq t.number own || nat_lt place (length t.cells) then nat_le (length t.cells + n) MAX_FRAMES else true

abbrev pub have_room : ℕ → ℕ → List TrackState → ℕ → Bool
have_room own place [] n = true
have_room own place (t ∷ ts) n = has_room own place n t && have_room own place ts n

-- the deltas that are allowed for an end of the item on [x, y) of its track t
abbrev pub ripple_allows : Table → ℕ → List TrackState → TrackState → ℕ → ℕ → End → ℤ → Bool
ripple_allows table own named t x y Head =
    by_sign (keeps_a_cell x y) (λ n. have_room own x named n && has_before table (cell_at t.cells x).side n)
ripple_allows table own named t x y Tail =
    by_sign (λ n. have_room own y named n && has_after table (cell_at t.cells (y - 1)).side n) (keeps_a_cell x y)

-- the track t as a split leaves it of the links of what these tracks have from a place on
abbrev pub as_split : ℕ → List TrackState → TrackState → TrackState
as_split place named t = unwrap_or (track_numbered t.number (links_split place place named)) t

-- the shift by which the end comes n frames later, or earlier: it goes on or reaches back, or gives frames up. Where it
-- reaches back it does so with the link that its frames get, which are moved.
abbrev pub rippled : ℕ → List TrackState → TrackState → ℕ → ℕ → End → Done → ℤ → Applied
rippled own named t x y Head done =
    by_sign (λ n. shift_of false own x (x + n) [] done named) (λ n. shift_of false own x x (reaching_back (cell_at (as_split x named t).cells x) n ∷ []) done named)
rippled own named t x y Tail done =
    by_sign (λ n. shift_of false own y y (going_on (cell_at t.cells (y - 1)) n ∷ []) done named) (λ n. shift_of false own (y - n) y [] done named)

-- an end of the item on [x, y) moved by the delta that is used of the one asked for
abbrev pub ripple_end : Table → ℕ → List TrackState → TrackState → End → ℤ → ℕ → ℕ → Applied
ripple_end table own named t end by x y =
    used_from named (rippled own named t x y end) (nearest (ripple_allows table own named t x y end) by)

abbrev pub ripple_own : Table → Ripple → List TrackState → TrackState → Applied
ripple_own table c named t = on_range (ripple_end table c.track named t c.end c.by) (range_of t.cells c.item)

abbrev pub ripple_named : Table → List TrackState → Ripple → Applied
ripple_named table named c = for_own c.track (ripple_own table c named) named
