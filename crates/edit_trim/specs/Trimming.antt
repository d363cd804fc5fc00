-- What a trim means, as OpenTimelineIO's editAlgorithm names it; its limits are this project's own. The item's head or
-- tail moves and nothing else. Frames that the item gives up become dark, and it grows only over dark frames.
use Rattle.std.specs.Prelude.{ℕ, ◌+◌, ◌-◌, ℤ, Bool, ◌&&◌, List, [], ◌∷◌, Result, min, length, false}
use Rattle.frame_meaning.specs.Render.{cell_at}
use Rattle.composables.specs.declared.calls.End.{End}
use Rattle.composables.specs.declared.calls.End.TheVariants.{Head, Tail}
use Rattle.composables.specs.declared.calls.Trim.{Trim}
use Rattle.composables.specs.declared.media.Table.{Table}
use Rattle.composables.specs.declared.refusals.Done.{Done}
use Rattle.composables.specs.declared.refusals.Refusal.{Refusal}
use Rattle.composables.specs.Answers.{Applied}
use Rattle.composables.specs.OwnTracks.{on_own}
use Rattle.composables.specs.Ranges.{on_range, range_of}
use Rattle.composables.specs.TrackState.{TrackState}
use Rattle.composables.specs.Views.{gap_views}
use Rattle.edit_delta.specs.Nearest.{by_sign, nearest}
use Rattle.edit_delta.specs.Reaching.{going_on, has_after, has_before, keeps_a_cell, reaching_back}
use Rattle.edit_delta.specs.Using.{used_on}
use Rattle.edit_splice.specs.Splicing.{spliced_track}
use Rattle.edit_trim.specs.Darkness.{dark_before, dark_behind}

-- its head may be n frames earlier, and its tail n frames later: the places are dark, and its source stays in its range
abbrev pub head_may_grow : Table → TrackState → ℕ → ℕ → Bool
head_may_grow table t x n = dark_before t.cells x n && has_before table (cell_at t.cells x).side n

abbrev pub tail_may_grow : Table → TrackState → ℕ → ℕ → Bool
tail_may_grow table t y n = dark_behind t.cells y n && has_after table (cell_at t.cells (y - 1)).side n

-- the deltas that are allowed for an end of the item on [x, y)
abbrev pub trim_allows : Table → TrackState → ℕ → ℕ → End → ℤ → Bool
trim_allows table t x y Head = by_sign (keeps_a_cell x y) (head_may_grow table t x)
trim_allows table t x y Tail = by_sign (tail_may_grow table t y) (keeps_a_cell x y)

-- the track with the head at x, or the tail at y, n frames later or earlier
abbrev pub head_later : TrackState → ℕ → ℕ → TrackState
head_later t x n = spliced_track false t x (x + n) (gap_views n)

abbrev pub head_earlier : TrackState → ℕ → ℕ → TrackState
head_earlier t x n = spliced_track false t (x - n) x (reaching_back (cell_at t.cells x) n ∷ [])

abbrev pub tail_later : TrackState → ℕ → ℕ → TrackState
tail_later t y n = spliced_track false t y (min (y + n) (length t.cells)) (going_on (cell_at t.cells (y - 1)) n ∷ [])

abbrev pub tail_earlier : TrackState → ℕ → ℕ → TrackState
tail_earlier t y n = spliced_track false t (y - n) y (gap_views n)

abbrev pub trimmed : TrackState → ℕ → ℕ → End → ℤ → TrackState
trimmed t x y Head = by_sign (head_later t x) (head_earlier t x)
trimmed t x y Tail = by_sign (tail_later t y) (tail_earlier t y)

-- an end of the item on [x, y) moved by the delta that is used of the one asked for
abbrev pub trim_end : Table → TrackState → End → ℤ → ℕ → ℕ → Result (TrackState × Done) Refusal
trim_end table t end by x y = used_on t (trimmed t x y end) (nearest (trim_allows table t x y end) by)

abbrev pub trim_track : Table → Trim → TrackState → Result (TrackState × Done) Refusal
trim_track table c t = on_range (trim_end table t c.end c.by) (range_of t.cells c.item)

abbrev pub trim_named : Table → List TrackState → Trim → Applied
trim_named table named c = on_own c.track (trim_track table c) named
