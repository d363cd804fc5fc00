-- What the edits mean that put items into tracks and take them out. Overwrite, Insert, Remove and Slice are those of
-- OpenTimelineIO's editAlgorithm; Extract, numbers of items, limits and edits over several tracks are this project's
-- own.
use Rattle.std.specs.Prelude.{ℕ, ◌+◌, ◌-◌, Bool, List, [], ◌∷◌, Result, Err, min, nat_lt, length, if◌then◌else◌}
use Rattle.frame_meaning.specs.declared.cells.What.{What}
use Rattle.composables.specs.declared.calls.Overwrite.{Overwrite}
use Rattle.composables.specs.declared.calls.Insert.{Insert}
use Rattle.composables.specs.declared.calls.Remove.{Remove}
use Rattle.composables.specs.declared.calls.Extract.{Extract}
use Rattle.composables.specs.declared.calls.Slice.{Slice}
use Rattle.composables.specs.declared.media.Table.{Table}
use Rattle.composables.specs.declared.refusals.Done.{Done}
use Rattle.composables.specs.declared.refusals.Done.TheVariants.{Item, Plain}
use Rattle.composables.specs.declared.refusals.Refusal.{Refusal}
use Rattle.composables.specs.declared.refusals.Refusal.TheVariants.{NoItem}
use Rattle.composables.specs.TrackState.{TrackState}
use Rattle.edit_splice.specs.Splicing.{spliced_track}
use Rattle.composables.specs.Answers.{Applied, unless}
use Rattle.composables.specs.Limits.{track_within_limits}
use Rattle.composables.specs.OwnTracks.{for_own, on_own, with_track}
use Rattle.composables.specs.Ranges.{on_range, range_of}
use Rattle.edit_splice.specs.Shifts.{shift_of}
use Rattle.edit_insert.specs.Sources.{source_refusal}
use Rattle.composables.specs.Views.{clip_view, gap_views}
use Rattle.edit_splice.specs.Padding.{padded_track}

-- the track with a new item over the places [at, at + len), cut to its length
abbrev pub overwritten : Bool → TrackState → ℕ → What → ℕ → ℕ → TrackState
overwritten keep t at what from len = over (padded_track t at) where
  over : TrackState → TrackState
  over p = spliced_track keep p at (min (at + len) (length p.cells)) (clip_view t.next_item what from len ∷ [])

abbrev pub overwrite_track : Table → Overwrite → TrackState → Result (TrackState × Done) Refusal
overwrite_track table c t =
    unless (source_refusal table t.number c.what c.from c.len) (track_within_limits (overwritten c.keep t c.at c.what c.from c.len) (Item t.next_item))

abbrev pub overwrite_named : Table → List TrackState → Overwrite → Applied
overwrite_named table named c = on_own c.track (overwrite_track table c) named

-- a new item at a place of the own track, and what is from there on later on all named tracks
abbrev pub inserted : Table → Insert → List TrackState → TrackState → Applied
inserted table c named t =
    unless (source_refusal table t.number c.what c.from c.len) (shift_of c.keep c.track c.at c.at (clip_view t.next_item c.what c.from c.len ∷ []) (Item t.next_item) (with_track named (padded_track t c.at)))

abbrev pub insert_named : Table → List TrackState → Insert → Applied
insert_named table named c = for_own c.track (inserted table c named) named

-- a gap in place of an item
abbrev pub remove_track : Remove → TrackState → Result (TrackState × Done) Refusal
remove_track c t = on_range (λ x y. track_within_limits (spliced_track c.keep t x y (gap_views (y - x))) Plain) (range_of t.cells c.item)

abbrev pub remove_named : List TrackState → Remove → Applied
remove_named named c = on_own c.track (remove_track c) named

-- nothing in place of an item, and what is after it earlier on all named tracks
abbrev pub extracted : Extract → List TrackState → TrackState → Applied
extracted c named t = on_range (λ x y. shift_of c.keep c.track x y [] Plain named) (range_of t.cells c.item)

abbrev pub extract_named : List TrackState → Extract → Applied
extract_named named c = for_own c.track (extracted c named) named

-- an item cut in two at a place
abbrev pub slice_track : Slice → TrackState → Result (TrackState × Done) Refusal
slice_track c t = if nat_lt c.at (length t.cells) then track_within_limits (spliced_track c.keep t c.at c.at []) Plain else Err NoItem

abbrev pub slice_named : List TrackState → Slice → Applied
slice_named named c = on_own c.track (slice_track c) named
