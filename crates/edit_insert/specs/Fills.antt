-- What a fill means, as OpenTimelineIO's editAlgorithm names it: a new item at the start of a gap, of the source frames
-- asked for as far as the gap has room, or of the whole gap. Refusals and their order are this project's own.
use Rattle.std.specs.Prelude.{ℕ, ◌+◌, ◌-◌, Bool, true, false, List, [], ◌∷◌, Option, Some, None, Result, Err, min, slice_get}
use Rattle.frame_meaning.specs.declared.cells.What.{What}
use Rattle.composables.specs.declared.calls.Fill.{Fill}
use Rattle.composables.specs.declared.calls.FillLength.{FillLength}
use Rattle.composables.specs.declared.calls.FillLength.TheVariants.{Sequence, Source}
use Rattle.composables.specs.declared.media.Table.{Table}
use Rattle.composables.specs.declared.refusals.Done.{Done}
use Rattle.composables.specs.declared.refusals.Done.TheVariants.{Item}
use Rattle.composables.specs.declared.refusals.Refusal.{Refusal}
use Rattle.composables.specs.declared.refusals.Refusal.TheVariants.{NoMedia, NotAGap}
use Rattle.composables.specs.Answers.{Applied, unless}
use Rattle.composables.specs.Bounds.{bounds_of}
use Rattle.composables.specs.Limits.{track_within_limits}
use Rattle.composables.specs.OwnTracks.{on_own}
use Rattle.composables.specs.Ranges.{gap_at}
use Rattle.composables.specs.TrackState.{TrackState}
use Rattle.composables.specs.Views.{clip_view}
use Rattle.edit_splice.specs.Splicing.{spliced_track}
use Rattle.edit_insert.specs.Sources.{source_refusal, suits}

-- how many source frames are asked for, in a gap of this length: all that are named, also where fewer fit
abbrev pub frames_asked : FillLength → ℕ → ℕ
frames_asked (Source len) gap = len
frames_asked Sequence gap = gap

-- why a thing can't stand on a track, if it can't
abbrev pub thing_refusal_in : Option (ℕ × ℕ) → Bool → Option Refusal
thing_refusal_in None fits = Some NoMedia
thing_refusal_in (Some range) true = None
thing_refusal_in (Some range) false = Some NoMedia

abbrev pub thing_refusal : Table → ℕ → What → Option Refusal
thing_refusal table track what = thing_refusal_in (bounds_of table what) (suits (slice_get table.kinds track) what)

-- why its source frames are refused, where at stands in no gap: a whole gap asks for none then
abbrev pub refusal_without : Table → ℕ → What → ℕ → FillLength → Option Refusal
refusal_without table track what from (Source len) = source_refusal table track what from len
refusal_without table track what from Sequence = thing_refusal table track what

-- the new item at the start of a gap at g
abbrev pub filled : TrackState → Fill → ℕ → ℕ → TrackState
filled t c g len = spliced_track c.keep t g (g + len) (clip_view t.next_item c.what c.from len ∷ [])

-- in the gap [g, h): as many of the frames asked for as it has room for
abbrev pub fill_gap : Table → Fill → TrackState → ℕ → ℕ → Result (TrackState × Done) Refusal
fill_gap table c t g h =
    unless (source_refusal table t.number c.what c.from (frames_asked c.length (h - g))) (track_within_limits (filled t c g (min (frames_asked c.length (h - g)) (h - g))) (Item t.next_item))

-- why it is refused where the place is in no gap
abbrev pub first_refusal : Option Refusal → Refusal → Refusal
first_refusal None last = last
first_refusal (Some why) last = why

abbrev pub why_no_gap : Table → ℕ → Fill → Refusal
why_no_gap table track c = first_refusal (refusal_without table track c.what c.from c.length) (NotAGap c.at)

abbrev pub fill_at : Table → Fill → TrackState → Option (ℕ × ℕ) → Result (TrackState × Done) Refusal
fill_at table c t None = Err (why_no_gap table t.number c)
fill_at table c t (Some (g, h)) = fill_gap table c t g h

abbrev pub fill_track : Table → Fill → TrackState → Result (TrackState × Done) Refusal
fill_track table c t = fill_at table c t (gap_at t.cells c.at)

abbrev pub fill_named : Table → List TrackState → Fill → Applied
fill_named table named c = on_own c.track (fill_track table c) named
