-- What a roll means, as OpenTimelineIO's editAlgorithm names it; its limits are this project's own. The cut moves, what
-- stands at one side grows, as an item with its number and link or as dark cells, and the other side gives way.
use Rattle.std.specs.Prelude.{ℕ, ◌+◌, ◌-◌, ℤ, List, [], ◌∷◌, Result, Err, if◌then◌else◌, false}
use Rattle.frame_meaning.specs.Render.{cell_at}
use Rattle.composables.specs.declared.calls.Roll.{Roll}
use Rattle.composables.specs.declared.media.Table.{Table}
use Rattle.composables.specs.declared.refusals.Done.{Done}
use Rattle.composables.specs.declared.refusals.Refusal.{Refusal}
use Rattle.composables.specs.declared.refusals.Refusal.TheVariants.{NotACut}
use Rattle.composables.specs.Answers.{Applied}
use Rattle.composables.specs.OwnTracks.{on_own}
use Rattle.composables.specs.Ranges.{is_cut}
use Rattle.composables.specs.TrackState.{TrackState}
use Rattle.edit_delta.specs.Nearest.{by_sign, nearest}
use Rattle.edit_delta.specs.Reaching.{going_on, reaching_back}
use Rattle.edit_delta.specs.Using.{used_on}
use Rattle.edit_splice.specs.Splicing.{spliced_track}
use Rattle.edit_roll.specs.Neighbours.{move_allows}

-- the track with the cut n frames later, and n frames earlier
abbrev pub rolled_later : TrackState → ℕ → ℕ → TrackState
rolled_later t at n = spliced_track false t at (at + n) (going_on (cell_at t.cells (at - 1)) n ∷ [])

abbrev pub rolled_earlier : TrackState → ℕ → ℕ → TrackState
rolled_earlier t at n = spliced_track false t (at - n) at (reaching_back (cell_at t.cells at) n ∷ [])

abbrev pub rolled : TrackState → ℕ → ℤ → TrackState
rolled t at = by_sign (rolled_later t at) (rolled_earlier t at)

-- the cut moved by the delta that is used of the one asked for
abbrev pub roll_cut : Table → TrackState → ℤ → ℕ → Result (TrackState × Done) Refusal
roll_cut table t by at = used_on t (rolled t at) (nearest (move_allows table t at at) by)

abbrev pub roll_track : Table → Roll → TrackState → Result (TrackState × Done) Refusal
roll_track table c t = if is_cut t.cells c.at then roll_cut table t c.by c.at else Err (NotACut c.at)

abbrev pub roll_named : Table → List TrackState → Roll → Applied
roll_named table named c = on_own c.track (roll_track table c) named
