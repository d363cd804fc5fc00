-- What a splice leaves of a track.
use Rattle.std.specs.Prelude.{ℕ, Bool, List, Result}
use Rattle.frame_meaning.specs.Splice.{rule_of, spliced, next_after_splice}
use Rattle.composables.specs.declared.items.ItemView.{ItemView}
use Rattle.composables.specs.declared.refusals.Done.{Done}
use Rattle.composables.specs.declared.refusals.Refusal.{Refusal}
use Rattle.composables.specs.Items.{cells_of}
use Rattle.composables.specs.Limits.{track_within_limits}
use Rattle.composables.specs.TrackState.{TrackState, next_past_all}

-- the track with items in place of the record frames [x, y): the new items take their numbers first, and then the
-- later part of an item that is split; `keep` says whether dissolves are kept as far as there is room for them
abbrev pub spliced_track : Bool → TrackState → ℕ → ℕ → List ItemView → TrackState
spliced_track keep t x y views = after (next_past_all t.next_item views) where
  after : ℕ → TrackState
  after fresh = record t {
    cells = spliced (rule_of keep) t.cells x y (cells_of views) fresh;
    next_item = next_after_splice t.cells x y fresh;
  }

-- the same of a splice by an edit, which answers this where the track keeps its limits
abbrev pub placed : Bool → TrackState → ℕ → ℕ → List ItemView → Done → Result (TrackState × Done) Refusal
placed keep t x y views done = track_within_limits (spliced_track keep t x y views) done
