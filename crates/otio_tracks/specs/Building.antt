-- The track of the items and gaps that were read.
use Rattle.std.specs.Prelude.{ℕ, ◌+◌, nat_le, ◌&&◌, List, [], ◌∷◌, length, Some, None, Ok, if◌then◌else◌}
use Rattle.composables.specs.declared.TheConstants.{MAX_FRAMES, MAX_ITEMS}
use Rattle.composables.specs.declared.items.ItemView.{ItemView}
use Rattle.composables.specs.TrackState.{TrackState}
use Rattle.composables.specs.Items.{cells_of}
use Rattle.otio_tracks.specs.declared.faults.DocCode.TheVariants.{O11}
use Rattle.otio_tracks.specs.declared.parts.Part.{Part}
use Rattle.otio_tracks.specs.Reading.{Read, refuse}
use Rattle.otio_tracks.specs.Parts.{is_gap}
use Rattle.otio_tracks.specs.Rows.{frames_in_all}

abbrev pub view_of : ℕ → Part → ItemView
view_of number p = record { item = if is_gap p then None else Some number; first = p.first; len = p.len; mark = p.mark; link = None }

abbrev pub number_after : ℕ → Part → ℕ
number_after number p = if is_gap p then number else number + 1

-- items are numbered one after another, gaps not counted
abbrev pub views_of : ℕ → List Part → List ItemView
views_of number [] = []
views_of number (p ∷ ps) = view_of number p ∷ views_of (number_after number p) ps

abbrev pub number_behind : ℕ → List Part → ℕ
number_behind number [] = number
number_behind number (p ∷ ps) = number_behind (number_after number p) ps

abbrev pub track_made : ℕ → List Part → TrackState
track_made number parts = record { number = number; cells = cells_of (views_of 0 parts); next_item = number_behind 0 parts; next_link = 0 }

-- if it has no more frames, and no more items and gaps, than a track may have
unfoldable pub track_fit : ℕ → List Part → ℕ → Read TrackState
track_fit number parts at =
    if nat_le (frames_in_all parts) MAX_FRAMES && nat_le (length parts) MAX_ITEMS then Ok (track_made number parts) else refuse O11 at
