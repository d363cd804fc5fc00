-- What is put into a track: dark frames up to a place, and a new item.
use Rattle.std.specs.Prelude.{ℕ, ◌-◌, List, [], ◌∷◌, ◌++◌, Option, Some, None, length}
use Rattle.composables.specs.declared.items.ItemView.{ItemView}
use Rattle.composables.specs.Items.{cells_of}
use Rattle.composables.specs.TrackState.{TrackState}
use Rattle.composables.specs.Views.{gap_views}

-- the track, made as long as this by dark frames where it is shorter
abbrev pub padded_track : TrackState → ℕ → TrackState
padded_track t at = record t { cells = t.cells ++ cells_of (gap_views (at - length t.cells)) }

-- the new item, if there is one, and its length
abbrev pub new_views : Option ItemView → List ItemView
new_views None = []
new_views (Some v) = v ∷ []

abbrev pub new_len : Option ItemView → ℕ
new_len None = 0
new_len (Some v) = v.len
