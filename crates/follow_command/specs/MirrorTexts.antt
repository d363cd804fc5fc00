-- What a mirror comes to, as text: its count of entries, and each track with its items and gaps.
use Rattle.std.specs.Prelude.{ℕ, ◌+◌, List, [], ◌∷◌, ◌++◌, codes, decimal}
use Rattle.composables.specs.Items.{items_of}
use Rattle.composables.specs.TrackState.{TrackState}
use Rattle.reply_text.specs.Sights.{items_text_of}

abbrev pub point_line : ℕ → List ℕ
point_line n = codes "point " ++ decimal n ++ codes "\n"

abbrev pub track_line : ℕ → TrackState → List ℕ
track_line n track = codes "track " ++ decimal n ++ items_text_of (items_of track.cells) ++ codes "\n"

-- tracks that are numbered from n on
abbrev pub track_lines : ℕ → List TrackState → List ℕ
track_lines n [] = []
track_lines n (track ∷ tracks) = track_line n track ++ track_lines (n + 1) tracks

abbrev pub mirror_text : ℕ → List TrackState → List ℕ
mirror_text count tracks = point_line count ++ track_lines 0 tracks
