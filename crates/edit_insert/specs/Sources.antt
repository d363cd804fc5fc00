-- Whether a thing has the source frames that are asked for, and may stand on the track.
use Rattle.std.specs.Prelude.{ℕ, ◌+◌, Bool, true, false, ◌&&◌, Option, Some, None, nat_le, nat_eq, slice_get, if◌then◌else◌}
use Rattle.frame_meaning.specs.declared.cells.What.{What}
use Rattle.frame_meaning.specs.declared.cells.What.TheVariants.{Media, Nest}
use Rattle.composables.specs.declared.media.Kind.{Kind}
use Rattle.composables.specs.declared.media.Kind.TheVariants.{Video, Audio}
use Rattle.composables.specs.declared.media.Table.{Table}
use Rattle.composables.specs.declared.refusals.Refusal.{Refusal}
use Rattle.composables.specs.declared.refusals.Refusal.TheVariants.{NoMedia, EmptyRange, MediaEnds}
use Rattle.composables.specs.Bounds.{bounds_of}

-- all but a nest on an audio track
abbrev pub suits : Option Kind → What → Bool
suits None what = true
suits (Some Video) what = true
suits (Some Audio) (Media m) = true
suits (Some Audio) (Nest j) = false

-- len source frames from a place on, of a thing with the range [low, high)
abbrev pub refusal_in : Option (ℕ × ℕ) → Bool → ℕ → ℕ → Option Refusal
refusal_in None fits from len = Some NoMedia
refusal_in (Some (low, high)) fits from len =
    if fits
    then (if nat_eq len 0
    then Some EmptyRange
    else (if nat_le low from && nat_le (from + len) high then None else Some MediaEnds))
    else Some NoMedia

-- why these source frames of a thing can't be put on the track with this number, if they can't
abbrev pub source_refusal : Table → ℕ → What → ℕ → ℕ → Option Refusal
source_refusal table track what from len = refusal_in (bounds_of table what) (suits (slice_get table.kinds track) what) from len
