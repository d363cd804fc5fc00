-- The limits of the tracks that an edit leaves.
use Rattle.std.specs.Prelude.{List, [], ◌∷◌, Option, Some, None, Result, Ok, nat_lt, length, if◌then◌else◌}
use Rattle.std.specs.Option.{option_or}
use Rattle.composables.specs.declared.refusals.Done.{Done}
use Rattle.composables.specs.declared.refusals.Refusal.{Refusal}
use Rattle.composables.specs.declared.refusals.Refusal.TheVariants.{TooLong, TooManyItems}
use Rattle.composables.specs.declared.TheConstants.{MAX_FRAMES, MAX_ITEMS}
use Rattle.composables.specs.Items.{items_of}
use Rattle.composables.specs.TrackState.{TrackState}
use Rattle.composables.specs.Answers.{Applied, unless}

-- the first of these tracks that is too long
abbrev pub too_long : List TrackState → Option Refusal
too_long [] = None
too_long (t ∷ ts) = if nat_lt MAX_FRAMES (length t.cells) then Some (TooLong t.number) else too_long ts

-- the first of these tracks that has too many items and gaps
abbrev pub too_many : List TrackState → Option Refusal
too_many [] = None
too_many (t ∷ ts) = if nat_lt MAX_ITEMS (length (items_of t.cells)) then Some (TooManyItems t.number) else too_many ts

-- the refusal for the limits: of the first that is too long, and else of the first that has too many items and gaps
abbrev pub over_limits : List TrackState → Option Refusal
over_limits tracks = option_or (too_long tracks) (too_many tracks)

-- what is meant, unless one of these tracks is too long, and else unless one has too many items and gaps
abbrev pub unless_over : {A : Type 0} → List TrackState → Result A Refusal → Result A Refusal
unless_over tracks meant = unless (too_long tracks) (unless (too_many tracks) meant)

-- these tracks with an answer, where they keep their limits
abbrev pub within_limits : List TrackState → Done → Applied
within_limits tracks done = unless_over tracks (Ok (tracks, done))

-- the same of one track
abbrev pub track_within_limits : TrackState → Done → Result (TrackState × Done) Refusal
track_within_limits t done = unless_over (t ∷ []) (Ok (t, done))
