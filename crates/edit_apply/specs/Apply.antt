-- What a call means on the tracks of a room: the tracks that it names, its refusal for them, and what it leaves on them
-- and answers, a function of the table, the named tracks and the call alone.
use Rattle.std.specs.Prelude.{ℕ, List, [], ◌∷◌, Option, Some, None, length, min, nat_eq, nat_lt, option_map, if◌then◌else◌}
use Rattle.std.specs.List.{list_any}
use Rattle.composables.specs.declared.media.Table.{Table}
use Rattle.composables.specs.declared.refusals.Done.{Done}
use Rattle.composables.specs.declared.refusals.Refusal.{Refusal}
use Rattle.composables.specs.declared.refusals.Refusal.TheVariants.{NoTrack}
use Rattle.composables.specs.TrackState.{TrackState}
use Rattle.composables.specs.Answers.{Applied}
use Rattle.composables.specs.TrackSets.{tracks_in}
use Rattle.dissolves.specs.Marking.{dissolve_named, undissolve_named}
use Rattle.edit_insert.specs.Edits.{extract_named, insert_named, overwrite_named, remove_named, slice_named}
use Rattle.edit_insert.specs.Fills.{fill_named}
use Rattle.edit_roll.specs.Rolling.{roll_named}
use Rattle.edit_roll.specs.Sliding.{slide_named}
use Rattle.edit_trim.specs.Rippling.{ripple_named}
use Rattle.edit_trim.specs.Slipping.{slip_named}
use Rattle.edit_trim.specs.Trimming.{trim_named}
use Rattle.link_groups.specs.Linking.{link_named, unlink_named}
use Rattle.room_core.specs.Whole.{Meaning}
use Rattle.edit_calls.specs.declared.asks.Call.{Call}
use Rattle.edit_calls.specs.declared.asks.Call.TheVariants as call
use Rattle.edit_apply.specs.declared.naming.NamedTracks.{NamedTracks}
use Rattle.edit_apply.specs.declared.naming.NamedTracks.TheVariants.{One, Many}

-- the first of these tracks, and 0 where there is none
abbrev pub lowest : List ℕ → ℕ
lowest [] = 0
lowest (n ∷ ns) = n

-- A call is for its one track, or for a set of tracks. The own track of a new link is its home, the lowest one named.
abbrev pub named_by : Call → NamedTracks
named_by (call.Overwrite c) = One c.track
named_by (call.Insert c) = Many c.tracks c.track
named_by (call.Remove c) = One c.track
named_by (call.Extract c) = Many c.tracks c.track
named_by (call.Slice c) = One c.track
named_by (call.Dissolve c) = One c.track
named_by (call.Undissolve c) = One c.track
named_by (call.Trim c) = One c.track
named_by (call.Slip c) = Many c.tracks c.track
named_by (call.Roll c) = One c.track
named_by (call.Slide c) = Many c.tracks c.track
named_by (call.Fill c) = One c.track
named_by (call.Ripple c) = Many c.tracks c.track
named_by (call.Link3 c) = Many c.tracks (lowest (tracks_in c.tracks))
named_by (call.Unlink c) = One c.track

abbrev pub tracks_of : NamedTracks → List ℕ
tracks_of (One track) = track ∷ []
tracks_of (Many tracks own) = tracks_in tracks

-- the tracks that a call names, in ascending order
abbrev pub names_of : Call → List ℕ
names_of c = tracks_of (named_by c)

abbrev pub own_track : NamedTracks → ℕ
own_track (One track) = track
own_track (Many tracks own) = own

-- the call's own track
abbrev pub own_of : Call → ℕ
own_of c = own_track (named_by c)

-- how many tracks a room has: one for each kind of its table, and 32 at most
abbrev pub track_count : Table → ℕ
track_count table = min (length table.kinds) 32

-- the first track of these that is not in a room of so many tracks
abbrev pub first_absent : ℕ → List ℕ → Option ℕ
first_absent count [] = None
first_absent count (n ∷ ns) = if nat_lt n count then first_absent count ns else Some n

-- the own track, where it is not among those named
abbrev pub own_outside : List ℕ → ℕ → Option ℕ
own_outside names own = if list_any (nat_eq own) names then None else Some own

abbrev pub first_of : Option ℕ → Option ℕ → Option ℕ
first_of None then_this = then_this
first_of (Some n) then_this = Some n

-- the track for which a call is refused before its tracks are looked at: the first named one that is not in the room,
-- else the own track where it is not named
abbrev pub wrong_track_in : ℕ → NamedTracks → Option ℕ
wrong_track_in count named =
    first_of (first_absent count (tracks_of named)) (own_outside (tracks_of named) (own_track named))

-- the refusal of a call for the tracks that it names
abbrev pub refuse_names_of : Table → Call → Option Refusal
refuse_names_of table c = option_map NoTrack (wrong_track_in (track_count table) (named_by c))

-- on the named tracks alone
abbrev pub applied_on : Table → List TrackState → Call → Applied
applied_on table named (call.Overwrite c) = overwrite_named table named c
applied_on table named (call.Insert c) = insert_named table named c
applied_on table named (call.Remove c) = remove_named named c
applied_on table named (call.Extract c) = extract_named named c
applied_on table named (call.Slice c) = slice_named named c
applied_on table named (call.Dissolve c) = dissolve_named table named c
applied_on table named (call.Undissolve c) = undissolve_named named c
applied_on table named (call.Trim c) = trim_named table named c
applied_on table named (call.Slip c) = slip_named table named c
applied_on table named (call.Roll c) = roll_named table named c
applied_on table named (call.Slide c) = slide_named table named c
applied_on table named (call.Fill c) = fill_named table named c
applied_on table named (call.Ripple c) = ripple_named table named c
applied_on table named (call.Link3 c) = link_named named c
applied_on table named (call.Unlink c) = unlink_named named c

-- what the calls of a room with this table mean
abbrev pub editing : Table → Meaning TrackState Call Done Refusal
editing table = record {
  names = names_of;
  refuses = refuse_names_of table;
  applied = applied_on table;
}
