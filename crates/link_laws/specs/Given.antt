-- Link numbers are given away: each link's number is below the next one of its home, which is among its tracks. Calls keep
-- it so, whatever else the tracks are, and add little to the weight of links.
use Rattle.std.specs.Prelude.{◌≡◌, ◌<◌, ◌≤◌, ◌+◌, ℕ, List, [], ◌∷◌, Some, IsBitSet}
use Rattle.frame_meaning.specs.declared.cells.Cell.{Cell}
use Rattle.frame_meaning.specs.declared.cells.Link.{Link}
use Rattle.composables.specs.declared.media.Table.{Table}
use Rattle.composables.specs.declared.calls.Dissolve.{Dissolve}
use Rattle.composables.specs.declared.calls.Extract.{Extract}
use Rattle.composables.specs.declared.calls.Fill.{Fill}
use Rattle.composables.specs.declared.calls.Insert.{Insert}
use Rattle.composables.specs.declared.calls.Overwrite.{Overwrite}
use Rattle.composables.specs.declared.calls.Remove.{Remove}
use Rattle.composables.specs.declared.calls.Ripple.{Ripple}
use Rattle.composables.specs.declared.calls.Roll.{Roll}
use Rattle.composables.specs.declared.calls.Slice.{Slice}
use Rattle.composables.specs.declared.calls.Trim.{Trim}
use Rattle.composables.specs.declared.calls.Undissolve.{Undissolve}
use Rattle.dissolves.specs.Marking.{dissolve_named, undissolve_named}
use Rattle.edit_insert.specs.Edits.{extract_named, insert_named, overwrite_named, remove_named, slice_named}
use Rattle.edit_insert.specs.Fills.{fill_named}
use Rattle.edit_roll.specs.Rolling.{roll_named}
use Rattle.edit_trim.specs.Rippling.{ripple_named}
use Rattle.edit_trim.specs.Trimming.{trim_named}
use Rattle.composables.specs.declared.calls.Link3.{Link3}
use Rattle.composables.specs.declared.calls.Unlink.{Unlink}
use Rattle.composables.specs.Answers.{Applied}
use Rattle.composables.specs.Links.{next_link_at}
use Rattle.composables.specs.OwnTracks.{numbers_of}
use Rattle.composables.specs.TrackState.{TrackState}
use Rattle.link_groups.specs.Linking.{link_named, unlink_named}
use Rattle.link_laws.specs.Together.{StandsOn}
use Rattle.link_laws.specs.Rooms.{AreNamed, IsNumbered, Leaves, with_tracks}
use Rattle.link_laws.specs.Weights.{most_added, weight}

-- each link of these tracks was given away by its home, one of its tracks
abbrev pub AreGiven : List TrackState → Type 0
AreGiven tracks = (p : ℕ) (c : Cell) (l : Link) → StandsOn tracks p c → c.link ≡ Some l
    → (l.number < next_link_at l.home tracks) × IsBitSet l.tracks l.home

-- what a call leaves in place of the tracks that it named: they have their numbers, all links of the room are given away,
-- and the weight of them is little more than before
pub record StaysGiven (all named news : List TrackState) : Type 0 where
  pub numbers : numbers_of news ≡ numbers_of named
  pub given : AreGiven (with_tracks all news)
  pub little : weight (with_tracks all news) ≤ weight all + most_added

abbrev pub LeavesGiven : List TrackState → List TrackState → Applied → Type 0
LeavesGiven all named meant = Leaves (λ news. StaysGiven all named news) meant

-- what a call means for the tracks that it names keeps the links of a room given away
abbrev pub KeepsGiven : (List TrackState → Applied) → Type 0
KeepsGiven meant = (all named : List TrackState) → IsNumbered all → AreNamed all named → AreGiven all → LeavesGiven all named (meant named)

-- every edit does
pub record EditsKeepGiven : Type 0 where
  pub overwrite : (table : Table) (c : Overwrite) → KeepsGiven (λ named. overwrite_named table named c)
  pub fill : (table : Table) (c : Fill) → KeepsGiven (λ named. fill_named table named c)
  pub remove : (table : Table) (c : Remove) → KeepsGiven (λ named. remove_named named c)
  pub slice : (table : Table) (c : Slice) → KeepsGiven (λ named. slice_named named c)
  pub trim : (table : Table) (c : Trim) → KeepsGiven (λ named. trim_named table named c)
  pub roll : (table : Table) (c : Roll) → KeepsGiven (λ named. roll_named table named c)
  pub dissolve : (table : Table) (c : Dissolve) → KeepsGiven (λ named. dissolve_named table named c)
  pub undissolve : (table : Table) (c : Undissolve) → KeepsGiven (λ named. undissolve_named named c)
  pub insert : (table : Table) (c : Insert) → KeepsGiven (λ named. insert_named table named c)
  pub extract : (table : Table) (c : Extract) → KeepsGiven (λ named. extract_named named c)
  pub ripple : (table : Table) (c : Ripple) → KeepsGiven (λ named. ripple_named table named c)

-- so does a link taken away
abbrev pub UnlinkingKeepsGiven : Type 0
UnlinkingKeepsGiven = (c : Unlink) → KeepsGiven (λ named. unlink_named named c)

-- these tracks are in a set of tracks
abbrev pub AreIn : ℕ → List TrackState → Type 0
AreIn set [] = Unit {0}
AreIn set (t ∷ ts) = IsBitSet set t.number × AreIn set ts

-- and a link that is made on the tracks of its set
abbrev pub LinkingKeepsGiven : Type 0
LinkingKeepsGiven = (c : Link3) (all named : List TrackState) → IsNumbered all → AreNamed all named → AreIn c.tracks named → AreGiven all
    → LeavesGiven all named (link_named named c)
