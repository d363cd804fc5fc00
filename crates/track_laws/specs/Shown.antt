-- What a track shows after a call, it showed before, or the call puts it there, on its own track, and it suits the kind
-- of that track.
use Rattle.std.specs.Prelude.{◌≡◌, ◌⊎◌, ℕ, true, List, [], ◌∷◌, Ok, slice_get}
use Rattle.frame_meaning.specs.declared.cells.Cell.{Cell}
use Rattle.frame_meaning.specs.declared.cells.What.{What}
use Rattle.frame_meaning.specs.declared.frames.Side.{Side}
use Rattle.frame_meaning.specs.declared.frames.Side.TheVariants.{Dark, Pic}
use Rattle.composables.specs.declared.media.Table.{Table}
use Rattle.composables.specs.declared.calls.Dissolve.{Dissolve}
use Rattle.composables.specs.declared.calls.Extract.{Extract}
use Rattle.composables.specs.declared.calls.Fill.{Fill}
use Rattle.composables.specs.declared.calls.Insert.{Insert}
use Rattle.composables.specs.declared.calls.Link3.{Link3}
use Rattle.composables.specs.declared.calls.Overwrite.{Overwrite}
use Rattle.composables.specs.declared.calls.Remove.{Remove}
use Rattle.composables.specs.declared.calls.Ripple.{Ripple}
use Rattle.composables.specs.declared.calls.Roll.{Roll}
use Rattle.composables.specs.declared.calls.Slice.{Slice}
use Rattle.composables.specs.declared.calls.Slide.{Slide}
use Rattle.composables.specs.declared.calls.Slip.{Slip}
use Rattle.composables.specs.declared.calls.Trim.{Trim}
use Rattle.composables.specs.declared.calls.Undissolve.{Undissolve}
use Rattle.composables.specs.declared.calls.Unlink.{Unlink}
use Rattle.composables.specs.declared.refusals.Done.{Done}
use Rattle.composables.specs.Answers.{Applied}
use Rattle.composables.specs.TrackState.{TrackState}
use Rattle.dissolves.specs.Marking.{dissolve_named, undissolve_named}
use Rattle.edit_insert.specs.Edits.{extract_named, insert_named, overwrite_named, remove_named, slice_named}
use Rattle.edit_insert.specs.Fills.{fill_named}
use Rattle.edit_insert.specs.Sources.{suits}
use Rattle.edit_roll.specs.Rolling.{roll_named}
use Rattle.edit_roll.specs.Sliding.{slide_named}
use Rattle.edit_trim.specs.Rippling.{ripple_named}
use Rattle.edit_trim.specs.Slipping.{slip_named}
use Rattle.edit_trim.specs.Trimming.{trim_named}
use Rattle.link_groups.specs.Linking.{link_named, unlink_named}

-- a side shows a frame of this thing
abbrev pub SideShows : What → Side What → Type 0
SideShows what Dark = ⊥
SideShows what (Pic w source) = w ≡ what

-- one of these cells does
abbrev pub IsShownIn : What → List Cell → Type 0
IsShownIn what [] = ⊥
IsShownIn what (c ∷ cs) = SideShows what c.side ⊎ IsShownIn what cs

-- the track with this number shows the thing
abbrev pub IsShownOn : List TrackState → ℕ → What → Type 0
IsShownOn [] n what = ⊥
IsShownOn (t ∷ ts) n what = ((t.number ≡ n) × IsShownIn what t.cells) ⊎ IsShownOn ts n what

-- it is what a call puts on its own track, which suits it
pub record IsPut (table : Table) (track : ℕ) (put : What) (n : ℕ) (what : What) : Type 0 where
  pub on : n ≡ track
  pub is : what ≡ put
  pub suited : suits (slice_get table.kinds n) what ≡ true

-- whatever a track shows after a call that puts a thing on its own track, it showed before, or it is that thing
abbrev pub ShowsWhatIsPut : Table → ℕ → What → (List TrackState → Applied) → Type 0
ShowsWhatIsPut table track put meant = (named news : List TrackState) (done : Done) (n : ℕ) (what : What)
    → meant named ≡ Ok (news, done) → IsShownOn news n what → IsShownOn named n what ⊎ IsPut table track put n what

-- whatever a track shows after a call that puts nothing there, it showed before
abbrev pub ShowsNothingNew : (List TrackState → Applied) → Type 0
ShowsNothingNew meant = (named news : List TrackState) (done : Done) (n : ℕ) (what : What)
    → meant named ≡ Ok (news, done) → IsShownOn news n what → IsShownOn named n what

-- the calls that put a thing on a track
pub record PutsOnlyItsThing : Type 0 where
  pub overwrite : (table : Table) (c : Overwrite) → ShowsWhatIsPut table c.track c.what (λ named. overwrite_named table named c)
  pub insert : (table : Table) (c : Insert) → ShowsWhatIsPut table c.track c.what (λ named. insert_named table named c)
  pub fill : (table : Table) (c : Fill) → ShowsWhatIsPut table c.track c.what (λ named. fill_named table named c)

-- and those that put none
pub record PutsNothing : Type 0 where
  pub remove : (c : Remove) → ShowsNothingNew (λ named. remove_named named c)
  pub extract : (c : Extract) → ShowsNothingNew (λ named. extract_named named c)
  pub slice : (c : Slice) → ShowsNothingNew (λ named. slice_named named c)
  pub dissolve : (table : Table) (c : Dissolve) → ShowsNothingNew (λ named. dissolve_named table named c)
  pub undissolve : (c : Undissolve) → ShowsNothingNew (λ named. undissolve_named named c)
  pub trim : (table : Table) (c : Trim) → ShowsNothingNew (λ named. trim_named table named c)
  pub slip : (table : Table) (c : Slip) → ShowsNothingNew (λ named. slip_named table named c)
  pub ripple : (table : Table) (c : Ripple) → ShowsNothingNew (λ named. ripple_named table named c)
  pub roll : (table : Table) (c : Roll) → ShowsNothingNew (λ named. roll_named table named c)
  pub slide : (table : Table) (c : Slide) → ShowsNothingNew (λ named. slide_named table named c)
  pub link : (c : Link3) → ShowsNothingNew (λ named. link_named named c)
  pub unlink : (c : Unlink) → ShowsNothingNew (λ named. unlink_named named c)
