-- Tracks that are all good in a table stay so under every call.
use Rattle.std.specs.Prelude.{◌≡◌, ◌≤◌, ◌^◌, ℕ, List, [], ◌∷◌, All, IfSome, Ok}
use Rattle.frame_meaning.specs.declared.cells.What.{What}
use Rattle.composables.specs.declared.media.Table.{Table}
use Rattle.composables.specs.declared.calls.Dissolve.{Dissolve}
use Rattle.composables.specs.declared.calls.Extract.{Extract}
use Rattle.composables.specs.declared.calls.Fill.{Fill}
use Rattle.composables.specs.declared.calls.Insert.{Insert}
use Rattle.composables.specs.declared.calls.Link3.{Link3}
use Rattle.composables.specs.declared.calls.Overwrite.{Overwrite}
use Rattle.composables.specs.declared.calls.Remove.{Remove}
use Rattle.composables.specs.declared.calls.Ripple.{Ripple}
use Rattle.composables.specs.declared.calls.Roll.{Roll}
use Rattle.composables.specs.declared.calls.Slice.{Slice}
use Rattle.composables.specs.declared.calls.Slide.{Slide}
use Rattle.composables.specs.declared.calls.Slip.{Slip}
use Rattle.composables.specs.declared.calls.Trim.{Trim}
use Rattle.composables.specs.declared.calls.Undissolve.{Undissolve}
use Rattle.composables.specs.declared.calls.Unlink.{Unlink}
use Rattle.composables.specs.declared.refusals.Done.{Done}
use Rattle.composables.specs.Answers.{Applied}
use Rattle.composables.specs.Bounds.{bounds_of}
use Rattle.composables.specs.Good.{IsGood}
use Rattle.composables.specs.OwnTracks.{numbers_of}
use Rattle.composables.specs.TrackSets.{tracks_in}
use Rattle.composables.specs.TrackState.{TrackState}
use Rattle.dissolves.specs.Marking.{dissolve_named, undissolve_named}
use Rattle.edit_insert.specs.Edits.{extract_named, insert_named, overwrite_named, remove_named, slice_named}
use Rattle.edit_insert.specs.Fills.{fill_named}
use Rattle.edit_roll.specs.Rolling.{roll_named}
use Rattle.edit_roll.specs.Sliding.{slide_named}
use Rattle.edit_trim.specs.Rippling.{ripple_named}
use Rattle.edit_trim.specs.Slipping.{slip_named}
use Rattle.edit_trim.specs.Trimming.{trim_named}
use Rattle.link_groups.specs.Linking.{link_named, unlink_named}

-- the source frames of each thing of a table end by 2^32
abbrev pub IsBounded : Table → Type 0
IsBounded table = (what : What) → IfSome (bounds_of table what) (λ range. range.1 ≤ 2 ^ 32)

-- tracks with these numbers that are all good in the table are so after a call that is done
abbrev pub KeepsGood : Table → List ℕ → (List TrackState → Applied) → Type 0
KeepsGood table names meant = (named news : List TrackState) (done : Done) → IsBounded table → numbers_of named ≡ names
    → All (λ t. IsGood table t) named → meant named ≡ Ok (news, done) → All (λ t. IsGood table t) news

-- items put into one track, taken out of it, and cut in two
pub record PuttingInKeepsGood : Type 0 where
  pub overwrite : (table : Table) (c : Overwrite) → KeepsGood table (c.track ∷ []) (λ named. overwrite_named table named c)
  pub fill : (table : Table) (c : Fill) → KeepsGood table (c.track ∷ []) (λ named. fill_named table named c)
  pub remove : (table : Table) (c : Remove) → KeepsGood table (c.track ∷ []) (λ named. remove_named named c)
  pub slice : (table : Table) (c : Slice) → KeepsGood table (c.track ∷ []) (λ named. slice_named named c)

-- items put into a track and taken out of it, where what is behind them moves on all named tracks, and links are split
pub record ShiftingKeepsGood : Type 0 where
  pub insert : (table : Table) (c : Insert) → KeepsGood table (tracks_in c.tracks) (λ named. insert_named table named c)
  pub extract : (table : Table) (c : Extract) → KeepsGood table (tracks_in c.tracks) (λ named. extract_named named c)

-- ends of items, source frames, cuts and items moved by a delta
pub record MovingKeepsGood : Type 0 where
  pub trim : (table : Table) (c : Trim) → KeepsGood table (c.track ∷ []) (λ named. trim_named table named c)
  pub slip : (table : Table) (c : Slip) → KeepsGood table (tracks_in c.tracks) (λ named. slip_named table named c)
  pub ripple : (table : Table) (c : Ripple) → KeepsGood table (tracks_in c.tracks) (λ named. ripple_named table named c)
  pub roll : (table : Table) (c : Roll) → KeepsGood table (c.track ∷ []) (λ named. roll_named table named c)
  pub slide : (table : Table) (c : Slide) → KeepsGood table (tracks_in c.tracks) (λ named. slide_named table named c)

-- dissolves
pub record DissolvingKeepsGood : Type 0 where
  pub dissolve : (table : Table) (c : Dissolve) → KeepsGood table (c.track ∷ []) (λ named. dissolve_named table named c)
  pub undissolve : (table : Table) (c : Undissolve) → KeepsGood table (c.track ∷ []) (λ named. undissolve_named named c)

-- links made on the tracks of a set, and taken away
pub record LinkingKeepsGood : Type 0 where
  pub link : (table : Table) (c : Link3) → KeepsGood table (tracks_in c.tracks) (λ named. link_named named c)
  pub unlink : (table : Table) (c : Unlink) → KeepsGood table (c.track ∷ []) (λ named. unlink_named named c)
