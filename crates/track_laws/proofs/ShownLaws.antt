-- Whatever a track shows after a call, it showed before, or the call puts it there.
use Rattle.std.proofs.Common.{◌⊎◌, inl, inr, ℕ, List, [], ◌∷◌, All, refl, subst}
use Rattle.std.proofs.lemmas.List.Elements.{All-cons}
use Rattle.frame_meaning.specs.declared.cells.Cell.{Cell}
use Rattle.frame_meaning.specs.declared.cells.What.{What}
use Rattle.frame_meaning.specs.declared.frames.Side.{Side}
use Rattle.frame_meaning.specs.declared.frames.Side.TheVariants.{Dark, Pic}
use Rattle.composables.specs.declared.media.Table.{Table}
use Rattle.composables.specs.Answers.{Applied}
use Rattle.composables.specs.TrackState.{TrackState}
use Rattle.dissolves.specs.Marking.{dissolve_named, undissolve_named}
use Rattle.edit_insert.specs.Edits.{extract_named, insert_named, overwrite_named, remove_named, slice_named}
use Rattle.edit_insert.specs.Fills.{fill_named}
use Rattle.edit_roll.specs.Rolling.{roll_named}
use Rattle.edit_roll.specs.Sliding.{slide_named}
use Rattle.edit_splice.proofs.Standing.{all_head, all_none, all_tail}
use Rattle.edit_trim.specs.Rippling.{ripple_named}
use Rattle.edit_trim.specs.Slipping.{slip_named}
use Rattle.edit_trim.specs.Trimming.{trim_named}
use Rattle.link_groups.specs.Linking.{link_named, unlink_named}
use Rattle.track_laws.specs.Shown.{IsPut, IsShownIn, IsShownOn, PutsNothing, PutsOnlyItsThing, ShowsNothingNew, ShowsWhatIsPut, SideShows}
use Rattle.track_laws.proofs.ShownCells.{CellsHave, SideHas}
use Rattle.track_laws.proofs.ShownTracks.{AreShown, IsShown, MayBePut, shown-dissolve, shown-extract, shown-fill, shown-insert, shown-link, shown-overwrite, shown-remove, shown-ripple, shown-roll, shown-slice, shown-slide, shown-slip, shown-trim, shown-undissolve, shown-unlink}

-- a thing that is shown has what all that are shown have
side_shown : (Has : What → Type 0) (what : What) (s : Side What) → SideHas Has s → SideShows what s → Has what
side_shown Has what Dark h k = absurd k
side_shown Has what (Pic w source) h k = subst Has k h

cells_shown : (Has : What → Type 0) (what : What) (cs : List Cell) → CellsHave Has cs → IsShownIn what cs → Has what
cells_shown Has what [] h k = absurd k
cells_shown Has what (c ∷ cs) h (inl k) = side_shown Has what c.side h.0 k
cells_shown Has what (c ∷ cs) h (inr k) = cells_shown Has what cs h.1 k

pub may-of-shown : (May : ℕ → What → Type 0) (ts : List TrackState) (n : ℕ) (what : What) → All (IsShown May) ts → IsShownOn ts n what → May n what
may-of-shown May [] n what h k = absurd k
may-of-shown May (t ∷ ts) n what h (inl k) =
    subst (λ (i : ℕ). May i what) k.0 (cells_shown (May t.number) what t.cells (all_head (IsShown May) t ts h) k.1)
may-of-shown May (t ∷ ts) n what h (inr k) = may-of-shown May ts n what (all_tail (IsShown May) t ts h) k

-- and back
side_has : (Has : What → Type 0) (s : Side What) → ((what : What) → SideShows what s → Has what) → SideHas Has s
side_has Has Dark f = tt
side_has Has (Pic w source) f = f w refl

cells_have : (Has : What → Type 0) (cs : List Cell) → ((what : What) → IsShownIn what cs → Has what) → CellsHave Has cs
cells_have Has [] f = tt
cells_have Has (c ∷ cs) f = (side_has Has c.side (λ what k. f what (inl k)), cells_have Has cs (λ what k. f what (inr k)))

pub shown-of-may : (May : ℕ → What → Type 0) (ts : List TrackState) → ((n : ℕ) (what : What) → IsShownOn ts n what → May n what) → All (IsShown May) ts
shown-of-may May [] f = all_none (IsShown May)
shown-of-may May (t ∷ ts) f =
    All-cons (IsShown May) t ts (cells_have (May t.number) t.cells (λ what k. f t.number what (inl (refl, k)))) (shown-of-may May ts (λ n what k. f n what (inr k)))

-- a call that puts a thing on its own track
put_shown : (table : Table) (track : ℕ) (put : What) (meant : List TrackState → Applied)
    → ((May : ℕ → What → Type 0) (ts : List TrackState) → MayBePut table May track put → All (IsShown May) ts → AreShown May (meant ts))
    → ShowsWhatIsPut table track put meant
put_shown table track put meant keeps named news done n what e k =
    may-of-shown (λ (m : ℕ) (w : What). IsShownOn named m w ⊎ IsPut table track put m w) news n what
    (subst (AreShown (λ (m : ℕ) (w : What). IsShownOn named m w ⊎ IsPut table track put m w)) e
    (keeps (λ (m : ℕ) (w : What). IsShownOn named m w ⊎ IsPut table track put m w) named
    (λ s. inr (record { on = refl; is = refl; suited = s }))
    (shown-of-may (λ (m : ℕ) (w : What). IsShownOn named m w ⊎ IsPut table track put m w) named (λ m w j. inl j)))) k

-- and one that puts none
nothing_shown : (meant : List TrackState → Applied) → ((May : ℕ → What → Type 0) (ts : List TrackState) → All (IsShown May) ts → AreShown May (meant ts)) → ShowsNothingNew meant
nothing_shown meant keeps named news done n what e k =
    may-of-shown (IsShownOn named) news n what
    (subst (AreShown (IsShownOn named)) e (keeps (IsShownOn named) named (shown-of-may (IsShownOn named) named (λ m w j. j)))) k

pub puts-only : PutsOnlyItsThing
puts-only = record {
  overwrite = λ table c. put_shown table c.track c.what (λ named. overwrite_named table named c) (λ May ts may h. shown-overwrite May table ts c may h);
  insert = λ table c. put_shown table c.track c.what (λ named. insert_named table named c) (λ May ts may h. shown-insert May table ts c may h);
  fill = λ table c. put_shown table c.track c.what (λ named. fill_named table named c) (λ May ts may h. shown-fill May table ts c may h);
}

pub puts-nothing : PutsNothing
puts-nothing = record {
  remove = λ c. nothing_shown (λ named. remove_named named c) (λ May ts h. shown-remove May ts c h);
  extract = λ c. nothing_shown (λ named. extract_named named c) (λ May ts h. shown-extract May ts c h);
  slice = λ c. nothing_shown (λ named. slice_named named c) (λ May ts h. shown-slice May ts c h);
  dissolve = λ table c. nothing_shown (λ named. dissolve_named table named c) (λ May ts h. shown-dissolve May table ts c h);
  undissolve = λ c. nothing_shown (λ named. undissolve_named named c) (λ May ts h. shown-undissolve May ts c h);
  trim = λ table c. nothing_shown (λ named. trim_named table named c) (λ May ts h. shown-trim May table ts c h);
  slip = λ table c. nothing_shown (λ named. slip_named table named c) (λ May ts h. shown-slip May table ts c h);
  ripple = λ table c. nothing_shown (λ named. ripple_named table named c) (λ May ts h. shown-ripple May table ts c h);
  roll = λ table c. nothing_shown (λ named. roll_named table named c) (λ May ts h. shown-roll May table ts c h);
  slide = λ table c. nothing_shown (λ named. slide_named table named c) (λ May ts h. shown-slide May table ts c h);
  link = λ c. nothing_shown (λ named. link_named named c) (λ May ts h. shown-link May ts c h);
  unlink = λ c. nothing_shown (λ named. unlink_named named c) (λ May ts h. shown-unlink May ts c h);
}
