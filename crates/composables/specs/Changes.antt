-- A track of which one item or gap is changed in place.
use Rattle.std.specs.Prelude.{ℕ, zero, suc, List, [], ◌∷◌, Option}
use Rattle.frame_meaning.specs.declared.cells.What.{What}
use Rattle.frame_meaning.specs.declared.cells.Mark.{Mark}
use Rattle.frame_meaning.specs.declared.cells.Link.{Link}
use Rattle.frame_meaning.specs.declared.frames.Side.{Side}
use Rattle.frame_meaning.specs.declared.frames.Side.TheVariants.{Dark, Pic}
use Rattle.composables.specs.declared.items.ItemView.{ItemView}
use Rattle.composables.specs.Items.{cells_of, items_of}
use Rattle.composables.specs.TrackState.{TrackState}

-- items and gaps of which the one with this index is changed
abbrev pub changed_at : (ItemView → ItemView) → ℕ → List ItemView → List ItemView
changed_at change i [] = []
changed_at change zero (v ∷ vs) = change v ∷ vs
changed_at change (suc i) (v ∷ vs) = v ∷ changed_at change i vs

abbrev pub changed_track : TrackState → ℕ → (ItemView → ItemView) → TrackState
changed_track t i change = record t { cells = cells_of (changed_at change i (items_of t.cells)) }

-- with this dissolve, or none, before it
abbrev pub with_mark : Option Mark → ItemView → ItemView
with_mark mark v = record v { mark = mark }

-- with this link, or none
abbrev pub with_link : Option Link → ItemView → ItemView
with_link link v = record v { link = link }

-- with its source frames from this one on
abbrev pub side_from : Side What → ℕ → Side What
side_from Dark source = Dark
side_from (Pic what from) source = Pic what source

abbrev pub with_source : ℕ → ItemView → ItemView
with_source source v = record v { first = side_from v.first source }
