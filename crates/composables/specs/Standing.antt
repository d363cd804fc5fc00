-- Whether a dissolve may stand at a cut.
use Rattle.std.specs.Prelude.{ℕ, zero, suc, List, [], ◌∷◌, Option}
use Rattle.frame_meaning.specs.declared.cells.Mark.{Mark}
use Rattle.composables.specs.declared.items.ItemView.{ItemView}
use Rattle.composables.specs.Changes.{with_mark}
use Rattle.composables.specs.TrackFacts.{Holds, first_mark}

-- the item or gap with this index and the one after it have room for a dissolve, or none, at the cut between them
abbrev pub HaveRoom : List ItemView → ℕ → Option Mark → Type 0
HaveRoom [] i mark = ⊥
HaveRoom (v ∷ []) i mark = ⊥
HaveRoom (v ∷ w ∷ ws) zero mark = Holds v mark × Holds (with_mark mark w) (first_mark ws)
HaveRoom (v ∷ w ∷ ws) (suc i) mark = HaveRoom (w ∷ ws) i mark
