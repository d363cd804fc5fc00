-- What an edit leaves of the facts on its tracks.
use Rattle.std.specs.Prelude.{◌≡◌, List, [], ◌∷◌}
use Rattle.composables.specs.declared.media.Table.{Table}
use Rattle.composables.specs.Good.{IsGood}
use Rattle.composables.specs.TrackState.{TrackState}

-- a track after an edit is good in the table and has its number
pub record StaysGood (table : Table) (old new : TrackState) : Type 0 where
  pub good : IsGood table new
  pub number : new.number ≡ old.number

abbrev pub EachStaysGood : Table → List TrackState → List TrackState → Type 0
EachStaysGood table [] [] = Unit {0}
EachStaysGood table [] (u ∷ us) = ⊥
EachStaysGood table (t ∷ ts) [] = ⊥
EachStaysGood table (t ∷ ts) (u ∷ us) = StaysGood table t u × EachStaysGood table ts us
