-- A call on named tracks as a call on all tracks of a room, where the track at each place has that number.
use Rattle.std.specs.Prelude.{◌≡◌, ◌+◌, ℕ, List, [], ◌∷◌, Ok, Err, length}
use Rattle.composables.specs.declared.media.Table.{Table}
use Rattle.composables.specs.Answers.{Applied}
use Rattle.composables.specs.Good.{AllUnlinked, IsGood}
use Rattle.composables.specs.Items.{items_of}
use Rattle.composables.specs.OwnTracks.{numbers_of}
use Rattle.composables.specs.TrackState.{TrackState}
use Rattle.room_core.specs.Parts.{AscendBetween}
use Rattle.room_core.specs.Whole.{on_whole, picked}
use Rattle.link_laws.specs.Rooms.{AreTracks, KeepsTogether, StaysTogether}
use Rattle.link_laws.specs.Together.{Together}

-- the first has this number, and each behind it the next one
abbrev pub Numbered : ℕ → List TrackState → Type 0
Numbered n [] = Unit {0}
Numbered n (t ∷ ts) = (t.number ≡ n) × Numbered (n + 1) ts

-- what a call leaves on the named tracks has their numbers
abbrev pub KeepsNumbers : List ℕ → Applied → Type 0
KeepsNumbers names (Ok (us, done)) = numbers_of us ≡ names
KeepsNumbers names (Err why) = Unit {0}

-- a call that is done leaves all tracks together, with little more weight of their links
abbrev pub StayTogether : List TrackState → Applied → Type 0
StayTogether all (Ok (us, done)) = StaysTogether all us
StayTogether all (Err why) = Unit {0}

-- A meaning that keeps the tracks of a room together does so where its named tracks are picked by their numbers, and
-- what it leaves is put back.
abbrev pub WholesKeepTogether : Type 0
WholesKeepTogether = (table : Table) (meant : List TrackState → Applied) (all : List TrackState) (names : List ℕ)
    → KeepsTogether table meant → Numbered 0 all → AreTracks table all → AscendBetween 0 (length all) names
    → KeepsNumbers names (meant (picked all names)) → Together all
    → StayTogether all (on_whole all names (meant (picked all names)))

-- tracks that are good in a table, and without links
abbrev pub AreBare : Table → List TrackState → Type 0
AreBare table [] = Unit {0}
AreBare table (t ∷ ts) = IsGood table t × AllUnlinked (items_of t.cells) × AreBare table ts

abbrev pub UnlinkedAreTogether : Type 0
UnlinkedAreTogether = (table : Table) (all : List TrackState) → AreBare table all → Together all
