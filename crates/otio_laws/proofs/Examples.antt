-- Two small cuts that are the same under other numbers, and one that is not.
use Rattle.std.proofs.Common.{◌≡◌, ℕ, List, [], ◌∷◌, Option, Some, None, refl}
use Rattle.std.specs.Prelude.{codes}
use Rattle.frame_meaning.specs.declared.cells.Cell.{Cell}
use Rattle.frame_meaning.specs.declared.cells.What.TheVariants.{Media as MediaOf}
use Rattle.frame_meaning.specs.declared.frames.Side.TheVariants.{Dark, Pic}
use Rattle.composables.specs.declared.media.Table.{Table}
use Rattle.otio_laws.specs.SameCut.{SameCells, SameThing}

shown : ℕ → ℕ → ℕ → Cell
shown item media source = record { item = Some item; side = Pic (MediaOf media) source; mark = None; link = None }

gap : Cell
gap = record { item = None; side = Dark; mark = None; link = None }

-- reel B has the media entry 0, and A the entry 1
one_table : Table
one_table = record {
  kinds = [];
  reels = codes "A" ∷ codes "B" ∷ [];
  media = record { reel = 1; from = 0; to = 9 } ∷ record { reel = 0; from = 5; to = 9 } ∷ [];
  nests = [];
}

-- here A comes first
other_table : Table
other_table = record {
  kinds = [];
  reels = codes "A" ∷ codes "B" ∷ [];
  media = record { reel = 0; from = 5; to = 9 } ∷ record { reel = 1; from = 0; to = 9 } ∷ [];
  nests = [];
}

-- two frames of A at item 7, a dark frame, and a frame of B at item 2; items 0 and 1 with the other table
same_example : SameCells (SameThing one_table other_table 8)
    (shown 7 1 5 ∷ shown 7 1 6 ∷ gap ∷ shown 2 0 3 ∷ [])
    (shown 0 0 5 ∷ shown 0 0 6 ∷ gap ∷ shown 1 1 3 ∷ [])
unfolding shown gap one_table other_table
same_example = record {
  frames = (
    ((codes "A", refl, refl, refl, refl), refl),
    refl,
    (
      ((codes "A", refl, refl, refl, refl), refl),
      refl,
      (
        tt,
        refl,
        (((codes "B", refl, refl, refl, refl), refl), refl, tt),
      ),
    ),
  );
  items = refl;
}

abbrev two_items : List (Option ℕ)
two_items = Some 0 ∷ Some 1 ∷ []

abbrev one_item : List (Option ℕ)
one_item = Some 0 ∷ Some 0 ∷ []

apart : two_items ≡ one_item → ⊥
apart e = cc

-- two items are not one
apart_example : SameCells (SameThing one_table one_table 8) (shown 0 0 3 ∷ shown 1 0 4 ∷ []) (shown 0 0 3 ∷ shown 0 0 4 ∷ []) → ⊥
unfolding shown one_table
apart_example h = apart h.items
