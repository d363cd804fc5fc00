-- Items that a link ties together have one offset, on all tracks of a room at once.
use Rattle.std.specs.Prelude.{◌≡◌, ◌<◌, ◌⊎◌, ℕ, List, [], ◌∷◌, Some, slice_get}
use Rattle.frame_meaning.specs.declared.cells.Cell.{Cell}
use Rattle.frame_meaning.specs.declared.cells.Link.{Link}
use Rattle.composables.specs.Links.{next_link_at}
use Rattle.composables.specs.Ranges.{offset_of}
use Rattle.composables.specs.TrackState.{TrackState}

-- a cell stands at a place of one of these tracks
abbrev pub StandsOn : List TrackState → ℕ → Cell → Type 0
StandsOn [] p c = ⊥
StandsOn (t ∷ ts) p c = (slice_get t.cells p ≡ Some c) ⊎ StandsOn ts p c

-- Two cells whose links have one home and one number have one set of tracks and one offset, the place less the source
-- frame; and each link's number is below the next link number of its home.
pub record Together (tracks : List TrackState) : Type 0 where
  pub tied : (p q : ℕ) (c d : Cell) (k l : Link) → StandsOn tracks p c → StandsOn tracks q d
      → c.link ≡ Some k → d.link ≡ Some l → k.home ≡ l.home → k.number ≡ l.number
      → (k.tracks ≡ l.tracks) × (offset_of c.side p ≡ offset_of d.side q)
  pub below : (p : ℕ) (c : Cell) (l : Link) → StandsOn tracks p c → c.link ≡ Some l
      → l.number < next_link_at l.home tracks
