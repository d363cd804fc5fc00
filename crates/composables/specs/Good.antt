-- A track that is good in a table: it keeps what every track keeps, all that it shows lies in the ranges of the table,
-- its links are its own, and it has its limits.
use Rattle.std.specs.Prelude.{◌≡◌, ℕ, ◌+◌, ◌≤◌, List, [], ◌∷◌, Option, Some, None, length, IsBitSet}
use Rattle.frame_meaning.specs.declared.cells.What.{What}
use Rattle.frame_meaning.specs.declared.cells.Link.{Link}
use Rattle.frame_meaning.specs.declared.frames.Side.{Side}
use Rattle.frame_meaning.specs.declared.frames.Side.TheVariants.{Dark, Pic}
use Rattle.composables.specs.declared.items.ItemView.{ItemView}
use Rattle.composables.specs.declared.media.Table.{Table}
use Rattle.composables.specs.declared.TheConstants.{MAX_FRAMES, MAX_ITEMS}
use Rattle.composables.specs.Bounds.{bounds_of}
use Rattle.composables.specs.Items.{items_of}
use Rattle.composables.specs.TrackState.{TrackState}
use Rattle.composables.specs.TrackFacts.{IsKept, first_mark, left_reach, right_reach}

-- len source frames from s on lie in a range, with this many before them and after them
abbrev pub LiesIn : Option (ℕ × ℕ) → ℕ → ℕ → ℕ → ℕ → Type 0
LiesIn None s len before after = ⊥
LiesIn (Some (from, to)) s len before after = (from + before ≤ s) × (s + len + after ≤ to)

-- what an item shows lies in its thing's range, with what the marks at its ends reach past it
abbrev pub SideLiesIn : Table → Side What → ℕ → ℕ → ℕ → Type 0
SideLiesIn table Dark len before after = Unit {0}
SideLiesIn table (Pic what s) len before after = LiesIn (bounds_of table what) s len before after

abbrev pub EachLiesIn : Table → List ItemView → Type 0
EachLiesIn table [] = Unit {0}
EachLiesIn table (v ∷ vs) = SideLiesIn table v.first v.len (left_reach v.mark) (right_reach (first_mark vs)) × EachLiesIn table vs

-- a link has the track that it stands on and its home among its tracks
abbrev pub IsLinkOf : ℕ → Option Link → Type 0
IsLinkOf number None = Unit {0}
IsLinkOf number (Some l) = IsBitSet l.tracks number × IsBitSet l.tracks l.home

abbrev pub EachLinkOf : ℕ → List ItemView → Type 0
EachLinkOf number [] = Unit {0}
EachLinkOf number (v ∷ vs) = IsLinkOf number v.link × EachLinkOf number vs

pub record IsGood (table : Table) (t : TrackState) : Type 0 where
  pub kept : IsKept t
  pub ranges : EachLiesIn table (items_of t.cells)
  pub links : EachLinkOf t.number (items_of t.cells)
  pub frames : length t.cells ≤ MAX_FRAMES
  pub items : length (items_of t.cells) ≤ MAX_ITEMS

-- no item of the track is linked
abbrev pub AllUnlinked : List ItemView → Type 0
AllUnlinked [] = Unit {0}
AllUnlinked (v ∷ vs) = (v.link ≡ None) × AllUnlinked vs
