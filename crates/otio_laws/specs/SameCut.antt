-- Two cuts that are the same: what each track shows is equal frame by frame, with its dissolves, and so is which frames
-- belong to one item. Which numbers items, media entries and nests have does not matter, and links are left out.
use Rattle.std.specs.Prelude.{◌≡◌, ℕ, zero, suc, List, [], ◌∷◌, ◌++◌, Option, Some, None, slice_get, nat_eq, if◌then◌else◌}
use Rattle.std.specs.List.{list_any}
use Rattle.frame_meaning.specs.declared.cells.What.{What}
use Rattle.frame_meaning.specs.declared.cells.What.TheVariants.{Media as MediaOf, Nest as NestOf}
use Rattle.frame_meaning.specs.declared.cells.Cell.{Cell}
use Rattle.frame_meaning.specs.declared.frames.Side.{Side}
use Rattle.frame_meaning.specs.declared.frames.Side.TheVariants.{Dark, Pic}
use Rattle.composables.specs.declared.media.Table.{Table}
use Rattle.composables.specs.declared.media.Media.{Media}
use Rattle.composables.specs.declared.media.Layer.{Layer}
use Rattle.composables.specs.declared.media.Nest.{Nest}
use Rattle.composables.specs.TrackState.{TrackState}
use Rattle.otio_json.specs.declared.opening.Opening.{Opening}

-- ---- the numbers of items, in order of first occurrence

-- where a number stands among those that were seen, or how many they are
abbrev pub rank : List ℕ → ℕ → ℕ
rank [] i = 0
rank (j ∷ js) i = if nat_eq i j then 0 else suc (rank js i)

abbrev pub rank_of : List ℕ → Option ℕ → Option ℕ
rank_of seen None = None
rank_of seen (Some i) = Some (rank seen i)

abbrev pub seen_with : List ℕ → Option ℕ → List ℕ
seen_with seen None = seen
seen_with seen (Some i) = if list_any (nat_eq i) seen then seen else seen ++ i ∷ []

-- the first item has number 0, the next one that comes has number 1, and so on; a cell of none has none
abbrev pub ranks : List ℕ → List Cell → List (Option ℕ)
ranks seen [] = []
ranks seen (c ∷ cs) = rank_of seen c.item ∷ ranks (seen_with seen c.item) cs

-- ---- cells and layers, where things are compared by Same

module _ (Same : What → What → Type 0) where
  abbrev pub SameSide : Side What → Side What → Type 0
  SameSide Dark Dark = Unit {0}
  SameSide Dark (Pic x r) = ⊥
  SameSide (Pic w s) Dark = ⊥
  SameSide (Pic w s) (Pic x r) = Same w x × (s ≡ r)

  abbrev pub SameFrames : List Cell → List Cell → Type 0
  SameFrames [] [] = Unit {0}
  SameFrames [] (d ∷ ds) = ⊥
  SameFrames (c ∷ cs) [] = ⊥
  SameFrames (c ∷ cs) (d ∷ ds) = SameSide c.side d.side × (c.mark ≡ d.mark) × SameFrames cs ds

  pub record SameCells (cs ds : List Cell) : Type 0 where
    pub frames : SameFrames cs ds
    pub items : ranks [] cs ≡ ranks [] ds

  pub record SameLayer (l k : Layer) : Type 0 where
    pub from : l.from ≡ k.from
    pub to : l.to ≡ k.to
    pub cells : SameCells l.track.cells k.track.cells

  abbrev pub SameLayers : List Layer → List Layer → Type 0
  SameLayers [] [] = Unit {0}
  SameLayers [] (k ∷ ks) = ⊥
  SameLayers (l ∷ ls) [] = ⊥
  SameLayers (l ∷ ls) (k ∷ ks) = SameLayer l k × SameLayers ls ks

  abbrev pub SameNest : Option Nest → Option Nest → Type 0
  SameNest None n = ⊥
  SameNest (Some m) None = ⊥
  SameNest (Some m) (Some n) = (m.length ≡ n.length) × SameLayers m.layers n.layers

-- ---- things of two tables, by what they are

-- the same source frames of a reel of one name
abbrev pub SameEntry : List (List ℕ) → List (List ℕ) → Option Media → Option Media → Type 0
SameEntry reels names None n = ⊥
SameEntry reels names (Some m) None = ⊥
SameEntry reels names (Some m) (Some n) =
    (name : List ℕ) × (slice_get reels m.reel ≡ Some name) × (slice_get names n.reel ≡ Some name) × (m.from ≡ n.from) × (m.to ≡ n.to)

-- with at most so many nests in one another
abbrev pub SameThing : Table → Table → ℕ → What → What → Type 0
SameThing t u levels (MediaOf i) (MediaOf j) = SameEntry t.reels u.reels (slice_get t.media i) (slice_get u.media j)
SameThing t u levels (MediaOf i) (NestOf j) = ⊥
SameThing t u levels (NestOf i) (MediaOf j) = ⊥
SameThing t u zero (NestOf i) (NestOf j) = ⊥
SameThing t u (suc levels) (NestOf i) (NestOf j) = SameNest (SameThing t u levels) (slice_get t.nests i) (slice_get u.nests j)

-- ---- the whole

abbrev pub SameTracks : Table → Table → List TrackState → List TrackState → Type 0
SameTracks t u [] [] = Unit {0}
SameTracks t u [] (y ∷ ys) = ⊥
SameTracks t u (x ∷ xs) [] = ⊥
SameTracks t u (x ∷ xs) (y ∷ ys) = (x.number ≡ y.number) × SameCells (SameThing t u 8) x.cells y.cells × SameTracks t u xs ys

-- two cuts with at most 8 nests in one another
pub record SameCut (o p : Opening) : Type 0 where
  pub kinds : o.table.kinds ≡ p.table.kinds
  pub counting : o.counting ≡ p.counting
  pub start : o.start ≡ p.start
  pub tracks : SameTracks o.table p.table o.tracks p.tracks
