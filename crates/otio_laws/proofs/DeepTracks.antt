-- The tracks of a sound cut, each with how many nests stand in one another in it: at most 8 in one of pictures, since
-- each nest of the table has at most 7 in what its layers show, and none in one of sound.
use Rattle.std.specs.Prelude.{ℕ, ◌+◌, List, [], ◌∷◌, slice_index_or}
use Rattle.std.specs.List.{All}
use Rattle.frame_meaning.specs.declared.cells.What.{What}
use Rattle.frame_meaning.specs.declared.cells.What.TheVariants.{Media as MediaOf, Nest as NestOf}
use Rattle.frame_meaning.specs.declared.frames.Side.{Side}
use Rattle.frame_meaning.specs.declared.frames.Side.TheVariants.{Dark, Pic}
use Rattle.composables.specs.declared.items.ItemView.{ItemView}
use Rattle.composables.specs.declared.media.Table.{Table}
use Rattle.composables.specs.declared.media.Layer.{Layer}
use Rattle.composables.specs.declared.media.Kind.{Kind}
use Rattle.composables.specs.declared.media.Kind.TheVariants.{Video, Audio}
use Rattle.composables.specs.Bounds.{bounds_of}
use Rattle.composables.specs.Good.{LiesIn, SideLiesIn, EachLiesIn, IsGood}
use Rattle.composables.specs.Items.{items_of}
use Rattle.composables.specs.TrackFacts.{left_reach, right_reach, first_mark}
use Rattle.composables.specs.TrackState.{TrackState}
use Rattle.otio_json.specs.Soundness.{SideHas, EachHas, IsDeep, levels_of_kind, AreTracksOf}
use Rattle.otio_laws.specs.SoundCuts.{IsCutTrack, IsCutLayer, IsCutTable, IsMedia, SuitsKind, AreGoodFrom}
use Rattle.otio_laws.proofs.Facts.{shows_nest}

-- so many tracks of these kinds, with these numbers on
abbrev pub AreCutTracksFrom : Table → ℕ → List Kind → List TrackState → Type 0
AreCutTracksFrom table = AreTracksOf (λ k t. IsCutTrack table (levels_of_kind k) t)

-- what holds of each, where it follows of one
pub each : {X : Type 0} (P Q : X → Type 0) → ((x : X) → P x → Q x) → (xs : List X) → All P xs → All Q xs
each P Q f xs h = λ k d lt. f (slice_index_or xs k d) (h k d lt)

pub each_of : (P Q : Kind → TrackState → Type 0) → ((k : Kind) (t : TrackState) → P k t → Q k t)
    → (n : ℕ) (ks : List Kind) (ts : List TrackState) → AreTracksOf P n ks ts → AreTracksOf Q n ks ts
each_of P Q f n [] [] h = tt
each_of P Q f n [] (t ∷ ts) h = absurd h
each_of P Q f n (k ∷ ks) [] h = absurd h
each_of P Q f n (k ∷ ks) (t ∷ ts) h = (h.0, f k t h.1, each_of P Q f (n + 1) ks ts h.2)

module _ (table : Table) (sound : IsCutTable table) where
  thing_deep : (w : What) (s len before after : ℕ) → LiesIn (bounds_of table w) s len before after → IsDeep table.nests 8 w
  thing_deep (MediaOf m) s len before after h = tt
  thing_deep (NestOf j) s len before after h =
      let k = shows_nest table sound j s len before after h in
      (k.entry, k.there, each (IsCutLayer table 7) (λ (l : Layer). EachHas (IsDeep table.nests 7) (items_of l.track.cells)) (λ l c. c.track.deep) k.entry.layers k.sound.layers)

  side_deep : (side : Side What) (len before after : ℕ) → SideLiesIn table side len before after → SideHas (IsDeep table.nests 8) side
  side_deep Dark len before after h = tt
  side_deep (Pic w s) len before after h = thing_deep w s len before after h

  each_deep : (vs : List ItemView) → EachLiesIn table vs → EachHas (IsDeep table.nests 8) vs
  each_deep [] h = tt
  each_deep (v ∷ vs) h = (side_deep v.first v.len (left_reach v.mark) (right_reach (first_mark vs)) h.0, each_deep vs h.1)

  thing_flat : (w : What) → IsMedia w → IsDeep table.nests 0 w
  thing_flat (MediaOf m) h = tt
  thing_flat (NestOf j) h = absurd h

  side_flat : (side : Side What) → SideHas IsMedia side → SideHas (IsDeep table.nests 0) side
  side_flat Dark h = tt
  side_flat (Pic w s) h = thing_flat w h

  each_flat : (vs : List ItemView) → EachHas IsMedia vs → EachHas (IsDeep table.nests 0) vs
  each_flat [] h = tt
  each_flat (v ∷ vs) h = (side_flat v.first h.0, each_flat vs h.1)

  track_deep : (k : Kind) (t : TrackState) → IsGood table t → SuitsKind k t → IsCutTrack table (levels_of_kind k) t
  track_deep Video t good suits = record { good = good; deep = each_deep (items_of t.cells) good.ranges }
  track_deep Audio t good suits = record { good = good; deep = each_flat (items_of t.cells) suits }

  pub tracks_deep : (n : ℕ) (ks : List Kind) (ts : List TrackState) → AreGoodFrom table n ks ts → AreCutTracksFrom table n ks ts
  tracks_deep = each_of (λ k t. IsGood table t × SuitsKind k t) (λ k t. IsCutTrack table (levels_of_kind k) t) (λ k t h. track_deep k t h.0 h.1)
