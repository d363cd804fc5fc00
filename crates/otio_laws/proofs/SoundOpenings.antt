-- A sound opening is a sound cut: of each part less is asked.
use Rattle.std.specs.Prelude.{ℕ, List, [], ◌∷◌}
use Rattle.frame_meaning.specs.declared.cells.What.{What}
use Rattle.frame_meaning.specs.declared.cells.What.TheVariants.{Media as MediaOf, Nest as NestOf}
use Rattle.frame_meaning.specs.declared.frames.Side.{Side}
use Rattle.frame_meaning.specs.declared.frames.Side.TheVariants.{Dark, Pic}
use Rattle.composables.specs.declared.items.ItemView.{ItemView}
use Rattle.composables.specs.declared.media.Table.{Table}
use Rattle.composables.specs.declared.media.Media.{Media}
use Rattle.composables.specs.declared.media.Layer.{Layer}
use Rattle.composables.specs.declared.media.Nest.{Nest}
use Rattle.composables.specs.declared.media.Kind.{Kind}
use Rattle.composables.specs.declared.media.Kind.TheVariants.{Video, Audio}
use Rattle.composables.specs.Good.{IsGood}
use Rattle.composables.specs.Items.{items_of}
use Rattle.composables.specs.TrackState.{TrackState}
use Rattle.otio_json.specs.Soundness.{SideHas, EachHas, IsDeep, levels_of_kind, IsReadTrack, IsSoundMedia, IsSoundLayer, IsSoundNest, AreTracksFrom}
use Rattle.otio_laws.specs.SoundCuts.{IsCutTrack, IsCutMedia, IsCutLayer, IsCutNest, IsMedia, SuitsKind, AreGoodFrom, OpeningsAreSoundCuts}
use Rattle.otio_laws.proofs.DeepTracks.{each, each_of}

track_is : (table : Table) (levels : ℕ) (t : TrackState) → IsReadTrack table levels t → IsCutTrack table levels t
track_is table levels t h = record { good = h.good; deep = h.deep }

media_is : (table : Table) (m : Media) → IsSoundMedia table m → IsCutMedia table m
media_is table m h = record { reel = h.reel; within = h.within }

layer_is : (table : Table) (levels : ℕ) (l : Layer) → IsSoundLayer table levels l → IsCutLayer table levels l
layer_is table levels l h = record { track = track_is table levels l.track h.track; ordered = h.ordered; within = h.within }

nest_is : (table : Table) (levels : ℕ) (nest : Nest) → IsSoundNest table levels nest → IsCutNest table levels nest
nest_is table levels nest h = record {
  layers = each (IsSoundLayer table levels) (IsCutLayer table levels) (layer_is table levels) nest.layers h.layers;
  as_long = h.as_long;
}

module _ (table : Table) where
  thing_is : (w : What) → IsDeep table.nests 0 w → IsMedia w
  thing_is (MediaOf m) h = tt
  thing_is (NestOf j) h = absurd h

  side_is : (side : Side What) → SideHas (IsDeep table.nests 0) side → SideHas IsMedia side
  side_is Dark h = tt
  side_is (Pic w s) h = thing_is w h

  each_is : (vs : List ItemView) → EachHas (IsDeep table.nests 0) vs → EachHas IsMedia vs
  each_is [] h = tt
  each_is (v ∷ vs) h = (side_is v.first h.0, each_is vs h.1)

  suits : (k : Kind) (t : TrackState) → IsReadTrack table (levels_of_kind k) t → SuitsKind k t
  suits Video t h = tt
  suits Audio t h = each_is (items_of t.cells) h.deep

  tracks_are : (n : ℕ) (ks : List Kind) (ts : List TrackState) → AreTracksFrom table n ks ts → AreGoodFrom table n ks ts
  tracks_are = each_of (λ k t. IsReadTrack table (levels_of_kind k) t) (λ k t. IsGood table t × SuitsKind k t) (λ k t h. (h.good, suits k t h))

pub openings_are_sound_cuts : OpeningsAreSoundCuts
openings_are_sound_cuts o h = record {
  table = record {
    media = each (IsSoundMedia o.table) (IsCutMedia o.table) (media_is o.table) o.table.media h.table.media;
    nests = each (IsSoundNest o.table 7) (IsCutNest o.table 7) (nest_is o.table 7) o.table.nests h.table.nests;
  };
  tracks = tracks_are o.table 0 o.table.kinds o.tracks h.tracks;
  few = h.few;
  start = h.start;
}
