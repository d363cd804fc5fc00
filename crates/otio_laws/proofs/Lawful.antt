-- The tree of a part can be written: it has no number that is too wide, few lists and objects in one another, and each
-- text of it is UTF-8.
use Rattle.std.proofs.Common.{◌≡◌, ℕ, suc, ◌-◌, ◌^◌, ◌<◌, true, List, [], ◌∷◌, Option, Some, None, refl, arith}
use Rattle.std.specs.Prelude.{codes}
use Rattle.std.specs.Str.{IsUtf8}
use lib.Utf8.{encode}
use Rattle.timecode12.specs.declared.rate.SequenceRate.{SequenceRate}
use Rattle.timecode12.specs.declared.rate.SequenceRate.TheVariants.{F23976, F24, F25, F2997, F30}
use Rattle.frame_meaning.specs.declared.cells.Mark.{Mark}
use Rattle.composables.specs.declared.media.Media.{Media}
use Rattle.composables.specs.declared.media.Kind.{Kind as TrackKind}
use Rattle.composables.specs.declared.media.Kind.TheVariants.{Video, Audio}
use Rattle.json_tree.specs.Tree.{Tree, At, Null, trees}
use Rattle.json_tree.specs.Sound.{IsSound, AreSound, is_writable, are_writable}
use Rattle.otio_laws.specs.CutTrees.{rate_tree, time_tree, range_tree, gap_of_range, gap_tree, clip_of_ranges, clip_tree, transition_tree, nest_of_layers, layer_of_items, kind_name, track_of_items, stack_of_tracks, timeline_of}

pub record IsLawful (levels : ℕ) (t : Tree) : Type 0 where
  pub writable : is_writable t levels ≡ true
  pub sound : IsSound t

pub record AreLawful (levels : ℕ) (ts : List Tree) : Type 0 where
  pub writable : are_writable (trees ts) levels ≡ true
  pub sound : AreSound (trees ts)

pub null_lawful : (n : ℕ) → IsLawful n (At 0 Null)
null_lawful n = record { writable = refl; sound = tt }

pub none_lawful : (n : ℕ) → AreLawful n []
none_lawful n = record { writable = refl; sound = tt }

pub more_lawful : (n : ℕ) (t : Tree) (ts : List Tree) → IsLawful n t → AreLawful n ts → AreLawful n (t ∷ ts)
more_lawful n t ts h k = record { writable = rw (h.writable, k.writable) refl; sound = (h.sound, k.sound) }

-- ---- the names of members and of schemas

schema_utf8 : IsUtf8 (codes "OTIO_SCHEMA")
unfolding encode
schema_utf8 = (codes "OTIO_SCHEMA", (refl, refl))

name_utf8 : IsUtf8 (codes "name")
unfolding encode
name_utf8 = (codes "name", (refl, refl))

pub empty_utf8 : IsUtf8 []
unfolding encode
empty_utf8 = ([], (refl, refl))

metadata_utf8 : IsUtf8 (codes "metadata")
unfolding encode
metadata_utf8 = (codes "metadata", (refl, refl))

source_utf8 : IsUtf8 (codes "source_range")
unfolding encode
source_utf8 = (codes "source_range", (refl, refl))

effects_utf8 : IsUtf8 (codes "effects")
unfolding encode
effects_utf8 = (codes "effects", (refl, refl))

markers_utf8 : IsUtf8 (codes "markers")
unfolding encode
markers_utf8 = (codes "markers", (refl, refl))

children_utf8 : IsUtf8 (codes "children")
unfolding encode
children_utf8 = (codes "children", (refl, refl))

-- the key of the one media reference
key_utf8 : IsUtf8 (codes "DEFAULT_MEDIA")
unfolding encode
key_utf8 = (codes "DEFAULT_MEDIA", (refl, refl))

-- ---- times

time_sound : (r : SequenceRate) (f : ℕ) → f < 10 ^ 18 → IsSound (time_tree r f)
unfolding time_tree encode
time_sound r f lt = (
  schema_utf8,
  (codes "RationalTime.1", (refl, refl)),
  (
    (codes "rate", (refl, refl)),
    rate_sound r,
    (
      (codes "value", (refl, refl)),
      (lt, omega arith, λ some. absurd (omega arith)),
      tt,
    ),
  ),
)
  where
    rate_sound : (r : SequenceRate) → IsSound (rate_tree r)
    rate_sound F23976 = (omega arith, omega arith, λ some e. omega arith)
    rate_sound F24 = (omega arith, omega arith, λ some e. omega arith)
    rate_sound F25 = (omega arith, omega arith, λ some e. omega arith)
    rate_sound F2997 = (omega arith, omega arith, λ some e. omega arith)
    rate_sound F30 = (omega arith, omega arith, λ some e. omega arith)

time_writable : (n : ℕ) (r : SequenceRate) (f : ℕ) → is_writable (time_tree r f) (suc n) ≡ true
unfolding time_tree
time_writable n F23976 f = refl
time_writable n F24 f = refl
time_writable n F25 f = refl
time_writable n F2997 f = refl
time_writable n F30 f = refl

pub time_lawful : (n : ℕ) (r : SequenceRate) (f : ℕ) → f < 10 ^ 18 → IsLawful (suc n) (time_tree r f)
time_lawful n r f lt = record { writable = time_writable n r f; sound = time_sound r f lt }

pub range_lawful : (n : ℕ) (r : SequenceRate) (from len : ℕ) → from < 10 ^ 18 → len < 10 ^ 18 → IsLawful (suc (suc n)) (range_tree r from len)
unfolding range_tree encode
range_lawful n r from len f l = record {
  writable = rw (time_writable n r len, time_writable n r from) refl;
  sound = (
    schema_utf8,
    (codes "TimeRange.1", (refl, refl)),
    (
      (codes "duration", (refl, refl)),
      time_sound r len l,
      (
        (codes "start_time", (refl, refl)),
        time_sound r from f,
        tt,
      ),
    ),
  );
}

-- ---- items without a nest, and transitions

gap_of_lawful : (n : ℕ) (range : Tree) → IsLawful (suc n) range → IsLawful (suc (suc n)) (gap_of_range range)
unfolding encode
gap_of_lawful n range h = record {
  writable = rw h.writable refl;
  sound = (
    schema_utf8,
    (codes "Gap.1", (refl, refl)),
    (
      name_utf8,
      empty_utf8,
      (
        metadata_utf8,
        tt,
        (
          source_utf8,
          h.sound,
          (
            effects_utf8,
            tt,
            (
              markers_utf8,
              tt,
              tt,
            ),
          ),
        ),
      ),
    ),
  );
}

pub gap_lawful : (n : ℕ) (r : SequenceRate) (len : ℕ) → len < 10 ^ 18 → IsLawful (suc (suc (suc n))) (gap_tree r len)
unfolding gap_tree
gap_lawful n r len l = gap_of_lawful (suc n) (range_tree r 0 len) (range_lawful n r 0 len (omega arith) l)

clip_of_lawful : (n : ℕ) (reel : List ℕ) (range there : Tree) → IsUtf8 reel → IsLawful (suc (suc (suc n))) range → IsLawful (suc n) there → IsLawful (suc (suc (suc (suc n)))) (clip_of_ranges reel range there)
unfolding encode
clip_of_lawful n reel range there u h k = record {
  writable = rw (h.writable, k.writable) refl;
  sound = (
    schema_utf8,
    (codes "Clip.2", (refl, refl)),
    (
      name_utf8,
      u,
      (
        metadata_utf8,
        ((codes "cmx_3600", (refl, refl)), ((codes "reel", (refl, refl)), u, tt), tt),
        (
          source_utf8,
          h.sound,
          (
            effects_utf8,
            tt,
            (
              markers_utf8,
              tt,
              (
                (codes "media_references", (refl, refl)),
                (
                  key_utf8,
                  (
                    schema_utf8,
                    (codes "MissingReference.1", (refl, refl)),
                    (
                      name_utf8,
                      empty_utf8,
                      (
                        metadata_utf8,
                        tt,
                        (
                          (codes "available_range", (refl, refl)),
                          k.sound,
                          tt,
                        ),
                      ),
                    ),
                  ),
                  tt,
                ),
                (
                  (codes "active_media_reference_key", (refl, refl)),
                  key_utf8,
                  tt,
                ),
              ),
            ),
          ),
        ),
      ),
    ),
  );
}

pub clip_lawful : (n : ℕ) (r : SequenceRate) (reel : List ℕ) (source len : ℕ) (m : Media) → IsUtf8 reel → source < 10 ^ 18 → len < 10 ^ 18 → m.from < 10 ^ 18 → m.to < 10 ^ 18
    → IsLawful (suc (suc (suc (suc (suc n))))) (clip_tree r reel source len m)
unfolding clip_tree
clip_lawful n r reel source len m u s l f t =
    clip_of_lawful (suc n) reel (range_tree r source len) (range_tree r m.from (m.to - m.from)) u (range_lawful (suc (suc n)) r source len s l) (range_lawful n r m.from (m.to - m.from) f (omega arith))

pub transition_lawful : (n : ℕ) (r : SequenceRate) (m : Mark) → m.a < 10 ^ 18 → m.b < 10 ^ 18 → IsLawful (suc (suc n)) (transition_tree r m)
unfolding transition_tree encode
transition_lawful n r m a b = record {
  writable = rw (time_writable n r m.a, time_writable n r m.b) refl;
  sound = (
    schema_utf8,
    (codes "Transition.1", (refl, refl)),
    (
      name_utf8,
      empty_utf8,
      (
        metadata_utf8,
        tt,
        (
          (codes "transition_type", (refl, refl)),
          (codes "SMPTE_Dissolve", (refl, refl)),
          (
            (codes "in_offset", (refl, refl)),
            time_sound r m.a a,
            (
              (codes "out_offset", (refl, refl)),
              time_sound r m.b b,
              tt,
            ),
          ),
        ),
      ),
    ),
  );
}

-- ---- nests, layers, tracks and the timeline

pub nest_lawful : (n : ℕ) (range : Tree) (layers : List Tree) → IsLawful (suc n) range → AreLawful n layers → IsLawful (suc (suc n)) (nest_of_layers range layers)
unfolding nest_of_layers encode
nest_lawful n range layers h k = record {
  writable = rw (h.writable, k.writable) refl;
  sound = (
    schema_utf8,
    (codes "Stack.1", (refl, refl)),
    (
      name_utf8,
      empty_utf8,
      (
        metadata_utf8,
        tt,
        (
          source_utf8,
          h.sound,
          (
            effects_utf8,
            tt,
            (
              markers_utf8,
              tt,
              (
                children_utf8,
                k.sound,
                tt,
              ),
            ),
          ),
        ),
      ),
    ),
  );
}

pub layer_lawful : (n : ℕ) (range : Tree) (items : List Tree) → IsLawful (suc n) range → AreLawful n items → IsLawful (suc (suc n)) (layer_of_items range items)
unfolding layer_of_items encode
layer_lawful n range items h k = record {
  writable = rw (h.writable, k.writable) refl;
  sound = (
    schema_utf8,
    (codes "Track.1", (refl, refl)),
    (
      name_utf8,
      empty_utf8,
      (
        metadata_utf8,
        tt,
        (
          source_utf8,
          h.sound,
          (
            effects_utf8,
            tt,
            (
              markers_utf8,
              tt,
              (
                (codes "kind", (refl, refl)),
                (codes "Video", (refl, refl)),
                (
                  children_utf8,
                  k.sound,
                  tt,
                ),
              ),
            ),
          ),
        ),
      ),
    ),
  );
}

kind_utf8 : (kind : Option TrackKind) → IsUtf8 (kind_name kind)
unfolding encode
kind_utf8 (Some Video) = (codes "Video", (refl, refl))
kind_utf8 (Some Audio) = (codes "Audio", (refl, refl))
kind_utf8 None = (codes "Video", (refl, refl))

pub track_lawful : (n : ℕ) (kind : Option TrackKind) (items : List Tree) → AreLawful n items → IsLawful (suc (suc n)) (track_of_items (kind_name kind) items)
unfolding track_of_items encode
track_lawful n kind items k = record {
  writable = rw k.writable refl;
  sound = (
    schema_utf8,
    (codes "Track.1", (refl, refl)),
    (
      name_utf8,
      empty_utf8,
      (
        metadata_utf8,
        tt,
        (
          source_utf8,
          tt,
          (
            effects_utf8,
            tt,
            (
              markers_utf8,
              tt,
              (
                (codes "kind", (refl, refl)),
                kind_utf8 kind,
                (
                  children_utf8,
                  k.sound,
                  tt,
                ),
              ),
            ),
          ),
        ),
      ),
    ),
  );
}

pub timeline_lawful : (n : ℕ) (start : Tree) (tracks : List Tree) → IsLawful (suc (suc n)) start → AreLawful n tracks → IsLawful (suc (suc (suc n))) (timeline_of start tracks)
unfolding timeline_of stack_of_tracks encode
timeline_lawful n start tracks h k = record {
  writable = rw (h.writable, k.writable) refl;
  sound = (
    schema_utf8,
    (codes "Timeline.1", (refl, refl)),
    (
      name_utf8,
      empty_utf8,
      (
        metadata_utf8,
        tt,
        (
          (codes "global_start_time", (refl, refl)),
          h.sound,
          (
            (codes "tracks", (refl, refl)),
            (
              schema_utf8,
              (codes "Stack.1", (refl, refl)),
              (
                name_utf8,
                (codes "tracks", (refl, refl)),
                (
                  metadata_utf8,
                  tt,
                  (
                    source_utf8,
                    tt,
                    (
                      effects_utf8,
                      tt,
                      (
                        markers_utf8,
                        tt,
                        (
                          children_utf8,
                          k.sound,
                          tt,
                        ),
                      ),
                    ),
                  ),
                ),
              ),
            ),
            tt,
          ),
        ),
      ),
    ),
  );
}
