-- The opening of a plain room: so many empty video tracks, and so many reels, each with one media entry.
use Rattle.std.specs.Prelude.{ℕ, List, [], ◌++◌, false, map, codes, decimal}
use Rattle.std.specs.List.{range_with_len}
use Rattle.timecode12.specs.declared.rate.SequenceRate.TheVariants.{F24}
use Rattle.composables.specs.declared.media.Kind.TheVariants.{Video}
use Rattle.composables.specs.declared.media.Media.{Media}
use Rattle.composables.specs.declared.media.Table.{Table}
use Rattle.composables.specs.TrackState.{TrackState}
use Rattle.otio_json.specs.declared.opening.Opening.{Opening}

-- media m is reel m with its first 86,400 frames, an hour at 24 frames a second
abbrev pub plain_media : ℕ → Media
plain_media m = record { reel = m; from = 0; to = 86400 }

-- reel m is `R` and m
abbrev pub plain_reel : ℕ → List ℕ
plain_reel m = codes "R" ++ decimal m

abbrev pub plain_table : ℕ → ℕ → Table
plain_table tracks reels = record {
  kinds = map (λ _. Video) (range_with_len 0 tracks);
  reels = map plain_reel (range_with_len 0 reels);
  media = map plain_media (range_with_len 0 reels);
  nests = [];
}

abbrev pub empty_track : ℕ → TrackState
empty_track t = record { number = t; cells = []; next_item = 0; next_link = 0 }

-- 24 frames a second, non-drop, from frame 0
abbrev pub plain_opening : ℕ → ℕ → Opening
plain_opening tracks reels = record {
  table = plain_table tracks reels;
  tracks = map empty_track (range_with_len 0 tracks);
  counting = record { rate = F24; drop_frame = false };
  start = 0;
}
