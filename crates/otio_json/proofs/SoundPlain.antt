-- What a plain room begins with is sound.
use Rattle.std.proofs.Common.{ℕ, zero, suc, ◌+◌, ◌<◌, ◌≤◌, ◌^◌, false, length, map, refl, arith}
use Rattle.std.specs.Prelude.{codes, decimal}
use Rattle.std.specs.List.{All, range_with_len}
use Rattle.std.specs.Str.{IsUtf8}
use lib.Utf8.{encode}
use Rattle.std.proofs.lemmas.List.Elements.{All-nil, All-cons}
use Rattle.std.proofs.lemmas.List.FromFn.{length-map-range_with_len}
use Rattle.std.proofs.lemmas.Str.{IsUtf8-append, IsUtf8-from_ascii}
use Rattle.std.proofs.lemmas.Fmt.{IsAscii-decimal}
use Rattle.timecode12.specs.declared.rate.SequenceRate.TheVariants.{F24}
use Rattle.composables.specs.declared.media.Kind.TheVariants.{Video}
use Rattle.composables.specs.declared.media.Table.{Table}
use Rattle.otio_tracks.specs.ReelTexts.{AreTexts}
use Rattle.otio_json.specs.Openings.{plain_media, plain_reel, plain_table, empty_track, plain_opening}
use Rattle.otio_json.specs.Soundness.{IsReadTrack, IsSoundMedia, IsSoundNest, AreTracksFrom, IsSoundOpening}
use Rattle.otio_json.proofs.SoundOpening.{day_some}

track_read : (table : Table) (number : ℕ) → IsReadTrack table 8 (empty_track number)
track_read table number = record {
  good = record {
    kept = record { whole = refl; not_before = refl; each = tt; apart = tt; below = tt; short = omega arith };
    ranges = tt;
    links = tt;
    frames = omega arith;
    items = omega arith;
  };
  unlinked = tt;
  deep = tt;
  next_item = omega arith;
  next_link = refl;
}

tracks_from : (table : Table) (a n : ℕ) → AreTracksFrom table a (map (λ (t : ℕ). Video) (range_with_len a n)) (map empty_track (range_with_len a n))
tracks_from table a zero = tt
tracks_from table a (suc n) = (refl, track_read table a, tracks_from table (a + 1) n)

media_from : (table : Table) (a n : ℕ) → a + n ≤ length table.reels → All (IsSoundMedia table) (map plain_media (range_with_len a n))
media_from table a zero h = All-nil (IsSoundMedia table)
media_from table a (suc n) h =
    All-cons (IsSoundMedia table) (plain_media a) (map plain_media (range_with_len (a + 1) n))
    (record { reel = omega (arith, h); filled = omega arith; within = omega arith })
    (media_from table (a + 1) n (omega (arith, h)))

pub plain_sound : (tracks reels : ℕ) → tracks ≤ 32 → IsSoundOpening (plain_opening tracks reels)
plain_sound tracks reels few = record {
  table = record { media = media_from (plain_table tracks reels) 0 reels (omega (arith, length-map-range_with_len plain_reel 0 reels)); nests = All-nil (IsSoundNest (plain_table tracks reels) 7) };
  tracks = tracks_from (plain_table tracks reels) 0 tracks;
  few = omega (arith, few, length-map-range_with_len empty_track 0 tracks);
  start = day_some (record { rate = F24; drop_frame = false });
}

r_utf8 : IsUtf8 (codes "R")
unfolding encode
r_utf8 = (codes "R", (refl, refl))

reel_text : (m : ℕ) → m < 2 ^ 64 → IsUtf8 (plain_reel m)
reel_text m small = IsUtf8-append (codes "R") (decimal m) r_utf8 (IsUtf8-from_ascii (decimal m) (IsAscii-decimal m small))

reel_texts : (a n : ℕ) → a + n < 2 ^ 64 → AreTexts (map plain_reel (range_with_len a n))
reel_texts a zero h = All-nil IsUtf8
reel_texts a (suc n) h = All-cons IsUtf8 (plain_reel a) (map plain_reel (range_with_len (a + 1) n)) (reel_text a (omega (arith, h))) (reel_texts (a + 1) n (omega (arith, h)))

pub plain_texts : (tracks reels : ℕ) → reels ≤ 999 → AreTexts (plain_table tracks reels).reels
plain_texts tracks reels few = reel_texts 0 reels (omega (arith, few))
