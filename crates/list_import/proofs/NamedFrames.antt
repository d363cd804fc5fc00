-- What a shot of an event shows, by the names of the reels, is what the event shows.
use Rattle.std.proofs.Common.{◌≡◌, ℕ, ◌+◌, Bool, true, false, cond, List, [], Option, Some, None, length, get_or, nat_lt, slice_get, refl, ap, ◌∙◌, arith}
use Rattle.std.proofs.lemmas.Option.{get_or_from_slice_get}
use Rattle.frame_meaning.specs.declared.cells.What.{What}
use Rattle.frame_meaning.specs.declared.cells.What.TheVariants.{Media as MediaOf, Nest as NestOf}
use Rattle.frame_meaning.specs.declared.frames.Side.{Side}
use Rattle.frame_meaning.specs.declared.frames.Side.TheVariants as side
use Rattle.frame_meaning.specs.declared.frames.Frame.{Frame}
use Rattle.frame_meaning.specs.declared.frames.Frame.TheVariants as frame
use Rattle.frame_meaning.specs.Cells.{later_side}
use Rattle.frame_meaning.specs.Render.{frame_of}
use Rattle.composables.specs.declared.media.Media.{Media}
use Rattle.composables.specs.declared.media.Table.{Table}
use Rattle.flatten.specs.Nests.{reel_of, reel_side, resolved}
use Rattle.reel_names.specs.Names.{is_black}
use Rattle.edl_events.specs.declared.event.Event.{Event}
use Rattle.edl_events.specs.declared.event.FromLine.{FromLine}
use Rattle.edl_events.specs.Tape.{event_frame, frame_in, side_of}
use Rattle.otio_tracks.specs.Clips.{name_at}
use Rattle.list_import.specs.ListReels.{from_in, media_of, reels_of, shot_of, side_in, table_of}
use Rattle.list_import.specs.ShownLists.{frame_named, side_named}
use Rattle.list_import.proofs.ReelFacts.{AreKnown, is_known, known_below, known_place, place_there}
use Rattle.list_import.proofs.ShotFrames.{frame_k}
use Rattle.list_import.proofs.SoundImports.{media_at}

-- a side, and a frame of a track without nests, by the names of a table
abbrev pub side_shown : Table → Side What → Side (List ℕ)
side_shown table s = side_named table (reel_side table.media s)

abbrev pub frame_shown : Table → Frame What → Frame (List ℕ)
frame_shown table f = frame_named table (resolved table.media [] f)

entry_alone : (table : Table) (o : Option Media) (source : ℕ) → frame_named table (frame_of (reel_of o source)) ≡ frame_of (side_named table (reel_of o source))
entry_alone table None source = refl
entry_alone table (Some entry) source = refl

alone_shown : (table : Table) (s : Side What) → frame_shown table (frame_of s) ≡ frame_of (side_shown table s)
alone_shown table side.Dark = refl
alone_shown table (side.Pic (MediaOf m) source) = entry_alone table (slice_get table.media m) source
alone_shown table (side.Pic (NestOf j) source) = refl

zero_add : (m : ℕ) → 0 + m ≡ m
zero_add m = omega arith

side_is : (events : List Event) (name : List ℕ) (source k : ℕ) → is_known (reels_of events) name ≡ true
    → side_shown (table_of events) (later_side (side_in (reels_of events) name source) k) ≡ later_side (side_of name source) k
side_is events name source k known = by (is_black name) refl where
  by : (b : Bool) → is_black name ≡ b
      → side_shown (table_of events) (later_side (cond b side.Dark (side.Pic (MediaOf (name_at (reels_of events) name)) source)) k) ≡ later_side (cond b side.Dark (side.Pic name source)) k
  by true e = refl
  by false e =
      let reels : List (List ℕ) = reels_of events in
      let m : ℕ = name_at reels name in
      let entry : slice_get (table_of events).media m ≡ Some (media_of m) = media_at 0 (length reels) m (known_below reels name known e) ∙ ap (λ (n : ℕ). Some (media_of n)) (zero_add m) in
      let text : get_or reels m [] ≡ name = get_or_from_slice_get reels m name [] (place_there reels name (known_place reels name known e)) in
      ap (λ (o : Option Media). side_named (table_of events) (reel_of o (source + k))) entry ∙ ap (λ (n : List ℕ). side.Pic n (source + k)) text

-- frame by frame
frame_is : (events : List Event) (o : Option FromLine) (n : ℕ) (reel : List ℕ) (source k : ℕ) → is_known (reels_of events) reel ≡ true → ((from : FromLine) → o ≡ Some from → is_known (reels_of events) from.reel ≡ true)
    → frame_shown (table_of events) (frame_k (from_in (reels_of events) o) n (side_in (reels_of events) reel source) k) ≡ frame_in o n (side_of reel source) k
frame_is events None n reel source k known from_known =
    alone_shown (table_of events) (later_side (side_in (reels_of events) reel source) k) ∙ ap (λ (s : Side (List ℕ)). frame_of s) (side_is events reel source k known)
frame_is events (Some from) n reel source k known from_known = by (nat_lt k n) where
  by : (b : Bool) → frame_shown (table_of events) (cond b (frame.Mix (later_side (side_in (reels_of events) from.reel from.source) k) (later_side (side_in (reels_of events) reel source) k) (k + 1) (n + 1)) (frame_of (later_side (side_in (reels_of events) reel source) k)))
      ≡ cond b (frame.Mix (later_side (side_of from.reel from.source) k) (later_side (side_of reel source) k) (k + 1) (n + 1)) (frame_of (later_side (side_of reel source) k))
  by true =
      ap (λ (s : Side (List ℕ)). frame.Mix s (side_shown (table_of events) (later_side (side_in (reels_of events) reel source) k)) (k + 1) (n + 1)) (side_is events from.reel from.source k (from_known from refl))
      ∙ ap (λ (s : Side (List ℕ)). frame.Mix (later_side (side_of from.reel from.source) k) s (k + 1) (n + 1)) (side_is events reel source k known)
  by false = alone_shown (table_of events) (later_side (side_in (reels_of events) reel source) k) ∙ ap (λ (s : Side (List ℕ)). frame_of s) (side_is events reel source k known)

pub event_is : (events : List Event) (e : Event) (k : ℕ) → AreKnown (reels_of events) e
    → frame_shown (table_of events) (frame_k (shot_of (reels_of events) e).from (shot_of (reels_of events) e).frames (shot_of (reels_of events) e).side k) ≡ event_frame e k
event_is events e k known = frame_is events e.from e.frames e.reel e.source k known.reel known.from
