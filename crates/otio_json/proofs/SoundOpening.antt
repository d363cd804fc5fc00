-- What a document opens is sound.
use Rattle.std.proofs.Common.{◌≡◌, ℕ, ◌+◌, ◌*◌, ◌<◌, ◌≤◌, nat_lt, nat_le, codes, int_lt, pos, unsigned_abs, Bool, true, false, ◌&&◌, List, [], ◌∷◌, ◌++◌, length, Option, Some, None, Result, Ok, Err, IfOk, refl, sym, arith, subst, if◌then◌else◌}
use Rattle.std.proofs.lemmas.List.{length-append}
use Rattle.std.proofs.lemmas.List.Elements.{All-weaker, All-nil}
use Rattle.timecode12.specs.declared.rate.SequenceRate.{SequenceRate}
use Rattle.timecode12.specs.declared.rate.SequenceRate.TheVariants.{F23976, F24, F25, F2997, F30}
use Rattle.timecode12.specs.Numbers.{numbers_a_second, Counted}
use Rattle.timecode12.specs.Places.{hour}
use Rattle.timecode12.proofs.Places.{dropped_by}
use Rattle.timecode12.proofs.Told.{day_is}
use Rattle.timecode12.specs.Labels.{day_of}
use Rattle.composables.specs.declared.media.Table.{Table}
use Rattle.composables.specs.declared.media.Kind.{Kind}
use Rattle.composables.specs.declared.media.Kind.TheVariants.{Video, Audio}
use Rattle.composables.specs.TrackState.{TrackState}
use Rattle.json_tree.specs.Tree.{Tree}
use Rattle.json_tree.specs.Parts.{place_of}
use Rattle.otio_tracks.specs.declared.faults.DocCode.TheVariants.{O10, O11}
use Rattle.otio_tracks.specs.declared.faults.DocFault.{DocFault}
use Rattle.otio_tracks.specs.Reading.{Read, Gives, refuse, each}
use Rattle.otio_tracks.specs.Values.{given, needed, list_read, expected}
use Rattle.otio_tracks.specs.Times.{frame_read}
use Rattle.otio_json.specs.declared.opening.Opening.{Opening}
use Rattle.otio_json.specs.Nests.{track_read}
use Rattle.otio_tracks.specs.Clips.{with_kind, empty_table}
use Rattle.otio_json.specs.Timelines.{untrimmed, start_if, start_read, rate_counted, nesting_of, head_of_track, next_track, tracks_read, sequence_read, timeline_read}
use Rattle.otio_json.specs.Soundness.{IsReadTrack, IsSoundMedia, IsSoundNest, IsSoundTable, levels_of_kind, AreTracksFrom, IsSoundOpening}
use Rattle.otio_json.proofs.Growth.{Keeps, track_kept, nest_kept, media_kept}
use Rattle.otio_json.proofs.SoundNests.{TrackFrom, track_read_sound}
use Rattle.otio_json.proofs.Nesting.{levels_of}
use Rattle.otio_json.proofs.Steps.{after, past, tested, weaker, and_parts}

-- ---- the start

start_by : (c : Counted) (n at : ℕ) (low high : Bool) → nat_lt n (length (day_of c)) ≡ high
    → IfOk {T = ℕ} (if low then refuse O11 at else if high then Ok n else refuse O11 at) (λ s. s < length (day_of c))
start_by c n at true high e = tt
start_by c n at false true e = nat_lt_true n (length (day_of c)) e where
  nat_lt_true : (a b : ℕ) → nat_lt a b ≡ true → a < b
  nat_lt_true a b t = grind arith
start_by c n at false false e = tt

positive : (rate : SequenceRate) (df : Bool) → 0 < 24 * hour (numbers_a_second rate) (dropped_by df)
positive F23976 true = omega arith
positive F24 true = omega arith
positive F25 true = omega arith
positive F2997 true = omega arith
positive F30 true = omega arith
positive F23976 false = omega arith
positive F24 false = omega arith
positive F25 false = omega arith
positive F2997 false = omega arith
positive F30 false = omega arith

-- a day has a frame
pub day_some : (c : Counted) → 0 < length (day_of c)
day_some c = subst (λ n. 0 < n) (day_is c (numbers_a_second c.rate) (dropped_by c.drop_frame) (24 * hour (numbers_a_second c.rate) (dropped_by c.drop_frame)) refl refl refl) (positive c.rate c.drop_frame)

start_then : (c : Counted) (rate : ℕ × ℕ) (o : Option Tree) → IfOk (start_if c rate o) (λ s. s < length (day_of c))
start_then c rate None = day_some c
start_then c rate (Some t) = past (frame_read rate t) _ _ (λ start. start_by c (unsigned_abs start) (place_of t) (int_lt start (pos 0)) (nat_lt (unsigned_abs start) (length (day_of c))) refl)

start_in : (c : Counted) (rate : ℕ × ℕ) (t : Tree) → IfOk (start_read c rate t) (λ s. s < length (day_of c))
unfolding start_read
start_in c rate t = start_then c rate (given (codes "global_start_time") t)

-- ---- the tracks

tracks_kept : (old new : Table) → Keeps old new → (n : ℕ) (ks : List Kind) (ts : List TrackState) → AreTracksFrom old n ks ts → AreTracksFrom new n ks ts
tracks_kept old new k n [] [] h = tt
tracks_kept old new k n [] (t ∷ ts) h = absurd h
tracks_kept old new k n (a ∷ ks) [] h = absurd h
tracks_kept old new k n (a ∷ ks) (t ∷ ts) h = (h.0, track_kept old new k (levels_of_kind a) t h.1, tracks_kept old new k (n + 1) ks ts h.2)

track_more : (table : Table) (n : ℕ) (ks : List Kind) (ts : List TrackState) (a : Kind) (t : TrackState) → AreTracksFrom table n ks ts → t.number ≡ n + length ts → IsReadTrack table (levels_of_kind a) t
    → AreTracksFrom table n (ks ++ a ∷ []) (ts ++ t ∷ [])
track_more table n [] [] a t h e r = (omega (arith, e), r, tt)
track_more table n [] (u ∷ ts) a t h e r = absurd h
track_more table n (k ∷ ks) [] a t h e r = absurd h
track_more table n (k ∷ ks) (u ∷ ts) a t h e r = (h.0, h.1, track_more table (n + 1) ks ts a t h.2 (omega (arith, e)) r)

with_kind_keeps : (table : Table) (a : Kind) → Keeps table (with_kind table a)
with_kind_keeps table a = record { reels = omega arith; media = λ i m e. e; nests = λ i n e. e }

with_kind_sound : (table : Table) (a : Kind) → IsSoundTable table → IsSoundTable (with_kind table a)
with_kind_sound table a h = record {
  media = All-weaker (IsSoundMedia table) (IsSoundMedia (with_kind table a)) (media_kept table (with_kind table a) (with_kind_keeps table a)) table.media h.media;
  nests = All-weaker (IsSoundNest table 7) (IsSoundNest (with_kind table a) 7) (nest_kept table (with_kind table a) (with_kind_keeps table a) 7) table.nests h.nests;
}

-- the tracks that were read, and the table
record AreSoFar (s : List TrackState × Table) : Type 0 where
  table : IsSoundTable s.1
  tracks : AreTracksFrom s.1 0 s.1.kinds s.0

levels_le : (a : Kind) → levels_of (nesting_of a) ≤ 8
levels_le Video = omega arith
levels_le Audio = omega arith

same_levels : (a : Kind) → levels_of (nesting_of a) ≡ levels_of_kind a
same_levels Video = refl
same_levels Audio = refl

one_more : (s : List TrackState × Table) (a : Kind) (track : TrackState × Table) → AreSoFar s → TrackFrom s.1 (levels_of (nesting_of a)) (length s.0) track
    → AreSoFar (s.0 ++ track.0 ∷ [], with_kind track.1 a)
one_more s a track h r = record {
  table = with_kind_sound track.1 a r.0.sound;
  tracks =
      let read : IsReadTrack track.1 (levels_of_kind a) track.0 = subst (λ m. IsReadTrack track.1 m track.0) (same_levels a) r.1.read in
      let before : AreTracksFrom track.1 0 track.1.kinds s.0 = subst (λ ks. AreTracksFrom track.1 0 ks s.0) (sym r.0.kinds) (tracks_kept s.1 track.1 r.0.keeps 0 s.1.kinds s.0 h.tracks) in
      tracks_kept track.1 (with_kind track.1 a) (with_kind_keeps track.1 a) 0 (track.1.kinds ++ a ∷ []) (s.0 ++ track.0 ∷ [])
      (track_more track.1 0 track.1.kinds s.0 a track.0 before (omega (arith, r.1.numbered)) read);
}

-- and how many they are
abbrev AreSo : ℕ → List TrackState × Table → Type 0
AreSo count s = AreSoFar s × (length s.0 ≡ count)

next_sound : (rate : ℕ × ℕ) (s : List TrackState × Table) (t : Tree) → AreSoFar s → IfOk (next_track rate s t) (AreSo (length s.0 + 1))
unfolding next_track
next_sound rate s t h =
    past (head_of_track t) _ _ (λ a. past (needed (codes "children") t) _ _ (λ children_text. past (list_read children_text) _ _ (λ children.
    after (track_read rate (nesting_of a) (length s.0) s.1 children (place_of t)) _ (TrackFrom s.1 (levels_of (nesting_of a)) (length s.0)) (AreSo (length s.0 + 1)) (track_read_sound rate (nesting_of a) (length s.0) s.1 children (place_of t) (levels_le a) h.table) (λ track r.
    (one_more s a track h r, omega (arith, length-append s.0 (track.0 ∷ [])))))))

all_sound : (rate : ℕ × ℕ) (ts : List Tree) (s : List TrackState × Table) (count : ℕ) → AreSoFar s → length s.0 + length ts ≡ count → IfOk (each (next_track rate) s ts) (AreSo count)
all_sound rate [] s count h e = (h, omega (arith, e))
all_sound rate (t ∷ ts) s count h e =
    after (next_track rate s t) _ (AreSo (length s.0 + 1)) (AreSo count) (next_sound rate s t h) (λ r k. all_sound rate ts r count k.0 (omega (arith, e, k.1)))

nothing_yet : AreSoFar ([], empty_table)
nothing_yet = record { table = record { media = All-nil (IsSoundMedia empty_table); nests = All-nil (IsSoundNest empty_table 7) }; tracks = tt }

-- 1 to 32 tracks
abbrev AreTracks : List TrackState × Table → Type 0
AreTracks s = AreSoFar s × (0 < length s.0) × (length s.0 ≤ 32)

sequence_sound : (rate : ℕ × ℕ) (children : List Tree) (at : ℕ) → IfOk (sequence_read rate children at) AreTracks
sequence_sound rate children at = tested (nat_lt 0 (length children) && nat_le (length children) 32) (tracks_read rate empty_table children) O10 at AreTracks (λ e.
    let p = and_parts (nat_lt 0 (length children)) (nat_le (length children) 32) e in
    weaker (tracks_read rate empty_table children) (AreSo (length children)) AreTracks (all_sound rate children ([], empty_table) (length children) nothing_yet (omega arith)) (λ s h.
    (h.0, omega (arith, h.1, nat_lt_true 0 (length children) p.0), omega (arith, h.1, nat_le_true (length children) 32 p.1)))) where
      nat_lt_true : (a b : ℕ) → nat_lt a b ≡ true → a < b
      nat_lt_true a b t = grind arith

      nat_le_true : (a b : ℕ) → nat_le a b ≡ true → a ≤ b
      nat_le_true a b t = grind arith

-- ---- the opening

abbrev pub IsOpened : Opening → Type 0
IsOpened o = IsSoundOpening o × (0 < length o.tracks)

timeline_opened : (c : Counted) (t : Tree) → IfOk (timeline_read c t) IsOpened
unfolding timeline_read
timeline_opened c t =
    past (expected (codes "Timeline.1") t) _ _ (λ x. after (start_read c (rate_counted c) t) _ (λ s. s < length (day_of c)) IsOpened (start_in c (rate_counted c) t) (λ start low.
    past (needed (codes "tracks") t) _ _ (λ stack. past (expected (codes "Stack.1") stack) _ _ (λ y. past (untrimmed stack) _ _ (λ z. past (needed (codes "children") stack) _ _ (λ children_text. past (list_read children_text) _ _ (λ children.
    after (sequence_read (rate_counted c) children (place_of children_text)) _ AreTracks IsOpened (sequence_sound (rate_counted c) children (place_of children_text)) (λ s h.
    (record { table = h.0.table; tracks = h.0.tracks; few = h.2; start = low }, h.1)))))))))

pub timeline_sound : (c : Counted) (t : Tree) → IfOk (timeline_read c t) IsSoundOpening
timeline_sound c t = weaker (timeline_read c t) IsOpened IsSoundOpening (timeline_opened c t) (λ o h. h.0)

pub timeline_some : (c : Counted) (t : Tree) → IfOk (timeline_read c t) (λ o. 0 < length o.tracks)
timeline_some c t = weaker (timeline_read c t) IsOpened (λ o. 0 < length o.tracks) (timeline_opened c t) (λ o h. h.1)

-- what is told is what was read
pub told_so : (r : Result Opening DocFault) (read : Read Opening) (P : Opening → Type 0) → Gives (λ o. o) r read → IfOk read P → IfOk r P
told_so (Ok o) read P e h = subst (λ q. IfOk q P) e h
told_so (Err f) read P e h = tt
