-- A sound opening of a document or of a plain room is one that the history of a room can begin with.
use Rattle.std.proofs.Common.{◌≡◌, ℕ, zero, suc, ◌+◌, ◌-◌, ◌^◌, ◌<◌, ◌≤◌, max, List, [], ◌∷◌, length, All, IfSome, option_map, slice_get, arith, subst}
use Rattle.std.proofs.lemmas.List.Elements.{All-nil, All-cons, All-head, All-tail}
use Rattle.frame_meaning.specs.declared.cells.What.{What}
use Rattle.frame_meaning.specs.declared.cells.What.TheVariants.{Media as MediaOf, Nest as NestOf}
use Rattle.composables.specs.declared.media.Kind.{Kind}
use Rattle.composables.specs.declared.media.Layer.{Layer}
use Rattle.composables.specs.declared.media.Media.{Media}
use Rattle.composables.specs.declared.media.Nest.{Nest}
use Rattle.composables.specs.declared.media.Table.{Table}
use Rattle.composables.specs.declared.TheConstants.{MAX_FRAMES}
use Rattle.composables.specs.Bounds.{bounds_of}
use Rattle.composables.specs.TrackState.{TrackState}
use Rattle.otio_json.specs.declared.opening.Opening.{Opening}
use Rattle.otio_json.specs.Nests.{longest_from}
use Rattle.otio_json.specs.Soundness.{AreTracksFrom, IsReadTrack, IsSoundLayer, IsSoundMedia, IsSoundNest, IsSoundOpening, IsSoundTable, levels_of_kind}
use Rattle.room_core.specs.Parts.{AreGood, numbers}
use Rattle.edit_apply.specs.Apply.{track_count}
use Rattle.edit_apply.specs.RoomTracks.{IsTrackOf, IsOpening, IsUnlinked}

-- as many tracks as kinds
same_count : (table : Table) (n : ℕ) (kinds : List Kind) (ts : List TrackState) → AreTracksFrom table n kinds ts → length kinds ≡ length ts
same_count table n [] [] h = omega arith
same_count table n [] (t ∷ ts) h = absurd h
same_count table n (k ∷ ks) [] h = absurd h
same_count table n (k ∷ ks) (t ∷ ts) h = omega (arith, same_count table (n + 1) ks ts h.2)

track_is : (table : Table) (n levels : ℕ) (t : TrackState) → t.number ≡ n → IsReadTrack table levels t → IsTrackOf table n t
track_is table n levels t number h = record { good = h.good; number_is = number }

tracks_are : (table : Table) (n : ℕ) (kinds : List Kind) (ts : List TrackState) → AreTracksFrom table n kinds ts
    → AreGood (IsTrackOf table) (numbers n (length kinds)) ts
tracks_are table n [] [] h = tt
tracks_are table n [] (t ∷ ts) h = absurd h
tracks_are table n (k ∷ ks) [] h = absurd h
tracks_are table n (k ∷ ks) (t ∷ ts) h = (track_is table n (levels_of_kind k) t h.0 h.1, tracks_are table (n + 1) ks ts h.2)

-- what holds of each read track holds of all
each_read : (P : TrackState → Type 0) (table : Table) → ((levels : ℕ) (t : TrackState) → IsReadTrack table levels t → P t)
    → (n : ℕ) (kinds : List Kind) (ts : List TrackState) → AreTracksFrom table n kinds ts → All P ts
each_read P table each n [] [] h = All-nil P
each_read P table each n [] (t ∷ ts) h = absurd h
each_read P table each n (k ∷ ks) [] h = absurd h
each_read P table each n (k ∷ ks) (t ∷ ts) h =
    All-cons P t ts (each (levels_of_kind k) t h.1) (each_read P table each (n + 1) ks ts h.2)

-- the source frames of each thing of a sound table end by 2^32

media_end : (table : Table) (ms : List Media) (m : ℕ) → All (IsSoundMedia table) ms → IfSome {T = ℕ × ℕ} (option_map (λ (e : Media). (e.from, e.to)) (slice_get ms m)) (λ r. r.1 ≤ 2 ^ 32)
media_end table [] zero h = tt
media_end table [] (suc m) h = tt
media_end table (e ∷ es) zero h = let first = All-head (IsSoundMedia table) e es h in omega (arith, first.within)
media_end table (e ∷ es) (suc m) h = media_end table es m (All-tail (IsSoundMedia table) e es h)

longest_within : (table : Table) (most : ℕ) (ls : List Layer) → most ≤ MAX_FRAMES → All (IsSoundLayer table 7) ls → longest_from most ls ≤ MAX_FRAMES
longest_within table most [] le h = le
longest_within table most (l ∷ ls) le h =
    let first = All-head (IsSoundLayer table 7) l ls h in
    longest_within table (max most (l.to - l.from)) ls (omega (arith, le, first.within, first.track.good.frames)) (All-tail (IsSoundLayer table 7) l ls h)

nests_end : (table : Table) (ns : List Nest) (j : ℕ) → All (IsSoundNest table 7) ns → IfSome {T = ℕ × ℕ} (option_map (λ (e : Nest). (0, e.length)) (slice_get ns j)) (λ r. r.1 ≤ 2 ^ 32)
nests_end table [] zero h = tt
nests_end table [] (suc j) h = tt
nests_end table (n ∷ ns) zero h =
    let first = All-head (IsSoundNest table 7) n ns h in
    omega (arith, first.as_long, longest_within table 0 n.layers (omega arith) first.layers)
nests_end table (n ∷ ns) (suc j) h = nests_end table ns j (All-tail (IsSoundNest table 7) n ns h)

things_end : (table : Table) → IsSoundTable table → (what : What) → IfSome (bounds_of table what) (λ range. range.1 ≤ 2 ^ 32)
things_end table h (MediaOf m) = media_end table table.media m h.media
things_end table h (NestOf j) = nests_end table table.nests j h.nests

-- it has at least one track, which a document has by its reading, and a plain room by its words
pub sound_opens : (o : Opening) → IsSoundOpening o → 0 < length o.tracks → IsOpening o.table o.tracks
sound_opens o sound some =
    let same = same_count o.table 0 o.table.kinds o.tracks sound.tracks in
    let few : length o.tracks ≤ 32 = sound.few in
    let count : length o.table.kinds ≡ track_count o.table = omega (arith, same, few) in
    record {
      some = omega (arith, same, some);
      most = omega (arith, same, few);
      bounded = things_end o.table sound.table;
      good = subst (λ n. AreGood (IsTrackOf o.table) (numbers 0 n) o.tracks) count (tracks_are o.table 0 o.table.kinds o.tracks sound.tracks);
      items = each_read (λ t. t.next_item ≤ 65536) o.table (λ levels t h. h.next_item) 0 o.table.kinds o.tracks sound.tracks;
      links = each_read (λ t. t.next_link ≡ 0) o.table (λ levels t h. h.next_link) 0 o.table.kinds o.tracks sound.tracks;
      unlinked = each_read IsUnlinked o.table (λ levels t h. h.unlinked) 0 o.table.kinds o.tracks sound.tracks;
    }
