-- The events of a cut, from the runs of its channels.
use Rattle.std.proofs.Common.{◌≡◌, ℕ, zero, suc, ◌+◌, ◌<◌, ◌≤◌, Bool, true, false, cond, List, [], ◌∷◌, map, Option, Some, None, length, slice_index_or, refl, sym, ap, ◌∙◌, arith, subst}
use Rattle.std.proofs.lemmas.List.{length-map}
use Rattle.composables.specs.declared.media.Kind.{Kind}
use Rattle.composables.specs.declared.media.Kind.TheVariants.{Audio}
use Rattle.composables.specs.declared.media.Table.{Table}
use Rattle.composables.specs.TrackState.{TrackState}
use Rattle.frame_meaning.specs.declared.frames.Frame.{Frame}
use Rattle.frame_meaning.specs.declared.frames.Run.{Run}
use Rattle.flatten.specs.declared.cutting.Segment.{Segment}
use Rattle.flatten.specs.Channels.{EachIsShort, audio_frames, maximal_runs, of_kind, same_kind, video_frames}
use Rattle.flatten.specs.Nests.{frames_of_nests, track_frames}
use Rattle.flatten.specs.Segments.{AreSegments, CanBeCut, EachCanBeCut, first_partial}
use Rattle.flatten.specs.Strips.{frames_of}
use Rattle.flatten.proofs.RunsOfReels.{frames_runs}
use Rattle.edl_write.specs.declared.fault.ListFault.{ListFault}
use Rattle.edl_write.specs.declared.fault.ListFault.TheVariants.{Channels, DissolveTooLong, Events, Memory, PartialDissolve, PastDay, Reel}
use Rattle.edl_write.specs.declared.ordering.ChannelSegment.{ChannelSegment}
use Rattle.edl_write.specs.Limits.{AreLimited}
use Rattle.edl_write.specs.Merging.{IsPartialFault, ordered}
use Rattle.edl_write.specs.Order.{AreEventsOf, audio_channel}
use Rattle.edl_write.specs.Refusals.{IsRefusedForChannels, partial_in}
use Rattle.edl_write.proofs.InOrder.{are_ordered}

pub limited_short : (ts : List TrackState) → AreLimited ts → EachIsShort ts
limited_short [] h = tt
limited_short (t ∷ ts) h = let short : length t.cells < 4294967295 = omega (arith, h.0) in (short, limited_short ts h.1)

either_fewer : (b : Bool) (t : TrackState) (us ts : List TrackState) → length us ≤ length ts → length (cond b (t ∷ us) us) ≤ length ts + 1
either_fewer true t us ts h = omega (arith, h)
either_fewer false t us ts h = omega (arith, h)

of_kind_fewer : (kind : Kind) (ks : List Kind) (ts : List TrackState) → length (of_kind kind ks ts) ≤ length ts
of_kind_fewer kind [] ts = omega arith
of_kind_fewer kind (k ∷ ks) [] = omega arith
of_kind_fewer kind (k ∷ ks) (t ∷ ts) = let h = either_fewer (same_kind k kind) t (of_kind kind ks ts) ts (of_kind_fewer kind ks ts) in omega (arith, h)

pub audio_count : (table : Table) (ts : List TrackState) → length (audio_frames table ts) ≤ length ts
audio_count table ts =
    omega (arith, length-map (of_kind Audio table.kinds ts) (track_frames table.media (frames_of_nests table)), of_kind_fewer Audio table.kinds ts)

-- the runs of an audio channel
at_map : (fss : List (List (Frame ℕ))) (n : ℕ) → slice_index_or (map maximal_runs fss) n [] ≡ maximal_runs (slice_index_or fss n [])
at_map [] n = refl
at_map (fs ∷ fss) zero = refl
at_map (fs ∷ fss) (suc n) = at_map fss n

pub audio_runs : (table : Table) (ts : List TrackState) (n : ℕ) (rss : List (List (Run ℕ))) (rs : List (Run ℕ)) → rss ≡ map maximal_runs (audio_frames table ts) → rs ≡ slice_index_or rss n []
    → rs ≡ maximal_runs (audio_channel table ts n)
audio_runs table ts n rss rs are is = is ∙ (ap (λ (x : List (List (Run ℕ))). slice_index_or x n []) are ∙ at_map (audio_frames table ts) n)

pub cut_at : (rss : List (List (Run ℕ))) (n : ℕ) → EachCanBeCut rss → CanBeCut (slice_index_or rss n [])
cut_at [] n h = record { filled = tt; short = omega arith }
cut_at (rs ∷ rss) zero h = h.0
cut_at (rs ∷ rss) (suc n) h = cut_at rss n h.1

-- the fault of the first channel that has a part of a dissolve
pub partial_refused : (table : Table) (ts : List TrackState) (f : ListFault) (o : Option ℕ) → length (audio_frames table ts) ≤ 2 → IsPartialFault f o
    → ((n : ℕ) → o ≡ Some n → partial_in table ts ≡ Some n) → IsRefusedForChannels table ts f
partial_refused table ts (Channels n) o few h first = absurd h
partial_refused table ts (PartialDissolve n) o few h first = (few, first n h)
partial_refused table ts (DissolveTooLong n) o few h first = absurd h
partial_refused table ts (Events n) o few h first = absurd h
partial_refused table ts (PastDay n) o few h first = absurd h
partial_refused table ts (Reel n) o few h first = absurd h
partial_refused table ts Memory o few h first = tt

pub first_of_picture : (table : Table) (ts : List TrackState) (v : List (Run ℕ)) (n : ℕ) → v ≡ maximal_runs (video_frames table ts) → first_partial 0 v ≡ Some n → partial_in table ts ≡ Some n
first_of_picture table ts v n is h = let p = sym (ap (first_partial 0) is) ∙ h in rw p refl

pub first_of_sound : (table : Table) (ts : List TrackState) (v a : List (Run ℕ)) (n : ℕ) → v ≡ maximal_runs (video_frames table ts) → first_partial 0 v ≡ None
    → a ≡ maximal_runs (audio_channel table ts 0) → first_partial 0 a ≡ Some n → partial_in table ts ≡ Some n
first_of_sound table ts v a n is none is_a h =
    let p = sym (ap (first_partial 0) is) ∙ none in
    let q = sym (ap (first_partial 0) is_a) ∙ h in
    rw (p, q) refl

pub first_of_second : (table : Table) (ts : List TrackState) (v a b : List (Run ℕ)) (n : ℕ) → v ≡ maximal_runs (video_frames table ts) → first_partial 0 v ≡ None
    → a ≡ maximal_runs (audio_channel table ts 0) → first_partial 0 a ≡ None → b ≡ maximal_runs (audio_channel table ts 1) → first_partial 0 b ≡ Some n → partial_in table ts ≡ Some n
first_of_second table ts v a b n is none is_a none_a is_b h =
    let p = sym (ap (first_partial 0) is) ∙ none in
    let q = sym (ap (first_partial 0) is_a) ∙ none_a in
    let r = sym (ap (first_partial 0) is_b) ∙ h in
    rw (p, q, r) refl

segments_of : (ss : List Segment) (rs : List (Run ℕ)) (fs : List (Frame ℕ)) → rs ≡ maximal_runs fs → AreSegments ss (frames_of rs) → AreSegments ss fs
segments_of ss rs fs is h = subst (AreSegments ss) (ap frames_of is ∙ frames_runs fs) h

pub are_events : (table : Table) (ts : List TrackState) (v a b : List (Run ℕ)) (picture sound second_sound : List Segment) (es : List ChannelSegment) → length (audio_frames table ts) ≤ 2
    → v ≡ maximal_runs (video_frames table ts) → a ≡ maximal_runs (audio_channel table ts 0) → b ≡ maximal_runs (audio_channel table ts 1)
    → AreSegments picture (frames_of v) → AreSegments sound (frames_of a) → AreSegments second_sound (frames_of b) → es ≡ ordered picture sound second_sound → AreEventsOf table ts es
are_events table ts v a b picture sound second_sound es few is is_a is_b h k l made =
    let p = segments_of picture v (video_frames table ts) is h in
    let q = segments_of sound a (audio_channel table ts 0) is_a k in
    let r = segments_of second_sound b (audio_channel table ts 1) is_b l in
    let all = are_ordered picture sound second_sound p.placed p.each q.placed q.each r.placed r.each in
    subst (AreEventsOf table ts) (sym made)
    (record {
      few = few;
      picture = (picture, p, all.picture_on);
      sound = (sound, q, all.sound_on);
      second_sound = (second_sound, r, all.second_on);
      order = all.order;
    })
