-- How far the events of a cut reach.
use Rattle.std.proofs.Common.{◌≡◌, ℕ, zero, suc, ◌+◌, ◌*◌, ◌≤◌, Bool, true, false, cond, List, [], ◌∷◌, map, length, slice_index_or, sym, ap, ◌∙◌, arith, subst, inl, inr}
use Rattle.std.proofs.lemmas.Bool.{cases_Bool}
use Rattle.std.proofs.lemmas.List.{length-map}
use Rattle.std.proofs.lemmas.List.FromFn.{length-range_with_len}
use Rattle.std.specs.List.{range_with_len}
use Rattle.frame_meaning.specs.declared.cells.Cell.{Cell}
use Rattle.frame_meaning.specs.Render.{render, shown_at}
use Rattle.composables.specs.declared.media.Kind.{Kind}
use Rattle.composables.specs.declared.media.Kind.TheVariants.{Audio, Video}
use Rattle.composables.specs.declared.media.Media.{Media}
use Rattle.composables.specs.declared.media.Table.{Table}
use Rattle.composables.specs.declared.TheConstants.{MAX_FRAMES}
use Rattle.composables.specs.TrackState.{TrackState}
use Rattle.frame_meaning.specs.declared.frames.Frame.{Frame}
use Rattle.flatten.specs.declared.cutting.Segment.{Segment}
use Rattle.flatten.specs.Channels.{audio_frames, channels, of_kind, same_kind, video_frames}
use Rattle.flatten.specs.Joined.{lens_of}
use Rattle.flatten.specs.Nests.{frames_of_nests, resolved, track_frames}
use Rattle.flatten.specs.Segments.{ArePlaced, EachIsSegment}
use Rattle.flatten.specs.Stacks.{longest, stacked, topmost}
use Rattle.flatten.proofs.Segmenting.{length_segments}
use Rattle.edl_events.specs.declared.channel.Channel.{Channel}
use Rattle.edl_events.specs.declared.channel.Channel.TheVariants.{V, A, A2}
use Rattle.edl_write.specs.declared.ordering.ChannelSegment.{ChannelSegment}
use Rattle.edl_write.specs.Limits.{AreLimited, AreShort}
use Rattle.edl_write.specs.Order.{AreEventsOf, IsOn, audio_channel, is_dark, on_channel, shown}

length_render : (cells : List Cell) → length (render cells) ≡ length cells
length_render cells = length-map (range_with_len 0 (length cells)) (shown_at cells) ∙ length-range_with_len 0 (length cells)

length_track : (media : List Media) (nests : List (List (Frame ℕ))) (t : TrackState) → length (track_frames media nests t) ≡ length t.cells
length_track media nests t = length-map (render t.cells) (resolved media nests) ∙ length_render t.cells

length_stacked : (fss : List (List (Frame ℕ))) → length (stacked (longest fss) fss) ≡ longest fss
length_stacked fss = length-map (range_with_len 0 (longest fss)) (topmost fss) ∙ length-range_with_len 0 (longest fss)

-- each of these channels has at most as many frames as a track may have
abbrev AreWithin : List (List (Frame ℕ)) → Type 0
AreWithin [] = Unit {0}
AreWithin (fs ∷ fss) = (length fs ≤ MAX_FRAMES) × AreWithin fss

within_either : (b : Bool) (fs : List (Frame ℕ)) (fss : List (List (Frame ℕ))) (media : List Media) (nests : List (List (Frame ℕ))) (t : TrackState) (ts : List TrackState)
    → length t.cells ≤ MAX_FRAMES → AreWithin (map (track_frames media nests) ts) → AreWithin (map (track_frames media nests) (cond b (t ∷ ts) ts))
within_either true fs fss media nests t ts h w = let here : length (track_frames media nests t) ≤ MAX_FRAMES = omega (arith, h, length_track media nests t) in (here, w)
within_either false fs fss media nests t ts h w = w

channels_within : (kind : Kind) (ks : List Kind) (media : List Media) (nests : List (List (Frame ℕ))) (ts : List TrackState) → AreLimited ts
    → AreWithin (map (track_frames media nests) (of_kind kind ks ts))
channels_within kind [] media nests ts h = tt
channels_within kind (k ∷ ks) media nests [] h = tt
channels_within kind (k ∷ ks) media nests (t ∷ ts) h =
    within_either (same_kind k kind) [] [] media nests t (of_kind kind ks ts) h.0 (channels_within kind ks media nests ts h.1)

longest_within : (fss : List (List (Frame ℕ))) → AreWithin fss → longest fss ≤ MAX_FRAMES
longest_within [] h = omega arith
longest_within (fs ∷ fss) h = omega (arith, h.0, longest_within fss h.1)

at_within : (fss : List (List (Frame ℕ))) (n : ℕ) → AreWithin fss → length (slice_index_or fss n []) ≤ MAX_FRAMES
at_within [] n h = omega arith
at_within (fs ∷ fss) zero h = h.0
at_within (fs ∷ fss) (suc n) h = at_within fss n h.1

pub video_within : (table : Table) (ts : List TrackState) → AreLimited ts → length (video_frames table ts) ≤ MAX_FRAMES
video_within table ts h =
    omega (arith, length_stacked (channels Video table ts), longest_within (channels Video table ts) (channels_within Video table.kinds table.media (frames_of_nests table) ts h))

pub audio_within : (table : Table) (ts : List TrackState) (n : ℕ) → AreLimited ts → length (audio_channel table ts n) ≤ MAX_FRAMES
audio_within table ts n h = at_within (audio_frames table ts) n (channels_within Audio table.kinds table.media (frames_of_nests table) ts h)

-- segments that end within so many frames
abbrev EndWithin : ℕ → List Segment → Type 0
EndWithin n [] = Unit {0}
EndWithin n (s ∷ ss) = (s.at + s.len ≤ n) × EndWithin n ss

placed_within : (n at : ℕ) (ss : List Segment) → ArePlaced at ss → at + lens_of ss ≤ n → EndWithin n (shown ss)
placed_within n at [] p h = tt
placed_within n at (s ∷ ss) p h =
    let end : s.at + s.len ≤ n = omega (arith, p.0, h) in
    let rest = placed_within n (at + s.len) ss p.1 (omega (arith, h)) in
    elim (cases_Bool (is_dark s)) [ inl t ↦ rw t rest | inr t ↦ rw t (end, rest) ]

few_segments : (ss : List Segment) → EachIsSegment ss → length (shown ss) ≤ lens_of ss
few_segments [] h = omega arith
few_segments (s ∷ ss) h =
    let rest = few_segments ss h.1 in
    elim (cases_Bool (is_dark s)) [
      | inl t ↦ rw t (omega (arith, rest))
      | inr t ↦ rw t (omega (arith, rest, h.0.filled))
    ]

-- what is known of the events on a channel
record Reaches (c : Channel) (es : List ChannelSegment) : Type 0 where
  within : EndWithin MAX_FRAMES (on_channel c es)
  few : length (on_channel c es) ≤ MAX_FRAMES

reaches : (c : Channel) (frames : List (Frame ℕ)) (es : List ChannelSegment) → IsOn c frames es → length frames ≤ MAX_FRAMES → Reaches c es
reaches c frames es h l =
    let ss = h.0 in
    let lens : lens_of ss ≤ MAX_FRAMES = omega (arith, l, ap length h.1.are, length_segments ss h.1.each) in
    record {
      within = subst (EndWithin MAX_FRAMES) (sym h.2) (placed_within MAX_FRAMES 0 ss h.1.placed (omega (arith, lens)));
      few = omega (arith, lens, few_segments ss h.1.each, ap length h.2);
    }

-- the events of each channel are all events

short_first : (c : Channel) (s : Segment) (es : List ChannelSegment)
    → (EndWithin MAX_FRAMES (on_channel V es) → EndWithin MAX_FRAMES (on_channel A es) → EndWithin MAX_FRAMES (on_channel A2 es) → AreShort es)
    → EndWithin MAX_FRAMES (on_channel V (record { channel = c; segment = s } ∷ es)) → EndWithin MAX_FRAMES (on_channel A (record { channel = c; segment = s } ∷ es))
    → EndWithin MAX_FRAMES (on_channel A2 (record { channel = c; segment = s } ∷ es)) → (s.at + s.len ≤ MAX_FRAMES) × AreShort es
short_first V s es rest v a b = (v.0, rest v.1 a b)
short_first A s es rest v a b = (a.0, rest v a.1 b)
short_first A2 s es rest v a b = (b.0, rest v a b.1)

short_events : (es : List ChannelSegment) → EndWithin MAX_FRAMES (on_channel V es) → EndWithin MAX_FRAMES (on_channel A es) → EndWithin MAX_FRAMES (on_channel A2 es) → AreShort es
short_events [] v a b = tt
short_events (e ∷ es) v a b = short_first e.channel e.segment es (short_events es) v a b

few_first : (c : Channel) (s : Segment) (es : List ChannelSegment) → length es ≡ length (on_channel V es) + length (on_channel A es) + length (on_channel A2 es)
    → length es + 1 ≡ length (on_channel V (record { channel = c; segment = s } ∷ es)) + length (on_channel A (record { channel = c; segment = s } ∷ es))
    + length (on_channel A2 (record { channel = c; segment = s } ∷ es))
few_first V s es h = omega (arith, h)
few_first A s es h = omega (arith, h)
few_first A2 s es h = omega (arith, h)

few_events : (es : List ChannelSegment) → length es ≡ length (on_channel V es) + length (on_channel A es) + length (on_channel A2 es)
few_events [] = omega arith
few_events (e ∷ es) = omega (arith, few_first e.channel e.segment es (few_events es))

pub record Limited (es : List ChannelSegment) : Type 0 where
  pub short : AreShort es
  pub few : length es ≤ 3 * MAX_FRAMES

pub events_limited : (table : Table) (ts : List TrackState) (es : List ChannelSegment) → AreLimited ts → AreEventsOf table ts es → Limited es
events_limited table ts es h are =
    let v = reaches V (video_frames table ts) es are.picture (video_within table ts h) in
    let a = reaches A (audio_channel table ts 0) es are.sound (audio_within table ts 0 h) in
    let b = reaches A2 (audio_channel table ts 1) es are.second_sound (audio_within table ts 1 h) in
    record {
      short = short_events es v.within a.within b.within;
      few = omega (arith, few_events es, v.few, a.few, b.few);
    }
