-- An import shows what the tape of its list shows.
use Rattle.std.proofs.Common.{◌≡◌, ℕ, zero, suc, ◌+◌, ◌-◌, ◌<◌, ◌≤◌, List, [], ◌∷◌, None, length, get_or, map, slice_get, Some, inl, inr, refl, sym, ap, ◌∙◌, subst, arith}
use Rattle.std.proofs.lemmas.Bool.{cases_lt}
use Rattle.std.proofs.lemmas.List.{get_or_past}
use Rattle.std.proofs.lemmas.List.FromFn.{get_or-map-range_with_len, length-map-range_with_len}
use Rattle.frame_meaning.specs.declared.cells.What.{What}
use Rattle.frame_meaning.specs.declared.frames.Frame.{Frame}
use Rattle.frame_meaning.specs.declared.frames.Frame.TheVariants as frame
use Rattle.frame_meaning.specs.Render.{render}
use Rattle.composables.specs.declared.items.ItemView.{ItemView}
use Rattle.composables.specs.declared.media.Table.{Table}
use Rattle.composables.specs.Items.{cells_of}
use Rattle.composables.specs.TrackState.{TrackState}
use Rattle.dissolves.proofs.Dissolved.{render_shown}
use Rattle.flatten.specs.Nests.{resolved, track_frames}
use Rattle.flatten.specs.Stacks.{longest, stacked, topmost}
use Rattle.timecode12.specs.Numbers.{Counted}
use Rattle.edl_events.specs.declared.channel.Channel.{Channel}
use Rattle.edl_events.specs.declared.channel.Channel.TheVariants.{V, A, A2}
use Rattle.edl_events.specs.declared.event.Event.{Event}
use Rattle.edl_events.specs.Tape.{tape_at}
use Rattle.edl_read.specs.ReadLists.{CanBeRead}
use Rattle.otio_json.specs.declared.opening.Opening.{Opening}
use Rattle.list_import.specs.declared.shots.Shot.{Shot}
use Rattle.list_import.specs.ListReels.{shots_of, table_of}
use Rattle.list_import.specs.TrackItems.{AreTracksOf, IsTrackOn, track_views}
use Rattle.list_import.specs.Imports.{Imports, start_of}
use Rattle.list_import.specs.Refusals.{first_refused}
use Rattle.list_import.specs.ShotFacts.{AreLaid}
use Rattle.list_import.specs.Meanings.{ImportsShowTheirTape}
use Rattle.list_import.specs.ShownLists.{ShowsTheTape, frame_named, opening_at}
use Rattle.list_import.proofs.TrackRows.{each_holds}
use Rattle.list_import.proofs.ShotRows.{rows_views, views_first}
use Rattle.list_import.proofs.Orders.{laid_on}
use Rattle.list_import.proofs.ShotsGood.{EachFrom, can_be_ordered, each_from}
use Rattle.list_import.proofs.ShotFrames.{shots_frames, strip_at, strip_is, views_shown}
use Rattle.list_import.proofs.NamedFrames.{frame_shown}
use Rattle.list_import.proofs.TapeIs.{dark_where, strip_shown}

-- ---- one channel

-- a channel alone, stacked
one_stacked : (fs : List (Frame ℕ)) (q : ℕ) → get_or (stacked (longest (fs ∷ [])) (fs ∷ [])) q frame.Dark ≡ get_or fs q frame.Dark
one_stacked fs q =
    let n : ℕ = longest (fs ∷ []) in
    let count : n ≡ length fs = omega arith in
    elim (cases_lt q n) [
      | inl low ↦ get_or-map-range_with_len (topmost (fs ∷ [])) 0 n q q frame.Dark low (omega arith)
      | inr past ↦
          let long : length (stacked n (fs ∷ [])) ≡ n = length-map-range_with_len (topmost (fs ∷ [])) 0 n in
          get_or_past (stacked n (fs ∷ [])) q frame.Dark (omega (arith, long, past)) ∙ sym (get_or_past fs q frame.Dark (omega (arith, count, past)))
    ]

named_at : (table : Table) (fs : List (Frame What)) (q : ℕ) → frame_named table (get_or (map (resolved table.media []) fs) q frame.Dark) ≡ frame_shown table (get_or fs q frame.Dark)
named_at table [] q = refl
named_at table (f ∷ fs) zero = refl
named_at table (f ∷ fs) (suc q) = named_at table fs q

-- the frames of the track of a channel
track_shown : (events : List Event) (number : ℕ) (c : Channel) (t : TrackState) (place : ℕ) → CanBeRead events → first_refused events ≡ None → IsTrackOn c number (start_of events) (shots_of events) t
    → frame_named (table_of events) (get_or (track_frames (table_of events).media [] t) place frame.Dark) ≡ tape_at events c (start_of events + place)
track_shown events number c t place read none is =
    let table : Table = table_of events in
    let start : ℕ = start_of events in
    let ss : List Shot = is.0 in
    let h = can_be_ordered events read none in
    let media : ℕ = h.0.media in
    let laid : AreLaid media start ss = laid_on c start (shots_of events) ss h.0 is.1 in
    let vs : List ItemView = track_views start 0 ss in
    let frames : render (cells_of vs) ≡ shots_frames start ss =
    sym (render_shown vs (each_holds media 0 vs (rows_views media start 0 ss laid)) (views_first start 0 ss)) ∙ views_shown media None start 0 ss laid in
    let k : start + place - start ≡ place = omega arith in
    let strip : get_or (shots_frames start ss) place frame.Dark ≡ strip_at ss (start + place) =
    ap (λ (i : ℕ). get_or (shots_frames start ss) i frame.Dark) (sym k) ∙ strip_is media start ss (start + place) laid (omega arith) in
    ap (λ (u : TrackState). frame_named table (get_or (track_frames table.media [] u) place frame.Dark)) is.2
    ∙ (named_at table (render (cells_of vs)) place
    ∙ (ap (λ (fs : List (Frame What)). frame_shown table (get_or fs place frame.Dark)) frames
    ∙ (ap (frame_shown table) strip ∙ strip_shown events c ss (start + place) read is.1)))

-- ---- before the first event

from_at : (at : ℕ) (es : List Event) (i : ℕ) (e : Event) → EachFrom at es → slice_get es i ≡ Some e → at ≤ e.place
from_at at [] i e h there = absurd cc
from_at at (f ∷ fs) zero e h there = let same : f ≡ e = cc in subst (λ (x : Event). at ≤ x.place) same h.0
from_at at (f ∷ fs) (suc i) e h there = from_at at fs i e h.1 there

dark_before : (events : List Event) (c : Channel) (q : ℕ) → q < start_of events → tape_at events c q ≡ frame.Dark
dark_before events c q low = dark_where events c q (λ i f there on begun past. omega (arith, from_at (start_of events) events i f (each_from events) there, begun, low))

-- ---- the whole

abbrev pub opening_with : List Event → Counted → List TrackState → Opening
opening_with events counted ts = record { table = table_of events; tracks = ts; counting = counted; start = start_of events }

tracks_shown : (events : List Event) (counted : Counted) (ts : List TrackState) → CanBeRead events → first_refused events ≡ None → AreTracksOf (start_of events) (shots_of events) ts → ShowsTheTape events (opening_with events counted ts)
tracks_shown events counted [] read none are = absurd are
tracks_shown events counted (v ∷ []) read none are = absurd are
tracks_shown events counted (v ∷ a ∷ []) read none are = absurd are
tracks_shown events counted (v ∷ a ∷ a2 ∷ []) read none are = record {
  shown = λ c place. on c place;
  before = λ c at low. dark_before events c at low;
  channels = refl;
}
  where
    on : (c : Channel) (place : ℕ) → opening_at (opening_with events counted (v ∷ a ∷ a2 ∷ [])) c place ≡ tape_at events c (start_of events + place)
    on V place =
        ap (frame_named (table_of events)) (one_stacked (track_frames (table_of events).media [] v) place) ∙ track_shown events 0 V v place read none are.0
    on A place = track_shown events 1 A a place read none are.1
    on A2 place = track_shown events 2 A2 a2 place read none are.2
tracks_shown events counted (v ∷ a ∷ a2 ∷ x ∷ xs) read none are = absurd are

pub opened : (events : List Event) (counted : Counted) (o : Opening) → Imports events counted o → o ≡ opening_with events counted o.tracks
opened events counted o is =
    ap (λ (t : Table). record { table = t; tracks = o.tracks; counting = o.counting; start = o.start }) is.table
    ∙ (ap (λ (c : Counted). record { table = table_of events; tracks = o.tracks; counting = c; start = o.start }) is.counting
    ∙ ap (λ (n : ℕ). record { table = table_of events; tracks = o.tracks; counting = counted; start = n }) is.start)

pub imports_show_their_tape : ImportsShowTheirTape
imports_show_their_tape events counted o read none is =
    subst (λ (p : Opening). ShowsTheTape events p) (sym (opened events counted o is)) (tracks_shown events counted o.tracks read none is.tracks)
