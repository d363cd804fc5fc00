-- What a list that was read makes is a sound opening.
use Rattle.std.proofs.Common.{◌≡◌, ℕ, zero, suc, ◌+◌, ◌<◌, ◌≤◌, Bool, true, false, cond, List, [], ◌∷◌, length, map, Option, Some, None, option_map, slice_get, nat_lt, refl, sym, ap, ◌∙◌, subst, arith}
use Rattle.std.specs.List.{All, range_with_len}
use Rattle.std.proofs.lemmas.Bool.{ltb-false}
use Rattle.std.proofs.lemmas.List.Elements.{All-cons, All-nil}
use Rattle.frame_meaning.specs.declared.cells.Link.{Link}
use Rattle.frame_meaning.specs.declared.cells.What.{What}
use Rattle.frame_meaning.specs.declared.cells.What.TheVariants.{Media as MediaOf, Nest as NestOf}
use Rattle.frame_meaning.specs.declared.frames.Side.{Side}
use Rattle.frame_meaning.specs.declared.frames.Side.TheVariants.{Dark, Pic}
use Rattle.composables.specs.declared.TheConstants.{MAX_ITEMS}
use Rattle.composables.specs.declared.items.ItemView.{ItemView}
use Rattle.composables.specs.declared.media.Kind.TheVariants.{Video, Audio}
use Rattle.composables.specs.declared.media.Media.{Media}
use Rattle.composables.specs.declared.media.Table.{Table}
use Rattle.composables.specs.Bounds.{bounds_of}
use Rattle.composables.specs.Good.{AllUnlinked, EachLiesIn, EachLinkOf, IsLinkOf, LiesIn, SideLiesIn}
use Rattle.composables.specs.Items.{cells_of, items_of}
use Rattle.composables.specs.Joined.{frames_in, joined}
use Rattle.composables.specs.TrackFacts.{first_mark, left_reach, right_reach}
use Rattle.composables.specs.TrackState.{TrackState}
use Rattle.composables.proofs.Joining.{length-cells_of}
use Rattle.timecode12.specs.declared.counting.TheConstants.{MAX_DAY_FRAMES}
use Rattle.edl_events.specs.declared.channel.Channel.{Channel}
use Rattle.edl_events.specs.declared.channel.Channel.TheVariants.{V, A, A2}
use Rattle.edl_events.specs.declared.event.Event.{Event}
use Rattle.otio_json.specs.Soundness.{AreTracksFrom, EachHas, IsDeep, IsReadTrack, IsSoundMedia, IsSoundNest, IsSoundTable, SideHas}
use Rattle.list_import.specs.declared.shots.Shot.{Shot}
use Rattle.list_import.specs.ListReels.{media_of, reels_of, shots_of, table_of}
use Rattle.list_import.specs.TrackItems.{AreTracksOf, IsTrackOn, track_views, track_with}
use Rattle.list_import.specs.Imports.{start_of}
use Rattle.list_import.specs.Refusals.{first_full}
use Rattle.list_import.specs.Meanings.{ImportsAreSound}
use Rattle.list_import.specs.ShotFacts.{AreLaid, CanBeOrdered}
use Rattle.list_import.proofs.TrackRows.{AreRows, SideFits, after, past_count, past_joined, rows_joined}
use Rattle.list_import.proofs.ShotRows.{rows_views, short_views, views_first}
use Rattle.list_import.proofs.KeptTracks.{items_are, rows_kept}
use Rattle.list_import.proofs.Orders.{laid_on}
use Rattle.list_import.proofs.ShotsGood.{can_be_ordered}

-- ---- the table

pub media_at : (a n m : ℕ) → m < n → slice_get (map media_of (range_with_len a n)) m ≡ Some (media_of (a + m))
media_at a zero m h = absurd (omega (arith, h))
media_at a (suc n) zero h = let e : a ≡ a + 0 = omega arith in ap (λ (k : ℕ). Some (media_of k)) e
media_at a (suc n) (suc m) h = let e : a + 1 + m ≡ a + suc m = omega arith in media_at (a + 1) n m (omega (arith, h)) ∙ ap (λ (k : ℕ). Some (media_of k)) e

media_from : (table : Table) (a n : ℕ) → a + n ≤ length table.reels → All (IsSoundMedia table) (map media_of (range_with_len a n))
media_from table a zero h = All-nil (IsSoundMedia table)
media_from table a (suc n) h =
    All-cons (IsSoundMedia table) (media_of a) (map media_of (range_with_len (a + 1) n))
    (record { reel = omega (arith, h); filled = omega arith; within = omega arith })
    (media_from table (a + 1) n (omega (arith, h)))

table_sound : (events : List Event) → IsSoundTable (table_of events)
table_sound events = record {
  media = media_from (table_of events) 0 (length (reels_of events)) (omega arith);
  nests = All-nil (IsSoundNest (table_of events) 7);
}

-- ---- its tracks

has_bounds : (events : List Event) (m : ℕ) → m < length (reels_of events) → bounds_of (table_of events) (MediaOf m) ≡ Some (0, 16777216)
has_bounds events m h = ap (option_map (λ (e : Media). (e.from, e.to))) (media_at 0 (length (reels_of events)) m h)

side_lies : (events : List Event) (side : Side What) (len before behind : ℕ) → SideFits (length (reels_of events)) side len before behind → SideLiesIn (table_of events) side len before behind
side_lies events Dark len before behind h = tt
side_lies events (Pic (MediaOf m) s) len before behind h = subst (λ (o : Option (ℕ × ℕ)). LiesIn o s len before behind) (sym (has_bounds events m h.0)) (omega (arith, h.1), omega (arith, h.2))
side_lies events (Pic (NestOf j) s) len before behind h = absurd h

each_lies : (events : List Event) (next : ℕ) (vs : List ItemView) → AreRows (length (reels_of events)) next vs → EachLiesIn (table_of events) vs
each_lies events next [] h = tt
each_lies events next (v ∷ vs) h = (side_lies events v.first v.len (left_reach v.mark) (right_reach (first_mark vs)) h.0.side, each_lies events (after v.item next) vs h.3)

each_unlinked : (media next : ℕ) (vs : List ItemView) → AreRows media next vs → AllUnlinked vs
each_unlinked media next [] h = tt
each_unlinked media next (v ∷ vs) h = (h.0.unlinked, each_unlinked media (after v.item next) vs h.3)

no_links : (number : ℕ) (vs : List ItemView) → AllUnlinked vs → EachLinkOf number vs
no_links number [] h = tt
no_links number (v ∷ vs) h = (subst (λ (l : Option Link). IsLinkOf number l) (sym h.0) tt, no_links number vs h.1)

side_flat : (events : List Event) (levels media : ℕ) (side : Side What) (len before behind : ℕ) → SideFits media side len before behind → SideHas (IsDeep (table_of events).nests levels) side
side_flat events levels media Dark len before behind h = tt
side_flat events zero media (Pic (MediaOf m) s) len before behind h = tt
side_flat events (suc levels) media (Pic (MediaOf m) s) len before behind h = tt
side_flat events levels media (Pic (NestOf j) s) len before behind h = absurd h

each_flat : (events : List Event) (levels media next : ℕ) (vs : List ItemView) → AreRows media next vs → EachHas (IsDeep (table_of events).nests levels) vs
each_flat events levels media next [] h = tt
each_flat events levels media next (v ∷ vs) h =
    (side_flat events levels media v.first v.len (left_reach v.mark) (right_reach (first_mark vs)) h.0.side, each_flat events levels media (after v.item next) vs h.3)

rows_read : (events : List Event) (levels number : ℕ) (vs : List ItemView) → AreRows (length (reels_of events)) 0 vs → first_mark vs ≡ None → frames_in vs < MAX_DAY_FRAMES
    → length (items_of (cells_of vs)) ≤ MAX_ITEMS → IsReadTrack (table_of events) levels (track_with number vs)
rows_read events levels number vs h first short few =
    let media : ℕ = length (reels_of events) in
    let js : List ItemView = joined vs in
    let rows : AreRows media 0 js = rows_joined media 0 vs h in
    let items : items_of (cells_of vs) ≡ js = items_are media vs h in
    let unlinked : AllUnlinked js = each_unlinked media 0 js rows in
    record {
      good = record {
        kept = rows_kept media number vs h first (omega (arith, short));
        ranges = subst (λ (ws : List ItemView). EachLiesIn (table_of events) ws) (sym items) (each_lies events 0 js rows);
        links = subst (λ (ws : List ItemView). EachLinkOf number ws) (sym items) (no_links number js unlinked);
        frames = omega (arith, length-cells_of vs, short);
        items = few;
      };
      unlinked = subst (λ (ws : List ItemView). AllUnlinked ws) (sym items) unlinked;
      deep = subst (λ (ws : List ItemView). EachHas (IsDeep (table_of events).nests levels) ws) (sym items) (each_flat events levels media 0 js rows);
      next_item = omega (arith, past_joined 0 vs, past_count media 0 js rows, ap (λ (ws : List ItemView). length ws) items, few);
      next_link = refl;
    }

track_read : (events : List Event) (levels number : ℕ) (c : Channel) (t : TrackState) → (h : CanBeOrdered (start_of events) (shots_of events)) → h.media ≡ length (reels_of events)
    → IsTrackOn c number (start_of events) (shots_of events) t → length (items_of t.cells) ≤ MAX_ITEMS → IsReadTrack (table_of events) levels t × (t.number ≡ number)
track_read events levels number c t h media is few =
    let ss : List Shot = is.0 in
    let vs : List ItemView = track_views (start_of events) 0 ss in
    let laid : AreLaid (length (reels_of events)) (start_of events) ss = subst (λ (m : ℕ). AreLaid m (start_of events) ss) media (laid_on c (start_of events) (shots_of events) ss h is.1) in
    let fits : length (items_of (cells_of vs)) ≤ MAX_ITEMS = subst (λ (u : TrackState). length (items_of u.cells) ≤ MAX_ITEMS) is.2 few in (
      subst (λ (u : TrackState). IsReadTrack (table_of events) levels u) (sym is.2)
          (rows_read events levels number vs (rows_views (length (reels_of events)) (start_of events) 0 ss laid) (views_first (start_of events) 0 ss) (short_views (length (reels_of events)) (start_of events) ss laid) fits),
      ap (λ (u : TrackState). u.number) is.2,
    )

full_parts : (t : TrackState) (ts : List TrackState) → first_full (t ∷ ts) ≡ None → (length (items_of t.cells) ≤ MAX_ITEMS) × (first_full ts ≡ None)
full_parts t ts h = by (nat_lt MAX_ITEMS (length (items_of t.cells))) refl h where
  by : (b : Bool) → nat_lt MAX_ITEMS (length (items_of t.cells)) ≡ b → cond b (Some t.number) (first_full ts) ≡ None → (length (items_of t.cells) ≤ MAX_ITEMS) × (first_full ts ≡ None)
  by true e k = absurd cc
  by false e k = (ltb-false MAX_ITEMS (length (items_of t.cells)) e, k)

abbrev AreSound : List Event → List TrackState → Type 0
AreSound events ts = AreTracksFrom (table_of events) 0 (Video ∷ Audio ∷ Audio ∷ []) ts × (length ts ≤ 32)

tracks_sound : (events : List Event) (ts : List TrackState) → (h : CanBeOrdered (start_of events) (shots_of events)) → h.media ≡ length (reels_of events)
    → AreTracksOf (start_of events) (shots_of events) ts → first_full ts ≡ None → AreSound events ts
tracks_sound events [] h media are none = absurd are
tracks_sound events (v ∷ []) h media are none = absurd are
tracks_sound events (v ∷ a ∷ []) h media are none = absurd are
tracks_sound events (v ∷ a ∷ a2 ∷ []) h media are none =
    let first = full_parts v (a ∷ a2 ∷ []) none in
    let second = full_parts a (a2 ∷ []) first.1 in
    let third = full_parts a2 [] second.1 in
    let picture = track_read events 8 0 V v h media are.0 first.0 in
    let sound = track_read events 0 1 A a h media are.1 second.0 in
    let other = track_read events 0 2 A2 a2 h media are.2 third.0 in
    ((picture.1, picture.0, (sound.1, sound.0, (other.1, other.0, tt))), omega arith)
tracks_sound events (v ∷ a ∷ a2 ∷ x ∷ xs) h media are none = absurd are

pub import_sound : ImportsAreSound
import_sound events counted o read is allowed =
    let h = can_be_ordered events read allowed.events_fit in
    let ts = tracks_sound events o.tracks h.0 h.1 is.tracks allowed.within_limits in
    record {
      table = subst (λ (t : Table). IsSoundTable t) (sym is.table) (table_sound events);
      tracks = subst (λ (t : Table). AreTracksFrom t 0 t.kinds o.tracks) (sym is.table) ts.0;
      few = ts.1;
      start = rw (is.start, is.counting) allowed.within_day;
    }
