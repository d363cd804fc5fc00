-- A row of what was read is a track that is good in the table.
use Rattle.std.proofs.Common.{◌≡◌, ℕ, suc, ◌+◌, ◌<◌, ◌≤◌, nat_eq, nat_le, Bool, true, false, ◌&&◌, List, [], ◌∷◌, ◌++◌, length, Option, Some, None, Ok, IfOk, refl, sym, ap, arith, subst, if◌then◌else◌}
use Rattle.std.specs.List.{All}
use Rattle.std.proofs.lemmas.List.Elements.{All-append, All-weaker, All-cons, All-nil, All-head, All-tail}
use Rattle.frame_meaning.specs.declared.cells.Mark.{Mark}
use Rattle.frame_meaning.specs.declared.cells.What.{What}
use Rattle.frame_meaning.specs.declared.frames.Side.{Side}
use Rattle.frame_meaning.specs.declared.frames.Side.TheVariants.{Dark, Pic}
use Rattle.composables.specs.declared.media.Table.{Table}
use Rattle.composables.specs.Good.{LiesIn, SideLiesIn, EachLiesIn, EachLinkOf, AllUnlinked}
use Rattle.composables.specs.Items.{cells_of, items_of}
use Rattle.composables.specs.TrackFacts.{left_reach, right_reach}
use Rattle.composables.specs.TrackState.{TrackState}
use Rattle.otio_tracks.specs.declared.faults.DocCode.TheVariants.{O11}
use Rattle.otio_tracks.specs.declared.parts.Part.{Part}
use Rattle.otio_tracks.specs.declared.transitions.Waiting.{Waiting}
use Rattle.otio_tracks.specs.Transitions.{joins}
use Rattle.otio_tracks.specs.Rows.{RowState, empty_row, longer, all_kept, dissolve_if, dissolve_before, row_with, ended, row_end, frames_in_all}
use Rattle.otio_tracks.specs.SoundParts.{SideLies, AreSoundParts, EachIsSound}
use Rattle.otio_tracks.specs.SoundRows.{IsSoundRow, FitsBefore}
use Rattle.otio_tracks.specs.Building.{number_after, views_of, track_made, track_fit}
use Rattle.otio_tracks.proofs.RowSound.{keep_empty, keep_joined, keep_more, dissolve_fits}
use Rattle.otio_tracks.proofs.TrackSound.{made_kept, made_items, made_frames, few}
use Rattle.otio_json.specs.Soundness.{EachHas, IsDeep, IsReadTrack}
use Rattle.otio_json.proofs.Growth.{Keeps, HasBounds, has_bounds_kept, side_deep_kept}
use Rattle.otio_json.proofs.SoundClips.{IsPlaced, IsRead}
use Rattle.otio_json.proofs.Steps.{after, knowing, tested, and_parts}

-- ---- the track of some items and gaps

side_lies : (table : Table) (side : Side What) (len from to before after : ℕ) → HasBounds table side from to → SideLies side len from to before after → SideLiesIn table side len before after
side_lies table Dark len from to before after b h = tt
side_lies table (Pic what s) len from to before after b h = subst (λ o. LiesIn o s len before after) (sym b) (h.0, h.1)

ranges : (table : Table) (levels n : ℕ) (ps : List Part) → EachIsSound ps → All (IsPlaced table levels) ps → EachLiesIn table (views_of n ps)
ranges table levels n [] h p = tt
ranges table levels n (x ∷ []) h p = (side_lies table x.first x.len x.from x.to (left_reach x.mark) 0 (All-head (IsPlaced table levels) x [] p).bounds h.0.lies, tt)
ranges table levels n (x ∷ y ∷ ps) h p = (
  side_lies table x.first x.len x.from x.to (left_reach x.mark) (right_reach y.mark) (All-head (IsPlaced table levels) x (y ∷ ps) p).bounds h.0.lies,
  ranges table levels (number_after n x) (y ∷ ps) h.2 (All-tail (IsPlaced table levels) x (y ∷ ps) p),
)

deep : (table : Table) (levels n : ℕ) (ps : List Part) → All (IsPlaced table levels) ps → EachHas (IsDeep table.nests levels) (views_of n ps)
deep table levels n [] p = tt
deep table levels n (x ∷ ps) p = ((All-head (IsPlaced table levels) x ps p).deep, deep table levels (number_after n x) ps (All-tail (IsPlaced table levels) x ps p))

unlinked : (n : ℕ) (ps : List Part) → AllUnlinked (views_of n ps)
unlinked n [] = tt
unlinked n (x ∷ ps) = (refl, unlinked (number_after n x) ps)

no_links : (number n : ℕ) (ps : List Part) → EachLinkOf number (views_of n ps)
no_links number n [] = tt
no_links number n (x ∷ ps) = (tt, no_links number (number_after n x) ps)

views_count : (n : ℕ) (ps : List Part) → length (views_of n ps) ≡ length ps
views_count n [] = refl
views_count n (x ∷ ps) = ap suc (views_count (number_after n x) ps)

made_read : (table : Table) (levels number : ℕ) (ps : List Part) → AreSoundParts ps → All (IsPlaced table levels) ps → frames_in_all ps ≤ 2592000 → length ps ≤ 65536
    → IsReadTrack table levels (track_made number ps)
made_read table levels number ps h p frames items =
    let same : items_of (cells_of (views_of 0 ps)) ≡ views_of 0 ps = made_items ps h in
    record {
      good = record {
        kept = made_kept number ps h (omega (arith, frames));
        ranges = subst (EachLiesIn table) (sym same) (ranges table levels 0 ps h.each p);
        links = subst (EachLinkOf number) (sym same) (no_links number 0 ps);
        frames = omega (arith, made_frames ps, frames);
        items = omega (arith, ap length same, views_count 0 ps, items);
      };
      unlinked = subst AllUnlinked (sym same) (unlinked 0 ps);
      deep = subst (EachHas (IsDeep table.nests levels)) (sym same) (deep table levels 0 ps p);
      next_item = omega (arith, few 0 ps, items);
      next_link = refl;
    }

-- a track of this number
pub record IsNumbered (table : Table) (levels number : ℕ) (t : TrackState) : Type 0 where
  pub read : IsReadTrack table levels t
  pub numbered : t.number ≡ number

pub fit_by : (table : Table) (levels number : ℕ) (ps : List Part) (at : ℕ) → AreSoundParts ps → All (IsPlaced table levels) ps → IfOk (track_fit number ps at) (IsNumbered table levels number)
unfolding track_fit
fit_by table levels number ps at h p = tested (nat_le (frames_in_all ps) 2592000 && nat_le (length ps) 65536) (Ok (track_made number ps)) O11 at (IsNumbered table levels number) (λ e.
    let q = and_parts (nat_le (frames_in_all ps) 2592000) (nat_le (length ps) 65536) e in
    record { read = made_read table levels number ps h p (nat_le_true (frames_in_all ps) 2592000 q.0) (nat_le_true (length ps) 65536 q.1); numbered = refl }) where
      nat_le_true : (a b : ℕ) → nat_le a b ≡ true → a ≤ b
      nat_le_true a b t = grind arith

-- ---- rows

pub record IsReadRow (table : Table) (levels : ℕ) (row : RowState) : Type 0 where
  pub sound : IsSoundRow row
  pub placed : All (IsPlaced table levels) (all_kept row.done row.last)

pub empty_row_read : (table : Table) (levels : ℕ) → IsReadRow table levels empty_row
empty_row_read table levels = record {
  sound = record { start = refl; parts = record { not_before = refl; each = tt }; last = tt };
  placed = All-nil (IsPlaced table levels);
}

placed_kept : (old new : Table) → Keeps old new → (levels : ℕ) (p : Part) → IsPlaced old levels p → IsPlaced new levels p
placed_kept old new k levels p h = record { bounds = has_bounds_kept old new k p.first p.from p.to h.bounds; deep = side_deep_kept old new k levels p.first h.deep }

pub row_kept : (old new : Table) → Keeps old new → (levels : ℕ) (row : RowState) → IsReadRow old levels row → IsReadRow new levels row
row_kept old new k levels row h = record { sound = h.sound; placed = All-weaker (IsPlaced old levels) (IsPlaced new levels) (placed_kept old new k levels) (all_kept row.done row.last) h.placed }

pub waiting_row : (table : Table) (levels : ℕ) (row : RowState) (w : Option Waiting) → IsReadRow table levels row → IsReadRow table levels (record row { waiting = w })
waiting_row table levels row w h = record { sound = record { start = h.sound.start; parts = h.sound.parts; last = h.sound.last }; placed = h.placed }

longer_placed : (table : Table) (levels : ℕ) (done : List Part) (last : Option Part) (n : ℕ) → All (IsPlaced table levels) (all_kept done last) → All (IsPlaced table levels) (all_kept done (longer last n))
longer_placed table levels done None n h = h
longer_placed table levels [] (Some p) n h =
    let q = All-head (IsPlaced table levels) p [] h in
    All-cons (IsPlaced table levels) (record p { len = p.len + n }) [] (record { bounds = q.bounds; deep = q.deep }) (All-nil (IsPlaced table levels))
longer_placed table levels (d ∷ ds) (Some p) n h =
    All-cons (IsPlaced table levels) d (ds ++ record p { len = p.len + n } ∷ []) (All-head (IsPlaced table levels) d (ds ++ p ∷ []) h)
    (longer_placed table levels ds (Some p) n (All-tail (IsPlaced table levels) d (ds ++ p ∷ []) h))

kept_by : (table : Table) (levels : ℕ) (row : RowState) (next : Part) (mark : Option Mark) (empty joined : Bool) → nat_eq next.len 0 ≡ empty → joins row.last next ≡ joined
    → IsReadRow table levels row → IsRead table levels next → FitsBefore row next mark
    → IsReadRow table levels (if empty then record row { before = Some next; waiting = None } else if joined then record row { last = longer row.last next.len; before = Some next; waiting = None } else record { done = all_kept row.done row.last; last = Some (record next { mark = mark }); before = Some next; waiting = None })
kept_by table levels row next mark true joined e j h r fits = record { sound = keep_empty row next None h.sound (nat_eq_true next.len e); placed = h.placed } where
  nat_eq_true : (n : ℕ) → nat_eq n 0 ≡ true → n ≡ 0
  nat_eq_true n t = grind arith
kept_by table levels row next mark false true e j h r fits = record { sound = keep_joined row next None h.sound j; placed = longer_placed table levels row.done row.last next.len h.placed }
kept_by table levels row next mark false false e j h r fits = record {
  sound = keep_more row next mark None h.sound (nat_eq_false next.len e) r.item j fits;
  placed = All-append (IsPlaced table levels) (all_kept row.done row.last) (record next { mark = mark } ∷ []) h.placed
      (All-cons (IsPlaced table levels) (record next { mark = mark }) [] (record { bounds = r.placed.bounds; deep = r.placed.deep }) (All-nil (IsPlaced table levels)));
} where
  nat_eq_false : (n : ℕ) → nat_eq n 0 ≡ false → 0 < n
  nat_eq_false n t = grind arith

dissolve_is : (row : RowState) (w : Option Waiting) (next : Part) (mark : Option Mark) → dissolve_if w row.last row.before next ≡ Ok mark → IsSoundRow row → FitsBefore row next mark
dissolve_is row None next None e h = tt
dissolve_is row None next (Some m) e h = cc
dissolve_is row (Some w) next mark e h = dissolve_fits row w next mark row.before refl e h

pub row_more : (table : Table) (levels : ℕ) (row : RowState) (next : Part) → IsReadRow table levels row → IsRead table levels next → IfOk (row_with row next) (IsReadRow table levels)
row_more table levels row next h r =
    knowing (dissolve_before row next) _ (IsReadRow table levels) (λ mark e.
    kept_by table levels row next mark (nat_eq next.len 0) (joins row.last next) refl refl h r (dissolve_is row row.waiting next mark e h.sound))

-- the items and gaps of a row
abbrev pub AreRead : Table → ℕ → List Part → Type 0
AreRead table levels ps = AreSoundParts ps × All (IsPlaced table levels) ps

ended_by : (table : Table) (levels : ℕ) (w : Option Waiting) (ps : List Part) → AreRead table levels ps → IfOk (ended w ps) (AreRead table levels)
ended_by table levels None ps h = h
ended_by table levels (Some w) ps h = tt

pub row_parts : (table : Table) (levels : ℕ) (row : RowState) → IsReadRow table levels row → IfOk (row_end row) (AreRead table levels)
row_parts table levels row h = ended_by table levels row.waiting (all_kept row.done row.last) (h.sound.parts, h.placed)
