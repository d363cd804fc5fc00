-- A track that is read shows what its children's items show, one after another.
use Rattle.std.proofs.Common.{◌≡◌, ℕ, zero, suc, ◌+◌, nat_eq, nat_le, Bool, true, false, ◌&&◌, List, [], ◌∷◌, ◌++◌, length, Option, Some, None, Result, Ok, Err, IfOk, refl, sym, ap, ◌∙◌, subst, arith, append_assoc, if◌then◌else◌}
use Rattle.std.specs.List.{flat_map}
use Rattle.std.proofs.lemmas.Grind.{flat_map-append}
use Rattle.std.proofs.lemmas.List.{append-nil, map-append}
use Rattle.frame_meaning.specs.declared.cells.Mark.{Mark}
use Rattle.frame_meaning.specs.declared.cells.What.{What}
use Rattle.frame_meaning.specs.declared.cells.Link.{Link}
use Rattle.frame_meaning.specs.declared.cells.Cell.{Cell}
use Rattle.frame_meaning.specs.declared.frames.Side.{Side}
use Rattle.frame_meaning.specs.declared.frames.Side.TheVariants.{Dark, Pic}
use Rattle.frame_meaning.specs.Cells.{next_side, span}
use Rattle.composables.specs.declared.TheConstants.{MAX_FRAMES, MAX_ITEMS}
use Rattle.composables.specs.declared.media.Table.{Table}
use Rattle.composables.specs.Items.{marked, view_cells, cells_of}
use Rattle.composables.specs.TrackState.{TrackState}
use Rattle.json_tokens.specs.Reading.{◌>>=◌}
use Rattle.json_tree.specs.Tree.{Tree}
use Rattle.otio_tracks.specs.declared.faults.DocCode.{DocCode}
use Rattle.otio_tracks.specs.declared.faults.DocCode.TheVariants.{O11}
use Rattle.otio_tracks.specs.declared.values.Schema.{Schema}
use Rattle.otio_tracks.specs.declared.values.Schema.TheVariants.{Clip, Gap, Stack, Track, Transition, Other}
use Rattle.otio_tracks.specs.declared.parts.Part.{Part}
use Rattle.otio_tracks.specs.declared.transitions.Waiting.{Waiting}
use Rattle.otio_tracks.specs.Reading.{Read, each}
use Rattle.otio_tracks.specs.Values.{schema_read}
use Rattle.otio_tracks.specs.Parts.{is_dark, is_gap}
use Rattle.otio_tracks.specs.Transitions.{joins}
use Rattle.otio_tracks.specs.Rows.{RowState, empty_row, longer, all_kept, kept, dissolve_before, row_with, ended, row_end, frames_in_all}
use Rattle.otio_tracks.specs.Building.{view_of, number_after, views_of, track_made, track_fit}
use Rattle.otio_json.specs.Nests.{Inner, item_in, child_by, child_in, row_in, track_in}
use Rattle.otio_json.specs.ShownTracks.{sides_from, sides_of, sides_in, item_by, item_of_child, items_in, TracksShowTheirItems}
use Rattle.otio_json.proofs.Steps.{after, past, tested, weaker, and_parts}

-- ---- gaps that meet

dark_sides : (side : Side What) (n : ℕ) → is_dark side ≡ true → sides_from side n ≡ sides_from Dark n
dark_sides Dark n e = refl
dark_sides (Pic w s) n e = cc

dark_more : (m n : ℕ) → sides_from Dark (m + n) ≡ sides_from Dark m ++ sides_from Dark n
dark_more zero n = let e : 0 + n ≡ n = omega arith in ap (sides_from Dark) e
dark_more (suc m) n = let e : suc m + n ≡ suc (m + n) = omega arith in ap (sides_from Dark) e ∙ ap (λ xs. Dark ∷ xs) (dark_more m n)

gap_more : (p next : Part) → is_gap p ≡ true → is_gap next ≡ true → sides_from p.first (p.len + next.len) ≡ sides_of p ++ sides_of next
gap_more p next g h =
    dark_sides p.first (p.len + next.len) g
    ∙ (dark_more p.len next.len
    ∙ (ap (λ xs. xs ++ sides_from Dark next.len) (sym (dark_sides p.first p.len g))
    ∙ ap (λ xs. sides_of p ++ xs) (sym (dark_sides next.first next.len h))))

-- ---- rows

abbrev row_sides : RowState → List (Side What)
row_sides row = flat_map sides_of (all_kept row.done row.last)

one_more : (ps : List Part) (p : Part) → flat_map sides_of (ps ++ p ∷ []) ≡ flat_map sides_of ps ++ sides_of p
one_more ps p = flat_map-append sides_of ps (p ∷ []) ∙ ap (λ xs. flat_map sides_of ps ++ xs) (append-nil (sides_of p))

longer_sides : (done : List Part) (last : Option Part) (next : Part) → joins last next ≡ true → flat_map sides_of (all_kept done (longer last next.len)) ≡ flat_map sides_of (all_kept done last) ++ sides_of next
longer_sides done None next j = cc
longer_sides done (Some p) next j =
    let g = and_parts (is_gap p) (is_gap next) j in
    one_more done (record p { len = p.len + next.len })
    ∙ (ap (λ xs. flat_map sides_of done ++ xs) (gap_more p next g.0 g.1)
    ∙ (sym (append_assoc (flat_map sides_of done) (sides_of p) (sides_of next))
    ∙ ap (λ xs. xs ++ sides_of next) (sym (one_more done p))))

none_more : (row : RowState) (next : Part) → nat_eq next.len 0 ≡ true → row_sides row ≡ row_sides row ++ sides_of next
none_more row next e = sym (ap (λ n. row_sides row ++ sides_from next.first n) (nat_eq_true next.len 0 e) ∙ append-nil (row_sides row)) where
  nat_eq_true : (a b : ℕ) → nat_eq a b ≡ true → a ≡ b
  nat_eq_true a b t = grind arith

kept_by : (row : RowState) (next : Part) (mark : Option Mark) (empty joined : Bool) → nat_eq next.len 0 ≡ empty → joins row.last next ≡ joined
    → row_sides (if empty then record row { before = Some next; waiting = None } else if joined then record row { last = longer row.last next.len; before = Some next; waiting = None } else record { done = all_kept row.done row.last; last = Some (record next { mark = mark }); before = Some next; waiting = None }) ≡ row_sides row ++ sides_of next
kept_by row next mark true joined e j = none_more row next e
kept_by row next mark false true e j = longer_sides row.done row.last next j
kept_by row next mark false false e j = one_more (all_kept row.done row.last) (record next { mark = mark })

kept_sides : (row : RowState) (next : Part) (mark : Option Mark) → row_sides (kept row next mark) ≡ row_sides row ++ sides_of next
kept_sides row next mark = kept_by row next mark (nat_eq next.len 0) (joins row.last next) refl refl

with_sides : (row : RowState) (next : Part) → IfOk (row_with row next) (λ r. row_sides r ≡ row_sides row ++ sides_of next)
with_sides row next = past (dissolve_before row next) _ _ (λ mark. kept_sides row next mark)

ended_as : (w : Option Waiting) (ps : List Part) → IfOk (ended w ps) (λ qs. qs ≡ ps)
ended_as None ps = refl
ended_as (Some w) ps = tt

-- ---- the cells of the track

span_sides : (item : Option ℕ) (side : Side What) (link : Option Link) (n : ℕ) → sides_in (span item side link n) ≡ sides_from side n
span_sides item side link zero = refl
span_sides item side link (suc n) = ap (λ xs. side ∷ xs) (span_sides item (next_side side) link n)

marked_sides : (mark : Option Mark) (cs : List Cell) → sides_in (marked mark cs) ≡ sides_in cs
marked_sides mark [] = refl
marked_sides mark (c ∷ cs) = refl

view_sides : (n : ℕ) (p : Part) → sides_in (view_cells (view_of n p)) ≡ sides_of p
view_sides n p = marked_sides p.mark (span (view_of n p).item p.first None p.len) ∙ span_sides (view_of n p).item p.first None p.len

made_sides : (n : ℕ) (ps : List Part) → sides_in (cells_of (views_of n ps)) ≡ flat_map sides_of ps
made_sides n [] = refl
made_sides n (p ∷ ps) =
    map-append (λ (c : Cell). c.side) (view_cells (view_of n p)) (cells_of (views_of (number_after n p) ps))
    ∙ (ap (λ xs. xs ++ sides_in (cells_of (views_of (number_after n p) ps))) (view_sides n p)
    ∙ ap (λ xs. sides_of p ++ xs) (made_sides (number_after n p) ps))

fit_sides : (number : ℕ) (ps : List Part) (at : ℕ) → IfOk (track_fit number ps at) (λ t. sides_in t.cells ≡ flat_map sides_of ps)
unfolding track_fit
fit_sides number ps at = tested (nat_le (frames_in_all ps) MAX_FRAMES && nat_le (length ps) MAX_ITEMS) (Ok (track_made number ps)) O11 at (λ t. sides_in t.cells ≡ flat_map sides_of ps) (λ e. made_sides 0 ps)

-- ---- the children

module _ (rate : ℕ × ℕ) (inner : Result Inner DocCode) where
  -- the row shows these items, which are what was read
  abbrev Shows : Read (List Part × Table) → RowState × Table → Type 0
  Shows items s = (qs : List Part) × (items ≡ Ok (qs, s.1)) × (row_sides s.0 ≡ flat_map sides_of qs)

  item_added : (r : Read (Part × Table)) (row : RowState) (ps : List Part) → row_sides row ≡ flat_map sides_of ps
      → IfOk (r >>= λ item. row_with row item.0 >>= λ next. Ok (next, item.1)) (Shows (r >>= λ item. Ok (ps ++ item.0 ∷ [], item.1)))
  item_added (Err e) row ps h = tt
  item_added (Ok item) row ps h =
      after (row_with row item.0) (λ next. Ok (next, item.1)) (λ next. row_sides next ≡ row_sides row ++ sides_of item.0) (Shows (Ok (ps ++ item.0 ∷ [], item.1))) (with_sides row item.0) (λ next k.
      (ps ++ item.0 ∷ [], refl, k ∙ (ap (λ xs. xs ++ sides_of item.0) h ∙ sym (one_more ps item.0))))

  child_added : (found : Schema × ℕ) (s : RowState × Table) (ps : List Part) (t : Tree) → row_sides s.0 ≡ flat_map sides_of ps
      → IfOk (child_by rate inner found s t) (Shows (item_by rate inner found (ps, s.1) t))
  child_added (Transition, at) s ps t h = (ps, refl, h)
  child_added (Clip references, at) s ps t h = item_added (item_in rate inner (Clip references) at s.1 t) s.0 ps h
  child_added (Gap, at) s ps t h = item_added (item_in rate inner Gap at s.1 t) s.0 ps h
  child_added (Stack, at) s ps t h = item_added (item_in rate inner Stack at s.1 t) s.0 ps h
  child_added (Track, at) s ps t h = item_added (item_in rate inner Track at s.1 t) s.0 ps h
  child_added (Other, at) s ps t h = item_added (item_in rate inner Other at s.1 t) s.0 ps h

  child_shown : (s : RowState × Table) (ps : List Part) (t : Tree) → row_sides s.0 ≡ flat_map sides_of ps → IfOk (child_in rate inner s t) (Shows (item_of_child rate inner (ps, s.1) t))
  child_shown s ps t h = by_schema (schema_read t) where
    by_schema : (r : Read (Schema × ℕ)) → IfOk (r >>= λ found. child_by rate inner found s t) (Shows (r >>= λ found. item_by rate inner found (ps, s.1) t))
    by_schema (Err e) = tt
    by_schema (Ok found) = child_added found s ps t h

  row_shown : (children : List Tree) (s : RowState × Table) (ps : List Part) → row_sides s.0 ≡ flat_map sides_of ps
      → IfOk (each (child_in rate inner) s children) (Shows (each (item_of_child rate inner) (ps, s.1) children))
  row_shown [] s ps h = (ps, refl, h)
  row_shown (t ∷ ts) s ps h =
      after (child_in rate inner s t) (λ next. each (child_in rate inner) next ts) (Shows (item_of_child rate inner (ps, s.1) t)) (Shows (each (item_of_child rate inner) (ps, s.1) (t ∷ ts))) (child_shown s ps t h) (λ next k.
      weaker (each (child_in rate inner) next ts) (Shows (each (item_of_child rate inner) (k.0, next.1) ts)) (Shows (each (item_of_child rate inner) (ps, s.1) (t ∷ ts))) (row_shown ts next k.0 k.2) (λ last m.
      (m.0, ap (λ (r : Read (List Part × Table)). r >>= λ state. each (item_of_child rate inner) state ts) k.1 ∙ m.1, m.2)))

  -- a track shows these items, which are what was read
  abbrev TrackShows : Read (List Part × Table) → TrackState × Table → Type 0
  TrackShows items read = (qs : List Part) × (items ≡ Ok (qs, read.1)) × (sides_in read.0.cells ≡ flat_map sides_of qs)

  track_shown : (number : ℕ) (table : Table) (children : List Tree) (at : ℕ) → IfOk (track_in rate inner number table children at) (TrackShows (items_in rate inner table children))
  track_shown number table children at =
      after (row_in rate inner table children) _ (Shows (items_in rate inner table children)) (TrackShows (items_in rate inner table children)) (row_shown children (empty_row, table) [] refl) (λ s k.
      after (row_end s.0) _ (λ ps. ps ≡ all_kept s.0.done s.0.last) (TrackShows (items_in rate inner table children)) (ended_as s.0.waiting (all_kept s.0.done s.0.last)) (λ ps same.
      after (track_fit number ps at) _ (λ t. sides_in t.cells ≡ flat_map sides_of ps) (TrackShows (items_in rate inner table children)) (fit_sides number ps at) (λ t shown.
      (k.0, k.1, shown ∙ (ap (flat_map sides_of) same ∙ k.2)))))

told : {A : Type 0} (r : Read A) (x : A) (P : A → Type 0) → r ≡ Ok x → IfOk r P → P x
told r x P e h = subst (λ q. IfOk q P) e h

pub tracks_show_their_items : TracksShowTheirItems
tracks_show_their_items rate inner number table children at read e = told (track_in rate inner number table children at) read (TrackShows rate inner (items_in rate inner table children)) e (track_shown rate inner number table children at)
