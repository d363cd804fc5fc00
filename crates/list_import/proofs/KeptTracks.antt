-- The track of shots that follow one another keeps what every track keeps.
use Rattle.std.proofs.Common.{◌≡◌, ℕ, ◌<◌, ◌≤◌, ◌^◌, List, [], None, sym, ap, ◌∙◌, subst, arith}
use Rattle.std.proofs.lemmas.List.{append-nil}
use Rattle.frame_meaning.specs.declared.cells.Cell.{Cell}
use Rattle.composables.specs.declared.items.ItemView.{ItemView}
use Rattle.composables.specs.Items.{cells_of, items_of}
use Rattle.composables.specs.Joined.{AllFilled, frames_in, joined}
use Rattle.composables.specs.TrackFacts.{Apart, EachHolds, IsKept, NumbersBelow, first_mark}
use Rattle.composables.specs.TrackState.{TrackState, next_past_all, replaced}
use Rattle.composables.proofs.Joining.{items_of-cells_of, length-cells_of}
use Rattle.timecode12.specs.declared.counting.TheConstants.{MAX_DAY_FRAMES}
use Rattle.list_import.specs.declared.shots.Shot.{Shot}
use Rattle.list_import.specs.TrackItems.{track_views, track_with}
use Rattle.list_import.specs.ShotFacts.{CanBeLaid}
use Rattle.list_import.proofs.TrackRows.{AreRows, below_joined, below_past, below_weaker, cells_joined, each_holds, mark_joined, past_frames, rows_apart, rows_filled, rows_joined}
use Rattle.list_import.proofs.ShotRows.{rows_views, short_views, views_first}

pub items_are : (media : ℕ) (vs : List ItemView) → AreRows media 0 vs → items_of (cells_of vs) ≡ joined vs
items_are media vs h = items_of-cells_of vs (rows_filled media 0 vs h)

pub rows_kept : (media number : ℕ) (vs : List ItemView) → AreRows media 0 vs → first_mark vs ≡ None → frames_in vs < 2 ^ 32 → IsKept (track_with number vs)
rows_kept media number vs h first short =
    let js : List ItemView = joined vs in
    let rows : AreRows media 0 js = rows_joined media 0 vs h in
    let items : items_of (cells_of vs) ≡ js = items_are media vs h in
    record {
      whole = ap cells_of items ∙ cells_joined media 0 vs h;
      not_before = ap first_mark items ∙ (mark_joined vs ∙ first);
      each = subst (λ (ws : List ItemView). EachHolds ws) (sym items) (each_holds media 0 js rows);
      apart = subst (λ (ws : List ItemView). Apart ws) (sym items) (rows_apart media 0 js rows);
      below = subst (λ (ws : List ItemView). NumbersBelow (next_past_all 0 vs) ws) (sym items) (below_joined (next_past_all 0 vs) vs (below_past vs 0));
      short = omega (arith, length-cells_of vs, short);
    }

abbrev empty : ℕ → TrackState
empty number = record { number = number; cells = []; next_item = 0; next_link = 0 }

-- the track that was empty and got these
pub track_is : (number : ℕ) (vs : List ItemView) → replaced (empty number) 0 0 vs ≡ track_with number vs
track_is number vs = ap (λ (cs : List Cell). record { number = number; cells = cs; next_item = next_past_all 0 vs; next_link = 0 }) (append-nil (cells_of vs))

-- what is asked of the items and gaps that are put in
pub record CanBePut (number : ℕ) (vs : List ItemView) : Type 0 where
  pub filled : AllFilled vs
  pub numbers : NumbersBelow 4294967295 vs
  pub kept : IsKept (replaced (empty number) 0 0 vs)

pub views_put : (number start : ℕ) (ss : List Shot) → CanBeLaid start ss → CanBePut number (track_views start 0 ss)
views_put number start ss h =
    let media : ℕ = h.0 in
    let vs : List ItemView = track_views start 0 ss in
    let rows : AreRows media 0 vs = rows_views media start 0 ss h.1 in
    let short : frames_in vs < MAX_DAY_FRAMES = short_views media start ss h.1 in
    let few : next_past_all 0 vs ≤ 4294967295 = omega (arith, past_frames media 0 vs rows, short) in
    record {
      filled = rows_filled media 0 vs rows;
      numbers = below_weaker (next_past_all 0 vs) 4294967295 vs few (below_past vs 0);
      kept = subst (λ (t : TrackState). IsKept t) (sym (track_is number vs)) (rows_kept media number vs rows (views_first start 0 ss) (omega (arith, short)));
    }
