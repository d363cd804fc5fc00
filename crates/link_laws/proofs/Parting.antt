-- The parts of a spliced track: what stands before the place, what is put in, and what stood behind the range.
use Rattle.std.proofs.Common.{◌≡◌, ℕ, ◌+◌, ◌≤◌, ◌⊎◌, inl, inr, ◌<◌, min, List, [], ◌++◌, take, drop, map, length, sym, ap, ◌∙◌, arith, subst, Bool}
use Rattle.std.proofs.lemmas.Bool.{cases_lt}
use Rattle.std.proofs.lemmas.List.{append-nil, drop-append-le, drop_all, length-append, length-take-le, take-append-le, take_all, take_at}
use Rattle.frame_meaning.specs.declared.cells.Cell.{Cell}
use Rattle.frame_meaning.specs.Splice.{rule_of, renumbered, split_item, with_marks}
use Rattle.composables.specs.declared.items.ItemView.{ItemView}
use Rattle.composables.specs.Items.{cells_of}
use Rattle.composables.specs.Joined.{frames_in}
use Rattle.composables.specs.TrackState.{TrackState, next_past_all}
use Rattle.composables.proofs.Joining.{length-cells_of}
use Rattle.edit_splice.specs.Splicing.{spliced_track}
use Rattle.link_laws.proofs.Sights.{Alike, alike-drop, alike-length, alike-marks, alike-numbers, alike-take, alike-then}

abbrev pub front_of : Bool → TrackState → ℕ → ℕ → List Cell
front_of keep t x past = take x (with_marks (rule_of keep) x past 0 t.cells)

abbrev pub behind_of : Bool → TrackState → ℕ → ℕ → List ItemView → List Cell
behind_of keep t x past views = map (renumbered (split_item t.cells x past) (next_past_all t.next_item views)) (drop past (with_marks (rule_of keep) x past 0 t.cells))

pub front-alike : (keep : Bool) (t : TrackState) (x past : ℕ) → Alike (front_of keep t x past) (take x t.cells)
front-alike keep t x past = alike-take x (with_marks (rule_of keep) x past 0 t.cells) t.cells (alike-marks (rule_of keep) x past 0 t.cells)

pub behind-alike : (keep : Bool) (t : TrackState) (x past : ℕ) (views : List ItemView) → Alike (behind_of keep t x past views) (drop past t.cells)
behind-alike keep t x past views =
    alike-then (behind_of keep t x past views) (drop past (with_marks (rule_of keep) x past 0 t.cells)) (drop past t.cells)
    (alike-numbers (split_item t.cells x past) (next_past_all t.next_item views) (drop past (with_marks (rule_of keep) x past 0 t.cells)))
    (alike-drop past (with_marks (rule_of keep) x past 0 t.cells) t.cells (alike-marks (rule_of keep) x past 0 t.cells))

-- a track that has the place: what is put in stands on [x, z)
pub record IsParted (keep : Bool) (t : TrackState) (x past z : ℕ) (views : List ItemView) : Type 0 where
  pub start : length (front_of keep t x past) ≡ x
  pub before : take x (spliced_track keep t x past views).cells ≡ front_of keep t x past
  pub through : take z (spliced_track keep t x past views).cells ≡ front_of keep t x past ++ cells_of views
  pub behind : drop z (spliced_track keep t x past views).cells ≡ behind_of keep t x past views

pub is-parted : (keep : Bool) (t : TrackState) (x past z : ℕ) (views : List ItemView) → x ≤ length t.cells → x + frames_in views ≡ z → IsParted keep t x past z views
is-parted keep t x past z views le sum = record { start = start; before = before; through = take_at (front_of keep t x past ++ cells_of views) (behind_of keep t x past views) z till; behind = behind } where
  start : length (front_of keep t x past) ≡ x
  start = alike-length (front_of keep t x past) (take x t.cells) (front-alike keep t x past) ∙ length-take-le x t.cells le

  till : length (front_of keep t x past ++ cells_of views) ≡ z
  till = omega (arith, length-append (front_of keep t x past) (cells_of views), length-cells_of views, start, sum)

  before : take x ((front_of keep t x past ++ cells_of views) ++ behind_of keep t x past views) ≡ front_of keep t x past
  before =
      take-append-le x (front_of keep t x past ++ cells_of views) (behind_of keep t x past views) (omega (arith, till, sum)) ∙ take_at (front_of keep t x past) (cells_of views) x start

  behind : drop z ((front_of keep t x past ++ cells_of views) ++ behind_of keep t x past views) ≡ behind_of keep t x past views
  behind =
      drop-append-le z (front_of keep t x past ++ cells_of views) (behind_of keep t x past views) (omega (arith, till))
      ∙ ap (λ (cs : List Cell). cs ++ behind_of keep t x past views) (drop_all z (front_of keep t x past ++ cells_of views) (omega (arith, till)))

-- a track that ends before the place stays
pub stays-past : (keep : Bool) (t : TrackState) (k past : ℕ) → k ≡ length t.cells → length t.cells ≤ past → Alike (spliced_track keep t k past []).cells t.cells
stays-past keep t k past is beyond = subst (λ (cs : List Cell). Alike cs t.cells) (sym whole) (alike-marks (rule_of keep) k past 0 t.cells) where
  all : List Cell
  all = with_marks (rule_of keep) k past 0 t.cells

  long : length all ≡ length t.cells
  long = alike-length all t.cells (alike-marks (rule_of keep) k past 0 t.cells)

  whole : (spliced_track keep t k past []).cells ≡ all
  whole =
      ap (λ (cs : List Cell). (take k all ++ []) ++ map (renumbered (split_item t.cells k past) t.next_item) cs) (drop_all past all (omega (arith, long, beyond)))
      ∙ (append-nil (take k all ++ []) ∙ (append-nil (take k all) ∙ take_all k all (omega (arith, long, is))))

-- what stands behind the nearest place that the track has
pub drop-least : (y : ℕ) (cs : List Cell) → drop (min y (length cs)) cs ≡ drop y cs
drop-least y cs = by (cases_lt (length cs) y) where
  by : (length cs < y) ⊎ (y ≤ length cs) → drop (min y (length cs)) cs ≡ drop y cs
  by (inl less) = drop_all (min y (length cs)) cs (omega (arith, less)) ∙ sym (drop_all y cs (omega (arith, less)))
  by (inr le) = let e : min y (length cs) ≡ y = omega (arith, le) in ap (λ (n : ℕ). drop n cs) e
