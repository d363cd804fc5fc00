-- A splice of a track that was made longer by dark frames is one of the track itself that puts these in too.
use Rattle.std.proofs.Common.{◌≡◌, ℕ, ◌+◌, ◌-◌, ◌<◌, ◌≤◌, Bool, true, false, cond, eqb, leb, ltb, ◌&&◌, List, [], ◌∷◌, ◌++◌, length, map, min, None, refl, sym, ap, ◌∙◌, arith, subst, drop, append_assoc, length-append}
use Rattle.std.proofs.lemmas.List.{take_all, drop_all, append-nil}
use Rattle.std.proofs.lemmas.Bool.{eqb-true, le-ltb, leb-true, leb-false}
use Rattle.frame_meaning.specs.declared.cells.Cell.{Cell}
use Rattle.frame_meaning.specs.Cells.{belong}
use Rattle.frame_meaning.specs.Render.{cell_at}
use Rattle.frame_meaning.specs.Splice.{rule_of, next_after_splice, renumbered, split_item, spliced}
use Rattle.composables.specs.declared.items.ItemView.{ItemView}
use Rattle.composables.specs.Items.{cells_of, items_of, view_cells}
use Rattle.composables.specs.Joined.{frames_in}
use Rattle.composables.specs.TrackFacts.{EachHolds, IsKept}
use Rattle.composables.specs.TrackState.{TrackState, next_past_all}
use Rattle.composables.specs.Views.{gap_view, gap_views}
use Rattle.composables.proofs.Joining.{cells_of-append, length-cells_of}
use Rattle.edit_splice.specs.Splicing.{spliced_track}
use Rattle.edit_splice.proofs.Marks.{before-kept, before-view}
use Rattle.edit_splice.proofs.Surviving.{before_splice, behind_splice, spliced-steps}
use Rattle.edit_splice.specs.Padding.{padded_track}

pub frames-gap : (n : ℕ) → frames_in (gap_views n) ≡ n
frames-gap n = by (eqb n 0) refl where
  by : (b : Bool) → eqb n 0 ≡ b → frames_in (cond b [] (gap_view n ∷ [])) ≡ n
  by true e = sym (eqb-true n 0 e)
  by false e = omega arith

no_numbers : (n next : ℕ) (views : List ItemView) → next_past_all next (gap_views n ++ views) ≡ next_past_all next views
no_numbers n next views = by (eqb n 0) where
  by : (b : Bool) → next_past_all next (cond b [] (gap_view n ∷ []) ++ views) ≡ next_past_all next views
  by true = refl
  by false = refl

-- dark cells have no marks
dark_before : (keep : Bool) (n room : ℕ) → before_splice keep room (cells_of (gap_views n)) ≡ cells_of (gap_views n)
dark_before keep n room = by (eqb n 0) where
  by : (b : Bool) → before_splice keep room (cells_of (cond b [] (gap_view n ∷ []))) ≡ cells_of (cond b [] (gap_view n ∷ []))
  by true = refl
  by false =
      ap (before_splice keep room) (append-nil (view_cells (gap_view n)))
      ∙ before-view keep room (gap_view n)
      ∙ sym (append-nil (view_cells (gap_view n)))

-- no item stands on both sides of the end
no_split : (cs : List Cell) (x y : ℕ) → length cs ≤ y → split_item cs x y ≡ None
no_split cs x y h =
    ap (λ (b : Bool). cond ((ltb 0 x && b) && belong (cell_at cs (x - 1)) (cell_at cs y)) (cell_at cs y).item None) (le-ltb y (length cs) h)
    ∙ by (ltb 0 x) where
      by : (b : Bool) → cond ((b && false) && belong (cell_at cs (x - 1)) (cell_at cs y)) (cell_at cs y).item None ≡ None
      by true = refl
      by false = refl

-- what is put at the end of cells with a gap behind them
at_end : (keep : Bool) (vs : List ItemView) (cs : List Cell) (gap x : ℕ) (ms : List Cell) (fresh : ℕ) → cs ≡ cells_of vs → EachHolds vs → x ≡ length cs + gap
    → spliced (rule_of keep) (cs ++ cells_of (gap_views gap)) x x ms fresh ≡ cs ++ cells_of (gap_views gap) ++ ms
at_end keep vs cs gap x ms fresh e holds len =
    spliced-steps keep all x x ms fresh (omega arith)
    ∙ ap (λ ds. before_splice keep x ds ++ ms ++ map (renumbered (split_item all x x) fresh) (behind_splice keep 0 (drop x all))) (take_all x all (omega (arith, all_len)))
    ∙ ap (λ ds. before_splice keep x all ++ ms ++ map (renumbered (split_item all x x) fresh) (behind_splice keep 0 ds)) (drop_all x all (omega (arith, all_len)))
    ∙ append-nil (before_splice keep x all ++ ms)
    ∙ ap (λ ds. ds ++ ms) front where
      dark : List Cell
      dark = cells_of (gap_views gap)

      all : List Cell
      all = cs ++ dark

      all_len : length all ≡ x
      all_len = omega (arith, length-append cs dark, length-cells_of (gap_views gap), frames-gap gap, len)

      in_front : before_splice keep x (cells_of vs ++ dark) ≡ cells_of vs ++ dark
      in_front =
          before-kept keep vs [] dark x (subst EachHolds (sym (append-nil vs)) holds) (let l : length cs ≡ length (cells_of vs) = ap length e in omega (arith, l, length-cells_of vs, len))
          ∙ ap (λ ds. cells_of vs ++ ds) (dark_before keep gap (x - frames_in vs))

      front : before_splice keep x all ≡ all
      front = subst (λ ds. before_splice keep x (ds ++ dark) ≡ ds ++ dark) (sym e) in_front

state_same : (t : TrackState) (cs ds : List Cell) (n m : ℕ) → cs ≡ ds → n ≡ m → record t { cells = cs; next_item = n } ≡ record t { cells = ds; next_item = m }
state_same t cs ds n m e f = ap (λ (z : List Cell). record t { cells = z; next_item = n }) e ∙ ap (λ (z : ℕ). record t { cells = ds; next_item = z }) f

next_at_end : (cs : List Cell) (x y fresh : ℕ) → length cs ≤ y → next_after_splice cs x y fresh ≡ fresh
next_at_end cs x y fresh h = rw (no_split cs x y h) refl

length-padded : (t : TrackState) (at : ℕ) → length (padded_track t at).cells ≡ length t.cells + (at - length t.cells)
length-padded t at = length-append t.cells (cells_of (gap_views (at - length t.cells))) ∙ ap (λ (n : ℕ). length t.cells + n) (length-cells_of (gap_views (at - length t.cells)) ∙ frames-gap (at - length t.cells))

-- at the end of a track, or past it
past_end : (keep : Bool) (t : TrackState) (at : ℕ) (views : List ItemView) → IsKept t → length t.cells ≤ at
    → spliced_track keep (padded_track t at) at at views ≡ spliced_track keep t (length t.cells) (length t.cells) (gap_views (at - length t.cells) ++ views)
past_end keep t at views kept h = state_same t _ _ _ _ cells_same next_same where
  gap : ℕ
  gap = at - length t.cells

  fresh : ℕ
  fresh = next_past_all t.next_item views

  fresh_put : ℕ
  fresh_put = next_past_all t.next_item (gap_views gap ++ views)

  left : spliced (rule_of keep) (t.cells ++ cells_of (gap_views gap)) at at (cells_of views) fresh ≡ t.cells ++ cells_of (gap_views gap) ++ cells_of views
  left = at_end keep (items_of t.cells) t.cells gap at (cells_of views) fresh (sym kept.whole) kept.each (omega (arith, h))

  right : spliced (rule_of keep) t.cells (length t.cells) (length t.cells) (cells_of (gap_views gap ++ views)) fresh_put ≡ t.cells ++ cells_of (gap_views gap ++ views)
  right =
      sym (ap (λ ds. spliced (rule_of keep) ds (length t.cells) (length t.cells) (cells_of (gap_views gap ++ views)) fresh_put) (append-nil t.cells))
      ∙ at_end keep (items_of t.cells) t.cells 0 (length t.cells) (cells_of (gap_views gap ++ views)) fresh_put (sym kept.whole) kept.each (omega arith)
      ∙ ap (λ ds. ds ++ cells_of (gap_views gap ++ views)) (append-nil t.cells)

  cells_same : (spliced_track keep (padded_track t at) at at views).cells ≡ (spliced_track keep t (length t.cells) (length t.cells) (gap_views gap ++ views)).cells
  cells_same = left ∙ append_assoc t.cells (cells_of (gap_views gap)) (cells_of views) ∙ sym (right ∙ ap (λ ds. t.cells ++ ds) (cells_of-append (gap_views gap) views))

  next_same : (spliced_track keep (padded_track t at) at at views).next_item ≡ (spliced_track keep t (length t.cells) (length t.cells) (gap_views gap ++ views)).next_item
  next_same =
      next_at_end (t.cells ++ cells_of (gap_views gap)) at at fresh (omega (arith, length-padded t at, h))
      ∙ sym (next_at_end t.cells (length t.cells) (length t.cells) fresh_put (omega arith) ∙ no_numbers gap t.next_item views)

-- a track that is long enough stays
pub padded-same : (t : TrackState) (at : ℕ) → at ≤ length t.cells → padded_track t at ≡ t
padded-same t at h =
    let z : at - length t.cells ≡ 0 = omega (arith, h) in
    ap (λ (n : ℕ). record t { cells = t.cells ++ cells_of (gap_views n) }) z
    ∙ ap (λ (ds : List Cell). record t { cells = ds }) (append-nil t.cells)

pub padded-put : (keep : Bool) (t : TrackState) (at y : ℕ) (views : List ItemView) → IsKept t → at ≤ y
    → spliced_track keep (padded_track t at) at (min y (length (padded_track t at).cells)) views
    ≡ spliced_track keep t (min at (length t.cells)) (min y (length t.cells)) (gap_views (at - length t.cells) ++ views)
padded-put keep t at y views kept le = by (leb (length t.cells) at) refl where
  by : (b : Bool) → leb (length t.cells) at ≡ b
      → spliced_track keep (padded_track t at) at (min y (length (padded_track t at).cells)) views
      ≡ spliced_track keep t (min at (length t.cells)) (min y (length t.cells)) (gap_views (at - length t.cells) ++ views)
  by true e =
      let past : length t.cells ≤ at = leb-true (length t.cells) at e in
      let a : min y (length (padded_track t at).cells) ≡ at = omega (arith, length-padded t at, past, le) in
      let b : min at (length t.cells) ≡ length t.cells = omega (arith, past) in
      let d : min y (length t.cells) ≡ length t.cells = omega (arith, past, le) in
      ap (λ (n : ℕ). spliced_track keep (padded_track t at) at n views) a
      ∙ past_end keep t at views kept past
      ∙ sym (ap (λ (n : ℕ). spliced_track keep t n (min y (length t.cells)) (gap_views (at - length t.cells) ++ views)) b
      ∙ ap (λ (n : ℕ). spliced_track keep t (length t.cells) n (gap_views (at - length t.cells) ++ views)) d)
  by false e =
      let within : at < length t.cells = leb-false (length t.cells) at e in
      let z : at - length t.cells ≡ 0 = omega (arith, within) in
      let b : at ≡ min at (length t.cells) = omega (arith, within) in
      ap (λ (u : TrackState). spliced_track keep u at (min y (length u.cells)) views) (padded-same t at (omega (arith, within)))
      ∙ ap (λ (n : ℕ). spliced_track keep t n (min y (length t.cells)) views) b
      ∙ sym (ap (λ (n : ℕ). spliced_track keep t (min at (length t.cells)) (min y (length t.cells)) (gap_views n ++ views)) z)

pub padded-reaches : (t : TrackState) (at : ℕ) → at ≡ min at (length (padded_track t at).cells)
padded-reaches t at = omega (arith, length-padded t at)
