-- The shift by which an item reaches back, with the link that its frames get, leaves good tracks.
use Rattle.std.proofs.Common.{◌≡◌, ◌≢◌, ℕ, zero, suc, ◌+◌, ◌-◌, ◌<◌, ◌≤◌, Bool, true, false, not, cond, eqb, ltb, ◌&&◌, min, List, [], ◌∷◌, ◌++◌, All, map, length, get_or, Option, Some, None, Ok, refl, sym, ap, ◌∙◌, arith, subst}
use Rattle.std.proofs.lemmas.Bool.{and_parts, eqb-false, eqb-true, le-ltb, ltb-false, ne_eqb}
use Rattle.std.proofs.lemmas.List.Elements.{All-map}
use Rattle.std.proofs.lemmas.Option.{slice_get-get_or, slice_get_within}
use Rattle.frame_meaning.specs.declared.cells.Cell.{Cell}
use Rattle.frame_meaning.specs.declared.cells.Link.{Link}
use Rattle.frame_meaning.specs.Cells.{belong, same_number}
use Rattle.frame_meaning.specs.Render.{cell_at}
use Rattle.frame_meaning.specs.Splice.{rule_of}
use Rattle.composables.specs.declared.items.ItemView.{ItemView}
use Rattle.composables.specs.declared.media.Table.{Table}
use Rattle.composables.specs.declared.refusals.Done.{Done}
use Rattle.composables.specs.declared.refusals.Refusal.{Refusal}
use Rattle.composables.specs.declared.refusals.Refusal.TheVariants.{TooLong, TooManyItems}
use Rattle.composables.specs.declared.TheConstants.{MAX_FRAMES, MAX_ITEMS}
use Rattle.composables.specs.Answers.{unless}
use Rattle.composables.specs.Changes.{with_link}
use Rattle.composables.specs.Good.{IsGood}
use Rattle.composables.specs.Items.{cell_in, cells_of, items_of}
use Rattle.composables.specs.Limits.{too_long, too_many, within_limits}
use Rattle.composables.specs.Links.{count_at_home, links_split, moved_link, split_links, split_track}
use Rattle.composables.specs.Ranges.{is_cut}
use Rattle.composables.specs.TrackFacts.{IsKept}
use Rattle.composables.specs.TrackState.{TrackState, next_past_all}
use Rattle.composables.specs.Views.{gap_views}
use Rattle.composables.proofs.Frames.{no_view}
use Rattle.composables.proofs.Joining.{length-cells_of, same-refl}
use Rattle.edit_delta.specs.Parts.{AreParts}
use Rattle.edit_delta.specs.Reaching.{reaching_back}
use Rattle.edit_delta.proofs.Bounded.{stays-spliced}
use Rattle.edit_delta.proofs.Pieces.{Before}
use Rattle.edit_delta.proofs.Spots.{Spot, spot-head}
use Rattle.edit_roll.proofs.Beside.{cut-between}
use Rattle.edit_splice.specs.Laws.{IsWithinLimits}
use Rattle.edit_splice.specs.Moves.{all_moved, moved, put_views}
use Rattle.edit_splice.specs.Shifts.{shift_of, shift_refusal, shifted}
use Rattle.edit_splice.specs.Splicing.{spliced_track}
use Rattle.edit_splice.proofs.Bridging.{extract-moved, put-moved}
use Rattle.edit_splice.proofs.Cellwise.{cell-before, cell-between}
use Rattle.edit_splice.proofs.Firsts.{few-all, short-all}
use Rattle.edit_splice.proofs.Moving.{put-own}
use Rattle.edit_trim.proofs.Reached.{back_shift, own-reach}
use Rattle.edit_trim.proofs.RippleTracks.{before-parts, other-put}
use Rattle.link_groups.specs.LinkedShifts.{split_items}
use Rattle.link_groups.specs.Renumbering.{IsUncut}
use Rattle.link_groups.proofs.GoodShifts.{with_next}
use Rattle.link_groups.proofs.LinkedShifts.{long-same, many-same, tracks-same}
use Rattle.link_groups.proofs.Meant.{uncut-moved}
use Rattle.link_groups.proofs.Relinking.{good-linked, like-links, like-moved, linked_track, moved-linked, new_links}
use Rattle.link_groups.proofs.ShiftLinks.{splits-moved}
use Rattle.link_groups.proofs.SplitCells.{items-cells}
use Rattle.link_groups.proofs.Uncut.{cell-there, uncut-by}
use Rattle.track_laws.proofs.DeltaSteps.{GoodAll, unless-good}

-- links split on a good track, where no item with a link stands on both sides of the place

split_good : (table : Table) (tracks : List TrackState) (splits : List Link) (place : ℕ) (u : TrackState) → IsGood table u → IsUncut place u → IsGood table (split_track place tracks splits u)
split_good table tracks splits place u good uncut =
    let like = like-links (moved_link tracks splits) (like-moved tracks splits) place (items_of u.cells) in
    let one = with_next table (linked_track (new_links (moved_link tracks splits) place (items_of u.cells)) u) (u.next_link + count_at_home splits u.number) (good-linked table (new_links (moved_link tracks splits) place (items_of u.cells)) u like good) in
    let same : record (linked_track (new_links (moved_link tracks splits) place (items_of u.cells)) u) { next_link = u.next_link + count_at_home splits u.number } ≡ split_items tracks splits place u =
    ap (λ (vs : List ItemView). record u { cells = cells_of vs; next_link = u.next_link + count_at_home splits u.number }) (sym (moved-linked tracks splits place (items_of u.cells))) in
    subst (IsGood table) (same ∙ items-cells tracks splits place u good.kept uncut) one

-- what stands before an item is not the item

cut_before : (table : Table) (t : TrackState) (i : ℕ) (v : ItemView) (x y : ℕ) → IsGood table t → Spot table t i v x y → 0 < x → is_cut t.cells x ≡ true
cut_before table t zero v x y good s some = absurd (omega (arith, some, s.starts))
cut_before table t (suc i) v x y good s some =
    let inside = slice_get_within (items_of t.cells) (suc i) v s.read in
    cut-between t x i (get_or (items_of t.cells) i no_view) v good.kept (slice_get-get_or (items_of t.cells) i no_view (omega (arith, inside))) s.read s.starts

no_true : (b : Bool) → not b ≡ true → b ≡ true → ⊥
no_true true h e = cc
no_true false h e = cc

item_apart : (table : Table) (t : TrackState) (i : ℕ) (v : ItemView) (x y : ℕ) → IsGood table t → Spot table t i v x y → 0 < x → (cell_at t.cells (x - 1)).item ≡ v.item → ⊥
item_apart table t i v x y good s some e =
    let cut = cut_before table t i v x y good s some in
    let apart = (and_parts (ltb 0 x && ltb x (length t.cells)) (not (belong (cell_at t.cells (x - 1)) (cell_at t.cells x))) cut).1 in
    let here : (cell_at t.cells x).item ≡ v.item = ap (λ (c : Cell). c.item) (spot-head table t i v x y s) in
    no_true (same_number (cell_at t.cells (x - 1)).item (cell_at t.cells x).item) apart
    (ap (λ (o : Option ℕ). same_number o (cell_at t.cells x).item) e ∙ (ap (same_number v.item) here ∙ same-refl v.item))

-- the item that has reached back stands on one side of the place at which it is split
own_uncut : (table : Table) (t : TrackState) (i : ℕ) (v g : ItemView) (x y : ℕ) → IsGood table t → Spot table t i v x y → 0 < g.len → g.item ≡ v.item
    → IsKept (spliced_track false t x x (g ∷ [])) → IsUncut x (spliced_track false t x x (g ∷ []))
own_uncut table t i v g x y good s some item after = uncut-by (spliced_track false t x x (g ∷ [])) x after between where
  le : x ≤ length t.cells
  le = omega (arith, s.within, s.long)

  zero_at : x + 0 ≡ x
  zero_at = omega arith

  between : 0 < x → x < length (spliced_track false t x x (g ∷ [])).cells
      → (cell_at (spliced_track false t x x (g ∷ [])).cells (x - 1)).item ≡ (cell_at (spliced_track false t x x (g ∷ [])).cells x).item
      → (cell_at (spliced_track false t x x (g ∷ [])).cells x).item ≡ None
  between start inside eq = absurd (item_apart table t i v x y good s start (sym first ∙ (eq ∙ second))) where
    second : (cell_at (spliced_track false t x x (g ∷ [])).cells x).item ≡ v.item
    second =
        ap (λ (k : ℕ). (cell_at (spliced_track false t x x (g ∷ [])).cells k).item) (sym zero_at)
        ∙ (ap (λ (c : Cell). c.item) (cell-between (rule_of false) t.cells x x (cells_of (g ∷ [])) (next_past_all t.next_item (g ∷ [])) 0 le (omega (arith, length-cells_of (g ∷ []), some)))
        ∙ (ap (λ (c : Cell). c.item) (cell-there (g ∷ []) 0 0 g refl some) ∙ item))

    first : (cell_at (spliced_track false t x x (g ∷ [])).cells (x - 1)).item ≡ (cell_at t.cells (x - 1)).item
    first = ap (λ (c : Cell). c.item) (cell-before (rule_of false) t.cells x x (cells_of (g ∷ [])) (next_past_all t.next_item (g ∷ [])) (x - 1) le (omega (arith, start)))

-- the limits of a track of which links are split

short_alone : (u : TrackState) → too_long (u ∷ []) ≡ None → length u.cells ≤ MAX_FRAMES
short_alone u e = by (ltb MAX_FRAMES (length u.cells)) refl e where
  by : (b : Bool) → ltb MAX_FRAMES (length u.cells) ≡ b → cond b (Some (TooLong u.number)) None ≡ None → length u.cells ≤ MAX_FRAMES
  by true f k = absurd cc
  by false f k = ltb-false MAX_FRAMES (length u.cells) f

few_alone : (u : TrackState) → too_many (u ∷ []) ≡ None → length (items_of u.cells) ≤ MAX_ITEMS
few_alone u e = by (ltb MAX_ITEMS (length (items_of u.cells))) refl e where
  by : (b : Bool) → ltb MAX_ITEMS (length (items_of u.cells)) ≡ b → cond b (Some (TooManyItems u.number)) None ≡ None → length (items_of u.cells) ≤ MAX_ITEMS
  by true f k = absurd cc
  by false f k = ltb-false MAX_ITEMS (length (items_of u.cells)) f

same_limits : (tracks : List TrackState) (splits : List Link) (z k : ℕ) (u w : TrackState) → split_track z tracks splits u ≡ split_track k tracks splits w → IsWithinLimits u → IsWithinLimits w
same_limits tracks splits z k u w e limits = record {
  frames = short_alone w
      (sym (long-same k tracks splits (w ∷ [])) ∙ (ap (λ (v : TrackState). too_long (v ∷ [])) (sym e) ∙ (long-same z tracks splits (u ∷ []) ∙ ap (λ (b : Bool). cond b (Some (TooLong u.number)) None) (le-ltb MAX_FRAMES (length u.cells) limits.frames))));
  items = few_alone w
      (sym (many-same k tracks splits (w ∷ []))
      ∙ (ap (λ (v : TrackState). too_many (v ∷ [])) (sym e) ∙ (many-same z tracks splits (u ∷ []) ∙ ap (λ (b : Bool). cond b (Some (TooManyItems u.number)) None) (le-ltb MAX_ITEMS (length (items_of u.cells)) limits.items))));
}

-- after the shift

own_back : (table : Table) (tracks : List TrackState) (splits : List Link) (t : TrackState) (i : ℕ) (v : ItemView) (x y n : ℕ) → IsGood table t → Spot table t i v x y → 0 < n → length t.cells + n ≤ MAX_FRAMES → Before table v.first n
    → IsWithinLimits (spliced_track false t x x (with_link (moved_link tracks splits v.link) (reaching_back (cell_in v 0) n) ∷ []))
    → IsGood table (split_track (x + n) tracks splits (spliced_track false t x x (with_link (moved_link tracks splits v.link) (reaching_back (cell_in v 0) n) ∷ [])))
own_back table tracks splits t i v x y n good s some room before limits =
    let same = own-reach tracks splits x (reaching_back (cell_in v 0) n) t (omega (arith, s.within, s.long)) in
    let parts : AreParts table t x x (reaching_back (cell_in v 0) n ∷ []) = before-parts table t i v (reaching_back (cell_in v 0) n) x y n s some room before refl in
    let after = (stays-spliced false table t x x (reaching_back (cell_in v 0) n ∷ []) good parts
    (same_limits tracks splits (x + n) x (spliced_track false t x x (with_link (moved_link tracks splits v.link) (reaching_back (cell_in v 0) n) ∷ [])) (spliced_track false t x x (reaching_back (cell_in v 0) n ∷ [])) same limits)).good in
    subst (IsGood table) (sym same)
    (split_good table tracks splits x (spliced_track false t x x (reaching_back (cell_in v 0) n ∷ [])) after (own_uncut table t i v (reaching_back (cell_in v 0) n) x y good s some refl after.kept))

other_back : (table : Table) (tracks : List TrackState) (splits : List Link) (own x : ℕ) (g : ItemView) (t : TrackState) → IsGood table t → t.number ≢ own → IsWithinLimits (moved (back_shift own x g) t)
    → IsGood table (split_track (x + g.len) tracks splits (moved (back_shift own x g) t))
other_back table tracks splits own x g t good other limits =
    let after = (put-moved table (back_shift own x g) t (omega arith) good (other-put table (back_shift own x g) t other) limits).good in
    split_good table tracks splits (x + g.len) (moved (back_shift own x g) t) after
    (uncut-moved (back_shift own x g) t good.kept (omega arith) (λ e. absurd (other e)) after.kept)

own_moved : (own x : ℕ) (g : ItemView) (t : TrackState) → t.number ≡ own → x ≤ length t.cells → moved (back_shift own x g) t ≡ spliced_track false t x x (g ∷ [])
own_moved own x g t number le =
    let at : min x (length t.cells) ≡ x = omega (arith, le) in
    let none : x - length t.cells ≡ 0 = omega (arith, le) in
    ap (λ (k : ℕ). spliced_track false t k k (put_views (back_shift own x g) t)) at
    ∙ ap (spliced_track false t x x) (put-own (back_shift own x g) t number ∙ ap (λ (k : ℕ). gap_views k ++ g ∷ []) none)

-- what is known of an item that reaches back among these tracks
pub record ReachesAmong (table : Table) (ts : List TrackState) (own : ℕ) (t : TrackState) (i : ℕ) (v : ItemView) (x y n : ℕ) : Type 0 where
  pub good : IsGood table t
  pub spot : Spot table t i v x y
  pub only : All (λ (u : TrackState). u.number ≡ own → u ≡ t) ts
  pub some : 0 < n
  pub room : length t.cells + n ≤ MAX_FRAMES
  pub before : Before table v.first n

one_back : (table : Table) (ts : List TrackState) (splits : List Link) (own : ℕ) (t : TrackState) (i : ℕ) (v : ItemView) (x y n : ℕ) (u : TrackState) → ReachesAmong table ts own t i v x y n → IsGood table u
    → (u.number ≡ own → u ≡ t) → IsWithinLimits (moved (back_shift own x (with_link (moved_link ts splits v.link) (reaching_back (cell_in v 0) n))) u)
    → IsGood table (split_track (x + n) ts splits (moved (back_shift own x (with_link (moved_link ts splits v.link) (reaching_back (cell_in v 0) n))) u))
one_back table ts splits own t i v x y n u r good here limits = by (eqb u.number own) refl where
  by : (b : Bool) → eqb u.number own ≡ b → IsGood table (split_track (x + n) ts splits (moved (back_shift own x (with_link (moved_link ts splits v.link) (reaching_back (cell_in v 0) n))) u))
  by true e =
      let number : u.number ≡ own = eqb-true u.number own e in
      let is : u ≡ t = here number in
      let le : x ≤ length u.cells = omega (arith, r.spot.within, r.spot.long, ap (λ (w : TrackState). length w.cells) is) in
      let same : moved (back_shift own x (with_link (moved_link ts splits v.link) (reaching_back (cell_in v 0) n))) u ≡ spliced_track false t x x (with_link (moved_link ts splits v.link) (reaching_back (cell_in v 0) n) ∷ []) =
      own_moved own x (with_link (moved_link ts splits v.link) (reaching_back (cell_in v 0) n)) u number le
      ∙ ap (λ (w : TrackState). spliced_track false w x x (with_link (moved_link ts splits v.link) (reaching_back (cell_in v 0) n) ∷ [])) is in
      subst (λ (w : TrackState). IsGood table (split_track (x + n) ts splits w)) (sym same)
      (own_back table ts splits t i v x y n r.good r.spot r.some r.room r.before (subst IsWithinLimits same limits))
  by false e = other_back table ts splits own x (with_link (moved_link ts splits v.link) (reaching_back (cell_in v 0) n)) u good (eqb-false u.number own e) limits

all_back : (table : Table) (ts : List TrackState) (splits : List Link) (own : ℕ) (t : TrackState) (i : ℕ) (v : ItemView) (x y n : ℕ) → ReachesAmong table ts own t i v x y n → All (IsGood table) ts
    → too_long (all_moved (back_shift own x (with_link (moved_link ts splits v.link) (reaching_back (cell_in v 0) n))) ts) ≡ None
    → too_many (all_moved (back_shift own x (with_link (moved_link ts splits v.link) (reaching_back (cell_in v 0) n))) ts) ≡ None
    → All (IsGood table) (map (split_track (x + n) ts splits) (all_moved (back_shift own x (with_link (moved_link ts splits v.link) (reaching_back (cell_in v 0) n))) ts))
all_back table ts splits own t i v x y n r good long many =
    let short = short-all (back_shift own x (with_link (moved_link ts splits v.link) (reaching_back (cell_in v 0) n))) ts long in
    let few = few-all (back_shift own x (with_link (moved_link ts splits v.link) (reaching_back (cell_in v 0) n))) ts many in
    All-map (IsGood table) (split_track (x + n) ts splits) (all_moved (back_shift own x (with_link (moved_link ts splits v.link) (reaching_back (cell_in v 0) n))) ts)
    (All-map (λ (u : TrackState). IsGood table (split_track (x + n) ts splits u)) (moved (back_shift own x (with_link (moved_link ts splits v.link) (reaching_back (cell_in v 0) n)))) ts
    (λ k d lt. one_back table ts splits own t i v x y n (get_or ts k d) r (good k d lt) (r.only k d lt) (record { frames = short k d lt; items = few k d lt })))

limits_good : (table : Table) (us : List TrackState) (done : Done) → (too_long us ≡ None → too_many us ≡ None → All (IsGood table) us) → GoodAll table (within_limits us done)
limits_good table us done h = by (too_long us) (too_many us) refl refl where
  by : (a b : Option Refusal) → too_long us ≡ a → too_many us ≡ b → GoodAll table (unless {A = List TrackState × Done} a (unless {A = List TrackState × Done} b (Ok (us, done))))
  by (Some r) b e f = tt
  by None (Some r) e f = tt
  by None None e f = h e f

-- the tracks after it, as it is meant
back_after : (table : Table) (ts : List TrackState) (own : ℕ) (t : TrackState) (i : ℕ) (v : ItemView) (x y n : ℕ) (new : ItemView) → ReachesAmong table ts own t i v x y n → new.len ≡ n
    → cond (eqb (n + 0) (x - x)) (shifted false own x x (new ∷ []) ts) (links_split x (x + (n + 0)) (shifted false own x x (new ∷ []) ts)) ≡ map (split_track (x + n) ts (split_links x x ts)) (all_moved (back_shift own x new) ts)
back_after table ts own t i v x y n new r len =
    ap (λ (k : ℕ). cond (eqb k (x - x)) (shifted false own x x (new ∷ []) ts) (links_split x (x + k) (shifted false own x x (new ∷ []) ts))) none
    ∙ (ap (λ (us : List TrackState). cond (eqb n (x - x)) us (links_split x (x + n) us)) (extract-moved (back_shift own x new) ts long)
    ∙ (ap (λ (b : Bool). cond b (all_moved (back_shift own x new) ts) (links_split x (x + n) (all_moved (back_shift own x new) ts))) moves
    ∙ (ap (λ (k : ℕ). links_split x (x + k) (all_moved (back_shift own x new) ts)) (sym len)
    ∙ (ap (λ (ls : List Link). map (split_track (x + new.len) (all_moved (back_shift own x new) ts) ls) (all_moved (back_shift own x new) ts)) (splits-moved (back_shift own x new) ts (omega arith))
    ∙ (tracks-same (back_shift own x new) ts (split_links x x ts) (x + new.len) (all_moved (back_shift own x new) ts)
    ∙ ap (λ (k : ℕ). map (split_track (x + k) ts (split_links x x ts)) (all_moved (back_shift own x new) ts)) len))))) where
      none : n + 0 ≡ n
      none = omega arith

      moves : eqb n (x - x) ≡ false
      moves = ne_eqb n (x - x) (λ e. omega (arith, e, r.some))

      has : (k : ℕ) (d : TrackState) → k < length ts → (get_or ts k d).number ≡ own → x ≤ length (get_or ts k d).cells
      has k d lt e = omega (arith, r.spot.within, r.spot.long, ap (λ (w : TrackState). length w.cells) (r.only k d lt e))

      long : All (λ (u : TrackState). u.number ≡ own → (x ≤ length u.cells) × (x ≤ length u.cells)) ts
      long k d lt e = (has k d lt e, has k d lt e)

pub back-good : (table : Table) (ts : List TrackState) (own : ℕ) (t : TrackState) (i : ℕ) (v : ItemView) (x y n : ℕ) (done : Done) → ReachesAmong table ts own t i v x y n → All (IsGood table) ts
    → GoodAll table (shift_of false own x x (with_link (moved_link ts (split_links x x ts) v.link) (reaching_back (cell_in v 0) n) ∷ []) done ts)
back-good table ts own t i v x y n done r good =
    unless-good table (shift_refusal x x (n + 0) ts) _
    (subst (λ (us : List TrackState). GoodAll table (within_limits us done)) (sym (back_after table ts own t i v x y n (with_link (moved_link ts (split_links x x ts) v.link) (reaching_back (cell_in v 0) n)) r refl))
    (limits_good table (map (split_track (x + n) ts (split_links x x ts)) (all_moved (back_shift own x (with_link (moved_link ts (split_links x x ts) v.link) (reaching_back (cell_in v 0) n))) ts)) done
    (λ e f.
    all_back table ts (split_links x x ts) own t i v x y n r good
    (sym (long-same (x + n) ts (split_links x x ts) (all_moved (back_shift own x (with_link (moved_link ts (split_links x x ts) v.link) (reaching_back (cell_in v 0) n))) ts)) ∙ e)
    (sym (many-same (x + n) ts (split_links x x ts) (all_moved (back_shift own x (with_link (moved_link ts (split_links x x ts) v.link) (reaching_back (cell_in v 0) n))) ts)) ∙ f))))
