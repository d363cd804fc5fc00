-- Shifts that split links, item by item and cell by cell.
use Rattle.std.proofs.Common.{◌≡◌, ℕ, zero, suc, ◌+◌, ◌-◌, ◌*◌, ◌<◌, ◌≤◌, ◌^◌, Bool, true, false, cond, eqb, ltb, List, [], ◌∷◌, ◌++◌, All, take, drop, map, length, unwrap_or, Option, Some, None, Ok, Err, refl, sym, ap, ◌∙◌, arith, subst, get_or}
use Rattle.std.specs.List.{list_any}
use Rattle.std.specs.BTreeMap.{get}
use Rattle.std.specs.Option.{option_or}
use Rattle.std.specs.Ordering.{nat_cmp}
use Rattle.std.proofs.lemmas.List.{take-append-drop}
use Rattle.frame_meaning.specs.declared.cells.Cell.{Cell}
use Rattle.frame_meaning.specs.declared.cells.Link.{Link}
use Rattle.composables.specs.declared.refusals.Done.{Done}
use Rattle.composables.specs.declared.refusals.Refusal.{Refusal}
use Rattle.composables.specs.declared.refusals.Refusal.TheVariants.{TooLong, TooManyItems}
use Rattle.composables.specs.declared.TheConstants.{MAX_FRAMES, MAX_ITEMS}
use Rattle.composables.specs.Answers.{unless}
use Rattle.composables.specs.Items.{items_of}
use Rattle.composables.specs.Limits.{over_limits, too_long, too_many, unless_over, within_limits}
use Rattle.composables.specs.Links.{cells_from, count_at_home, earlier_at_home, link_outside, links_split, moved_cell, moved_link, same_link, split_links, split_track}
use Rattle.composables.specs.TrackFacts.{IsKept}
use Rattle.composables.specs.TrackState.{TrackState}
use Rattle.edit_splice.specs.declared.shifting.Shift.{Shift}
use Rattle.edit_splice.specs.Moves.{IsShiftOf, all_moved, moved}
use Rattle.edit_splice.specs.Padding.{new_len}
use Rattle.edit_splice.proofs.Firsts.{few-all, short-all}
use Rattle.edit_splice.proofs.Limits.{none-over}
use Rattle.link_groups.specs.declared.splits.Splits.{Splits}
use Rattle.link_groups.specs.LinkedShifts.{linked_after, linked_refusal, linked_shift, split_items}
use Rattle.link_groups.specs.Renumbering.{IsUncut}
use Rattle.link_groups.specs.Splits.{AreSplits, HasFew, relinked_track}
use Rattle.composables.specs.Sizes.{sizes_of}
use Rattle.link_groups.proofs.ItemCounts.{count-same, same-append, same-items, same-length, same-map, sizes-moved}
use Rattle.link_groups.proofs.ShiftLinks.{next-moved, splits-moved}
use Rattle.link_groups.proofs.SplitCells.{each-cells, relinked-each}

-- split cells are as many, of the same items

track_sizes : (z : ℕ) (tracks : List TrackState) (splits : List Link) (t : TrackState)
    → (length (split_track z tracks splits t).cells ≡ length t.cells) × (length (items_of (split_track z tracks splits t).cells) ≡ length (items_of t.cells))
track_sizes z tracks splits t =
    let front : List Cell = take z t.cells in
    let behind : List Cell = drop z t.cells in
    let same = same-append (take z t.cells) (take z t.cells) (map (moved_cell tracks splits) (drop z t.cells)) (drop z t.cells) (same-items (take z t.cells)) (same-map (moved_cell tracks splits) (λ c. refl) (drop z t.cells)) in (
      same-length (take z t.cells ++ map (moved_cell tracks splits) (drop z t.cells)) (take z t.cells ++ drop z t.cells) same ∙ ap length (take-append-drop z t.cells),
      count-same (take z t.cells ++ map (moved_cell tracks splits) (drop z t.cells)) (take z t.cells ++ drop z t.cells) same ∙ ap (λ (cs : List Cell). length (items_of cs)) (take-append-drop z t.cells),
    )

pub long-same : (z : ℕ) (tracks : List TrackState) (splits : List Link) (ts : List TrackState) → too_long (map (split_track z tracks splits) ts) ≡ too_long ts
long-same z tracks splits [] = refl
long-same z tracks splits (t ∷ ts) =
    ap (λ (n : ℕ). cond (ltb MAX_FRAMES n) (Some (TooLong t.number)) (too_long (map (split_track z tracks splits) ts))) (track_sizes z tracks splits t).0
    ∙ ap (λ (o : Option Refusal). cond (ltb MAX_FRAMES (length t.cells)) (Some (TooLong t.number)) o) (long-same z tracks splits ts)

pub many-same : (z : ℕ) (tracks : List TrackState) (splits : List Link) (ts : List TrackState) → too_many (map (split_track z tracks splits) ts) ≡ too_many ts
many-same z tracks splits [] = refl
many-same z tracks splits (t ∷ ts) =
    ap (λ (n : ℕ). cond (ltb MAX_ITEMS n) (Some (TooManyItems t.number)) (too_many (map (split_track z tracks splits) ts))) (track_sizes z tracks splits t).1
    ∙ ap (λ (o : Option Refusal). cond (ltb MAX_ITEMS (length (items_of t.cells))) (Some (TooManyItems t.number)) o) (many-same z tracks splits ts)

-- numbers are those of the homes as they were before the shift

link_same : (s : Shift) (ts : List TrackState) (splits : List Link) (o : Option Link) → moved_link (all_moved s ts) splits o ≡ moved_link ts splits o
link_same s ts splits None = refl
link_same s ts splits (Some l) =
    ap (λ (n : ℕ). cond (list_any (same_link l) splits) (Some (record l { number = n + earlier_at_home splits l })) (Some l)) (next-moved l.home s ts)

cells_same : (s : Shift) (ts : List TrackState) (splits : List Link) (cs : List Cell) → map (moved_cell (all_moved s ts) splits) cs ≡ map (moved_cell ts splits) cs
cells_same s ts splits [] = refl
cells_same s ts splits (c ∷ cs) =
    ap (λ (o : Option Link). record c { link = o } ∷ map (moved_cell (all_moved s ts) splits) cs) (link_same s ts splits c.link)
    ∙ ap (λ (ds : List Cell). record c { link = moved_link ts splits c.link } ∷ ds) (cells_same s ts splits cs)

pub tracks-same : (s : Shift) (ts : List TrackState) (splits : List Link) (z : ℕ) (us : List TrackState) → map (split_track z (all_moved s ts) splits) us ≡ map (split_track z ts splits) us
tracks-same s ts splits z [] = refl
tracks-same s ts splits z (u ∷ us) =
    ap (λ (cs : List Cell). record u { cells = take z u.cells ++ cs; next_link = u.next_link + count_at_home splits u.number } ∷ map (split_track z (all_moved s ts) splits) us) (cells_same s ts splits (drop z u.cells))
    ∙ ap (λ (vs : List TrackState). split_track z ts splits u ∷ vs) (tracks-same s ts splits z us)

-- the split after a shift, item by item
abbrev pub EachUncut : Shift → List TrackState → Type 0
EachUncut s ts = All (λ (t : TrackState). IsKept (moved s t) → IsUncut (s.x + new_len s.new) (moved s t)) ts

all_mapped : (s : Shift) (P : TrackState → Type 0) (ts : List TrackState) → All (λ (t : TrackState). P (moved s t)) ts → All P (all_moved s ts)
all_mapped s P [] h = λ k d lt. absurd (omega (arith, lt))
all_mapped s P (t ∷ ts) h = by (all_mapped s P ts (λ k d lt. h (suc k) d (omega (arith, lt)))) where
  by : All P (all_moved s ts) → (k : ℕ) (d : TrackState) → k < length (all_moved s (t ∷ ts)) → P (get_or (all_moved s (t ∷ ts)) k d)
  by rest zero d lt = h 0 t (omega arith)
  by rest (suc k) d lt = rest k d (omega (arith, lt))

pub split-moved : (s : Shift) (ts : List TrackState) → s.x ≤ s.y → All (λ (t : TrackState). IsKept (moved s t)) ts → EachUncut s ts
    → links_split s.x (s.x + new_len s.new) (all_moved s ts) ≡ map (split_items ts (split_links s.x s.y ts) (s.x + new_len s.new)) (all_moved s ts)
split-moved s ts order kept uncut =
    ap (λ (ls : List Link). map (split_track (s.x + new_len s.new) (all_moved s ts) ls) (all_moved s ts)) (splits-moved s ts order)
    ∙ (tracks-same s ts (split_links s.x s.y ts) (s.x + new_len s.new) (all_moved s ts)
    ∙ sym (each-cells ts (split_links s.x s.y ts) (s.x + new_len s.new) (all_moved s ts) (all_mapped s (λ (t : TrackState). IsKept t) ts kept)
    (all_mapped s (λ (t : TrackState). IsUncut (s.x + new_len s.new) t) ts (λ k d lt. uncut k d lt (kept k d lt)))))

-- tracks within the limits are kept by what moves on them
abbrev pub KeptWithin : Shift → List TrackState → Type 0
KeptWithin s ts = too_long (all_moved s ts) ≡ None → too_many (all_moved s ts) ≡ None → All (λ (t : TrackState). IsKept (moved s t)) ts

pub within-kept : (s : Shift) (ts : List TrackState) → s.x ≤ s.y → All (IsShiftOf s) ts → KeptWithin s ts
within-kept s ts order fits long many k d lt = (fits k d lt).stays order (record { frames = short-all s ts long k d lt; items = few-all s ts many k d lt })

-- a shift as it is meant, cell by cell
pub shift-items : (s : Shift) (done : Done) (ts : List TrackState) → s.x ≤ s.y → KeptWithin s ts → EachUncut s ts
    → unless (linked_refusal s ts) (within_limits (cond (eqb (new_len s.new) (s.y - s.x)) (all_moved s ts) (links_split s.x (s.x + new_len s.new) (all_moved s ts))) done) ≡ linked_shift s (s.x + new_len s.new) done ts
shift-items s done ts order kept uncut = ap (unless (linked_refusal s ts)) (by (eqb (new_len s.new) (s.y - s.x))) where
  z : ℕ
  z = s.x + new_len s.new

  splits : List Link
  splits = split_links s.x s.y ts

  After : List TrackState
  After = links_split s.x (s.x + new_len s.new) (all_moved s ts)

  at : (a b : Option Refusal) → too_long (all_moved s ts) ≡ a → too_many (all_moved s ts) ≡ b
      → unless {A = List TrackState × Done} a (unless {A = List TrackState × Done} b (Ok (links_split s.x (s.x + new_len s.new) (all_moved s ts), done)))
      ≡ unless {A = List TrackState × Done} a (unless {A = List TrackState × Done} b (Ok (map (split_items ts (split_links s.x s.y ts) (s.x + new_len s.new)) (all_moved s ts), done)))
  at (Some r) b e f = refl
  at None (Some r) e f = refl
  at None None e f = ap (λ (us : List TrackState). Ok (us, done)) (split-moved s ts order (kept e f) uncut)

  by : (b : Bool) → within_limits (cond b (all_moved s ts) (links_split s.x (s.x + new_len s.new) (all_moved s ts))) done
      ≡ unless_over (all_moved s ts) (Ok (cond b (all_moved s ts) (map (split_items ts (split_links s.x s.y ts) (s.x + new_len s.new)) (all_moved s ts)), done))
  by true = refl
  by false =
      ap (λ (o : Option Refusal). unless {A = List TrackState × Done} o (unless {A = List TrackState × Done} (too_many (links_split s.x (s.x + new_len s.new) (all_moved s ts))) (Ok (links_split s.x (s.x + new_len s.new) (all_moved s ts), done))))
      (long-same (s.x + new_len s.new) (all_moved s ts) (split_links s.x (s.x + new_len s.new) (all_moved s ts)) (all_moved s ts))
      ∙ (ap (λ (o : Option Refusal). unless {A = List TrackState × Done} (too_long (all_moved s ts)) (unless {A = List TrackState × Done} o (Ok (links_split s.x (s.x + new_len s.new) (all_moved s ts), done))))
      (many-same (s.x + new_len s.new) (all_moved s ts) (split_links s.x (s.x + new_len s.new) (all_moved s ts)) (all_moved s ts))
      ∙ at (too_long (all_moved s ts)) (too_many (all_moved s ts)) refl refl)

-- what the code does: it is refused for the limits, or within them

over_refused : (us after : List TrackState) (done : Done) (why : Refusal) → over_limits us ≡ Some why → unless_over {A = List TrackState × Done} us (Ok (after, done)) ≡ Err why
over_refused us after done why = by (too_long us) (too_many us) where
  by : (a b : Option Refusal) → option_or a b ≡ Some why → unless {A = List TrackState × Done} a (unless {A = List TrackState × Done} b (Ok (after, done))) ≡ Err why
  by (Some r) b e = Prim.grind (arith, e)
  by None (Some r) e = Prim.grind (arith, e)
  by None None e = absurd (Prim.grind (arith, e))

pub linked-over : (s : Shift) (place : ℕ) (done : Done) (ts : List TrackState) (why : Refusal) → linked_refusal s ts ≡ None → over_limits (all_moved s ts) ≡ Some why → linked_shift s place done ts ≡ Err why
linked-over s place done ts why none over =
    ap (λ (o : Option Refusal). unless {A = List TrackState × Done} o (unless_over (all_moved s ts) (Ok (linked_after s place ts, done)))) none
    ∙ over_refused (all_moved s ts) (linked_after s place ts) done why over

pub linked-within : (s : Shift) (place : ℕ) (done : Done) (ts : List TrackState) → linked_refusal s ts ≡ None → over_limits (all_moved s ts) ≡ None → linked_shift s place done ts ≡ Ok (linked_after s place ts, done)
linked-within s place done ts none within =
    let keep = none-over (all_moved s ts) within in
    ap (λ (o : Option Refusal). unless {A = List TrackState × Done} o (unless_over (all_moved s ts) (Ok (linked_after s place ts, done)))) none
    ∙ (ap (λ (o : Option Refusal). unless {A = List TrackState × Done} o (unless {A = List TrackState × Done} (too_many (all_moved s ts)) (Ok (linked_after s place ts, done)))) keep.0
    ∙ ap (λ (o : Option Refusal). unless {A = List TrackState × Done} o (Ok (linked_after s place ts, done))) keep.1)

pub after-code : (s : Shift) (place : ℕ) (ts : List TrackState) (p : Splits) → eqb (new_len s.new) (s.y - s.x) ≡ false → AreSplits ts (split_links s.x s.y ts) p
    → map (relinked_track p place) (all_moved s ts) ≡ linked_after s place ts
after-code s place ts p e a =
    relinked-each ts (split_links s.x s.y ts) p place (all_moved s ts) a
    ∙ sym (ap (λ (b : Bool). cond b (all_moved s ts) (map (split_items ts (split_links s.x s.y ts) place) (all_moved s ts))) e)

pub moving-refusal : (s : Shift) (ts : List TrackState) (r : Option Refusal) → eqb (new_len s.new) (s.y - s.x) ≡ false → r ≡ link_outside ts (cells_from s.y ts) → linked_refusal s ts ≡ r
moving-refusal s ts r e f = ap (λ (b : Bool). cond b None (link_outside ts (cells_from s.y ts))) e ∙ sym f

numbers-fit : (s : Shift) (ts : List TrackState) (p : Splits) → All (λ (t : TrackState). t.next_link ≤ 2 ^ 31) ts → HasFew p
    → All (λ (t : TrackState). t.next_link + unwrap_or (get nat_cmp p.counts t.number) 0 < 2 ^ 32) (all_moved s ts)
numbers-fit s ts p next few = all_mapped s (λ (t : TrackState). t.next_link + unwrap_or (get nat_cmp p.counts t.number) 0 < 2 ^ 32) ts (λ k d lt. omega (arith, next k d lt, few (get_or ts k d).number))

-- what is known where the code goes on
pub not-refused : (s : Shift) (ts looked : List TrackState) (r : Option Refusal) → eqb (new_len s.new) (s.y - s.x) ≡ false → r ≡ link_outside looked (cells_from s.y looked) → looked ≡ ts → r ≡ None → linked_refusal s ts ≡ None
not-refused s ts looked r moves is same none =
    moving-refusal s ts None moves (sym none ∙ subst (λ (us : List TrackState). r ≡ link_outside us (cells_from s.y us)) same is)

pub over-is : (s : Shift) (ts looked : List TrackState) (r : Option Refusal) → looked ≡ ts → r ≡ over_limits (all_moved s looked) → over_limits (all_moved s ts) ≡ r
over-is s ts looked r same is = sym (subst (λ (us : List TrackState). r ≡ over_limits (all_moved s us)) same is)

-- a shift that was done, and the links of what was moved
pub linked-done : (s : Shift) (place : ℕ) (done : Done) (ts new after : List TrackState) (p : Splits) → eqb (new_len s.new) (s.y - s.x) ≡ false → linked_refusal s ts ≡ None → over_limits (all_moved s ts) ≡ None → AreSplits ts (split_links s.x s.y ts) p
    → new ≡ all_moved s ts → after ≡ map (relinked_track p place) new → linked_shift s place done ts ≡ Ok (after, done)
linked-done s place done ts new after p moves none within a h e =
    linked-within s place done ts none within
    ∙ ap (λ (us : List TrackState). Ok (us, done)) (sym (e ∙ (ap (map (relinked_track p place)) h ∙ after-code s place ts p moves a)))

pub sizes-done : (s : Shift) (ts new : List TrackState) → s.x ≤ s.y → new ≡ all_moved s ts → sizes_of new ≤ 2 * sizes_of ts
sizes-done s ts new order h = subst (λ (us : List TrackState). sizes_of us ≤ 2 * sizes_of ts) (sym h) (sizes-moved s ts order)

pub next-fits : (s : Shift) (ts new : List TrackState) (p : Splits) → All (λ (t : TrackState). t.next_link ≤ 2 ^ 31) ts → HasFew p → new ≡ all_moved s ts
    → All (λ (t : TrackState). t.next_link + unwrap_or (get nat_cmp p.counts t.number) 0 < 2 ^ 32) new
next-fits s ts new p next few h =
    subst (λ (us : List TrackState). All (λ (t : TrackState). t.next_link + unwrap_or (get nat_cmp p.counts t.number) 0 < 2 ^ 32) us) (sym h) (numbers-fit s ts p next few)
