-- What a slip means, as OpenTimelineIO's editAlgorithm names it; its limits are this project's own. The item stays where
-- it is and shows other source frames of its thing, and so does, by the same delta, all that has its link. Dissolves stay.
use Rattle.std.specs.Prelude.{◌≡◌, ℕ, ◌+◌, ◌-◌, ℤ, Bool, true, ◌&&◌, List, [], ◌∷◌, ◌++◌, Option, Some, None, Result, Ok, map, take, drop, if◌then◌else◌}
use Rattle.frame_meaning.specs.declared.cells.Cell.{Cell}
use Rattle.frame_meaning.specs.declared.cells.Link.{Link}
use Rattle.frame_meaning.specs.declared.cells.Mark.{Mark}
use Rattle.frame_meaning.specs.declared.cells.What.{What}
use Rattle.frame_meaning.specs.declared.frames.Side.{Side}
use Rattle.frame_meaning.specs.declared.frames.Side.TheVariants.{Dark, Pic}
use Rattle.frame_meaning.specs.Cells.{later_side}
use Rattle.frame_meaning.specs.Render.{cell_at, moved}
use Rattle.composables.specs.declared.calls.Slip.{Slip}
use Rattle.composables.specs.declared.items.ItemView.{ItemView}
use Rattle.composables.specs.declared.media.Table.{Table}
use Rattle.composables.specs.declared.refusals.Done.{Done}
use Rattle.composables.specs.declared.refusals.Done.TheVariants.{By}
use Rattle.composables.specs.declared.refusals.Refusal.{Refusal}
use Rattle.composables.specs.Answers.{Applied, unless}
use Rattle.composables.specs.Items.{items_of}
use Rattle.composables.specs.Links.{outside_refusal}
use Rattle.composables.specs.OwnTracks.{among_named, for_own}
use Rattle.composables.specs.Ranges.{on_range, range_of}
use Rattle.composables.specs.TrackFacts.{first_mark, left_reach, right_reach}
use Rattle.composables.specs.TrackState.{TrackState}
use Rattle.edit_delta.specs.Nearest.{by_sign, nearest}
use Rattle.edit_delta.specs.Reaching.{has_after, has_before}
use Rattle.edit_delta.specs.Using.{used_on}
use Rattle.link_groups.specs.ItemLinks.{carries, link_of}

-- n source frames later, and n earlier: with what the dissolves at the item's ends show past it, its source frames stay
-- in the thing's range
abbrev pub may_slip_later : Table → Side What → Option Mark → ℕ → Bool
may_slip_later table last tail n = has_after table last (right_reach tail + n)

abbrev pub may_slip_earlier : Table → Side What → Option Mark → ℕ → Bool
may_slip_earlier table first head n = has_before table first (left_reach head + n)

-- the deltas that are allowed for the item on [x, y)
abbrev pub slip_allows : Table → TrackState → ℕ → ℕ → ℤ → Bool
slip_allows table t x y =
    by_sign (may_slip_later table (cell_at t.cells (y - 1)).side (cell_at t.cells y).mark) (may_slip_earlier table (cell_at t.cells x).side (cell_at t.cells x).mark)

-- a cell that shows its source so many frames on, and back
abbrev pub cell_moved : ℕ → ℕ → Cell → Cell
cell_moved on back c = record c { side = moved c.side on back }

-- the cells of which those on [x, y) are changed
abbrev pub changed_on : ℕ → ℕ → (Cell → Cell) → List Cell → List Cell
changed_on x y change cells = (take x cells ++ map change (drop x (take y cells))) ++ drop y cells

-- the track with the source frames of the item on [x, y) so many frames on, and back
abbrev pub slipped_by : TrackState → ℕ → ℕ → ℕ → ℕ → TrackState
slipped_by t x y on back = record t { cells = changed_on x y (cell_moved on back) t.cells }

abbrev pub slipped : TrackState → ℕ → ℕ → ℤ → TrackState
slipped t x y = by_sign (λ n. slipped_by t x y n 0) (λ n. slipped_by t x y 0 n)

-- the item on [x, y) moved in its source by the delta that is used of the one asked for
abbrev pub slip_range : Table → TrackState → ℤ → ℕ → ℕ → Result (TrackState × Done) Refusal
slip_range table t by x y = used_on t (slipped t x y) (nearest (slip_allows table t x y) by)

abbrev pub slip_track : Table → Slip → TrackState → Result (TrackState × Done) Refusal
slip_track table c t = on_range (slip_range table t c.by) (range_of t.cells c.item)

-- this holds of each item with a link among items and gaps, with the dissolve at its tail, if one is there
abbrev pub each_linked : Link → (ItemView → Option Mark → Bool) → List ItemView → Bool
each_linked l holds [] = true
each_linked l holds (v ∷ vs) = (if carries l v.link then holds v (first_mark vs) else true) && each_linked l holds vs

-- and of each on these tracks
abbrev pub each_linked_on : Link → (ItemView → Option Mark → Bool) → List TrackState → Bool
each_linked_on l holds [] = true
each_linked_on l holds (t ∷ ts) = each_linked l holds (items_of t.cells) && each_linked_on l holds ts

-- an item may show its thing n source frames later, and n earlier
abbrev pub item_may_slip_later : Table → ℕ → ItemView → Option Mark → Bool
item_may_slip_later table n v tail = may_slip_later table (later_side v.first (v.len - 1)) tail n

abbrev pub item_may_slip_earlier : Table → ℕ → ItemView → Option Mark → Bool
item_may_slip_earlier table n v tail = may_slip_earlier table v.first v.mark n

-- the deltas that are allowed for a link: those that suit each item on the named tracks that has it
abbrev pub link_allows : Table → List TrackState → Link → ℤ → Bool
link_allows table named l =
    by_sign (λ n. each_linked_on l (item_may_slip_later table n) named) (λ n. each_linked_on l (item_may_slip_earlier table n) named)

-- the tracks with all cells that have the link so many source frames on, and back; by 0 they are as they were
abbrev pub linked_moved : Link → ℕ → ℕ → Cell → Cell
linked_moved l on back c = if carries l c.link then cell_moved on back c else c

abbrev pub track_moved : Link → ℕ → ℕ → TrackState → TrackState
track_moved l on back t = record t { cells = map (linked_moved l on back) t.cells }

abbrev pub link_slipped : Link → List TrackState → ℤ → List TrackState
link_slipped l named = by_sign (λ n. map (track_moved l n 0) named) (λ n. map (track_moved l 0 n) named)

-- all that has the link moved in its source by the one delta that is used of the one asked for
abbrev pub slip_link_by : Link → List TrackState → ℤ → Applied
slip_link_by l named d = Ok (link_slipped l named d, By d)

abbrev pub slip_link : Table → List TrackState → Link → ℤ → Applied
slip_link table named l by = slip_link_by l named (nearest (link_allows table named l) by)

-- the same, where all tracks of the link are named
abbrev pub slip_linked : Table → List TrackState → Link → ℤ → Applied
slip_linked table named l by = unless (outside_refusal named (Some l)) (slip_link table named l by)

-- an item without a link alone; one with a link with all that has it
abbrev pub slip_with : Table → List TrackState → Slip → TrackState → Option Link → Applied
slip_with table named c t None = among_named named (slip_track table c t)
slip_with table named c t (Some l) = slip_linked table named l c.by

abbrev pub slip_own : Table → List TrackState → Slip → TrackState → Applied
slip_own table named c t = slip_with table named c t (link_of t c.item)

abbrev pub slip_named : Table → List TrackState → Slip → Applied
slip_named table named c = for_own c.track (slip_own table named c) named

-- the dissolve before an item or gap, if it is there
abbrev pub mark_of : Option ItemView → Option Mark
mark_of None = None
mark_of (Some v) = v.mark

-- a side shows the source frames of its thing from this one on
abbrev pub shows_from : Side What → ℕ → Type 0
shows_from Dark source = ⊥
shows_from (Pic what from) source = from ≡ source
