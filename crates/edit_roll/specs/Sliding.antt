-- What a slide means, as OpenTimelineIO's editAlgorithm names it; its limits are this project's own. The item moves, with
-- what it shows, over frames of the neighbour that it comes near, and the neighbour that it leaves grows. Where something
-- else has its link the item must stay, since the two would no longer have one offset.
use Rattle.std.specs.Prelude.{◌≡◌, ℕ, zero, suc, ◌+◌, ◌-◌, ℤ, pos, negsuc, ◌+ℤ◌, Bool, ◌&&◌, List, [], ◌∷◌, Option, Some, None, Result, if◌then◌else◌, false}
use Rattle.frame_meaning.specs.declared.cells.Cell.{Cell}
use Rattle.frame_meaning.specs.declared.cells.Link.{Link}
use Rattle.frame_meaning.specs.Render.{cell_at}
use Rattle.composables.specs.declared.calls.Slide.{Slide}
use Rattle.composables.specs.declared.items.ItemView.{ItemView}
use Rattle.composables.specs.declared.media.Table.{Table}
use Rattle.composables.specs.declared.refusals.Done.{Done}
use Rattle.composables.specs.declared.refusals.Refusal.{Refusal}
use Rattle.composables.specs.declared.refusals.Refusal.TheVariants.{LinkBroken}
use Rattle.composables.specs.Answers.{Applied, unless}
use Rattle.composables.specs.Links.{outside_refusal}
use Rattle.composables.specs.OwnTracks.{among_named, for_own}
use Rattle.composables.specs.Ranges.{on_range, offset_of, range_of}
use Rattle.composables.specs.TrackState.{TrackState}
use Rattle.edit_delta.specs.Nearest.{by_sign, nearest}
use Rattle.edit_delta.specs.Reaching.{going_on, reaching_back}
use Rattle.edit_delta.specs.declared.deltas.Way.{Way}
use Rattle.edit_delta.specs.Using.{IsWayOf, used_on}
use Rattle.edit_splice.specs.Splicing.{spliced_track}
use Rattle.link_groups.specs.ItemLinks.{carried_outside}
use Rattle.link_groups.specs.LinkedItems.{item_of}
use Rattle.link_groups.specs.Linking.{or_else, shown_offset}
use Rattle.edit_roll.specs.Neighbours.{has_neighbours, may_move_earlier, may_move_later}

-- the deltas that are allowed for the item on [x, y): only 0 where it has no neighbour at one side
abbrev pub slide_allows : Table → TrackState → ℕ → ℕ → ℤ → Bool
slide_allows table t x y =
    by_sign (λ n. has_neighbours t.cells x y && may_move_later table t x y n) (λ n. has_neighbours t.cells x y && may_move_earlier table t x y n)

-- the item that begins with this cell and has len frames, without the dissolve at its head
abbrev pub bare_item : Cell → ℕ → ItemView
bare_item c len = record { item = c.item; first = c.side; len = len; mark = None; link = c.link }

abbrev pub bare_view : ItemView → ItemView
bare_view v = record v { mark = None }

-- the track with the item on [x, y) n frames later: what stands before it goes on, and then comes the item
abbrev pub slid_later : TrackState → ℕ → ℕ → ℕ → TrackState
slid_later t x y n =
    spliced_track false t x (y + n) (going_on (cell_at t.cells (x - 1)) n ∷ bare_item (cell_at t.cells x) (y - x) ∷ [])

-- n frames earlier: the item, and then what stands behind it reaches back
abbrev pub slid_earlier : TrackState → ℕ → ℕ → ℕ → TrackState
slid_earlier t x y n =
    spliced_track false t (x - n) y (bare_item (cell_at t.cells x) (y - x) ∷ reaching_back (cell_at t.cells y) n ∷ [])

abbrev pub slid : TrackState → ℕ → ℕ → ℤ → TrackState
slid t x y = by_sign (slid_later t x y) (slid_earlier t x y)

-- the item on [x, y) moved by the delta that is used of the one asked for
abbrev pub slide_range : Table → TrackState → ℤ → ℕ → ℕ → Result (TrackState × Done) Refusal
slide_range table t by x y = used_on t (slid t x y) (nearest (slide_allows table t x y) by)

abbrev pub slide_track : Table → Slide → TrackState → Result (TrackState × Done) Refusal
slide_track table c t = on_range (slide_range table t c.by) (range_of t.cells c.item)

-- an item with this offset that is moved, away from what else has its link: its offset before and after
abbrev pub broken_by : Link → ℤ → ℤ → Option Refusal
broken_by l offset (pos zero) = None
broken_by l offset (pos (suc n)) = Some (LinkBroken l.home l.number offset (offset +ℤ pos (suc n)))
broken_by l offset (negsuc n) = Some (LinkBroken l.home l.number offset (offset +ℤ negsuc n))

-- the item v that begins at x on the own track t is moved by the delta used, and a cell outside it has its link
abbrev pub link_broken : Table → List TrackState → Slide → TrackState → ℕ → ItemView → Option Link → Option Refusal
link_broken table named c t x v None = None
link_broken table named c t x v (Some l) =
    if carried_outside l c.track c.item named
    then broken_by l (shown_offset (offset_of v.first x)) (nearest (slide_allows table t x (x + v.len)) c.by)
    else None

-- why the item's link does not allow the slide: it has a track that is not named, or it would be broken
abbrev pub links_refuse : Table → List TrackState → Slide → TrackState → Option (ℕ × ItemView) → Option Refusal
links_refuse table named c t None = None
links_refuse table named c t (Some (x, v)) = or_else (outside_refusal named v.link) (link_broken table named c t x v v.link)

abbrev pub slide_own : Table → List TrackState → Slide → TrackState → Applied
slide_own table named c t = unless (links_refuse table named c t (item_of t c.item)) (among_named named (slide_track table c t))

abbrev pub slide_named : Table → List TrackState → Slide → Applied
slide_named table named c = for_own c.track (slide_own table named c) named

-- the same refusal, or none, where the delta has this way
abbrev pub IsBrokenBy : Link → ℤ → Way → Option Refusal → Type 0
IsBrokenBy l offset way refusal = (d : ℤ) → IsWayOf d way → refusal ≡ broken_by l offset d
