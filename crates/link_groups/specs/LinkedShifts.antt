-- What a shift leaves where what it moves has links: the moved items of a link that also has others get a new one.
use Rattle.std.specs.Prelude.{ℕ, ◌+◌, ◌-◌, List, [], ◌∷◌, Option, None, Ok, map, nat_eq, nat_lt, if◌then◌else◌}
use Rattle.frame_meaning.specs.declared.cells.Link.{Link}
use Rattle.composables.specs.declared.items.ItemView.{ItemView}
use Rattle.composables.specs.declared.refusals.Done.{Done}
use Rattle.composables.specs.declared.refusals.Refusal.{Refusal}
use Rattle.composables.specs.Answers.{Applied, unless}
use Rattle.composables.specs.Changes.{with_link}
use Rattle.composables.specs.Items.{cells_of, items_of}
use Rattle.composables.specs.Limits.{unless_over}
use Rattle.composables.specs.Links.{cells_from, count_at_home, link_outside, moved_link, split_links}
use Rattle.composables.specs.TrackState.{TrackState}
use Rattle.edit_splice.specs.declared.shifting.Shift.{Shift}
use Rattle.edit_splice.specs.Moves.{all_moved}
use Rattle.edit_splice.specs.Padding.{new_len}

-- items and gaps, of which those that end past a place get the links of what is moved, where these are split
abbrev pub moved_view : List TrackState → List Link → ℕ → ItemView → ItemView
moved_view tracks splits place v = if nat_lt place v.len then with_link (moved_link tracks splits v.link) v else v

abbrev pub moved_views : List TrackState → List Link → ℕ → List ItemView → List ItemView
moved_views tracks splits place [] = []
moved_views tracks splits place (v ∷ vs) = moved_view tracks splits place v ∷ moved_views tracks splits (place - v.len) vs

abbrev pub split_items : List TrackState → List Link → ℕ → TrackState → TrackState
split_items tracks splits place t = record t {
  cells = cells_of (moved_views tracks splits place (items_of t.cells));
  next_link = t.next_link + count_at_home splits t.number;
}

-- the refusal of a shift for the links of what it moves, if it moves
abbrev pub linked_refusal : Shift → List TrackState → Option Refusal
linked_refusal s named = if nat_eq (new_len s.new) (s.y - s.x) then None else link_outside named (cells_from s.y named)

-- the tracks after it: where it moves, what ends past a place gets its new links
abbrev pub linked_after : Shift → ℕ → List TrackState → List TrackState
linked_after s place named =
    if nat_eq (new_len s.new) (s.y - s.x)
    then all_moved s named
    else map (split_items named (split_links s.x s.y named) place) (all_moved s named)

-- what a shift means, item by item, where what ends past a place is moved
abbrev pub linked_shift : Shift → ℕ → Done → List TrackState → Applied
linked_shift s place done named = unless (linked_refusal s named) (unless_over (all_moved s named) (Ok (linked_after s place named, done)))
