-- The items and gaps at the two ends of a range of a track, and what is put in their place.
use Rattle.std.specs.Prelude.{◌≡◌, ℕ, ◌+◌, ◌-◌, ◌<◌, ◌≤◌, Bool, ◌&&◌, List, [], ◌∷◌, ◌++◌, Option, Some, None, min, take, length, nat_le, nat_lt, slice_get, if◌then◌else◌}
use Rattle.frame_meaning.specs.declared.cells.Mark.{Mark}
use Rattle.frame_meaning.specs.declared.cells.Cell.{Cell}
use Rattle.frame_meaning.specs.Cells.{same_number}
use Rattle.composables.specs.declared.items.ItemView.{ItemView}
use Rattle.composables.specs.Items.{items_of}
use Rattle.composables.specs.Joined.{frames_in}
use Rattle.composables.specs.TrackFacts.{HasSource}
use Rattle.composables.specs.Views.{later_view}
use Rattle.edit_splice.specs.declared.seams.ItemAt.{ItemAt}
use Rattle.edit_splice.specs.declared.seams.Seams.{Seams}

-- an item or gap stands where it says, and holds the place at
pub record Stands (items : List ItemView) (at : ℕ) (h : ItemAt) : Type 0 where
  pub read : slice_get items h.index ≡ Some h.view
  pub from : h.from ≡ frames_in (take h.index items)
  pub begins : h.from ≤ at
  pub ends : at < h.from + h.view.len

-- it holds the last place before x, or there is none
abbrev pub EndsAt : List Cell → ℕ → Option ItemAt → Type 0
EndsAt cells x None = x ≡ 0
EndsAt cells x (Some h) = (0 < x) × Stands (items_of cells) (x - 1) h

-- it holds the place y, or there is none
abbrev pub StandsFrom : List Cell → ℕ → Option ItemAt → Type 0
StandsFrom cells y None = length cells ≤ y
StandsFrom cells y (Some h) = Stands (items_of cells) y h

-- the item or gap after it
abbrev pub view_after : List ItemView → Option ItemAt → Option ItemView
view_after items None = None
view_after items (Some h) = slice_get items (h.index + 1)

-- what stands at the ends of the range [x, y)
pub record AreSeams (cells : List Cell) (x y : ℕ) (s : Seams) : Type 0 where
  pub left : EndsAt cells x s.left
  pub right : StandsFrom cells y s.right
  pub after : s.after ≡ view_after (items_of cells) s.right

-- it begins by x
abbrev pub begins_by : ℕ → Option ItemAt → Type 0
begins_by x None = Unit {0}
begins_by x (Some h) = h.from ≤ x

-- it holds y, and its source frames are numbers of the program
abbrev pub reaches_past : ℕ → Option ItemAt → Type 0
reaches_past y None = Unit {0}
reaches_past y (Some h) = (h.from ≤ y) × (y - h.from < h.view.len) × HasSource h.view.first h.view.len 0 0

-- the number of the item that stands on both sides, if one item does
abbrev pub split_between : Option ItemAt → Option ItemAt → Option ℕ
split_between None right = None
split_between (Some h) None = None
split_between (Some h) (Some k) = if same_number h.view.item k.view.item then k.view.item else None

-- a dissolve whose cut stands n frames before a range survives where its frames after the cut are no more; where
-- dissolves are kept it is made no longer
abbrev pub kept_before : Bool → ℕ → Option Mark → Option Mark
kept_before keep n None = None
kept_before keep n (Some m) =
    if keep then Some (record m { b = min m.b n }) else (if nat_le m.b n then Some m else None)

-- one whose cut stands n frames behind a range survives where its frames before the cut are no more, and n is not 0
abbrev pub kept_behind : Bool → ℕ → Option Mark → Option Mark
kept_behind keep n None = None
kept_behind keep n (Some m) =
    if keep
    then (if nat_lt 0 n then Some (record m { a = min m.a n }) else None)
    else (if nat_lt 0 n && nat_le m.a n then Some m else None)

-- the first n frames of an item or gap, with its dissolve as far as that is kept
abbrev pub front_view : Bool → ItemView → ℕ → ItemView
front_view keep v n = record v { len = n; mark = kept_before keep n v.mark }

abbrev pub front_views : Bool → Option ItemAt → ℕ → List ItemView
front_views keep None x = []
front_views keep (Some h) x = front_view keep h.view (x - h.from) ∷ []

-- an item with a fresh number, if it is the one that is split
abbrev pub renumbered_view : Option ℕ → ℕ → ItemView → ItemView
renumbered_view None fresh v = v
renumbered_view (Some i) fresh v = if same_number v.item (Some i) then record v { item = Some fresh } else v

abbrev pub back_views : Option ItemAt → ℕ → Option ℕ → ℕ → List ItemView
back_views None y split fresh = []
back_views (Some h) y split fresh = renumbered_view split fresh (later_view h.view (y - h.from)) ∷ []

-- an item or gap that begins n frames behind the range, with its dissolve as far as that is kept
abbrev pub after_view : Bool → ℕ → ItemView → ItemView
after_view keep n v = record v { mark = kept_behind keep n v.mark }

abbrev pub after_views : Bool → Option ItemAt → Option ItemView → ℕ → List ItemView
after_views keep None after y = []
after_views keep (Some h) None y = []
after_views keep (Some h) (Some v) y = after_view keep (h.view.len - (y - h.from)) v ∷ []

-- what is put in place of the items and gaps at the ends of the range [x, y), with these between
abbrev pub parts_between : Bool → Seams → ℕ → ℕ → List ItemView → ℕ → List ItemView
parts_between keep s x y views fresh =
    (front_views keep s.left x ++ views) ++ (back_views s.right y (split_between s.left s.right) fresh ++ after_views keep s.right s.after y)

-- the index of the first item or gap that is replaced, and the index behind the last, of this many
abbrev pub first_index : Option ItemAt → ℕ
first_index None = 0
first_index (Some h) = h.index

abbrev pub end_at : Option ItemAt → Option ItemView → ℕ → ℕ
end_at None after count = count
end_at (Some h) None count = h.index + 1
end_at (Some h) (Some v) count = h.index + 2

abbrev pub end_index : Seams → ℕ → ℕ
end_index s count = end_at s.right s.after count
