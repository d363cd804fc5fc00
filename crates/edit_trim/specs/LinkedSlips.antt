-- How far all that has a link may show other source frames, and the tracks on which it does.
use Rattle.std.specs.Prelude.{◌≡◌, ◌≤◌, ℕ, Bool, true, List, [], ◌∷◌, Option}
use Rattle.frame_meaning.specs.declared.cells.Link.{Link}
use Rattle.frame_meaning.specs.declared.cells.Mark.{Mark}
use Rattle.frame_meaning.specs.declared.cells.What.{What}
use Rattle.frame_meaning.specs.declared.frames.Side.{Side}
use Rattle.frame_meaning.specs.declared.frames.Side.TheVariants.{Dark, Pic}
use Rattle.frame_meaning.specs.Render.{moved}
use Rattle.composables.specs.declared.items.ItemView.{ItemView}
use Rattle.composables.specs.declared.media.Table.{Table}
use Rattle.composables.specs.Good.{SideLiesIn}
use Rattle.composables.specs.Items.{items_of}
use Rattle.composables.specs.TrackFacts.{HasSource, first_mark, left_reach, right_reach}
use Rattle.composables.specs.TrackState.{TrackState}
use Rattle.edit_delta.specs.declared.deltas.Way.{Way}
use Rattle.edit_delta.specs.declared.deltas.Way.TheVariants.{Still, Later, Earlier}
use Rattle.edit_delta.specs.Nearest.{AreUpTo}
use Rattle.edit_trim.specs.declared.linked_slips.SlipRoom.{SlipRoom}
use Rattle.edit_trim.specs.Slipping.{each_linked, each_linked_on, item_may_slip_earlier, item_may_slip_later, track_moved}
use Rattle.link_groups.specs.ItemLinks.{carries}

-- the frames of a delta by its way: so many source frames on, or back
abbrev pub on_of : Way → ℕ
on_of Still = 0
on_of (Later n) = n
on_of (Earlier n) = 0

abbrev pub back_of : Way → ℕ
back_of Still = 0
back_of (Later n) = 0
back_of (Earlier n) = n

-- a side has source frames that far back
abbrev pub ReachesBack : Side What → ℕ → Type 0
ReachesBack Dark back = Unit {0}
ReachesBack (Pic what source) back = back ≤ source

-- so many frames on, and back, an item shows frames of its thing, which are numbers of the program, with what the
-- dissolves at its ends show past it
pub record ShowsMoved (table : Table) (v : ItemView) (tail : Option Mark) (on back : ℕ) : Type 0 where
  pub reaches : ReachesBack v.first back
  pub source : HasSource (moved v.first on back) v.len (left_reach v.mark) (right_reach tail)
  pub lies : SideLiesIn table (moved v.first on back) v.len (left_reach v.mark) (right_reach tail)

-- each item with the link of these does
abbrev pub EachMoves : Table → Link → List ItemView → ℕ → ℕ → Type 0
EachMoves table l [] on back = Unit {0}
EachMoves table l (v ∷ vs) on back = (carries l v.link ≡ true → ShowsMoved table v (first_mark vs) on back) × EachMoves table l vs on back

-- and each on these tracks
abbrev pub AllMove : Table → Link → List TrackState → ℕ → ℕ → Type 0
AllMove table l [] on back = Unit {0}
AllMove table l (t ∷ ts) on back = EachMoves table l (items_of t.cells) on back × AllMove table l ts on back

-- these are the most frames later, and earlier, that are allowed; and by as many what moves shows frames of its thing
pub record IsRoom (suits_later suits_earlier : ℕ → Bool) (Moves : ℕ → ℕ → Type 0) (r : SlipRoom) : Type 0 where
  pub later : AreUpTo suits_later r.later
  pub earlier : AreUpTo suits_earlier r.earlier
  pub on : (n : ℕ) → n ≤ r.later → Moves n 0
  pub back : (n : ℕ) → n ≤ r.earlier → Moves 0 n

abbrev pub RoomOf : Table → ItemView → Option Mark → SlipRoom → Type 0
RoomOf table v tail r =
    IsRoom (λ n. item_may_slip_later table n v tail) (λ n. item_may_slip_earlier table n v tail) (ShowsMoved table v tail) r

abbrev pub RoomOn : Table → Link → List ItemView → SlipRoom → Type 0
RoomOn table l vs r =
    IsRoom (λ n. each_linked l (item_may_slip_later table n) vs) (λ n. each_linked l (item_may_slip_earlier table n) vs) (EachMoves table l vs) r

abbrev pub RoomAmong : Table → Link → List TrackState → SlipRoom → Type 0
RoomAmong table l ts r =
    IsRoom (λ n. each_linked_on l (item_may_slip_later table n) ts) (λ n. each_linked_on l (item_may_slip_earlier table n) ts) (AllMove table l ts) r

-- the tracks with all that has the link moved by a delta of this way
abbrev pub moved_by : Link → Way → TrackState → TrackState
moved_by l way = track_moved l (on_of way) (back_of way)
