-- Links of cells that are moved: each must have all of its tracks among the named, and is split where it has cells
-- that stay.
use Rattle.std.specs.Prelude.{ℕ, ◌+◌, Bool, ◌&&◌, ◌||◌, List, [], ◌∷◌, ◌++◌, Option, Some, None, is_some, map, take, drop, filter, length, nat_eq, nat_lt, if◌then◌else◌}
use Rattle.std.specs.List.{flat_map, list_any}
use Rattle.frame_meaning.specs.declared.cells.Cell.{Cell}
use Rattle.frame_meaning.specs.declared.cells.Link.{Link}
use Rattle.composables.specs.declared.refusals.Refusal.{Refusal}
use Rattle.composables.specs.declared.refusals.Refusal.TheVariants.{LinkOutside}
use Rattle.composables.specs.TrackState.{TrackState}
use Rattle.composables.specs.TrackSets.{tracks_in}

-- links are told apart, and ordered, by home and then number
abbrev pub same_link : Link → Link → Bool
same_link k l = nat_eq k.home l.home && nat_eq k.number l.number

abbrev pub link_before : Link → Link → Bool
link_before k l = nat_lt k.home l.home || (nat_eq k.home l.home && nat_lt k.number l.number)

-- these links and this one, in order and each once
abbrev pub links_with : Link → List Link → List Link
links_with l [] = l ∷ []
links_with l (k ∷ ks) = if same_link l k then k ∷ ks else (if link_before l k then l ∷ k ∷ ks else k ∷ links_with l ks)

abbrev pub links_with_any : Option Link → List Link → List Link
links_with_any None ls = ls
links_with_any (Some l) ls = links_with l ls

-- the links of cells, in order and each once
abbrev pub links_in : List Cell → List Link
links_in [] = []
links_in (c ∷ cs) = links_with_any c.link (links_in cs)

-- the cells of these tracks from a place on, and before a place
abbrev pub cells_from : ℕ → List TrackState → List Cell
cells_from place tracks = flat_map (λ (t : TrackState). drop place t.cells) tracks

abbrev pub cells_before : ℕ → List TrackState → List Cell
cells_before place tracks = flat_map (λ (t : TrackState). take place t.cells) tracks

abbrev pub is_named : List TrackState → ℕ → Bool
is_named named n = list_any (λ (t : TrackState). nat_eq t.number n) named

-- the first track of these that is not named
abbrev pub first_unnamed : List TrackState → List ℕ → Option ℕ
first_unnamed named [] = None
first_unnamed named (n ∷ ns) = if is_named named n then first_unnamed named ns else Some n

-- a link that has a track which is not named
abbrev pub outside : List TrackState → Option Link → Option Link
outside named None = None
outside named (Some l) = if is_some (first_unnamed named (tracks_in l.tracks)) then Some l else None

-- the least of two links that may be there, and of equal ones the first
abbrev pub least_link : Option Link → Option Link → Option Link
least_link None m = m
least_link (Some l) None = Some l
least_link (Some l) (Some m) = if link_before m l then Some m else Some l

-- the least link of these cells that has a track which is not named
abbrev pub least_outside : List TrackState → List Cell → Option Link
least_outside named [] = None
least_outside named (c ∷ cs) = least_link (outside named c.link) (least_outside named cs)

abbrev pub outside_at : Link → Option ℕ → Option Refusal
outside_at l None = None
outside_at l (Some n) = Some (LinkOutside l.home l.number n)

-- the refusal of its first such track
abbrev pub outside_refusal : List TrackState → Option Link → Option Refusal
outside_refusal named None = None
outside_refusal named (Some l) = outside_at l (first_unnamed named (tracks_in l.tracks))

-- the least of the links of these cells that has a track which is not named, and its first such track
abbrev pub link_outside : List TrackState → List Cell → Option Refusal
link_outside named cells = outside_refusal named (least_outside named cells)

-- the links that have cells both before x and from z on
abbrev pub split_links : ℕ → ℕ → List TrackState → List Link
split_links x z tracks = filter (λ (l : Link). list_any (same_link l) (links_in (cells_before x tracks))) (links_in (cells_from z tracks))

-- the next link number of the track with this number
abbrev pub next_link_at : ℕ → List TrackState → ℕ
next_link_at home [] = 0
next_link_at home (t ∷ ts) = if nat_eq t.number home then t.next_link else next_link_at home ts

-- how many of these links have the home of this one and a smaller number
abbrev pub earlier_at_home : List Link → Link → ℕ
earlier_at_home links l = length (filter (λ (k : Link). nat_eq k.home l.home && nat_lt k.number l.number) links)

-- how many of them have this home
abbrev pub count_at_home : List Link → ℕ → ℕ
count_at_home links home = length (filter (λ (k : Link). nat_eq k.home home) links)

-- the number that a split link gets where it is moved: the next one of its home, after the other split links of that home
-- with smaller numbers
abbrev pub split_number : List TrackState → List Link → Link → ℕ
split_number tracks splits l = next_link_at l.home tracks + earlier_at_home splits l

-- a link as it is once it was moved, where these are split: with its home and its tracks, and a number of its own
abbrev pub moved_link : List TrackState → List Link → Option Link → Option Link
moved_link tracks splits None = None
moved_link tracks splits (Some l) =
    if list_any (same_link l) splits then Some (record l { number = split_number tracks splits l }) else Some l

abbrev pub moved_cell : List TrackState → List Link → Cell → Cell
moved_cell tracks splits c = record c { link = moved_link tracks splits c.link }

-- a track whose cells from z on are moved, where these links are split; it gives a new number to each of which it is
-- the home
abbrev pub split_track : ℕ → List TrackState → List Link → TrackState → TrackState
split_track z tracks splits t = record t {
  cells = take z t.cells ++ map (moved_cell tracks splits) (drop z t.cells);
  next_link = t.next_link + count_at_home splits t.number;
}

-- the tracks once the cells from z on are moved: each link that also has cells before x is split
abbrev pub links_split : ℕ → ℕ → List TrackState → List TrackState
links_split x z tracks = map (split_track z tracks (split_links x z tracks)) tracks
