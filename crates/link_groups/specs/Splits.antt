-- The links that a shift splits, and the numbers that their moved items get.
use Rattle.std.specs.Prelude.{◌≡◌, ◌<◌, ◌^◌, ℕ, ◌+◌, ◌-◌, Bool, false, ◌&&◌, List, [], ◌∷◌, Option, Some, None, filter, length, nat_eq, nat_lt, unwrap_or, if◌then◌else◌}
use Rattle.std.specs.List.{list_any}
use Rattle.std.specs.Ordering.{nat_cmp, ordering_then}
use Rattle.std.specs.declared.cmp.Ordering.{Ordering}
use Rattle.std.specs.BTreeMap.{get, is_at}
use Rattle.frame_meaning.specs.declared.cells.Cell.{Cell}
use Rattle.frame_meaning.specs.declared.cells.Link.{Link}
use Rattle.composables.specs.declared.items.ItemView.{ItemView}
use Rattle.composables.specs.Changes.{with_link}
use Rattle.composables.specs.Items.{cells_of, items_of}
use Rattle.composables.specs.Links.{count_at_home, next_link_at, same_link, split_number}
use Rattle.composables.specs.TrackState.{TrackState}
use Rattle.link_groups.specs.declared.splits.Splits.{Splits}

-- a link is told by its home and its number, its key; the keys in order
abbrev pub key_of : Link → ℕ × ℕ
key_of l = (l.home, l.number)

abbrev pub key_cmp : ℕ × ℕ → ℕ × ℕ → Ordering
key_cmp k l = ordering_then (nat_cmp k.0 l.0) (nat_cmp k.1 l.1)

-- the link has this key
abbrev pub is_key_of : ℕ × ℕ → Option Link → Bool
is_key_of k None = false
is_key_of k (Some l) = nat_eq k.0 l.home && nat_eq k.1 l.number

abbrev pub has_key : ℕ × ℕ → Cell → Bool
has_key k c = is_key_of k c.link

-- how many of these keys have this home
abbrev pub at_home : ℕ → List (ℕ × ℕ) → ℕ
at_home home keys = length (filter (λ (k : ℕ × ℕ). nat_eq k.0 home) keys)

-- how many have the home of this one and a smaller number
abbrev pub smaller : ℕ × ℕ → List (ℕ × ℕ) → ℕ
smaller q keys = length (filter (λ (k : ℕ × ℕ). nat_eq k.0 q.0 && nat_lt k.1 q.1) keys)

-- the number that a link gets where the links with these keys are split
abbrev pub given : List TrackState → List (ℕ × ℕ) → ℕ × ℕ → Option ℕ
given tracks keys q =
    if list_any (is_at (key_cmp q)) keys then Some (next_link_at q.0 tracks + smaller q keys) else None

-- the new numbers of links with these keys, and how many each home gives
pub record AreGiven (tracks : List TrackState) (keys : List (ℕ × ℕ)) (s : Splits) : Type 0 where
  pub numbers : (q : ℕ × ℕ) → get key_cmp s.numbers q ≡ given tracks keys q
  pub counts : (home : ℕ) → unwrap_or (get nat_cmp s.counts home) 0 ≡ at_home home keys

-- each home gives few numbers
abbrev pub HasFew : Splits → Type 0
HasFew s = (home : ℕ) → unwrap_or (get nat_cmp s.counts home) 0 < 2 ^ 31

-- those of these links, where they are split
abbrev pub number_given : List TrackState → List Link → Link → Option ℕ
number_given tracks splits l =
    if list_any (same_link l) splits then Some (split_number tracks splits l) else None

pub record AreSplits (tracks : List TrackState) (splits : List Link) (s : Splits) : Type 0 where
  pub numbers : (l : Link) → get key_cmp s.numbers (key_of l) ≡ number_given tracks splits l
  pub counts : (home : ℕ) → unwrap_or (get nat_cmp s.counts home) 0 ≡ count_at_home splits home

-- a link with this number, if there is one
abbrev pub with_number : Link → Option ℕ → Link
with_number l None = l
with_number l (Some n) = record l { number = n }

-- a link as it is where these are split
abbrev pub given_link : Splits → Option Link → Option Link
given_link s None = None
given_link s (Some l) = Some (with_number l (get key_cmp s.numbers (key_of l)))

-- items and gaps, of which those that end past a place get their new links
abbrev pub relinked_view : Splits → ℕ → ItemView → ItemView
relinked_view s place v = if nat_lt place v.len then with_link (given_link s v.link) v else v

abbrev pub relinked_views : Splits → ℕ → List ItemView → List ItemView
relinked_views s place [] = []
relinked_views s place (v ∷ vs) = relinked_view s place v ∷ relinked_views s (place - v.len) vs

-- a track whose items that end past a place get their new links
abbrev pub relinked_cells : Splits → ℕ → TrackState → TrackState
relinked_cells s place t = record t { cells = cells_of (relinked_views s place (items_of t.cells)) }

-- and which gives their numbers to those of which it is the home
abbrev pub relinked_track : Splits → ℕ → TrackState → TrackState
relinked_track s place t = record t {
  cells = cells_of (relinked_views s place (items_of t.cells));
  next_link = t.next_link + unwrap_or (get nat_cmp s.counts t.number) 0;
}
