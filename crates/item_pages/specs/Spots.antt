-- Where an item stands among pages.
use Rattle.std.specs.Prelude.{◌≡◌, ℕ, ◌+◌, ◌-◌, ◌<◌, ◌≤◌, List, ◌++◌, length, take, drop, slice_index_or}
use Rattle.item_pages.specs.declared.spots.Spot.{Spot}
use Rattle.item_pages.specs.Packing.{items_of, Packed}

-- the page that has the item with this index, and where it stands in it; past the last item the place behind all pages.
-- So it is with the block that has a page.
pub record IsSpot {T : Type 0} (pages : List (List T)) (index : ℕ) (spot : Spot) : Type 0 where
  pub part : spot.part ≤ length pages
  pub place : index ≡ length (items_of (take spot.part pages)) + spot.within
  pub within : (none : List T) → spot.part < length pages → spot.within < length (slice_index_or pages spot.part none)

-- what is around the items from index `from` up to before `to`: pages that stay, the last whole page before, items that share a page with what makes way, and so behind
pub record Surrounds {T : Type 0} (pages : List (List T)) (from to : ℕ) (kept near : List (List T)) (front back : List T) (next far : List (List T)) : Type 0 where
  pub items_before : take from (items_of pages) ≡ (items_of kept ++ items_of near) ++ front
  pub items_behind : drop to (items_of pages) ≡ back ++ (items_of next ++ items_of far)
  pub starts : kept ≡ take (length kept) pages
  pub ends : far ≡ drop (length pages - length far) pages
  pub order : length kept + length far ≤ length pages
  pub packed_before : Packed pages → Packed (kept ++ near)
  pub packed_behind : Packed pages → Packed (next ++ far)
  pub has_near : 0 < length kept → 0 < length near
  pub has_next : 0 < length far → 0 < length next
  pub alone : length near ≤ 1
  pub short : (length front ≤ 64) × (length back ≤ 64)
