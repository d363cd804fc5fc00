-- A list in which one item is put in place of another.
use Rattle.std.proofs.Common.{◌≡◌, ℕ, zero, suc, ◌+◌, ◌-◌, ◌<◌, ◌≤◌, List, [], ◌∷◌, length, take, drop, get_or, sum_by, slice_get, IfSome, sym, ap, ◌∙◌, arith}
use Rattle.std.proofs.Math.ListN.{set}
use Rattle.std.proofs.lemmas.List.{length-set, take_all}
use Rattle.std.proofs.lemmas.List.Concat.{get_or-flat_map}
use Rattle.std.proofs.lemmas.List.Sums.{sum_by-set}
use Rattle.item_pages.specs.declared.spots.Spot.{Spot}
use Rattle.item_pages.specs.Items.{Fits}
use Rattle.item_pages.specs.Packing.{items_of, IsList}
use Rattle.item_pages.specs.Spots.{IsSpot}
use Rattle.item_pages.proofs.Packs.{around_page, packed_set, set_spot}
use Rattle.item_pages.proofs.Holding.{sum_split}

pub spot_inside : {T : Type 0} (pages : List (List T)) (n : ℕ) (spot : Spot) → IsSpot pages n spot → n < length (items_of pages) → spot.part < length pages
spot_inside {T} pages n spot at low =
    inside (λ (past : length pages ≤ spot.part). absurd (omega (arith, low, at.place, ap (λ (ps : List (List T)). length (items_of ps)) (take_all spot.part pages past)))) where
      inside : (length pages ≤ spot.part → ⊥) → spot.part < length pages
      inside never = Prim.grind (arith, never)

same_span : {T : Type 0} (span : T → ℕ) (xs : List T) (i : ℕ) (x : T) → i < length xs → IfSome (slice_get xs i) (λ old. span old ≡ span x)
    → span (get_or xs i x) ≡ span x
same_span span [] i x h e = absurd (omega (arith, h))
same_span span (y ∷ ys) zero x h e = e
same_span span (y ∷ ys) (suc i) x h e = same_span span ys i x (omega (arith, h)) e

-- what is known of the item's page
within_page : {T : Type 0} (pages : List (List T)) (n : ℕ) (spot : Spot) (page : List T) → IsSpot pages n spot → page ≡ get_or pages spot.part page
    → n < length (items_of pages) → spot.within < length page
within_page pages n spot page at is low = omega (arith, ap length is, at.within page (spot_inside pages n spot at low))

read_of : {T : Type 0} (pages : List (List T)) (n : ℕ) (spot : Spot) (page : List T) (item : T) → IsSpot pages n spot → page ≡ get_or pages spot.part page
    → n < length (items_of pages) → get_or (items_of pages) n item ≡ get_or page spot.within item
read_of {T} pages n spot page item at is low =
    let inside = spot_inside pages n spot at low in
    ap (λ (k : ℕ). get_or (items_of pages) k item) at.place
    ∙ (get_or-flat_map (λ (p : List T). p) pages spot.part spot.within page item inside (at.within page inside)
    ∙ ap (λ (q : List T). get_or q spot.within item) (sym is))

-- the places of a page with the item, and of the list: as many as before, less those of the item that gives way
pub set_spans : {T : Type 0} (span : T → ℕ) (pages : List (List T)) (n : ℕ) (spot : Spot) (page : List T) (item : T) → IsSpot pages n spot → page ≡ get_or pages spot.part page
    → n < length (items_of pages)
    → (sum_by span (set page spot.within item) + sum_by span (items_of pages) ≡ sum_by span page + sum_by span (set (items_of pages) n item))
    × (sum_by span page ≤ sum_by span (items_of pages)) × (sum_by span (set page spot.within item) ≤ sum_by span (set (items_of pages) n item))
set_spans span pages n spot page item at is low =
    let inside = spot_inside pages n spot at low in
    let read = ap span (read_of pages n spot page item at is low) in
    let here = sum_by-set span page spot.within item item (within_page pages n spot page at is low) in
    let all = sum_by-set span (items_of pages) n item item low in
    let parts = sum_split span (items_of pages) (items_of (take spot.part pages)) page (items_of (drop (spot.part + 1) pages)) (around_page pages spot.part page inside is) in
    (omega (arith, read, here, all), omega (arith, parts), omega (arith, read, here, all, parts))

-- what spans as many places fits where the other did
pub set_fits : {T : Type 0} (span : T → ℕ) (xs : List T) (n : ℕ) (item : T) → n < length xs → IfSome (slice_get xs n) (λ old. span old ≡ span item)
    → Fits span xs → Fits span (set xs n item)
set_fits span xs n item low h fits =
    (omega (arith, length-set xs n item, fits.0), omega (arith, sum_by-set span xs n item item low, same_span span xs n item low h, fits.1))

pub set_items : {T : Type 0} (pages : List (List T)) (n : ℕ) (spot : Spot) (page new : List T) (item : T) → IsSpot pages n spot → page ≡ get_or pages spot.part page
    → new ≡ set page spot.within item → n < length (items_of pages)
    → items_of (set pages spot.part new) ≡ set (items_of pages) n item
set_items {T} pages n spot page new item at is made low =
    let i = spot.part in
    let w = spot.within in
    let inside = spot_inside pages n spot at low in
    ap (λ (q : List T). items_of (set pages i q)) made
    ∙ (ap (λ (q : List T). items_of (set pages i (set q w item))) is
    ∙ (sym (set_spot pages i w page item inside (at.within page inside)) ∙ ap (λ (k : ℕ). set (items_of pages) k item) (sym at.place)))

pub set_list : {T : Type 0} (span : T → ℕ) (pages : List (List T)) (n : ℕ) (spot : Spot) (page new : List T) (item : T) (count total : ℕ)
    → IsSpot pages n spot → page ≡ get_or pages spot.part page → new ≡ set page spot.within item → n < length (items_of pages)
    → Fits span (set (items_of pages) n item)
    → IsList span pages count total → IsList span (set pages spot.part new) count (total - sum_by span page + sum_by span new)
set_list span pages n spot page new item count total at is made low fits list =
    let all = items_of pages in
    let changed = set_items pages n spot page new item at is made low in
    let longer : length (get_or pages spot.part page) ≤ length new =
    omega (arith, ap length made, length-set page spot.within item, ap length is) in
    let count_same : length (items_of (set pages spot.part new)) ≡ length all = omega (arith, ap length changed, length-set all n item) in
    let spans = set_spans span pages n spot page item at is low in
    record {
      packed = packed_set pages spot.part page new longer list.packed;
      fits = (omega (arith, ap length changed, fits.0), omega (arith, ap (sum_by span) changed, fits.1));
      count_is = omega (arith, count_same, list.count_is);
      total_is = omega (arith, ap (sum_by span) changed, ap (sum_by span) made, spans.0, spans.1, list.total_is);
    }
