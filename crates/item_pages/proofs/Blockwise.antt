-- Blocks one behind another, and the pages of them.
use Rattle.std.proofs.Common.{◌≡◌, ℕ, zero, suc, ◌+◌, ◌-◌, ◌<◌, ◌≤◌, List, [], ◌∷◌, ◌++◌, length, take, drop, get_or, refl, sym, ap, ◌∙◌, arith, subst}
use Rattle.std.proofs.Math.ListN.{set}
use Rattle.std.proofs.lemmas.List.{append-nil, append_assoc, drop_all, get_or_default, get_or-append-add, get_or-set_same, length-append, length-set, length-take}
use Rattle.std.proofs.lemmas.List.Concat.{flat_map-append, get_or-flat_map}
use Rattle.item_pages.specs.declared.spots.Spot.{Spot}
use Rattle.item_pages.specs.Items.{Fits}
use Rattle.item_pages.specs.Packing.{items_of, Packed, Begins}
use Rattle.item_pages.specs.Spots.{IsSpot}
use Rattle.item_pages.proofs.Packs.{around_page, items_more, packed_push, take_spot}
use Rattle.item_pages.proofs.Holding.{length_split, sum_split}
use Rattle.item_pages.proofs.Setting.{set_items, spot_inside}
use Rattle.item_pages.proofs.Joining.{packed_before}

pub items_join : {T : Type 0} (pages more : List (List T)) → items_of (pages ++ more) ≡ items_of pages ++ items_of more
items_join {T} pages more = flat_map-append (λ (page : List T). page) pages more

-- the items of the blocks in front, and those of one block more
pub block_more : {T : Type 0} (blocks : List (List (List T))) (i : ℕ) (block : List (List T)) → i < length blocks → block ≡ get_or blocks i block
    → items_of (items_of (take (i + 1) blocks)) ≡ items_of (items_of (take i blocks)) ++ items_of block
block_more {T} blocks i block h is =
    ap items_of (items_more blocks i block h ∙ ap (λ (q : List (List T)). items_of (take i blocks) ++ q) (sym is))
    ∙ items_join (items_of (take i blocks)) block

pub around_block : {T : Type 0} (blocks : List (List (List T))) (i : ℕ) (block : List (List T)) → i < length blocks → block ≡ get_or blocks i block
    → items_of (items_of blocks) ≡ items_of (items_of (take i blocks)) ++ (items_of block ++ items_of (items_of (drop (i + 1) blocks)))
around_block {T} blocks i block h is =
    let front = items_of (take i blocks) in
    let rest = items_of (drop (i + 1) blocks) in
    ap items_of (around_page blocks i block h is)
    ∙ (items_join front (block ++ rest) ∙ ap (λ (xs : List T). items_of front ++ xs) (items_join block rest))

-- where an item stands in a block is where it stands in all
pub spot_on : {T : Type 0} (blocks : List (List (List T))) (i left passed index : ℕ) (block : List (List T)) (spot : Spot) → i < length blocks → block ≡ get_or blocks i block
    → passed ≡ length (items_of (take i blocks)) → index ≡ length (items_of (items_of (take i blocks))) + left → left < length (items_of block) → IsSpot block left spot
    → IsSpot (items_of blocks) index (record { part = passed + spot.part; within = spot.within })
spot_on {T} blocks i left passed index block spot h is few place low at =
    let front = items_of (take i blocks) in
    let inside = spot_inside block left spot at low in
    let here : length block ≡ length (get_or blocks i block) = ap length is in
    let taken : take (length front + spot.part) (items_of blocks) ≡ front ++ take spot.part block =
    take_spot blocks i spot.part block h (omega (arith, inside, here))
    ∙ ap (λ (q : List (List T)). front ++ take spot.part q) (sym is) in
    let items : items_of (take (passed + spot.part) (items_of blocks)) ≡ items_of front ++ items_of (take spot.part block) =
    ap (λ (n : ℕ). items_of (take (n + spot.part) (items_of blocks))) few
    ∙ (ap items_of taken ∙ items_join front (take spot.part block)) in
    record {
      part = omega (arith, few, inside, length_split (items_of blocks) front block (items_of (drop (i + 1) blocks)) (around_page blocks i block h is));
      place = omega (arith, place, at.place, ap length items, length-append (items_of front) (items_of (take spot.part block)));
      within = λ none _. omega (
        arith,
        at.within none inside,
        ap length (ap (λ (n : ℕ). get_or (items_of blocks) (n + spot.part) none) few
            ∙ (get_or-flat_map (λ (b : List (List T)). b) blocks i spot.part block none h (omega (arith, inside, here))
            ∙ ap (λ (b : List (List T)). get_or b spot.part none) (sym is))),
      );
    }

-- a page of a block is a page of all
pub page_is : {T : Type 0} (blocks : List (List (List T))) (index : ℕ) (spot : Spot) (block : List (List T)) (page : List T) → IsSpot blocks index spot → spot.part < length blocks
    → block ≡ get_or blocks spot.part block → page ≡ get_or block spot.within page
    → (none : List T) → page ≡ get_or (items_of blocks) index none
page_is {T} blocks index spot block page at low is here none =
    let inside : spot.within < length (get_or blocks spot.part block) = at.within block low in
    let there = get_or-flat_map (λ (b : List (List T)). b) blocks spot.part spot.within block page low inside in
    let other = get_or-flat_map (λ (b : List (List T)). b) blocks spot.part spot.within block none low inside in
    here
    ∙ (ap (λ (b : List (List T)). get_or b spot.within page) is
    ∙ (get_or_default (get_or blocks spot.part block) spot.within page none inside
    ∙ (sym other ∙ ap (λ (n : ℕ). get_or (items_of blocks) n none) (sym at.place))))

pub page_low : {T : Type 0} (blocks : List (List (List T))) (index : ℕ) (spot : Spot) (block : List (List T)) → IsSpot blocks index spot → spot.part < length blocks
    → block ≡ get_or blocks spot.part block → index < length (items_of blocks)
page_low blocks index spot block at low is =
    omega (
      arith,
      at.place,
      at.within block low,
      ap length is,
      length_split (items_of blocks) (items_of (take spot.part blocks)) block (items_of (drop (spot.part + 1) blocks)) (around_page blocks spot.part block low is),
    )

-- what is a part of a list fits as the whole does
pub part_fits : {T : Type 0} (span : T → ℕ) (all front part rest : List T) → all ≡ front ++ (part ++ rest) → Fits span all → Fits span part
part_fits span all front part rest is fits =
    (omega (arith, fits.0, length_split all front part rest is), omega (arith, fits.1, sum_split span all front part rest is))

-- a block with another page fits as all with that page
pub set_block_fits : {T : Type 0} (span : T → ℕ) (blocks : List (List (List T))) (index : ℕ) (spot : Spot) (block : List (List T)) (page : List T) → IsSpot blocks index spot
    → block ≡ get_or blocks spot.part block → index < length (items_of blocks) → Fits span (items_of (set (items_of blocks) index page))
    → Fits span (items_of (set block spot.within page))
set_block_fits {T} span blocks index spot block page at is low fits =
    let i = spot.part in
    let inside = spot_inside blocks index spot at low in
    let new = set block spot.within page in
    let all = set blocks i new in
    let same : items_of all ≡ set (items_of blocks) index page = set_items blocks index spot block new page at is refl low in
    let long : i < length all = omega (arith, inside, length-set blocks i new) in
    let here : new ≡ get_or all i new = sym (get_or-set_same blocks i new new inside) in
    part_fits span (items_of (items_of all)) (items_of (items_of (take i all))) (items_of new) (items_of (items_of (drop (i + 1) all)))
    (around_block all i new long here)
    (subst (λ (ps : List (List T)). Fits span (items_of ps)) (sym same) fits)

-- the last block
pub last_set : {T : Type 0} (blocks : List (List (List T))) (i : ℕ) (new : List (List T)) → suc i ≡ length blocks
    → items_of (set blocks i new) ≡ items_of (take i blocks) ++ new
last_set [] i new e = absurd (omega (arith, e))
last_set (b ∷ []) zero new e = append-nil new
last_set (b ∷ []) (suc i) new e = absurd (omega (arith, e))
last_set (b ∷ c ∷ bs) zero new e = absurd (omega (arith, e))
last_set {T} (b ∷ c ∷ bs) (suc i) new e =
    ap (λ (ps : List (List T)). b ++ ps) (last_set (c ∷ bs) i new (omega (arith, e))) ∙ sym (append_assoc b (items_of (take i (c ∷ bs))) new)

pub last_is : {X : Type 0} (blocks : List (List X)) (i : ℕ) (block : List X) → suc i ≡ length blocks → block ≡ get_or blocks i block
    → items_of blocks ≡ items_of (take i blocks) ++ block
last_is {X} blocks i block e is =
    around_page blocks i block (omega (arith, e)) is
    ∙ ap (λ (ps : List X). items_of (take i blocks) ++ ps)
    (ap (λ (bs : List (List X)). block ++ items_of bs) (drop_all (i + 1) blocks (omega (arith, e))) ∙ append-nil block)

pub last_packed : {T : Type 0} (blocks : List (List (List T))) (i : ℕ) (block : List (List T)) → suc i ≡ length blocks → block ≡ get_or blocks i block
    → Packed (items_of blocks) → Packed (items_of (take i blocks) ++ block)
last_packed {T} blocks i block e is k = subst Packed (last_is blocks i block e is) k

-- it gets more items
pub last_more : {T : Type 0} (blocks : List (List (List T))) (i : ℕ) (block new : List (List T)) (page : List T) → suc i ≡ length blocks → block ≡ get_or blocks i block
    → items_of new ≡ items_of block ++ page → items_of (items_of (set blocks i new)) ≡ items_of (items_of blocks) ++ page
last_more {T} blocks i block new page e is more =
    let front = items_of (take i blocks) in
    ap items_of (last_set blocks i new e)
    ∙ (items_join front new
    ∙ (ap (λ (xs : List T). items_of front ++ xs) more
    ∙ (sym (append_assoc (items_of front) (items_of block) page)
    ∙ ap (λ (xs : List T). xs ++ page) (sym (ap items_of (last_is blocks i block e is) ∙ items_join front block)))))

pub last_fits : {T : Type 0} (span : T → ℕ) (blocks : List (List (List T))) (i : ℕ) (block : List (List T)) (page : List T) → suc i ≡ length blocks → block ≡ get_or blocks i block
    → Fits span (items_of (items_of blocks) ++ page) → Fits span (items_of block ++ page)
last_fits {T} span blocks i block page e is fits =
    let front = items_of (take i blocks) in
    part_fits span (items_of (items_of blocks) ++ page) (items_of front) (items_of block ++ page) []
    (ap (λ (xs : List T). xs ++ page) (ap items_of (last_is blocks i block e is) ∙ items_join front block)
    ∙ (append_assoc (items_of front) (items_of block) page
    ∙ ap (λ (xs : List T). items_of front ++ xs) (sym (append-nil (items_of block ++ page)))))
    fits

pub last_set_packed : {T : Type 0} (blocks : List (List (List T))) (i : ℕ) (block new : List (List T)) → suc i ≡ length blocks → block ≡ get_or blocks i block
    → Packed (items_of blocks) → Packed new → Begins block new → 0 < length block → Packed (items_of (set blocks i new))
last_set_packed {T} blocks i block new e is k f begins filled =
    subst Packed (sym (last_set blocks i new e)) (packed_before (items_of (take i blocks)) block new (last_packed blocks i block e is k) f begins (λ _. filled))

-- a page after the last that does not fit in one with it
pub page_after : {T : Type 0} (blocks : List (List (List T))) (i : ℕ) (block : List (List T)) (page : List T) → suc i ≡ length blocks → block ≡ get_or blocks i block
    → 0 < length block → 64 < length (get_or block (length block - 1) page) + length page → Packed (items_of blocks) → Packed (items_of blocks ++ page ∷ [])
page_after {T} blocks i block page e is filled over k =
    let front = items_of (take i blocks) in
    let all = last_is blocks i block e is in
    let w = length block - 1 in
    let j = length front + w in
    let last : get_or (items_of blocks) j page ≡ get_or block w page =
    ap (λ (ps : List (List T)). get_or ps j page) all ∙ get_or-append-add front block w page in
    packed_push (items_of blocks) j page page (omega (arith, ap length all, length-append front block, filled)) (omega (arith, over, ap length last)) k

pub no_pages : {T : Type 0} (blocks : List (List (List T))) → length blocks ≡ 0 → length (items_of blocks) ≡ 0
no_pages [] e = refl
no_pages (b ∷ bs) e = absurd (omega (arith, e))

-- pages up to one have no more items than those up to a later one
pub items_grow : {T : Type 0} (i j : ℕ) (pages : List (List T)) → i ≤ j → length (items_of (take i pages)) ≤ length (items_of (take j pages))
items_grow zero j pages h = omega arith
items_grow (suc i) zero pages h = absurd (omega (arith, h))
items_grow (suc i) (suc j) [] h = omega arith
items_grow (suc i) (suc j) (p ∷ ps) h =
    omega (arith, items_grow i j ps (omega (arith, h)), length-append p (items_of (take i ps)), length-append p (items_of (take j ps)))

not_below : (a b : ℕ) → (a < b → ⊥) → b ≤ a
not_below a b never = Prim.grind (arith, never)

-- whole pages before an item are no more than those up to a later item
pub pages_order : {T : Type 0} (pages : List (List T)) (from to p q : ℕ) (front : List T) → from ≤ to → to ≤ length (items_of pages)
    → take from (items_of pages) ≡ items_of (take p pages) ++ front → p ≤ length pages
    → (to < length (items_of pages) → to < length (items_of (take q pages))) → (length (items_of pages) ≤ to → q ≡ length pages) → p ≤ q
pages_order {T} pages from to p q front order within before few past all =
    let n = length (items_of pages) in
    let least : length (items_of (take p pages)) ≤ from =
    omega (arith, order, within, ap length before, length-append (items_of (take p pages)) front, length-take from (items_of pages)) in
    not_below q p (λ (h : q < p).
    let never : to < n → ⊥ = λ (k : to < n). omega (arith, past k, items_grow q p pages (omega (arith, h)), least, order) in
    omega (arith, h, few, all (not_below to n never)))
