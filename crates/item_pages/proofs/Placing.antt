-- What is around some items, and the pages with others in their place.
use Rattle.std.proofs.Common.{◌≡◌, ℕ, ◌+◌, ◌-◌, ◌≤◌, List, ◌++◌, length, take, drop, sum_by, min, sym, ap, ◌∙◌, arith, subst}
use Rattle.std.proofs.lemmas.List.{append_assoc, length-append, length-take, length-drop, take-append-drop, take-take, take_min, drop-drop, drop-take}
use Rattle.std.proofs.lemmas.List.Concat.{flat_map-append}
use Rattle.item_pages.specs.Items.{Fits, replaced}
use Rattle.item_pages.specs.Packing.{items_of, Packed, Begins, Ends, IsList}
use Rattle.item_pages.specs.Spots.{Surrounds}
use Rattle.item_pages.proofs.Packs.{drop_past, items_parts, packed_drop, packed_take}
use Rattle.item_pages.proofs.Filling.{replaced_is}
use Rattle.item_pages.proofs.Joining.{packed_before, packed_behind, ends_behind}

-- what is behind some items, where the pages before them are passed
pub behind_is : {T : Type 0} (pages : List (List T)) (from to : ℕ) (whole tail rest : List (List T)) (front back : List T) → from ≤ to → to ≤ length (items_of pages)
    → take from (items_of pages) ≡ items_of whole ++ front → whole ≡ take (length whole) pages → tail ≡ drop (length whole) pages
    → drop (to - from + length front) (items_of tail) ≡ back ++ items_of rest → drop to (items_of pages) ≡ back ++ items_of rest
behind_is {T} pages from to whole tail rest front back order within before whole_is tail_is behind =
    let n = length (items_of whole) in
    let parts : items_of pages ≡ items_of whole ++ items_of tail =
    items_parts (length whole) pages
    ∙ (ap (λ (ps : List (List T)). items_of ps ++ items_of (drop (length whole) pages)) (sym whole_is)
    ∙ ap (λ (ps : List (List T)). items_of whole ++ items_of ps) (sym tail_is)) in
    let at : to ≡ n + (to - from + length front) = omega (arith, order, within, ap length before, length-append (items_of whole) front, length-take from (items_of pages)) in
    ap (λ (k : ℕ). drop k (items_of pages)) at
    ∙ (ap (drop (n + (to - from + length front))) parts ∙ (drop_past (items_of whole) (items_of tail) (to - from + length front) ∙ behind))

-- where the pages behind begin
pub far_is : {T : Type 0} (pages tail rest : List (List T)) (n m : ℕ) → n ≤ length pages → tail ≡ drop n pages → rest ≡ drop (length tail - length rest) tail → length rest ≤ length tail → m ≤ length rest
    → drop m rest ≡ drop (length pages - length (drop m rest)) pages
far_is {T} pages tail rest n m few tail_is rest_is some h =
    let r = length tail - length rest in
    let at : n + (r + m) ≡ length pages - length (drop m rest) = omega (arith, few, some, h, ap length tail_is, length-drop n pages, length-drop m rest) in
    ap (drop m) rest_is
    ∙ (drop-drop m r tail ∙ (ap (drop (r + m)) tail_is ∙ (drop-drop (r + m) n pages ∙ ap (λ (k : ℕ). drop k pages) at)))

pub surrounded : {T : Type 0} (pages : List (List T)) (from to p q n e : ℕ) (near next : List (List T)) (front back : List T)
    → take from (items_of pages) ≡ items_of (take p pages) ++ front → p ≤ length pages → length front ≤ 64
    → drop to (items_of pages) ≡ back ++ items_of (drop q pages) → q ≤ length pages → length back ≤ 64 → p ≤ q
    → n ≡ p - 1 → near ≡ take (p - n) (drop n pages) → next ≡ take 1 (drop q pages) → e ≡ q + length next
    → Surrounds pages from to (take n pages) near front back next (drop e pages)
surrounded {T} pages from to p q n e near next front back before few short_front behind some short_back order n_is near_is next_is e_is =
    let tail = drop q pages in
    let low : n + (p - n) ≡ p = omega (arith, n_is) in
    let whole : take p pages ≡ take n pages ++ near =
    sym (take-append-drop n (take p pages))
    ∙ (ap (λ (ps : List (List T)). ps ++ drop n (take p pages)) (take-take n p pages (omega (arith, n_is)))
    ∙ ap (λ (ps : List (List T)). take n pages ++ ps) (ap (λ (k : ℕ). drop n (take k pages)) (sym low) ∙ (drop-take n (p - n) pages ∙ sym near_is))) in
    let count : length next ≡ min 1 (length tail) = ap length next_is ∙ length-take 1 tail in
    let taken : take (length next) tail ≡ next = ap (λ (k : ℕ). take k tail) count ∙ (take_min 1 tail ∙ sym next_is) in
    let far : drop (length next) tail ≡ drop e pages = drop-drop (length next) q pages ∙ ap (λ (k : ℕ). drop k pages) (sym e_is) in
    let rest : tail ≡ next ++ drop e pages =
    sym (take-append-drop (length next) tail)
    ∙ (ap (λ (ps : List (List T)). ps ++ drop (length next) tail) taken ∙ ap (λ (ps : List (List T)). next ++ ps) far) in
    let tail_count = length-drop q pages in
    let kept_count : length (take n pages) ≡ n = omega (arith, n_is, few, length-take n pages) in
    let far_count = length-drop e pages in
    record {
      items_before = before ∙ ap (λ (xs : List T). xs ++ front) (ap items_of whole ∙ flat_map-append (λ (page : List T). page) (take n pages) near);
      items_behind = behind ∙ ap (λ (xs : List T). back ++ xs) (ap items_of rest ∙ flat_map-append (λ (page : List T). page) next (drop e pages));
      starts = ap (λ (k : ℕ). take k pages) (sym kept_count);
      ends = ap (λ (k : ℕ). drop k pages) (omega (arith, e_is, some, count, tail_count, far_count));
      order = omega (arith, kept_count, far_count, n_is, few, order, e_is);
      packed_before = λ k. subst Packed whole (packed_take p pages k);
      packed_behind = λ k. subst Packed rest (packed_drop q pages k);
      has_near = λ h. omega (arith, h, kept_count, n_is, few, ap length near_is, length-take (p - n) (drop n pages), length-drop n pages);
      has_next = λ h. omega (arith, h, count, tail_count, far_count, e_is);
      alone = omega (arith, n_is, ap length near_is, length-take (p - n) (drop n pages));
      short = (short_front, short_back);
    }

-- the parts of the list with others in place of some of its items
pub put_items : {T : Type 0} (pages : List (List T)) (from to : ℕ) (kept near : List (List T)) (front back : List T) (next far fresh : List (List T)) (items : List T)
    → Surrounds pages from to kept near front back next far
    → items_of fresh ≡ (items_of near ++ (front ++ (items ++ back))) ++ items_of next
    → items_of (kept ++ (fresh ++ far)) ≡ replaced (items_of pages) from to items
put_items {T} pages from to kept near front back next far fresh items s is =
    let k = items_of kept in
    let a = items_of near in
    let m = front ++ (items ++ back) in
    let b = items_of next in
    let f = items_of far in
    flat_map-append (λ page. page) kept (fresh ++ far)
    ∙ (ap (λ (xs : List T). k ++ xs) (flat_map-append (λ page. page) fresh far ∙ (ap (λ (xs : List T). xs ++ f) is ∙ append_assoc (a ++ m) b f))
    ∙ (ap (λ (xs : List T). k ++ xs) (append_assoc a m (b ++ f))
    ∙ (sym (append_assoc k a (m ++ (b ++ f)))
    ∙ (sym (append_assoc (k ++ a) m (b ++ f))
    ∙ replaced_is (items_of pages) from to (k ++ a) front items back (b ++ f) s.items_before s.items_behind))))

pub put_packed : {T : Type 0} (pages : List (List T)) (from to : ℕ) (kept near : List (List T)) (front back : List T) (next far fresh : List (List T))
    → Surrounds pages from to kept near front back next far → Packed pages → Packed fresh → Begins near fresh → Ends next fresh
    → Packed (kept ++ (fresh ++ far))
put_packed {T} pages from to kept near front back next far fresh s k f begins ends =
    subst Packed (append_assoc kept fresh far)
    (packed_behind (kept ++ fresh) next far (packed_before kept near fresh (s.packed_before k) f begins s.has_near) (s.packed_behind k) (ends_behind kept fresh next ends) s.has_next)

pub replaced_count : {T : Type 0} (xs : List T) (from to : ℕ) (items : List T) → from ≤ to → to ≤ length xs
    → length (replaced xs from to items) ≡ length xs - (to - from) + length items
replaced_count xs from to items order within =
    omega (arith, order, within, length-append (take from xs) (items ++ drop to xs), length-append items (drop to xs), length-take from xs, length-drop to xs)

-- the list of pages with others in place of some
pub put_list : {T : Type 0} (span : T → ℕ) (pages new : List (List T)) (from to : ℕ) (kept near : List (List T)) (front back : List T) (next far fresh : List (List T)) (items : List T)
    (count total more places : ℕ) → from ≤ to → to ≤ length (items_of pages)
    → Surrounds pages from to kept near front back next far
    → items_of fresh ≡ (items_of near ++ (front ++ (items ++ back))) ++ items_of next → Packed fresh → Begins near fresh → Ends next fresh
    → new ≡ kept ++ (fresh ++ far) → more ≡ length items → places ≡ sum_by span (items_of new)
    → Fits span (replaced (items_of pages) from to items)
    → IsList span pages count total → IsList span new (count - (to - from) + more) places
put_list {T} span pages new from to kept near front back next far fresh items count total more places order within s is packed begins ends new_is more_is places_is fits list =
    let all : items_of new ≡ replaced (items_of pages) from to items =
    ap items_of new_is ∙ put_items pages from to kept near front back next far fresh items s is in
    record {
      packed = subst Packed (sym new_is) (put_packed pages from to kept near front back next far fresh s list.packed packed begins ends);
      fits = (omega (arith, ap length all, fits.0), omega (arith, ap (sum_by span) all, fits.1));
      count_is = omega (arith, list.count_is, more_is, ap length all, replaced_count (items_of pages) from to items order within);
      total_is = places_is;
    }

pub put_fits : {T : Type 0} (span : T → ℕ) (pages : List (List T)) (from to : ℕ) (kept near : List (List T)) (front back : List T) (next far fresh : List (List T)) (items : List T)
    → Surrounds pages from to kept near front back next far
    → items_of fresh ≡ (items_of near ++ (front ++ (items ++ back))) ++ items_of next
    → Fits span (replaced (items_of pages) from to items) → Fits span (items_of (kept ++ (fresh ++ far)))
put_fits {T} span pages from to kept near front back next far fresh items s is fits =
    subst (λ (xs : List T). Fits span xs) (sym (put_items pages from to kept near front back next far fresh items s is)) fits
