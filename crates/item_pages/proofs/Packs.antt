-- Pages one behind another, and their items.
use Rattle.std.proofs.Common.{◌≡◌, ℕ, zero, suc, ◌+◌, ◌-◌, ◌*◌, ◌/◌, ◌<◌, ◌≤◌, List, [], ◌∷◌, ◌++◌, length, take, drop, get_or, refl, sym, ap, ◌∙◌, arith}
use Rattle.std.proofs.Math.ListN.{set}
use Rattle.std.proofs.lemmas.List.{append-nil, append_assoc, append_cancel_right, length-append, take-append-drop, take_more, drop_more, drop-drop, drop_at, take-append-le, drop-append-le, set-append_left, set-append_right}
use Rattle.std.proofs.lemmas.Nat.{le-div}
use Rattle.item_pages.specs.Packing.{items_of, Packed}

-- so many items of what is behind a list
pub drop_past : {T : Type 0} (xs ys : List T) (n : ℕ) → drop (length xs + n) (xs ++ ys) ≡ drop n ys
drop_past xs ys n = sym (drop-drop n (length xs) (xs ++ ys)) ∙ ap (drop n) (drop_at xs ys (length xs) refl)

pub take_past : {T : Type 0} (xs ys : List T) (n : ℕ) → take (length xs + n) (xs ++ ys) ≡ xs ++ take n ys
take_past {T} xs ys n =
    let m = length xs + n in
    append_cancel_right (take m (xs ++ ys)) (xs ++ take n ys) (drop n ys)
    (ap (λ (t : List T). take m (xs ++ ys) ++ t) (sym (drop_past xs ys n))
    ∙ (take-append-drop m (xs ++ ys)
    ∙ (ap (λ (t : List T). xs ++ t) (sym (take-append-drop n ys)) ∙ sym (append_assoc xs (take n ys) (drop n ys)))))

pub items_push : {T : Type 0} (pages : List (List T)) (page : List T) → items_of (pages ++ page ∷ []) ≡ items_of pages ++ page
items_push [] page = append-nil page
items_push {T} (p ∷ ps) page = ap (λ (xs : List T). p ++ xs) (items_push ps page) ∙ sym (append_assoc p (items_of ps) page)

pub items_parts : {T : Type 0} (n : ℕ) (pages : List (List T)) → items_of pages ≡ items_of (take n pages) ++ items_of (drop n pages)
items_parts zero pages = refl
items_parts (suc n) [] = refl
items_parts {T} (suc n) (p ∷ ps) =
    ap (λ (xs : List T). p ++ xs) (items_parts n ps) ∙ sym (append_assoc p (items_of (take n ps)) (items_of (drop n ps)))

pub items_more : {T : Type 0} (pages : List (List T)) (i : ℕ) (d : List T) → i < length pages
    → items_of (take (i + 1) pages) ≡ items_of (take i pages) ++ get_or pages i d
items_more pages i d h = ap items_of (take_more pages i d h) ∙ items_push (take i pages) (get_or pages i d)

pub items_around : {T : Type 0} (pages : List (List T)) (i : ℕ) (d : List T) → i < length pages
    → items_of pages ≡ items_of (take i pages) ++ (get_or pages i d ++ items_of (drop (i + 1) pages))
items_around {T} pages i d h =
    items_parts i pages ∙ ap (λ (xs : List T). items_of (take i pages) ++ xs) (ap items_of (drop_more pages i d h))

pub around_page : {T : Type 0} (pages : List (List T)) (i : ℕ) (page : List T) → i < length pages → page ≡ get_or pages i page
    → items_of pages ≡ items_of (take i pages) ++ (page ++ items_of (drop (i + 1) pages))
around_page {T} pages i page h is =
    items_around pages i page h ∙ ap (λ (q : List T). items_of (take i pages) ++ (q ++ items_of (drop (i + 1) pages))) (sym is)

-- at w items in the page with index i
pub take_spot : {T : Type 0} (pages : List (List T)) (i w : ℕ) (d : List T) → i < length pages → w ≤ length (get_or pages i d)
    → take (length (items_of (take i pages)) + w) (items_of pages) ≡ items_of (take i pages) ++ take w (get_or pages i d)
take_spot {T} pages i w d h k =
    let front = items_of (take i pages) in
    let page = get_or pages i d in
    let rest = items_of (drop (i + 1) pages) in
    ap (take (length front + w)) (items_around pages i d h)
    ∙ (take_past front (page ++ rest) w ∙ ap (λ (xs : List T). front ++ xs) (take-append-le w page rest k))

pub drop_spot : {T : Type 0} (pages : List (List T)) (i w : ℕ) (d : List T) → i < length pages → w ≤ length (get_or pages i d)
    → drop (length (items_of (take i pages)) + w) (items_of pages) ≡ drop w (get_or pages i d) ++ items_of (drop (i + 1) pages)
drop_spot {T} pages i w d h k =
    let front = items_of (take i pages) in
    let page = get_or pages i d in
    let rest = items_of (drop (i + 1) pages) in
    ap (drop (length front + w)) (items_around pages i d h)
    ∙ (drop_past front (page ++ rest) w ∙ drop-append-le w page rest k)

pub set_spot : {T : Type 0} (pages : List (List T)) (i w : ℕ) (d : List T) (x : T) → i < length pages → w < length (get_or pages i d)
    → set (items_of pages) (length (items_of (take i pages)) + w) x ≡ items_of (set pages i (set (get_or pages i d) w x))
set_spot [] i w d x h k = absurd (omega (arith, h))
set_spot {T} (q ∷ qs) zero w d x h k =
    let at : 0 + w ≡ w = omega arith in
    ap (λ (n : ℕ). set (q ++ items_of qs) n x) at ∙ set-append_left q (items_of qs) w x k
set_spot {T} (q ∷ qs) (suc i) w d x h k =
    let front = items_of (take i qs) in
    let at = length (q ++ front) + w in
    let past : at - length q ≡ length front + w = omega (arith, length-append q front) in
    let beyond : length q ≤ at = omega (arith, length-append q front) in
    set-append_right q (items_of qs) (length q) at x refl beyond
    ∙ ap (λ (xs : List T). q ++ xs) (ap (λ (n : ℕ). set (items_of qs) n x) past ∙ set_spot qs i w d x (omega (arith, h)) k)

-- the last page gets more items
pub items_join : {T : Type 0} (pages : List (List T)) (i : ℕ) (d page : List T) → suc i ≡ length pages
    → items_of (set pages i (get_or pages i d ++ page)) ≡ items_of pages ++ page
items_join [] i d page e = absurd (omega (arith, e))
items_join {T} (p ∷ []) zero d page e = append-nil (p ++ page) ∙ ap (λ (xs : List T). xs ++ page) (sym (append-nil p))
items_join (p ∷ []) (suc i) d page e = absurd (omega (arith, e))
items_join (p ∷ q ∷ qs) zero d page e = absurd (omega (arith, e))
items_join {T} (p ∷ q ∷ qs) (suc i) d page e =
    ap (λ (xs : List T). p ++ xs) (items_join (q ∷ qs) i d page (omega (arith, e))) ∙ sym (append_assoc p (items_of (q ∷ qs)) page)

pub packed_take : {T : Type 0} (n : ℕ) (pages : List (List T)) → Packed pages → Packed (take n pages)
packed_take zero pages k = tt
packed_take (suc n) [] k = tt
packed_take (suc zero) (p ∷ ps) k = (tt, tt)
packed_take (suc (suc n)) (p ∷ []) k = (tt, tt)
packed_take (suc (suc n)) (p ∷ q ∷ qs) k = (k.0, packed_take (suc n) (q ∷ qs) k.1)

pub packed_drop : {T : Type 0} (n : ℕ) (pages : List (List T)) → Packed pages → Packed (drop n pages)
packed_drop zero pages k = k
packed_drop (suc n) [] k = tt
packed_drop (suc n) (p ∷ ps) k = packed_drop n ps k.1

pub packed_first : {T : Type 0} (pages : List (List T)) (page : List T) → length pages ≡ 0 → Packed (pages ++ page ∷ [])
packed_first [] page e = (tt, tt)
packed_first (p ∷ ps) page e = absurd (omega (arith, e))

pub packed_push : {T : Type 0} (pages : List (List T)) (i : ℕ) (d page : List T) → suc i ≡ length pages
    → 64 < length (get_or pages i d) + length page → Packed pages → Packed (pages ++ page ∷ [])
packed_push [] i d page e h k = absurd (omega (arith, e))
packed_push (p ∷ []) zero d page e h k = (h, (tt, tt))
packed_push (p ∷ []) (suc i) d page e h k = absurd (omega (arith, e))
packed_push (p ∷ q ∷ qs) zero d page e h k = absurd (omega (arith, e))
packed_push (p ∷ q ∷ qs) (suc i) d page e h k = (k.0, packed_push (q ∷ qs) i d page (omega (arith, e)) h k.1)

pub packed_set : {T : Type 0} (pages : List (List T)) (i : ℕ) (d page : List T) → length (get_or pages i d) ≤ length page
    → Packed pages → Packed (set pages i page)
packed_set [] i d page h k = tt
packed_set (p ∷ []) zero d page h k = (tt, tt)
packed_set (p ∷ []) (suc i) d page h k = (tt, tt)
packed_set (p ∷ q ∷ qs) zero d page h k = (omega (arith, h, k.0), k.1)
packed_set (p ∷ q ∷ qs) (suc zero) d page h k = (omega (arith, h, k.0), packed_set (q ∷ qs) zero d page h k.1)
packed_set (p ∷ q ∷ qs) (suc (suc i)) d page h k = (k.0, packed_set (q ∷ qs) (suc i) d page h k.1)

-- there is about one page for each 32 items at most
pub packed_count : {T : Type 0} (pages : List (List T)) → Packed pages → 32 * length pages ≤ length (items_of pages) + 32
packed_count [] k = omega arith
packed_count (p ∷ []) k = omega arith
packed_count (p ∷ q ∷ qs) k =
    omega (arith, k.0, packed_count qs k.1.1, length-append p (q ++ items_of qs), length-append q (items_of qs))

pub packed_few : {T : Type 0} (pages : List (List T)) → Packed pages → length pages ≤ length (items_of pages) / 32 + 1
packed_few pages k =
    let n = length (items_of pages) in
    let enough : (length pages - 1) * 32 ≤ n = omega (arith, packed_count pages k) in
    omega (arith, le-div (length pages - 1) n 32 (omega arith) enough)
