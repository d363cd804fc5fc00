-- Pages in place of others among pages, so that no two neighbours fit in one still.
use Rattle.std.proofs.Common.{◌≡◌, ℕ, zero, suc, ◌+◌, ◌<◌, ◌≤◌, List, [], ◌∷◌, ◌++◌, length, take, get_or, refl, ap, arith}
use Rattle.std.proofs.Math.ListN.{set}
use Rattle.std.proofs.lemmas.List.{take_more, length-append, length-set}
use Rattle.item_pages.specs.Packing.{Packed, Begins, Ends, last_count}

pub packed_alone : {T : Type 0} (pages : List (List T)) → length pages ≤ 1 → Packed pages
packed_alone [] h = tt
packed_alone (p ∷ []) h = (tt, tt)
packed_alone (p ∷ q ∷ ps) h = absurd (omega (arith, h))

last_push : {T : Type 0} (pages : List (List T)) (page : List T) → last_count (pages ++ page ∷ []) ≡ length page
last_push [] page = refl
last_push (p ∷ []) page = refl
last_push (p ∷ q ∷ ps) page = last_push (q ∷ ps) page

last_set : {T : Type 0} (pages : List (List T)) (i : ℕ) (page : List T) → suc i ≡ length pages → last_count (set pages i page) ≡ length page
last_set [] i page e = absurd (omega (arith, e))
last_set (p ∷ []) zero page e = refl
last_set (p ∷ []) (suc i) page e = absurd (omega (arith, e))
last_set (p ∷ q ∷ ps) zero page e = absurd (omega (arith, e))
last_set (p ∷ q ∷ ps) (suc zero) page e = last_set (q ∷ ps) zero page (omega (arith, e))
last_set (p ∷ q ∷ ps) (suc (suc i)) page e = last_set (q ∷ ps) (suc i) page (omega (arith, e))

pub ends_push : {T : Type 0} (pages : List (List T)) (page : List T) → Ends (page ∷ []) (pages ++ page ∷ [])
ends_push pages page = record {
  filled = λ h. omega (arith, length-append pages (page ∷ []));
  count = omega (arith, last_push pages page);
}

pub ends_set : {T : Type 0} (pages : List (List T)) (i : ℕ) (page joined : List T) → suc i ≡ length pages → length page ≤ length joined
    → Ends (page ∷ []) (set pages i joined)
ends_set pages i page joined e h = record {
  filled = λ _. omega (arith, e, length-set pages i joined);
  count = omega (arith, h, last_set pages i joined e);
}

pub ends_more : {T : Type 0} (pages new : List (List T)) (i : ℕ) (page : List T) → i < length pages → page ≡ get_or pages i page → Ends (page ∷ []) new
    → Ends (take (i + 1) pages) new
ends_more {T} pages new i page h is ends = record {
  filled = λ _. ends.filled (omega arith);
  count = omega (
    arith,
    ap last_count (take_more pages i page h),
    last_push (take i pages) (get_or pages i page),
    ap length is,
    ends.count,
  );
}

-- others in place of pages behind
pub packed_before : {T : Type 0} (kept near fresh : List (List T)) → Packed (kept ++ near) → Packed fresh → Begins near fresh → (0 < length kept → 0 < length near)
    → Packed (kept ++ fresh)
packed_before [] near fresh k f b n = f
packed_before (p ∷ []) [] fresh k f b n = absurd (omega (arith, n (omega arith)))
packed_before (p ∷ []) (q ∷ qs) [] k f b n = absurd (omega (arith, b.filled (omega arith)))
packed_before (p ∷ []) (q ∷ qs) (r ∷ rs) k f b n = (omega (arith, k.0, b.count), f)
packed_before (p ∷ o ∷ ps) near fresh k f b n = (k.0, packed_before (o ∷ ps) near fresh k.1 f b (λ _. n (omega arith)))

apart : {T : Type 0} (next : List (List T)) (page : List T) (rest : List (List T)) → Packed (next ++ page ∷ rest) → 0 < length next → 64 < last_count next + length page
apart [] page rest k h = absurd (omega (arith, h))
apart (p ∷ []) page rest k h = k.0
apart (p ∷ q ∷ ps) page rest k h = apart (q ∷ ps) page rest k.1 (omega arith)

pub packed_rest : {T : Type 0} (next far : List (List T)) → Packed (next ++ far) → Packed far
packed_rest [] far k = k
packed_rest (p ∷ ps) far k = packed_rest ps far k.1

pub packed_start : {T : Type 0} (next far : List (List T)) → Packed (next ++ far) → Packed next
packed_start [] far k = tt
packed_start (p ∷ []) far k = (tt, tt)
packed_start (p ∷ q ∷ ps) far k = (k.0, packed_start (q ∷ ps) far k.1)

-- others in place of pages before
pub packed_behind : {T : Type 0} (fresh next far : List (List T)) → Packed fresh → Packed (next ++ far) → Ends next fresh → (0 < length far → 0 < length next)
    → Packed (fresh ++ far)
packed_behind [] next far f k e n = packed_rest next far k
packed_behind (p ∷ []) next [] f k e n = (tt, tt)
packed_behind (p ∷ []) next (q ∷ qs) f k e n =
    (omega (arith, apart next q qs k (n (omega arith)), e.count), packed_rest next (q ∷ qs) k)
packed_behind (p ∷ o ∷ ps) next far f k e n =
    (f.0, packed_behind (o ∷ ps) next far f.1 k (record { filled = λ _. omega arith; count = e.count }) n)

-- the last of pages that have others before them
last_behind : {T : Type 0} (kept fresh : List (List T)) → 0 < length fresh → last_count (kept ++ fresh) ≡ last_count fresh
last_behind [] fresh h = refl
last_behind (p ∷ []) [] h = absurd (omega (arith, h))
last_behind (p ∷ []) (q ∷ qs) h = refl
last_behind (p ∷ o ∷ ps) fresh h = last_behind (o ∷ ps) fresh h

pub ends_behind : {T : Type 0} (kept fresh next : List (List T)) → Ends next fresh → Ends next (kept ++ fresh)
ends_behind kept fresh [] e = record { filled = λ h. absurd (omega (arith, h)); count = omega arith }
ends_behind kept fresh (p ∷ ps) e = record {
  filled = λ h. omega (arith, e.filled h, length-append kept fresh);
  count = omega (arith, e.count, last_behind kept fresh (e.filled (omega arith)));
}

pub begins_on : {T : Type 0} (pages more all : List (List T)) → Begins pages more → Begins more all → Begins pages all
begins_on pages more all b c = record { filled = λ h. c.filled (b.filled h); count = omega (arith, b.count, c.count) }
