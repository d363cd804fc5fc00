-- Items that are passed by in a block, and in all that is behind.
use Rattle.std.proofs.Common.{◌≡◌, ℕ, ◌+◌, ◌<◌, ◌≤◌, ◌^◌, Option, List, [], ◌∷◌, ◌++◌, length, take, drop, get_or, sum_by, refl, sym, ap, ◌∙◌, arith}
use Rattle.std.proofs.Math.Seq.{take-add}
use Rattle.std.proofs.lemmas.List.{length-append, length-drop, drop_more, drop-append-le, drop-drop, take-append-le}
use Rattle.std.proofs.lemmas.List.Elements.{All-append}
use Rattle.std.proofs.lemmas.List.Sums.{sum_by-append, sum_by-take-drop}
use Rattle.item_pages.specs.declared.spans.Passed.{Passed}
use Rattle.item_pages.specs.declared.spans.Wanted.{Wanted}
use Rattle.item_pages.specs.Items.{Fits}
use Rattle.item_pages.specs.Wants.{PassedBy, Unwanted}
use Rattle.item_pages.specs.Packing.{items_of}
use Rattle.item_pages.proofs.Blockwise.{items_join}

-- so it is where more items follow
pub passed_into : {T : Type 0} (span : T → ℕ) (numbered : T → Option ℕ) (set : T → ℕ) (wanted : Wanted) (items left more : List T) (passed : Passed)
    → PassedBy span numbered set wanted items passed left → PassedBy span numbered set wanted (items ++ more) passed (left ++ more)
passed_into {T} span numbered set wanted items left more passed p =
    let taken = take-append-le passed.count items more p.within in
    record {
      within = omega (arith, p.within, length-append items more);
      left_is = ap (λ (xs : List T). xs ++ more) p.left_is ∙ sym (drop-append-le passed.count items more p.within);
      places_is = p.places_is ∙ ap (sum_by span) (sym taken);
      unwanted = rw taken p.unwanted;
    }

-- some, and then some of what is left
pub passed_more : {T : Type 0} (span : T → ℕ) (numbered : T → Option ℕ) (set : T → ℕ) (wanted : Wanted) (items left rest : List T) (n m k l : ℕ)
    → PassedBy span numbered set wanted items (record { count = n; places = m }) left → PassedBy span numbered set wanted left (record { count = k; places = l }) rest
    → PassedBy span numbered set wanted items (record { count = n + k; places = m + l }) rest
passed_more {T} span numbered set wanted items left rest n m k l p q =
    let low : k ≤ length (drop n items) = omega (arith, q.within, ap length p.left_is) in
    let more : take k left ≡ take k (drop n items) = ap (take k) p.left_is in
    let taken : take (n + k) items ≡ take n items ++ take k left = take-add n k items ∙ ap (λ (xs : List T). take n items ++ xs) (sym more) in
    record {
      within = omega (arith, p.within, low, length-drop n items);
      left_is = q.left_is ∙ (ap (drop k) p.left_is ∙ drop-drop k n items);
      places_is = omega (arith, p.places_is, q.places_is, ap (sum_by span) taken, sum_by-append span (take n items) (take k left));
      unwanted = rw taken (All-append (λ (x : T). Unwanted wanted (numbered x) (set x)) (take n items) (take k left) p.unwanted q.unwanted);
    }

-- how many they are together
pub more_count : {T : Type 0} (span : T → ℕ) (numbered : T → Option ℕ) (set : T → ℕ) (wanted : Wanted) (items left rest : List T) (n m k l : ℕ)
    → PassedBy span numbered set wanted items (record { count = n; places = m }) left → PassedBy span numbered set wanted left (record { count = k; places = l }) rest
    → Fits span items → n + k < 2 ^ 32
more_count span numbered set wanted items left rest n m k l p q fits =
    omega (arith, fits.0, (passed_more span numbered set wanted items left rest n m k l p q).within)

pub more_places : {T : Type 0} (span : T → ℕ) (numbered : T → Option ℕ) (set : T → ℕ) (wanted : Wanted) (items left rest : List T) (n m k l : ℕ)
    → PassedBy span numbered set wanted items (record { count = n; places = m }) left → PassedBy span numbered set wanted left (record { count = k; places = l }) rest
    → Fits span items → m + l < 2 ^ 32
more_places span numbered set wanted items left rest n m k l p q fits =
    omega (arith, fits.1, (passed_more span numbered set wanted items left rest n m k l p q).places_is, sum_by-take-drop span items (n + k))

-- the pages of a block, and those of the blocks behind it
pub block_left : {T : Type 0} (blocks : List (List (List T))) (i : ℕ) (block : List (List T)) → i < length blocks → block ≡ get_or blocks i block
    → items_of (items_of (drop i blocks)) ≡ items_of block ++ items_of (items_of (drop (i + 1) blocks))
block_left {T} blocks i block h is =
    let rest = items_of (drop (i + 1) blocks) in
    ap items_of (ap items_of (drop_more blocks i block h) ∙ ap (λ (q : List (List T)). q ++ rest) (sym is)) ∙ items_join block rest

pub passed_block : {T : Type 0} (span : T → ℕ) (numbered : T → Option ℕ) (set : T → ℕ) (wanted : Wanted) (blocks : List (List (List T))) (i : ℕ) (block left : List (List T)) (passed : Passed)
    → i < length blocks → block ≡ get_or blocks i block → PassedBy span numbered set wanted (items_of block) passed (items_of left)
    → PassedBy span numbered set wanted (items_of (items_of (drop i blocks))) passed (items_of (left ++ items_of (drop (i + 1) blocks)))
passed_block {T} span numbered set wanted blocks i block left passed h is p =
    let rest = items_of (drop (i + 1) blocks) in
    rw (block_left blocks i block h is, items_join left rest) (passed_into span numbered set wanted (items_of block) (items_of left) (items_of rest) passed p)

pub passed_pages : {T : Type 0} (span : T → ℕ) (numbered : T → Option ℕ) (set : T → ℕ) (wanted : Wanted) (pages left more : List (List T)) (passed : Passed)
    → PassedBy span numbered set wanted (items_of pages) passed (items_of left)
    → PassedBy span numbered set wanted (items_of (pages ++ more)) passed (items_of (left ++ more))
passed_pages {T} span numbered set wanted pages left more passed p =
    rw (items_join pages more, items_join left more) (passed_into span numbered set wanted (items_of pages) (items_of left) (items_of more) passed p)

pub no_more : {T : Type 0} (left : List (List T)) (more : List (List T)) → length left ≡ 0 → left ++ more ≡ more
no_more [] more e = refl
no_more (p ∷ ps) more e = absurd (omega (arith, e))

pub fits_block : {T : Type 0} (span : T → ℕ) (blocks : List (List (List T))) (i : ℕ) (block : List (List T)) → i < length blocks → block ≡ get_or blocks i block
    → Fits span (items_of (items_of (drop i blocks))) → Fits span (items_of block)
fits_block {T} span blocks i block h is f =
    let e = block_left blocks i block h is in
    let rest = items_of (items_of (drop (i + 1) blocks)) in
    (omega (arith, ap length e, length-append (items_of block) rest, f.0), omega (arith, ap (sum_by span) e, sum_by-append span (items_of block) rest, f.1))

pub fits_front : {T : Type 0} (span : T → ℕ) (pages more : List (List T)) → Fits span (items_of (pages ++ more)) → Fits span (items_of pages)
fits_front span pages more f =
    let e = items_join pages more in
    (omega (arith, ap length e, length-append (items_of pages) (items_of more), f.0), omega (arith, ap (sum_by span) e, sum_by-append span (items_of pages) (items_of more), f.1))

pub fits_after : {T : Type 0} (span : T → ℕ) (numbered : T → Option ℕ) (set : T → ℕ) (wanted : Wanted) (items left : List T) (passed : Passed)
    → PassedBy span numbered set wanted items passed left → Fits span items → Fits span left
fits_after span numbered set wanted items left passed p f =
    (omega (arith, f.0, ap length p.left_is, length-drop passed.count items), omega (arith, f.1, ap (sum_by span) p.left_is, sum_by-take-drop span items passed.count))

-- what is left behind a page, and behind its first item
pub fits_next : {T : Type 0} (span : T → ℕ) (piece page : List T) (pages rest : List (List T)) → pages ≡ page ∷ rest
    → Fits span (piece ++ items_of pages) → Fits span (items_of rest)
fits_next {T} span piece page pages rest is f =
    let items : items_of pages ≡ page ++ items_of rest = ap items_of is in (
      omega (arith, f.0, ap length items, length-append piece (items_of pages), length-append page (items_of rest)),
      omega (arith, f.1, ap (sum_by span) items, sum_by-append span piece (items_of pages), sum_by-append span page (items_of rest)),
    )

pub fits_behind : {T : Type 0} (span : T → ℕ) (piece page : List T) (first : T) (left : List T) (pages rest : List (List T)) → pages ≡ page ∷ rest → page ≡ first ∷ left
    → Fits span (piece ++ items_of pages) → Fits span (left ++ items_of rest)
fits_behind {T} span piece page first left pages rest is parts f =
    let items : items_of pages ≡ (first ∷ []) ++ (left ++ items_of rest) = ap items_of is ∙ ap (λ (xs : List T). xs ++ items_of rest) parts in (
      omega (arith, f.0, ap length items, length-append piece (items_of pages), length-append (first ∷ []) (left ++ items_of rest)),
      omega (arith, f.1, ap (sum_by span) items, sum_by-append span piece (items_of pages), sum_by-append span (first ∷ []) (left ++ items_of rest)),
    )
