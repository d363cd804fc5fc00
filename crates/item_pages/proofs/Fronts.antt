-- Whole pages that are passed by.
use Rattle.std.proofs.Common.{◌≡◌, ℕ, ◌+◌, ◌<◌, ◌≤◌, Option, List, [], ◌++◌, length, take, drop, get_or, sum_by, refl, sym, ap, ◌∙◌, subst, arith}
use Rattle.std.specs.List.{All}
use Rattle.std.proofs.lemmas.List.{length-append, drop_all, drop_at, take-append-drop, take-append-le, take_all}
use Rattle.std.proofs.lemmas.List.Elements.{All-append}
use Rattle.std.proofs.lemmas.List.Sums.{sum_by-append}
use Rattle.item_pages.specs.declared.spans.Passed.{Passed}
use Rattle.item_pages.specs.declared.spans.Wanted.{Wanted}
use Rattle.item_pages.specs.Items.{Fits}
use Rattle.item_pages.specs.Wants.{PassedBy, Unwanted}
use Rattle.item_pages.specs.Packing.{items_of}
use Rattle.item_pages.proofs.Packs.{around_page, items_more, items_parts}
use Rattle.item_pages.proofs.Holding.{length_split, sum_split}

pub take_front : {T : Type 0} (xs ys : List T) → take (length xs) (xs ++ ys) ≡ xs
take_front xs ys = take-append-le (length xs) xs ys (omega arith) ∙ take_all (length xs) xs (omega arith)

-- so many pages in front, all passed by
pub record Front {T : Type 0} (span : T → ℕ) (numbered : T → Option ℕ) (set : T → ℕ) (wanted : Wanted) (pages : List (List T)) (i count places : ℕ) : Type 0 where
  pub count_is : count ≡ length (items_of (take i pages))
  pub places_is : places ≡ sum_by span (items_of (take i pages))
  pub unwanted : All (λ (x : T). Unwanted wanted (numbered x) (set x)) (items_of (take i pages))

pub front_none : {T : Type 0} (span : T → ℕ) (numbered : T → Option ℕ) (set : T → ℕ) (wanted : Wanted) (pages : List (List T)) → Front span numbered set wanted pages 0 0 0
front_none span numbered set wanted pages = record { count_is = refl; places_is = refl; unwanted = λ k d low. absurd (omega (arith, low)) }

-- and one page more
pub front_count : {T : Type 0} (pages : List (List T)) (i count n : ℕ) (page : List T) → i < length pages → page ≡ get_or pages i page
    → count ≡ length (items_of (take i pages)) → n ≡ length page → count + n ≤ length (items_of pages)
front_count pages i count n page h is few len =
    omega (arith, few, len, length_split (items_of pages) (items_of (take i pages)) page (items_of (drop (i + 1) pages)) (around_page pages i page h is))

pub front_places : {T : Type 0} (span : T → ℕ) (pages : List (List T)) (i places s : ℕ) (page : List T) → i < length pages → page ≡ get_or pages i page
    → places ≡ sum_by span (items_of (take i pages)) → s ≡ sum_by span page → places + s ≤ sum_by span (items_of pages)
front_places span pages i places s page h is few len =
    omega (arith, few, len, sum_split span (items_of pages) (items_of (take i pages)) page (items_of (drop (i + 1) pages)) (around_page pages i page h is))

pub front_more : {T : Type 0} (span : T → ℕ) (numbered : T → Option ℕ) (set : T → ℕ) (wanted : Wanted) (pages : List (List T)) (i count places n s : ℕ) (page : List T)
    → i < length pages → page ≡ get_or pages i page → Front span numbered set wanted pages i count places → n ≡ length page → s ≡ sum_by span page
    → All (λ (x : T). Unwanted wanted (numbered x) (set x)) page → Front span numbered set wanted pages (i + 1) (count + n) (places + s)
front_more {T} span numbered set wanted pages i count places n s page h is front len sum none =
    let before = items_of (take i pages) in
    let more : items_of (take (i + 1) pages) ≡ before ++ page = items_more pages i page h ∙ ap (λ (q : List T). before ++ q) (sym is) in
    record {
      count_is = omega (arith, front.count_is, len, ap length more, length-append before page);
      places_is = omega (arith, front.places_is, sum, ap (sum_by span) more, sum_by-append span before page);
      unwanted = rw more (All-append (λ (x : T). Unwanted wanted (numbered x) (set x)) before page front.unwanted none);
    }

pub passed_front : {T : Type 0} (span : T → ℕ) (numbered : T → Option ℕ) (set : T → ℕ) (wanted : Wanted) (pages : List (List T)) (i : ℕ) (passed : Passed)
    → Front span numbered set wanted pages i passed.count passed.places → PassedBy span numbered set wanted (items_of pages) passed (items_of (drop i pages))
passed_front {T} span numbered set wanted pages i passed f =
    let front = items_of (take i pages) in
    let rest = items_of (drop i pages) in
    let parts = items_parts i pages in
    let taken : take passed.count (items_of pages) ≡ front =
    ap (λ (n : ℕ). take n (items_of pages)) f.count_is ∙ (ap (take (length front)) parts ∙ take_front front rest) in
    record {
      within = omega (arith, f.count_is, ap length parts, length-append front rest);
      left_is = sym (ap (λ (n : ℕ). drop n (items_of pages)) f.count_is ∙ (ap (drop (length front)) parts ∙ drop_at front rest (length front) refl));
      places_is = f.places_is ∙ ap (sum_by span) (sym taken);
      unwanted = rw taken f.unwanted;
    }

-- what is left of the pages, once they were split there
pub passed_to : {T : Type 0} (span : T → ℕ) (numbered : T → Option ℕ) (set : T → ℕ) (wanted : Wanted) (pages left : List (List T)) (i : ℕ) (passed : Passed)
    → left ≡ drop i pages → Front span numbered set wanted pages i passed.count passed.places → PassedBy span numbered set wanted (items_of pages) passed (items_of left)
passed_to {T} span numbered set wanted pages left i passed is f =
    subst (λ (ps : List (List T)). PassedBy span numbered set wanted (items_of pages) passed (items_of ps)) (sym is) (passed_front span numbered set wanted pages i passed f)

-- all of the pages
pub passed_all : {T : Type 0} (span : T → ℕ) (numbered : T → Option ℕ) (set : T → ℕ) (wanted : Wanted) (pages : List (List T)) (i : ℕ) (passed : Passed)
    → Front span numbered set wanted pages i passed.count passed.places → length pages ≤ i → PassedBy span numbered set wanted (items_of pages) passed []
passed_all {T} span numbered set wanted pages i passed f h =
    let none : items_of (drop i pages) ≡ [] = ap items_of (drop_all i pages h) in
    subst (λ (xs : List T). PassedBy span numbered set wanted (items_of pages) passed xs) none (passed_front span numbered set wanted pages i passed f)

-- what is left fits as the whole did
pub fits_rest : {T : Type 0} (span : T → ℕ) (xs ys zs : List T) → zs ≡ xs ++ ys → Fits span zs → Fits span ys
fits_rest span xs ys zs e f = (omega (arith, ap length e, length-append xs ys, f.0), omega (arith, ap (sum_by span) e, sum_by-append span xs ys, f.1))

pub fits_drop : {T : Type 0} (span : T → ℕ) (n : ℕ) (xs : List T) → Fits span xs → Fits span (drop n xs)
fits_drop span n xs f = fits_rest span (take n xs) (drop n xs) xs (sym (take-append-drop n xs)) f

pub fits_passed : {T : Type 0} (span : T → ℕ) (numbered : T → Option ℕ) (set : T → ℕ) (wanted : Wanted) (front rest left : List T) (passed : Passed)
    → Fits span (front ++ rest) → PassedBy span numbered set wanted rest passed left → Fits span left
fits_passed {T} span numbered set wanted front rest left passed f p =
    subst (λ (xs : List T). Fits span xs) (sym p.left_is) (fits_drop span passed.count rest (fits_rest span front rest (front ++ rest) refl f))

pub fits_left : {T : Type 0} (span : T → ℕ) (pages read : List (List T)) (i : ℕ) (left : List T) → read ≡ pages → drop i (items_of read) ≡ left
    → Fits span (items_of pages) → Fits span left
fits_left {T} span pages read i left is parts f =
    subst (λ (xs : List T). Fits span xs) parts (fits_drop span i (items_of read) (subst (λ (ps : List (List T)). Fits span (items_of ps)) (sym is) f))
