-- A list that gets more pages behind its own, and the list with others in place of some of its items.
use Rattle.std.proofs.Common.{◌≡◌, ℕ, ◌+◌, ◌<◌, List, ◌++◌, length, take, drop, get_or, sum_by, sym, ap, ◌∙◌, arith}
use Rattle.std.proofs.lemmas.List.{append_assoc, length-append, drop_more}
use Rattle.std.proofs.lemmas.List.Sums.{sum_by-append}
use Rattle.item_pages.specs.Items.{Fits, replaced}
use Rattle.item_pages.specs.Packing.{items_of, Packed, IsList}

-- the list of pages with one page more
pub list_more : {T : Type 0} (span : T → ℕ) (pages new : List (List T)) (page : List T) (n t count places : ℕ) → items_of new ≡ items_of pages ++ page → Packed new
    → Fits span (items_of pages ++ page) → count ≡ length page → places ≡ sum_by span page → IsList span pages n t → IsList span new (n + count) (t + places)
list_more span pages new page n t count places is packed fits few short list = record {
  packed = packed;
  fits = (omega (arith, ap length is, fits.0), omega (arith, ap (sum_by span) is, fits.1));
  count_is = omega (arith, few, ap length is, length-append (items_of pages) page, list.count_is);
  total_is = omega (arith, short, ap (sum_by span) is, sum_by-append span (items_of pages) page, list.total_is);
}

-- one page after another
pub next_page : {T : Type 0} (xs : List T) (pages : List (List T)) (i : ℕ) (page : List T) → i < length pages → page ≡ get_or pages i page
    → xs ++ items_of (drop i pages) ≡ (xs ++ page) ++ items_of (drop (i + 1) pages)
next_page {T} xs pages i page h is =
    let rest = items_of (drop (i + 1) pages) in
    ap (λ (ys : List T). xs ++ ys) (ap items_of (drop_more pages i page h) ∙ ap (λ (q : List T). q ++ rest) (sym is))
    ∙ sym (append_assoc xs page rest)

-- the parts of the list with others in place of some of its items
pub laid : {T : Type 0} (whole front items back rest : List T) → (whole ++ (front ++ (items ++ back))) ++ rest ≡ (whole ++ front) ++ (items ++ (back ++ rest))
laid {T} whole front items back rest =
    append_assoc whole (front ++ (items ++ back)) rest
    ∙ (ap (λ (ys : List T). whole ++ ys) (append_assoc front (items ++ back) rest ∙ ap (λ (ys : List T). front ++ ys) (append_assoc items back rest))
    ∙ sym (append_assoc whole front (items ++ (back ++ rest))))

pub replaced_is : {T : Type 0} (xs : List T) (from to : ℕ) (whole front items back rest : List T) → take from xs ≡ whole ++ front → drop to xs ≡ back ++ rest
    → (whole ++ (front ++ (items ++ back))) ++ rest ≡ replaced xs from to items
replaced_is {T} xs from to whole front items back rest before behind =
    laid whole front items back rest
    ∙ (ap (λ (ys : List T). ys ++ (items ++ (back ++ rest))) (sym before)
    ∙ ap (λ (ys : List T). take from xs ++ (items ++ ys)) (sym behind))
