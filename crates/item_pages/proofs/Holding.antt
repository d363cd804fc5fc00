-- The item of a page that holds a place is that of the list.
use Rattle.std.proofs.Common.{◌≡◌, ℕ, ◌+◌, ◌-◌, ◌≤◌, List, ◌++◌, length, take, sum_by, ap, ◌∙◌, arith}
use Rattle.std.proofs.lemmas.List.{length-append, take-append-le}
use Rattle.std.proofs.lemmas.List.Sums.{sum_by-append}
use Rattle.item_pages.specs.declared.spans.Found.{Found}
use Rattle.item_pages.specs.Items.{HoldsPlace}
use Rattle.item_pages.proofs.Packs.{take_past}

-- a list in three parts
pub length_split : {T : Type 0} (all front page rest : List T) → all ≡ front ++ (page ++ rest) → length all ≡ length front + (length page + length rest)
length_split all front page rest is = omega (arith, ap length is, length-append front (page ++ rest), length-append page rest)

pub sum_split : {T : Type 0} (span : T → ℕ) (all front page rest : List T) → all ≡ front ++ (page ++ rest)
    → sum_by span all ≡ sum_by span front + (sum_by span page + sum_by span rest)
sum_split span all front page rest is =
    omega (arith, ap (sum_by span) is, sum_by-append span front (page ++ rest), sum_by-append span page rest)

sum_in : {T : Type 0} (span : T → ℕ) (all front page rest : List T) (m k : ℕ) → all ≡ front ++ (page ++ rest) → m ≡ length front + k → k ≤ length page
    → sum_by span (take m all) ≡ sum_by span front + sum_by span (take k page)
sum_in {T} span all front page rest m k is at h =
    ap (λ (n : ℕ). sum_by span (take n all)) at
    ∙ (ap (λ (xs : List T). sum_by span (take (length front + k) xs)) is
    ∙ (ap (sum_by span) (take_past front (page ++ rest) k)
    ∙ (ap (λ (xs : List T). sum_by span (front ++ xs)) (take-append-le k page rest h)
    ∙ sum_by-append span front (take k page))))

pub holds_on : {T : Type 0} (span : T → ℕ) (all front page rest : List T) (at n s : ℕ) (f : Found) → all ≡ front ++ (page ++ rest)
    → n ≡ length front → s ≡ sum_by span front → s ≤ at → HoldsPlace span page (at - s) f
    → HoldsPlace span all at (record { index = n + f.index; from = s + f.from })
holds_on span all front page rest at n s f is index from passed h = record {
  index = omega (arith, index, ap length is, length-append front (page ++ rest), length-append page rest, h.index);
  from = omega (arith, from, h.from, sum_in span all front page rest (n + f.index) f.index is (omega (arith, index)) (omega (arith, h.index)));
  begins = omega (arith, h.begins, passed);
  ends = omega (arith, from, h.ends, passed, sum_in span all front page rest (n + f.index + 1) (f.index + 1) is (omega (arith, index)) (omega (arith, h.index)));
}
