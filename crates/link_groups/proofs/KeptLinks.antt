-- Items and gaps that are passed by keep their links.
use Rattle.std.proofs.Common.{◌≡◌, ℕ, zero, suc, ◌+◌, ◌-◌, ◌≤◌, Bool, true, false, cond, ltb, List, [], ◌∷◌, length, drop, take, Option, Some, slice_get, refl, sym, ap, ◌∙◌, arith}
use Rattle.frame_meaning.specs.declared.cells.Cell.{Cell}
use Rattle.frame_meaning.specs.declared.cells.Link.{Link}
use Rattle.composables.specs.declared.items.ItemView.{ItemView}
use Rattle.composables.specs.Items.{cells_of, items_of}
use Rattle.composables.specs.Joined.{frames_in}
use Rattle.composables.specs.TrackFacts.{IsKept}
use Rattle.composables.specs.TrackState.{TrackState}
use Rattle.composables.proofs.Pieces.{left-first, left-rest}
use Rattle.link_groups.specs.declared.splits.Splits.{Splits}
use Rattle.link_groups.specs.Keys.{HasMarks}
use Rattle.link_groups.specs.Splits.{given_link}
use Rattle.link_groups.proofs.LeastLinks.{frames-more}
use Rattle.link_groups.proofs.Others.{some_at}
use Rattle.link_groups.proofs.Relinking.{first_links, link-at, linked_each, linked_track, linked-more, more-past, new_links, own-link, read-linked}
use Rattle.link_groups.proofs.Unmarked.{Unmarked, kept-link, unmarked-rest}

same_cond : (f : Option Link → Option Link) (b : Bool) (o : Option Link) → f o ≡ o → cond b (f o) o ≡ o
same_cond f true o e = e
same_cond f false o e = refl

more_same : (s : Splits) (place : ℕ) (t u : TrackState) (i : ℕ) (v : ItemView) → u ≡ linked_track (first_links s place t i) t → slice_get (items_of t.cells) i ≡ Some v
    → given_link s v.link ≡ v.link → u ≡ linked_track (first_links s place t (i + 1)) t
more_same s place t u i v e read same =
    let vs = items_of t.cells in
    let ls : List (Option Link) = new_links (given_link s) place (items_of t.cells) in
    let next : suc i ≡ i + 1 = omega arith in
    let own : slice_get ls i ≡ Some v.link =
    link-at (given_link s) place vs i v read ∙ ap (λ (o : Option Link). Some o) (same_cond (given_link s) (ltb (place - frames_in (take i vs)) v.len) v.link same) in
    e
    ∙ (ap (λ (ws : List ItemView). record t { cells = cells_of ws })
    (sym (linked-more i ls vs v.link own ∙ own-link i (linked_each (first_links s place t i) vs) v (read-linked i ls vs ∙ read)))
    ∙ ap (λ (n : ℕ). linked_track (first_links s place t n) t) next)

-- so many more, of which none has a link that is split
pub more-unmarked : (s : Splits) (place : ℕ) (t u : TrackState) (n i : ℕ) (old : List ItemView) → old ≡ drop i (items_of t.cells) → n ≤ length old → HasMarks s → Unmarked s.marks (take n old)
    → u ≡ linked_track (first_links s place t i) t → u ≡ linked_track (first_links s place t (i + n)) t
more-unmarked s place t u zero i old is few marked h e = let same : i ≡ i + 0 = omega arith in e ∙ ap (λ (m : ℕ). linked_track (first_links s place t m) t) same
more-unmarked s place t u (suc n) i [] is few marked h e = absurd (omega (arith, few))
more-unmarked s place t u (suc n) i (v ∷ vs) is few marked h e =
    let read = left-first (items_of t.cells) (v ∷ vs) vs i v is refl in
    let rest = left-rest (items_of t.cells) (v ∷ vs) vs i v is refl in
    let on : (i + 1) + n ≡ i + suc n = omega arith in
    more-unmarked s place t u n (i + 1) vs rest (omega (arith, few)) marked (unmarked-rest s.marks v (take n vs) h) (more_same s place t u i v e read (kept-link s v (take n vs) marked h))
    ∙ ap (λ (m : ℕ). linked_track (first_links s place t m) t) on

-- those that end at the place or before it, from the first on
pub start-linked : (s : Splits) (place : ℕ) (t : TrackState) (i : ℕ) → IsKept t → i ≤ length (items_of t.cells) → frames_in (take i (items_of t.cells)) ≤ place → t ≡ linked_track (first_links s place t i) t
start-linked s place t zero k within ends =
    sym (ap (λ (vs : List ItemView). record t { cells = cells_of vs }) (none (items_of t.cells)) ∙ ap (λ (cs : List Cell). record t { cells = cs }) k.whole) where
      none : (vs : List ItemView) → linked_each [] vs ≡ vs
      none [] = refl
      none (v ∷ vs) = refl
start-linked s place t (suc i) k within ends =
    let v = some_at (items_of t.cells) i (omega (arith, within)) in
    let next : i + 1 ≡ suc i = omega arith in
    let here : frames_in (take (suc i) (items_of t.cells)) ≡ frames_in (take i (items_of t.cells)) + v.0.len = sym (ap (λ (n : ℕ). frames_in (take n (items_of t.cells))) next) ∙ frames-more (items_of t.cells) i v.0 v.1 in
    more-past s place t t i v.0 k (start-linked s place t i k (omega (arith, within)) (omega (arith, ends, here))) v.1 (omega (arith, ends, here))
    ∙ ap (λ (n : ℕ). linked_track (first_links s place t n) t) next
