-- The cells of an item or gap, from some frame on.
use Rattle.std.proofs.Common.{◌≡◌, ℕ, zero, suc, ◌+◌, ◌-◌, ◌<◌, ◌≤◌, ◌^◌, Bool, false, cond, eqb, List, [], ◌∷◌, ◌++◌, length, drop, get_or, Option, None, refl, sym, ap, ◌∙◌, arith, append_assoc}
use Rattle.std.proofs.lemmas.List.{drop_more, append-nil}
use Rattle.std.proofs.lemmas.Bool.Decides.{nat_tests}
use Rattle.frame_meaning.specs.declared.cells.What.{What}
use Rattle.frame_meaning.specs.declared.cells.Mark.{Mark}
use Rattle.frame_meaning.specs.declared.cells.Link.{Link}
use Rattle.frame_meaning.specs.declared.cells.Cell.{Cell}
use Rattle.frame_meaning.specs.declared.frames.Side.{Side}
use Rattle.frame_meaning.specs.declared.frames.Side.TheVariants.{Dark, Pic}
use Rattle.frame_meaning.specs.Cells.{span, next_side, later_side}
use Rattle.frame_meaning.specs.Numbered.{SideIsNumbered}
use Rattle.composables.specs.declared.items.ItemView.{ItemView}
use Rattle.composables.specs.Items.{marked, view_cells, cell_in, cells_of}
use Rattle.composables.specs.TrackFacts.{HasSource, EachHolds}

pub later-zero : (s : Side What) → later_side s 0 ≡ s
later-zero Dark = refl
later-zero (Pic w s) = let e : s + 0 ≡ s = omega arith in ap (λ n. Pic w n) e

pub next-later : (s : Side What) (k : ℕ) → next_side (later_side s k) ≡ later_side s (k + 1)
next-later Dark k = refl
next-later (Pic w s) k = let e : s + k + 1 ≡ s + (k + 1) = omega arith in ap (λ n. Pic w n) e

-- the cells from frame k on
abbrev pub cells_from : ItemView → ℕ → List Cell
cells_from v k = marked (cond (eqb k 0) v.mark None) (span v.item (later_side v.first k) v.link (v.len - k))

pub from-zero : (v : ItemView) → cells_from v 0 ≡ view_cells v
from-zero v =
    let e : v.len - 0 ≡ v.len = omega arith in
    ap (λ (s : Side What). marked v.mark (span v.item s v.link (v.len - 0))) (later-zero v.first)
    ∙ ap (λ (n : ℕ). marked v.mark (span v.item v.first v.link n)) e

none-marked : (i : Option ℕ) (s : Side What) (l : Option Link) (n : ℕ) → marked None (span i s l n) ≡ span i s l n
none-marked i s l zero = refl
none-marked i s l (suc n) = refl

later_mark : (m : Option Mark) (k : ℕ) → cond (eqb (k + 1) 0) m None ≡ None
later_mark m k = let e : eqb (k + 1) 0 ≡ false = grind (arith, nat_tests) in ap (λ (b : Bool). cond b m None) e

from-some : (v : ItemView) (k n : ℕ) → v.len - k ≡ suc n → cells_from v k ≡ cell_in v k ∷ span v.item (next_side (later_side v.first k)) v.link n
from-some v k n e = ap (λ (j : ℕ). marked (cond (eqb k 0) v.mark None) (span v.item (later_side v.first k) v.link j)) e

pub from-more : (v : ItemView) (k : ℕ) → k < v.len → cells_from v k ≡ cell_in v k ∷ cells_from v (k + 1)
from-more v k h =
    let one : v.len - k ≡ suc (v.len - (k + 1)) = omega arith in
    from-some v k (v.len - (k + 1)) one
    ∙ ap (λ cs. cell_in v k ∷ cs)
    (ap (λ (s : Side What). span v.item s v.link (v.len - (k + 1))) (next-later v.first k)
    ∙ (sym (none-marked v.item (later_side v.first (k + 1)) v.link (v.len - (k + 1)))
    ∙ ap (λ (m : Option Mark). marked m (span v.item (later_side v.first (k + 1)) v.link (v.len - (k + 1)))) (sym (later_mark v.mark k))))

pub from-end : (v : ItemView) (k : ℕ) → v.len ≤ k → cells_from v k ≡ []
from-end v k h =
    let e : v.len - k ≡ 0 = omega arith in
    ap (λ (n : ℕ). marked (cond (eqb k 0) v.mark None) (span v.item (later_side v.first k) v.link n)) e

-- one cell more was put behind others
pub cell_more : (before after all : List Cell) (v : ItemView) (c : Cell) (k : ℕ) → k < v.len → after ≡ before ++ c ∷ [] → c ≡ cell_in v k
    → before ++ cells_from v k ≡ all → after ++ cells_from v (k + 1) ≡ all
cell_more before after all v c k h more is so_far =
    ap (λ cs. cs ++ cells_from v (k + 1)) more
    ∙ (append_assoc before (c ∷ []) (cells_from v (k + 1))
    ∙ (ap (λ d. before ++ d ∷ cells_from v (k + 1)) is
    ∙ (ap (λ cs. before ++ cs) (sym (from-more v k h)) ∙ so_far)))

pub cells_all : (before all : List Cell) (v : ItemView) (k : ℕ) → v.len ≤ k → before ++ cells_from v k ≡ all → before ≡ all
cells_all before all v k h so_far = sym (append-nil before) ∙ (ap (λ cs. before ++ cs) (sym (from-end v k h)) ∙ so_far)

-- the cells of one item or gap more
pub view_more : (before after all : List Cell) (xs : List ItemView) (i : ℕ) (d : ItemView) → i < length xs → after ≡ before ++ view_cells (get_or xs i d)
    → before ++ cells_of (drop i xs) ≡ all → after ++ cells_of (drop (i + 1) xs) ≡ all
view_more before after all xs i d h more so_far =
    ap (λ cs. cs ++ cells_of (drop (i + 1) xs)) more
    ∙ (append_assoc before (view_cells (get_or xs i d)) (cells_of (drop (i + 1) xs))
    ∙ (ap (λ vs. before ++ cells_of vs) (sym (drop_more xs i d h)) ∙ so_far))

pub source-less : (s : Side What) (len before after : ℕ) → HasSource s len before after → HasSource s len 0 0
source-less Dark len before after h = tt
source-less (Pic w s) len before after h = let p : s + len + 0 ≤ 2 ^ 32 = omega (arith, h.1) in (omega arith, p)

-- a source frame within an item is a number of the program
pub numbered-later : (s : Side What) (len k : ℕ) → k < len → HasSource s len 0 0 → SideIsNumbered (later_side s k)
numbered-later Dark len k h p = tt
numbered-later (Pic w s) len k h p = omega (arith, p.1)

pub holds-source : (v : ItemView) (vs : List ItemView) → EachHolds (v ∷ vs) → HasSource v.first v.len 0 0
holds-source v vs h = source-less v.first v.len _ _ h.0.source

pub source_at : (xs : List ItemView) (i : ℕ) (d : ItemView) → i < length xs → EachHolds xs → HasSource (get_or xs i d).first (get_or xs i d).len 0 0
source_at [] i d h p = absurd (omega arith)
source_at (x ∷ xs) zero d h p = holds-source x xs p
source_at (x ∷ xs) (suc i) d h p = source_at xs i d (omega arith) p.1
