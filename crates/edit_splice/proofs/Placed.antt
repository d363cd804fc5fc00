-- What the code puts in place, with the indices that it found, leaves the track of the splice.
use Rattle.std.proofs.Common.{◌≡◌, ℕ, ◌+◌, ◌<◌, ◌≤◌, List, length, Option, Some, None, IfSome, sym, ap, ◌∙◌, arith, subst, slice_get, Bool}
use Rattle.std.proofs.lemmas.Option.{slice_get_within}
use Rattle.frame_meaning.specs.declared.cells.Cell.{Cell}
use Rattle.composables.specs.declared.items.ItemView.{ItemView}
use Rattle.composables.specs.Items.{items_of}
use Rattle.composables.specs.Joined.{AllFilled}
use Rattle.composables.specs.TrackFacts.{IsKept, EachHolds, NumbersBelow}
use Rattle.composables.specs.TrackState.{TrackState, replaced, next_past_all}
use Rattle.composables.proofs.Keeping.{same_state}
use Rattle.edit_splice.specs.declared.seams.ItemAt.{ItemAt}
use Rattle.edit_splice.specs.declared.seams.Seams.{Seams}
use Rattle.edit_splice.specs.Parts.{AreSeams, EndsAt, StandsFrom, reaches_past, parts_between, first_index, end_at, end_index}
use Rattle.edit_splice.specs.Splicing.{spliced_track}
use Rattle.edit_splice.proofs.Ends.{end-within, order-within, source-read}
use Rattle.edit_splice.proofs.Numbers.{next-most}
use Rattle.edit_splice.proofs.Whole.{cells-spliced, next-spliced, below-parts, filled-parts}

reaches : (cs : List Cell) (y : ℕ) (r : Option ItemAt) → EachHolds (items_of cs) → StandsFrom cs y r → reaches_past y r
reaches cs y None h s = tt
reaches cs y (Some g) h s = (s.begins, omega (arith, s.begins, s.ends), source-read (items_of cs) g.index g.view s.read h)

pub seams-reach : (cs : List Cell) (x y : ℕ) (s : Seams) → EachHolds (items_of cs) → AreSeams cs x y s → reaches_past y s.right
seams-reach cs x y s h a = reaches cs y s.right h a.right

reads : (cs : List Cell) (y : ℕ) (r : Option ItemAt) → StandsFrom cs y r → IfSome r (λ h. slice_get (items_of cs) h.index ≡ Some h.view)
reads cs y None s = tt
reads cs y (Some g) s = s.read

pub end-fits : (cs : List Cell) (x y n : ℕ) (s : Seams) → AreSeams cs x y s → n ≡ length (items_of cs) → end_index s n ≤ n
end-fits cs x y n s a is =
    let P : ℕ → Type 0 = λ k. end_index s k ≤ k in
    subst P (sym is) (end-within (items_of cs) y s.right s.after (reads cs y s.right a.right) a.after)

in_order : (cs : List Cell) (x y : ℕ) (l r : Option ItemAt) (o : Option ItemView) → x ≤ y → EndsAt cs x l → StandsFrom cs y r → first_index l ≤ end_at r o (length (items_of cs))
in_order cs x y None r o le s t = omega arith
in_order cs x y (Some g) None o le s t = omega (arith, slice_get_within (items_of cs) g.index g.view s.1.read)
in_order cs x y (Some g) (Some h) o le s t = order-within (items_of cs) x y g h o s.0 le s.1 t

pub ends-ordered : (cs : List Cell) (x y n from to : ℕ) (s : Seams) → x ≤ y → AreSeams cs x y s → n ≡ length (items_of cs) → from ≡ first_index s.left → to ≡ end_index s n → from ≤ to
ends-ordered cs x y n from to s le a is first last =
    let order = in_order cs x y s.left s.right s.after le a.left a.right in
    omega (arith, first, last ∙ ap (end_index s) is, order)

-- the track that the code leaves
pub replaced-is : (keep : Bool) (t : TrackState) (x y n fresh from to : ℕ) (s : Seams) (views parts : List ItemView) → IsKept t → x ≤ y → AreSeams t.cells x y s → n ≡ length (items_of t.cells) → fresh ≡ next_past_all t.next_item views
    → from ≡ first_index s.left → to ≡ end_index s n → parts ≡ parts_between keep s x y views fresh → replaced t from to parts ≡ spliced_track keep t x y views
replaced-is keep t x y n fresh from to s views parts k le a is new first last made =
    let all : parts ≡ parts_between keep s x y views (next_past_all t.next_item views) = made ∙ ap (parts_between keep s x y views) new in
    let end : to ≡ end_index s (length (items_of t.cells)) = last ∙ ap (end_index s) is in
    ap (λ (i : ℕ). replaced t i to parts) first
    ∙ (ap (λ (i : ℕ). replaced t (first_index s.left) i parts) end
    ∙ (ap (replaced t (first_index s.left) (end_index s (length (items_of t.cells)))) all
    ∙ same_state t.number t.next_link _ _ _ _
    (cells-spliced keep t.cells x y (next_past_all t.next_item views) s views k.whole k.each k.apart le a)
    (next-spliced keep t.next_item t.cells x y s views k.whole k.below le a)))

pub kept-replaced : (keep : Bool) (t : TrackState) (x y n fresh from to : ℕ) (s : Seams) (views parts : List ItemView) → IsKept t → x ≤ y → AreSeams t.cells x y s → n ≡ length (items_of t.cells) → fresh ≡ next_past_all t.next_item views
    → from ≡ first_index s.left → to ≡ end_index s n → parts ≡ parts_between keep s x y views fresh → IsKept (spliced_track keep t x y views) → IsKept (replaced t from to parts)
kept-replaced keep t x y n fresh from to s views parts k le a is new first last made kept =
    let P : TrackState → Type 0 = λ u. IsKept u in
    subst P (sym (replaced-is keep t x y n fresh from to s views parts k le a is new first last made)) kept

pub filled-made : (keep : Bool) (cs : List Cell) (x y fresh : ℕ) (s : Seams) (views parts : List ItemView) → EachHolds (items_of cs) → AreSeams cs x y s → AllFilled views → parts ≡ parts_between keep s x y views fresh → AllFilled parts
filled-made keep cs x y fresh s views parts h a f made =
    let P : List ItemView → Type 0 = λ vs. AllFilled vs in
    subst P (sym made) (filled-parts keep fresh cs x y s views a h f)

pub below-made : (keep : Bool) (t : TrackState) (x y fresh m : ℕ) (s : Seams) (views parts : List ItemView) → IsKept t → AreSeams t.cells x y s → t.next_item ≤ m → NumbersBelow m views → fresh ≡ next_past_all t.next_item views
    → NumbersBelow (m + 1) views → parts ≡ parts_between keep s x y views fresh → NumbersBelow (m + 1) parts
below-made keep t x y fresh m s views parts k a next below new more made =
    let P : List ItemView → Type 0 = λ vs. NumbersBelow (m + 1) vs in
    let most : fresh < m + 1 = omega (arith, new, next-most m t.next_item views next below) in
    subst P (sym made) (below-parts keep t.next_item fresh (m + 1) t.cells x y s views (omega (arith, next)) most a k.below more)
