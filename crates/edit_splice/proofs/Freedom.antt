-- Numbers that are free: no item before a range or behind it has them.
use Rattle.std.proofs.Common.{◌≡◌, ◌≢◌, ℕ, zero, suc, ◌+◌, ◌-◌, ◌<◌, ◌≤◌, ◌⊎◌, ⊎_elim, List, [], ◌∷◌, ◌++◌, Option, Some, None, IfSome, refl, sym, ap, ◌∙◌, arith, subst, take, drop, slice_get, Bool}
use Rattle.std.proofs.lemmas.Option.{slice_get_within, get_or_from_slice_get}
use Rattle.composables.specs.declared.items.ItemView.{ItemView}
use Rattle.composables.specs.Items.{items_of}
use Rattle.composables.specs.Joined.{frames_in}
use Rattle.composables.specs.TrackFacts.{Lacks, Apart, NumbersBelow}
use Rattle.composables.specs.TrackState.{TrackState}
use Rattle.composables.proofs.Frames.{frames_in-take_more, no_view}
use Rattle.edit_splice.specs.declared.seams.ItemAt.{ItemAt}
use Rattle.edit_splice.specs.Parts.{EndsAt, StandsFrom, view_after, split_between, front_view}
use Rattle.edit_splice.specs.PutIn.{TakesUp, StandsWithin, AllFree}
use Rattle.edit_splice.proofs.Ends.{drop-some, frames_less}
use Rattle.edit_splice.proofs.Apartness.{Foreign, if_known, known, lacks-below, item_lacks, lacks_back, less_other}
use Rattle.edit_splice.proofs.Keeping.{Stand, before_range, behind_range, behind_is, behind_none, below_before}

-- either way round
not_both : (o : Option ℕ) (j : ℕ) (x : ItemView) (xs : List ItemView) → x.item ≡ Some j → IfSome o (λ i. Lacks i (x ∷ xs)) → o ≢ Some j
not_both None j x xs e h f = absurd cc
not_both (Some i) j x xs e h f = let same : Some i ≡ x.item = f ∙ sym e in h.0 (sym same)

lacks_first : (j : ℕ) (x : ItemView) (xs ys : List ItemView) → x.item ≡ Some j → Foreign ys (x ∷ xs) → Lacks j ys
lacks_first j x xs [] e f = tt
lacks_first j x xs (y ∷ ys) e f = (not_both y.item j x xs e f.0, lacks_first j x xs ys e f.1)

if_later : (o : Option ℕ) (x : ItemView) (xs : List ItemView) → IfSome o (λ i. Lacks i (x ∷ xs)) → IfSome o (λ i. Lacks i xs)
if_later None x xs h = tt
if_later (Some i) x xs h = h.1

foreign_later : (x : ItemView) (xs ys : List ItemView) → Foreign ys (x ∷ xs) → Foreign ys xs
foreign_later x xs [] f = tt
foreign_later x xs (y ∷ ys) f = (if_later y.item x xs f.0, foreign_later x xs ys f.1)

pub foreign-sym : (xs ys : List ItemView) → Foreign ys xs → Foreign xs ys
foreign-sym [] ys f = tt
foreign-sym (x ∷ xs) ys f = (if_known x.item (λ j. Lacks j ys) (λ j e. lacks_first j x xs ys e f), foreign-sym xs ys (foreign_later x xs ys f))

-- an item's number is none of those before it
lacks_read : (i k : ℕ) (vs : List ItemView) (w : ItemView) → Lacks i vs → slice_get vs k ≡ Some w → w.item ≢ Some i
lacks_read i k [] w l e = absurd (omega (arith, slice_get_within [] k w e))
lacks_read i zero (v ∷ vs) w l e = let same : v ≡ w = cc in (let P : ItemView → Type 0 = λ u. u.item ≢ Some i in subst P same l.0)
lacks_read i (suc k) (v ∷ vs) w l e = lacks_read i k vs w l.1 e

not_read : (o : Option ℕ) (i k : ℕ) (vs : List ItemView) (w : ItemView) → IfSome o (λ j. Lacks j vs) → slice_get vs k ≡ Some w → w.item ≡ Some i → o ≢ Some i
not_read None i k vs w h e is f = absurd cc
not_read (Some j) i k vs w h e is f = let same : Some i ≡ Some j = sym f in lacks_read j k vs w h e (is ∙ same)

lacks_taken : (i k : ℕ) (vs : List ItemView) (w : ItemView) → Apart vs → slice_get vs k ≡ Some w → w.item ≡ Some i → Lacks i (take k vs)
lacks_taken i zero vs w a e is = tt
lacks_taken i (suc k) [] w a e is = tt
lacks_taken i (suc k) (v ∷ vs) w a e is = (not_read v.item i k vs w a.0 e is, lacks_taken i k vs w a.1 e is)

lacks_earlier : (keep : Bool) (i k m n : ℕ) (vs : List ItemView) (g : ItemView) → Lacks i (take k vs) → slice_get vs m ≡ Some g → m < k → Lacks i (take m vs ++ front_view keep g n ∷ [])
lacks_earlier keep i k m n [] g l e lt = absurd (omega (arith, slice_get_within [] m g e))
lacks_earlier keep i zero m n (v ∷ vs) g l e lt = absurd (omega (arith, lt))
lacks_earlier keep i (suc k) zero n (v ∷ vs) g l e lt = let same : v ≡ g = cc in (let P : ItemView → Type 0 = λ u. u.item ≢ Some i in (subst P same l.0, tt))
lacks_earlier keep i (suc k) (suc m) n (v ∷ vs) g l e lt = (l.0, lacks_earlier keep i k m n vs g l.1 e (omega (arith, lt)))

-- the item with a free number stands behind what ends at x, and before what stands at y
pub frames_to : (vs : List ItemView) (k : ℕ) (w : ItemView) (from to : ℕ) → TakesUp vs k w from to → to ≡ from + w.len
frames_to vs k w from to s =
    omega (arith, s.starts, s.stops, frames_in-take_more vs k no_view (slice_get_within vs k w s.read), ap (λ (u : ItemView). u.len) (get_or_from_slice_get vs k w no_view s.read))

free_before : (keep : Bool) (next i : ℕ) (t : TrackState) (x y : ℕ) (l : Option ItemAt) → next ≡ t.next_item → Stand next (items_of t.cells) → EndsAt t.cells x l → (t.next_item ≤ i) ⊎ StandsWithin t x y i → Lacks i (before_range keep (items_of t.cells) l x)
free_before keep next i t x y None is s e f = tt
free_before keep next i t x y (Some g) is s e f =
    let vs : List ItemView = items_of t.cells in
    ⊎_elim
    (λ (new : t.next_item ≤ i). lacks-below next i (before_range keep vs (Some g) x) (below_before keep next t.cells x (Some g) s e) (omega (arith, is, new)))
    (λ (w : StandsWithin t x y i). (
    let less : g.index < w.index = frames_less vs g.index w.index (omega (arith, e.0, e.1.from, e.1.begins, w.stands.starts, w.begins)) in
    lacks_earlier keep i w.index g.index (x - g.from) vs g.view (lacks_taken i w.index vs w.view s.apart w.stands.read w.is) e.1.read less))
    f

pub lacks_behind : (i j h : ℕ) (vs : List ItemView) (v w : ItemView) → slice_get vs j ≡ Some w → w.item ≡ Some i → j < h → drop h vs ≡ v ∷ drop (suc h) vs → Apart vs → Lacks i (v ∷ drop (suc h) vs)
lacks_behind i j zero vs v w e is lt cut a = absurd (omega (arith, lt))
lacks_behind i j (suc h) vs v w e is lt cut a =
    let P : List ItemView → Type 0 = λ zs. Lacks i zs in
    subst P cut (known w.item i (λ k. Lacks k (drop (suc h) vs)) (item_lacks vs j h w e (omega (arith, lt)) a) is)

free_behind : (keep : Bool) (next fresh i : ℕ) (t : TrackState) (x y : ℕ) (l r : Option ItemAt) (o : Option ItemView) → next ≡ t.next_item → next ≤ fresh → i < fresh → Stand next (items_of t.cells) → StandsFrom t.cells y r → o ≡ view_after (items_of t.cells) r
    → (t.next_item ≤ i) ⊎ StandsWithin t x y i → Lacks i (behind_range keep (items_of t.cells) l r o y fresh)
free_behind keep next fresh i t x y l None o is le lt s e a f =
    let P : List ItemView → Type 0 = λ zs. Lacks i zs in
    subst P (sym (behind_none keep (items_of t.cells) l o y fresh)) tt
free_behind keep next fresh i t x y l (Some h) o is le lt s e a f =
    let vs : List ItemView = items_of t.cells in
    let ws : List ItemView = drop (suc h.index) vs in
    let P : List ItemView → Type 0 = λ zs. Lacks i zs in
    let B : List ItemView → Type 0 = λ zs. NumbersBelow next zs in
    let cut = drop-some vs h.index h.view e.read in
    let below : NumbersBelow next (h.view ∷ ws) = subst B cut (below_drop next h.index vs s.below) in
    let old : Lacks i (h.view ∷ ws) =
    ⊎_elim
    (λ (new : t.next_item ≤ i). lacks-below next i (h.view ∷ ws) below (omega (arith, is, new)))
    (λ (w : StandsWithin t x y i). (
    let up : h.from + h.view.len ≡ frames_in (take (h.index + 1) vs) =
    omega (arith, e.from, frames_in-take_more vs h.index no_view (slice_get_within vs h.index h.view e.read), ap (λ (u : ItemView). u.len) (get_or_from_slice_get vs h.index h.view no_view e.read)) in
    let less : w.index + 1 < h.index + 1 = frames_less vs (w.index + 1) (h.index + 1) (omega (arith, up, e.ends, w.stands.stops, w.ends)) in
    lacks_behind i w.index h.index vs h.view w.view w.stands.read w.is (omega (arith, less)) cut s.apart))
    f in
    subst P (sym (behind_is keep vs l h o y fresh a))
    (lacks_back keep (split_between l (Some h)) fresh (y - h.from) (h.view.len - (y - h.from)) i h.view ws (less_other i fresh lt) old) where
      below_drop : (n i : ℕ) (vs : List ItemView) → NumbersBelow n vs → NumbersBelow n (drop i vs)
      below_drop n zero vs b = b
      below_drop n (suc i) [] b = tt
      below_drop n (suc i) (v ∷ vs) b = below_drop n i vs b.1

-- so no item of those put in is among them
if_free : (o : Option ℕ) (t : TrackState) (x y : ℕ) (zs : List ItemView) → ((i : ℕ) → o ≡ Some i → (t.next_item ≤ i) ⊎ StandsWithin t x y i → Lacks i zs) → IfSome o (λ i. (t.next_item ≤ i) ⊎ StandsWithin t x y i) → IfSome o (λ i. Lacks i zs)
if_free None t x y zs f h = tt
if_free (Some i) t x y zs f h = f i refl h

free-before : (keep : Bool) (t : TrackState) (x y : ℕ) (l : Option ItemAt) (views : List ItemView) → Stand t.next_item (items_of t.cells) → EndsAt t.cells x l → AllFree t x y views → Foreign views (before_range keep (items_of t.cells) l x)
free-before keep t x y l [] s e f = tt
free-before keep t x y l (v ∷ vs) s e f = (
  if_free v.item t x y (before_range keep (items_of t.cells) l x) (λ i is h. free_before keep t.next_item i t x y l refl s e h) f.0,
  free-before keep t x y l vs s e f.1,
)

pub foreign-before : (keep : Bool) (t : TrackState) (x y : ℕ) (l : Option ItemAt) (views : List ItemView) → Stand t.next_item (items_of t.cells) → EndsAt t.cells x l → AllFree t x y views → Foreign (before_range keep (items_of t.cells) l x) views
foreign-before keep t x y l views s e f = foreign-sym (before_range keep (items_of t.cells) l x) views (free-before keep t x y l views s e f)

pub foreign-behind : (keep : Bool) (t : TrackState) (fresh x y : ℕ) (l r : Option ItemAt) (o : Option ItemView) (views : List ItemView) → t.next_item ≤ fresh → NumbersBelow fresh views → Stand t.next_item (items_of t.cells) → StandsFrom t.cells y r
    → o ≡ view_after (items_of t.cells) r → AllFree t x y views → Foreign views (behind_range keep (items_of t.cells) l r o y fresh)
foreign-behind keep t fresh x y l r o [] le b s e a f = tt
foreign-behind keep t fresh x y l r o (v ∷ vs) le b s e a f = (
  if_free v.item t x y (behind_range keep (items_of t.cells) l r o y fresh)
      (λ i is h. free_behind keep t.next_item fresh i t x y l r o refl le (known v.item i (λ j. j < fresh) b.0 is) s e a h) f.0,
  foreign-behind keep t fresh x y l r o vs le b.1 s e a f.1,
)
