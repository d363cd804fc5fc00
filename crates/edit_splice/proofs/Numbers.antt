-- Item numbers of what is put in place: each is below the next item number.
use Rattle.std.proofs.Common.{◌≡◌, ℕ, ◌+◌, ◌<◌, ◌≤◌, Bool, cond, List, [], ◌∷◌, ◌++◌, Option, Some, None, IfSome, refl, ap, ◌∙◌, arith}
use Rattle.std.proofs.lemmas.Bool.{cond_both}
use Rattle.frame_meaning.specs.Cells.{same_number}
use Rattle.composables.specs.declared.items.ItemView.{ItemView}
use Rattle.composables.specs.TrackFacts.{NumbersBelow}
use Rattle.composables.specs.TrackState.{next_past, next_past_all}
use Rattle.composables.proofs.Joining.{same-refl}
use Rattle.edit_splice.specs.Parts.{renumbered_view}
use Rattle.edit_splice.proofs.Splits.{after_split}

pub if-weaker : (o : Option ℕ) (m n : ℕ) → m ≤ n → IfSome o (λ i. i < m) → IfSome o (λ i. i < n)
if-weaker None m n h b = tt
if-weaker (Some i) m n h b = omega (arith, b)

pub below-weaker : (m n : ℕ) (vs : List ItemView) → m ≤ n → NumbersBelow m vs → NumbersBelow n vs
below-weaker m n [] h b = tt
below-weaker m n (v ∷ vs) h b = (if-weaker v.item m n h b.0, below-weaker m n vs h b.1)

pub below-append : (n : ℕ) (xs ys : List ItemView) → NumbersBelow n xs → NumbersBelow n ys → NumbersBelow n (xs ++ ys)
below-append n [] ys b c = c
below-append n (x ∷ xs) ys b c = (b.0, below-append n xs ys b.1 c)

-- the next item number past all of them
pub next-append : (n : ℕ) (xs ys : List ItemView) → next_past_all n (xs ++ ys) ≡ next_past_all (next_past_all n xs) ys
next-append n [] ys = refl
next-append n (x ∷ xs) ys = next-append (next_past n x.item) xs ys

past_below : (n : ℕ) (o : Option ℕ) → IfSome o (λ i. i < n) → next_past n o ≡ n
past_below n None b = refl
past_below n (Some i) b = omega (arith, b)

pub next-below : (n : ℕ) (vs : List ItemView) → NumbersBelow n vs → next_past_all n vs ≡ n
next-below n [] b = refl
next-below n (v ∷ vs) b = ap (λ (k : ℕ). next_past_all k vs) (past_below n v.item b.0) ∙ next-below n vs b.1

past_rises : (n : ℕ) (o : Option ℕ) → n ≤ next_past n o
past_rises n None = omega arith
past_rises n (Some i) = omega arith

pub next-rises : (n : ℕ) (vs : List ItemView) → n ≤ next_past_all n vs
next-rises n [] = omega arith
next-rises n (v ∷ vs) = omega (arith, past_rises n v.item, next-rises (next_past n v.item) vs)

past_most : (b n : ℕ) (o : Option ℕ) → n ≤ b → IfSome o (λ i. i < b) → next_past n o ≤ b
past_most b n None h l = h
past_most b n (Some i) h l = omega (arith, h, l)

pub next-most : (b n : ℕ) (vs : List ItemView) → n ≤ b → NumbersBelow b vs → next_past_all n vs ≤ b
next-most b n [] h l = h
next-most b n (v ∷ vs) h l = next-most b (next_past n v.item) vs (past_most b n v.item h l.0) l.1

-- the part that is renumbered
pub renumbered-item : (i fresh : ℕ) (v : ItemView) → v.item ≡ Some i → (renumbered_view (Some i) fresh v).item ≡ Some fresh
renumbered-item i fresh v e =
    ap (λ (b : Bool). (cond b (record v { item = Some fresh }) v).item) (ap (λ (o : Option ℕ). same_number o (Some i)) e ∙ same-refl (Some i))

pub past-renumbered : (s : Option ℕ) (fresh : ℕ) (v : ItemView) → IfSome s (λ i. v.item ≡ Some i) → IfSome v.item (λ i. i < fresh) → next_past fresh (renumbered_view s fresh v).item ≡ after_split s fresh
past-renumbered None fresh v e b = past_below fresh v.item b
past-renumbered (Some i) fresh v e b =
    let one : next_past fresh (Some fresh) ≡ fresh + 1 = omega arith in
    ap (next_past fresh) (renumbered-item i fresh v e) ∙ one

pub split-rises : (s : Option ℕ) (fresh : ℕ) → fresh ≤ after_split s fresh
split-rises None fresh = omega arith
split-rises (Some i) fresh = omega arith

pub below-renumbered : (s : Option ℕ) (fresh b : ℕ) (v : ItemView) → fresh < b → IfSome v.item (λ i. i < b) → IfSome (renumbered_view s fresh v).item (λ i. i < b)
below-renumbered None fresh b v h l = l
below-renumbered (Some j) fresh b v h l =
    cond_both (same_number v.item (Some j)) (record v { item = Some fresh }) v (λ (w : ItemView). IfSome w.item (λ i. i < b)) (λ t. h) (λ t. l)

pub len-stays : (s : Option ℕ) (fresh : ℕ) (v : ItemView) → (renumbered_view s fresh v).len ≡ v.len
len-stays None fresh v = refl
len-stays (Some j) fresh v = cond_both (same_number v.item (Some j)) (record v { item = Some fresh }) v (λ (w : ItemView). w.len ≡ v.len) (λ t. refl) (λ t. refl)

below_past : (n : ℕ) (o : Option ℕ) → IfSome o (λ i. i < next_past n o)
below_past n None = tt
below_past n (Some i) = omega arith

pub below-next : (n : ℕ) (vs : List ItemView) → NumbersBelow (next_past_all n vs) vs
below-next n [] = tt
below-next n (v ∷ vs) =
    (if-weaker v.item (next_past n v.item) (next_past_all (next_past n v.item) vs) (next-rises (next_past n v.item) vs) (below_past n v.item), below-next (next_past n v.item) vs)
