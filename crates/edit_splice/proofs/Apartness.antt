-- After a splice no two items have one number.
use Rattle.std.proofs.Common.{◌≡◌, ◌≢◌, ℕ, zero, suc, ◌<◌, ◌≤◌, Bool, true, false, cond, List, [], ◌∷◌, ◌++◌, Option, Some, None, IfSome, refl, sym, ap, ◌∙◌, arith, subst, take, drop, slice_get}
use Rattle.std.proofs.lemmas.Bool.{cond_both}
use Rattle.std.proofs.lemmas.Option.{slice_get_within}
use Rattle.frame_meaning.specs.Cells.{same_number}
use Rattle.composables.specs.declared.items.ItemView.{ItemView}
use Rattle.composables.specs.TrackFacts.{Lacks, Apart, NumbersBelow}
use Rattle.composables.proofs.Joining.{same-is, same-refl}
use Rattle.edit_splice.specs.declared.seams.ItemAt.{ItemAt}
use Rattle.composables.specs.Views.{later_view}
use Rattle.edit_splice.specs.Parts.{split_between, front_view, renumbered_view}
use Rattle.edit_splice.specs.NewItems.{NumbersFrom}
use Rattle.edit_splice.proofs.Numbers.{renumbered-item}
use Rattle.edit_splice.proofs.Ends.{first_kept}
use Rattle.edit_splice.proofs.Meeting.{if-lacks}

-- no item of the first is among the second
abbrev pub Foreign : List ItemView → List ItemView → Type 0
Foreign [] ys = Unit {0}
Foreign (x ∷ xs) ys = IfSome x.item (λ i. Lacks i ys) × Foreign xs ys

lacks_append : (i : ℕ) (xs ys : List ItemView) → Lacks i xs → Lacks i ys → Lacks i (xs ++ ys)
lacks_append i [] ys l m = m
lacks_append i (x ∷ xs) ys l m = (l.0, lacks_append i xs ys l.1 m)

if_both : (o : Option ℕ) (xs ys : List ItemView) → IfSome o (λ i. Lacks i xs) → IfSome o (λ i. Lacks i ys) → IfSome o (λ i. Lacks i (xs ++ ys))
if_both None xs ys l m = tt
if_both (Some i) xs ys l m = lacks_append i xs ys l m

pub apart-append : (xs ys : List ItemView) → Apart xs → Apart ys → Foreign xs ys → Apart (xs ++ ys)
apart-append [] ys a b f = b
apart-append (x ∷ xs) ys a b f = (if_both x.item xs ys a.0 f.0, apart-append xs ys a.1 b f.1)

pub foreign-append : (xs ys zs : List ItemView) → Foreign xs zs → Foreign ys zs → Foreign (xs ++ ys) zs
foreign-append [] ys zs f g = g
foreign-append (x ∷ xs) ys zs f g = (f.0, foreign-append xs ys zs f.1 g)

-- a number that is present
pub if_known : (o : Option ℕ) (P : ℕ → Type 0) → ((i : ℕ) → o ≡ Some i → P i) → IfSome o P
if_known None P f = tt
if_known (Some i) P f = f i refl

pub known : (o : Option ℕ) (i : ℕ) (P : ℕ → Type 0) → IfSome o P → o ≡ Some i → P i
known None i P h e = absurd cc
known (Some j) i P h e = let same : j ≡ i = cc in subst P same h

-- numbers below another and numbers from it on
not_below : (o : Option ℕ) (n i : ℕ) → IfSome o (λ j. j < n) → n ≤ i → o ≢ Some i
not_below None n i b h e = absurd cc
not_below (Some j) n i b h e = let same : j ≡ i = cc in omega (arith, same, b, h)

pub lacks-below : (n i : ℕ) (vs : List ItemView) → NumbersBelow n vs → n ≤ i → Lacks i vs
lacks-below n i [] b h = tt
lacks-below n i (v ∷ vs) b h = (not_below v.item n i b.0 h, lacks-below n i vs b.1 h)

not_from : (o : Option ℕ) (n i : ℕ) → IfSome o (λ j. n ≤ j) → i < n → o ≢ Some i
not_from None n i b h e = absurd cc
not_from (Some j) n i b h e = let same : j ≡ i = cc in omega (arith, same, b, h)

lacks_from : (n i : ℕ) (vs : List ItemView) → NumbersFrom n vs → i < n → Lacks i vs
lacks_from n i [] b h = tt
lacks_from n i (v ∷ vs) b h = (not_from v.item n i b.0 h, lacks_from n i vs b.1 h)

pub foreign-new : (n : ℕ) (xs ys : List ItemView) → NumbersBelow n xs → NumbersFrom n ys → Foreign xs ys
foreign-new n [] ys b f = tt
foreign-new n (x ∷ xs) ys b f =
    (if_known x.item (λ i. Lacks i ys) (λ i e. lacks_from n i ys f (known x.item i (λ j. j < n) b.0 e)), foreign-new n xs ys b.1 f)

-- the items before the range
lacks_front : (keep : Bool) (i : ℕ) (us : List ItemView) (v : ItemView) (ws : List ItemView) (n : ℕ) → Lacks i (us ++ v ∷ ws) → Lacks i (us ++ front_view keep v n ∷ [])
lacks_front keep i [] v ws n l = (l.0, tt)
lacks_front keep i (u ∷ us) v ws n l = (l.0, lacks_front keep i us v ws n l.1)

lacks_nothing : (o : Option ℕ) → IfSome o (λ i. Lacks i [])
lacks_nothing None = tt
lacks_nothing (Some i) = tt

pub apart-front : (keep : Bool) (us : List ItemView) (v : ItemView) (ws : List ItemView) (n : ℕ) → Apart (us ++ v ∷ ws) → Apart (us ++ front_view keep v n ∷ [])
apart-front keep [] v ws n a = (lacks_nothing v.item, tt)
apart-front keep (u ∷ us) v ws n a = (if-lacks u.item (us ++ v ∷ ws) (us ++ front_view keep v n ∷ []) (λ i. lacks_front keep i us v ws n) a.0, apart-front keep us v ws n a.1)

pub below-front : (keep : Bool) (m : ℕ) (us : List ItemView) (v : ItemView) (ws : List ItemView) (n : ℕ) → NumbersBelow m (us ++ v ∷ ws) → NumbersBelow m (us ++ front_view keep v n ∷ [])
below-front keep m [] v ws n b = (b.0, tt)
below-front keep m (u ∷ us) v ws n b = (b.0, below-front keep m us v ws n b.1)

-- those behind it
lacks_kept : (keep : Bool) (i n : ℕ) (ws : List ItemView) → Lacks i ws → Lacks i (first_kept keep n ws)
lacks_kept keep i n [] l = tt
lacks_kept keep i n (w ∷ ws) l = l

apart_kept : (keep : Bool) (n : ℕ) (ws : List ItemView) → Apart ws → Apart (first_kept keep n ws)
apart_kept keep n [] a = tt
apart_kept keep n (w ∷ ws) a = a

other_number : (s : Option ℕ) (fresh i : ℕ) (v : ItemView) → v.item ≢ Some i → i ≢ fresh → (renumbered_view s fresh v).item ≢ Some i
other_number None fresh i v ne off = ne
other_number (Some j) fresh i v ne off = by_test (same_number v.item (Some j)) where
  by_test : (b : Bool) → (cond b (record v { item = Some fresh }) v).item ≢ Some i
  by_test true = λ e. (let same : i ≡ fresh = cc in off same)
  by_test false = ne

pub lacks_back : (keep : Bool) (s : Option ℕ) (fresh k n i : ℕ) (v : ItemView) (ws : List ItemView) → i ≢ fresh → Lacks i (v ∷ ws) → Lacks i (renumbered_view s fresh (later_view v k) ∷ first_kept keep n ws)
lacks_back keep s fresh k n i v ws off l = (other_number s fresh i (later_view v k) l.0 off, lacks_kept keep i n ws l.1)

pub apart-back : (keep : Bool) (s : Option ℕ) (fresh k n : ℕ) (v : ItemView) (ws : List ItemView) → Apart (v ∷ ws) → Lacks fresh ws → Apart (renumbered_view s fresh (later_view v k) ∷ first_kept keep n ws)
apart-back keep s fresh k n v ws a l = (lacking s, apart_kept keep n ws a.1) where
  own : IfSome v.item (λ i. Lacks i (first_kept keep n ws))
  own = if-lacks v.item ws (first_kept keep n ws) (λ i. lacks_kept keep i n ws) a.0

  lacking : (s : Option ℕ) → IfSome (renumbered_view s fresh (later_view v k)).item (λ i. Lacks i (first_kept keep n ws))
  lacking None = own
  lacking (Some j) =
      cond_both (same_number v.item (Some j)) (record (later_view v k) { item = Some fresh }) (later_view v k) (λ (w : ItemView). IfSome w.item (λ i. Lacks i (first_kept keep n ws)))
      (λ t. lacks_kept keep fresh n ws l) (λ t. own)

-- the new items are not among those behind it
pub less_other : (i n : ℕ) → i < n → i ≢ n
less_other i n h e = omega (arith, h, e)

pub foreign-back-new : (keep : Bool) (s : Option ℕ) (next fresh k n : ℕ) (xs : List ItemView) (v : ItemView) (ws : List ItemView) → NumbersFrom next xs → NumbersBelow fresh xs → NumbersBelow next (v ∷ ws)
    → Foreign xs (renumbered_view s fresh (later_view v k) ∷ first_kept keep n ws)
foreign-back-new keep s next fresh k n [] v ws f b old = tt
foreign-back-new keep s next fresh k n (x ∷ xs) v ws f b old = (
  if_known x.item (λ i. Lacks i (renumbered_view s fresh (later_view v k) ∷ first_kept keep n ws))
      (λ i e. lacks_back keep s fresh k n i v ws (less_other i fresh (known x.item i (λ j. j < fresh) b.0 e)) (lacks-below next i (v ∷ ws) old (known x.item i (λ j. next ≤ j) f.0 e))),
  foreign-back-new keep s next fresh k n xs v ws f.1 b.1 old,
)

-- nor are those before it
foreign_back : (keep : Bool) (s : Option ℕ) (fresh k n : ℕ) (xs : List ItemView) (v : ItemView) (ws : List ItemView) → NumbersBelow fresh xs → Foreign xs (v ∷ ws) → Foreign xs (renumbered_view s fresh (later_view v k) ∷ first_kept keep n ws)
foreign_back keep s fresh k n [] v ws b f = tt
foreign_back keep s fresh k n (x ∷ xs) v ws b f = (
  if_known x.item (λ i. Lacks i (renumbered_view s fresh (later_view v k) ∷ first_kept keep n ws))
      (λ i e. lacks_back keep s fresh k n i v ws (less_other i fresh (known x.item i (λ j. j < fresh) b.0 e)) (known x.item i (λ j. Lacks j (v ∷ ws)) f.0 e)),
  foreign_back keep s fresh k n xs v ws b.1 f.1,
)

lacks_drop : (i j : ℕ) (vs : List ItemView) → Lacks i vs → Lacks i (drop j vs)
lacks_drop i zero vs l = l
lacks_drop i (suc j) [] l = tt
lacks_drop i (suc j) (v ∷ vs) l = lacks_drop i j vs l.1

foreign_apart : (vs : List ItemView) (i j : ℕ) → i ≤ j → Apart vs → Foreign (take i vs) (drop j vs)
foreign_apart vs zero j le a = tt
foreign_apart [] (suc i) j le a = tt
foreign_apart (v ∷ vs) (suc i) zero le a = absurd (omega (arith, le))
foreign_apart (v ∷ vs) (suc i) (suc j) le a = (if-lacks v.item vs (drop j vs) (λ k. lacks_drop k j vs) a.0, foreign_apart vs i j (omega (arith, le)) a.1)

pub item_lacks : (vs : List ItemView) (i j : ℕ) (v : ItemView) → slice_get vs i ≡ Some v → i ≤ j → Apart vs → IfSome v.item (λ k. Lacks k (drop (suc j) vs))
item_lacks [] i j v e le a = absurd (omega (arith, slice_get_within [] i v e))
item_lacks (x ∷ xs) zero j v e le a =
    let same : x ≡ v = cc in
    let P : ItemView → Type 0 = λ w. IfSome w.item (λ k. Lacks k (drop j xs)) in
    subst P same (if-lacks x.item xs (drop j xs) (λ k. lacks_drop k j xs) a.0)
item_lacks (x ∷ xs) (suc i) zero v e le a = absurd (omega (arith, le))
item_lacks (x ∷ xs) (suc i) (suc j) v e le a = item_lacks xs i j v e (omega (arith, le)) a.1

-- an item on both sides has a fresh number behind the range
cut_number : (g h : ItemAt) (fresh k i : ℕ) → g.view.item ≡ Some i → i < fresh → (renumbered_view (split_between (Some g) (Some h)) fresh (later_view h.view k)).item ≢ Some i
cut_number g h fresh k i is lt = by_test (same_number g.view.item h.view.item) refl where
  by_test : (b : Bool) → same_number g.view.item h.view.item ≡ b → (renumbered_view (cond b h.view.item None) fresh (later_view h.view k)).item ≢ Some i
  by_test true e =
      let same : h.view.item ≡ Some i = sym (same-is g.view.item h.view.item e) ∙ is in
      λ clash. (
      let both : Some fresh ≡ Some i = sym (renumbered-item i fresh (later_view h.view k) same) ∙ (ap (λ (o : Option ℕ). (renumbered_view o fresh (later_view h.view k)).item) (sym same) ∙ clash) in
      let one : fresh ≡ i = cc in
      absurd (omega (arith, one, lt)))
  by_test false e = λ clash. (
      let same : same_number g.view.item h.view.item ≡ true = ap (λ (o : Option ℕ). same_number o h.view.item) is ∙ (ap (same_number (Some i)) clash ∙ same-refl (Some i)) in
      let never : true ≡ false = sym same ∙ e in
      absurd cc)

pub foreign-front : (keep : Bool) (vs : List ItemView) (g h : ItemAt) (m fresh k n : ℕ) → slice_get vs g.index ≡ Some g.view → drop h.index vs ≡ h.view ∷ drop (suc h.index) vs → g.index ≤ h.index → Apart vs
    → NumbersBelow fresh (take g.index vs) → IfSome g.view.item (λ i. i < fresh)
    → Foreign (take g.index vs ++ front_view keep g.view m ∷ []) (renumbered_view (split_between (Some g) (Some h)) fresh (later_view h.view k) ∷ first_kept keep n (drop (suc h.index) vs))
foreign-front keep vs g h m fresh k n read cut le a below own =
    let ws : List ItemView = drop (suc h.index) vs in
    let s : Option ℕ = split_between (Some g) (Some h) in
    let P : List ItemView → Type 0 = λ zs. Foreign (take g.index vs) zs in
    foreign-append (take g.index vs) (front_view keep g.view m ∷ []) (renumbered_view s fresh (later_view h.view k) ∷ first_kept keep n ws)
    (foreign_back keep s fresh k n (take g.index vs) h.view ws below (subst P cut (foreign_apart vs g.index h.index le a))) (
      if_known g.view.item (λ i. Lacks i (renumbered_view s fresh (later_view h.view k) ∷ first_kept keep n ws))
          (λ i e. (cut_number g h fresh k i e (known g.view.item i (λ j. j < fresh) own e), lacks_kept keep i n ws (known g.view.item i (λ j. Lacks j ws) (item_lacks vs g.index h.index g.view read le a) e))),
      tt,
    )
