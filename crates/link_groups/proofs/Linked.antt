-- Items of several tracks linked, one track after another.
use Rattle.std.proofs.Common.{◌≡◌, ℕ, zero, suc, ◌+◌, ◌<◌, ◌≤◌, Bool, true, false, cond, ◌&&◌, List, [], ◌∷◌, All, length, map, get_or, Option, Some, None, is_some, refl, sym, ap, ◌∙◌, arith, subst, slice_get}
use Rattle.std.proofs.Math.ListN.{set}
use Rattle.std.proofs.lemmas.List.Elements.{All-cons}
use Rattle.frame_meaning.specs.declared.cells.Link.{Link}
use Rattle.frame_meaning.specs.Cells.{same_number}
use Rattle.composables.specs.declared.items.ItemView.{ItemView}
use Rattle.composables.specs.declared.media.Table.{Table}
use Rattle.composables.specs.declared.refusals.Refusal.TheVariants.{NoItem}
use Rattle.composables.specs.Good.{IsGood, IsLinkOf}
use Rattle.composables.specs.Items.{items_of}
use Rattle.composables.specs.TrackState.{TrackState}
use Rattle.composables.proofs.Joining.{same-is}
use Rattle.link_groups.specs.LinkedItems.{item_from, item_of, linked_item}
use Rattle.link_groups.specs.Linking.{all_linked, already_linked, are_there, home_risen, link_refusal, offsets_differ, or_else}
use Rattle.link_groups.proofs.GoodShifts.{with_next}
use Rattle.link_groups.proofs.Relinked.{relinked}

-- where there are more of one than of the other, or fewer, not all are there
and_both : (a b : Bool) → a && b ≡ true → b ≡ true
and_both true b e = e
and_both false b e = absurd cc

and_one : (a b : Bool) → a && b ≡ true → a ≡ true
and_one true b e = refl
and_one false b e = absurd cc

pub as-many : (ts : List TrackState) (is : List ℕ) → are_there ts is ≡ true → length ts ≡ length is
as-many [] [] e = refl
as-many [] (i ∷ is) e = absurd cc
as-many (t ∷ ts) [] e = absurd cc
as-many (t ∷ ts) (i ∷ is) e = ap suc (as-many ts is (and_both (is_some (item_of t i)) (are_there ts is) e))

pub not-there : (ts : List TrackState) (is : List ℕ) → (length ts ≡ length is → ⊥) → are_there ts is ≡ false
not-there ts is n = by (are_there ts is) refl where
  by : (b : Bool) → are_there ts is ≡ b → b ≡ false
  by true e = absurd (n (as-many ts is e))
  by false e = refl

pub there-at : (ts : List TrackState) (is : List ℕ) (n : ℕ) (d : TrackState) (j : ℕ) → are_there ts is ≡ true → n < length ts → is_some (item_of (get_or ts n d) (get_or is n j)) ≡ true
there-at [] is n d j e h = absurd (omega (arith, h))
there-at (t ∷ ts) [] n d j e h = absurd cc
there-at (t ∷ ts) (i ∷ is) zero d j e h = and_one (is_some (item_of t i)) (are_there ts is) e
there-at (t ∷ ts) (i ∷ is) (suc n) d j e h = there-at ts is n d j (and_both (is_some (item_of t i)) (are_there ts is) e) (omega (arith, h))

-- the first of these tracks linked, the others as they were

abbrev pub part_linked : Link → ℕ → List TrackState → List ℕ → List TrackState
part_linked made zero ts is = ts
part_linked made (suc n) [] is = []
part_linked made (suc n) (t ∷ ts) [] = t ∷ ts
part_linked made (suc n) (t ∷ ts) (i ∷ is) = linked_item t i (Some made) ∷ part_linked made n ts is

pub part-read : (made : Link) (n : ℕ) (ts : List TrackState) (is : List ℕ) (d : TrackState) → get_or (part_linked made n ts is) n d ≡ get_or ts n d
part-read made zero ts is d = refl
part-read made (suc n) [] is d = refl
part-read made (suc n) (t ∷ ts) [] d = refl
part-read made (suc n) (t ∷ ts) (i ∷ is) d = part-read made n ts is d

pub part-length : (made : Link) (n : ℕ) (ts : List TrackState) (is : List ℕ) → length (part_linked made n ts is) ≡ length ts
part-length made zero ts is = refl
part-length made (suc n) [] is = refl
part-length made (suc n) (t ∷ ts) [] = refl
part-length made (suc n) (t ∷ ts) (i ∷ is) = ap suc (part-length made n ts is)

part_set : (made : Link) (n : ℕ) (ts : List TrackState) (is : List ℕ) (d : TrackState) (j : ℕ) → n < length ts → n < length is
    → set (part_linked made n ts is) n (linked_item (get_or ts n d) (get_or is n j) (Some made)) ≡ part_linked made (suc n) ts is
part_set made n [] is d j h k = absurd (omega (arith, h))
part_set made n (t ∷ ts) [] d j h k = absurd (omega (arith, k))
part_set made zero (t ∷ ts) (i ∷ is) d j h k = refl
part_set made (suc n) (t ∷ ts) (i ∷ is) d j h k =
    ap (λ (us : List TrackState). linked_item t i (Some made) ∷ us) (part_set made n ts is d j (omega (arith, h)) (omega (arith, k)))

pub part-more : (made : Link) (n : ℕ) (ts us : List TrackState) (is : List ℕ) (t u : TrackState) (i j : ℕ) → n < length ts → n < length is → us ≡ part_linked made n ts is → t ≡ get_or us n t → i ≡ get_or is n j
    → u ≡ linked_item t i (Some made) → set us n u ≡ part_linked made (n + 1) ts is
part-more made n ts us is t u i j h k e f g is_new =
    let there : t ≡ get_or ts n t = f ∙ (ap (λ (l : List TrackState). get_or l n t) e ∙ part-read made n ts is t) in
    let more : suc n ≡ n + 1 = omega arith in
    ap (λ (l : List TrackState). set l n u) e
    ∙ (ap (set (part_linked made n ts is) n) (is_new ∙ (ap (λ (v : TrackState). linked_item v i (Some made)) there ∙ ap (λ (m : ℕ). linked_item (get_or ts n t) m (Some made)) g))
    ∙ (part_set made n ts is t j h k ∙ ap (λ (m : ℕ). part_linked made m ts is) more))

pub part-all : (made : Link) (n : ℕ) (ts : List TrackState) (is : List ℕ) → length ts ≡ length is → length is ≤ n → part_linked made n ts is ≡ all_linked made ts is
part-all made zero [] [] e h = refl
part-all made zero [] (i ∷ is) e h = refl
part-all made zero (t ∷ ts) [] e h = refl
part-all made zero (t ∷ ts) (i ∷ is) e h = absurd (omega (arith, h))
part-all made (suc n) [] is e h = refl
part-all made (suc n) (t ∷ ts) [] e h = refl
part-all made (suc n) (t ∷ ts) (i ∷ is) e h = ap (λ (us : List TrackState). linked_item t i (Some made) ∷ us) (part-all made n ts is (omega (arith, e)) (omega (arith, h)))

-- the tracks stay good

record IsAt (vs : List ItemView) (i : ℕ) (p : ℕ × ItemView) : Type 0 where
  index : ℕ
  read : slice_get vs index ≡ Some p.1
  number : p.1.item ≡ Some i

at_from : (i x : ℕ) (vs : List ItemView) (p : ℕ × ItemView) → item_from x vs i ≡ Some p → IsAt vs i p
at_from i x [] p e = absurd cc
at_from i x (v ∷ vs) p e = by (same_number v.item (Some i)) refl e (at_from i (x + v.len) vs p) where
  by : (b : Bool) → same_number v.item (Some i) ≡ b → cond b (Some (x, v)) (item_from (x + v.len) vs i) ≡ Some p → (item_from (x + v.len) vs i ≡ Some p → IsAt vs i p) → IsAt (v ∷ vs) i p
  by true s e later =
      let same : v ≡ p.1 = cc in
      record { index = 0; read = ap Some same; number = ap (λ (u : ItemView). u.item) (sym same) ∙ same-is v.item (Some i) s }
  by false s e later =
      let h = later e in
      record { index = suc h.index; read = h.read; number = h.number }

good_linked : (table : Table) (t : TrackState) (i : ℕ) (made : Link) → IsGood table t → is_some (item_of t i) ≡ true → IsLinkOf t.number (Some made) → IsGood table (linked_item t i (Some made))
good_linked table t i made g there of = by (item_of t i) refl there where
  by : (o : Option (ℕ × ItemView)) → item_of t i ≡ o → is_some o ≡ true → IsGood table (linked_item t i (Some made))
  by None e s = absurd cc
  by (Some p) e s =
      let at = at_from i 0 (items_of t.cells) p e in
      let r = relinked table t at.index i p.1 (Some made) g at.read at.number of in
      subst (IsGood table) r.same r.good

all_first : (P : TrackState → Type 0) (t : TrackState) (ts : List TrackState) → All P (t ∷ ts) → P t
all_first P t ts h = h 0 t (omega arith)

all_rest : (P : TrackState → Type 0) (t : TrackState) (ts : List TrackState) → All P (t ∷ ts) → All P ts
all_rest P t ts h k d lt = h (suc k) d (omega (arith, lt))

pub all-good : (table : Table) (made : Link) (ts : List TrackState) (is : List ℕ) → All (IsGood table) ts → are_there ts is ≡ true → All (λ (t : TrackState). IsLinkOf t.number (Some made)) ts
    → All (IsGood table) (all_linked made ts is)
all-good table made [] is g e of = g
all-good table made (t ∷ ts) [] g e of = g
all-good table made (t ∷ ts) (i ∷ is) g e of =
    All-cons (IsGood table) (linked_item t i (Some made)) (all_linked made ts is)
    (good_linked table t i made (all_first (IsGood table) t ts g) (and_one (is_some (item_of t i)) (are_there ts is) e) (all_first (λ (t : TrackState). IsLinkOf t.number (Some made)) t ts of))
    (all-good table made ts is (all_rest (IsGood table) t ts g) (and_both (is_some (item_of t i)) (are_there ts is) e) (all_rest (λ (t : TrackState). IsLinkOf t.number (Some made)) t ts of))

pub risen-good : (table : Table) (ts : List TrackState) → All (IsGood table) ts → All (IsGood table) (home_risen ts)
risen-good table [] g = g
risen-good table (t ∷ ts) g =
    All-cons (IsGood table) (record t { next_link = t.next_link + 1 }) ts (with_next table t (t.next_link + 1) (all_first (IsGood table) t ts g)) (all_rest (IsGood table) t ts g)

-- their numbers

numbers_linked : (made : Link) (ts : List TrackState) (is : List ℕ) → map (λ (t : TrackState). t.number) (all_linked made ts is) ≡ map (λ (t : TrackState). t.number) ts
numbers_linked made [] is = refl
numbers_linked made (t ∷ ts) [] = refl
numbers_linked made (t ∷ ts) (i ∷ is) = ap (λ (ns : List ℕ). t.number ∷ ns) (numbers_linked made ts is)

pub numbers-risen : (made : Link) (ts : List TrackState) (is : List ℕ) → map (λ (t : TrackState). t.number) (home_risen (all_linked made ts is)) ≡ map (λ (t : TrackState). t.number) ts
numbers-risen made [] is = refl
numbers-risen made (t ∷ ts) [] = refl
numbers-risen made (t ∷ ts) (i ∷ is) = ap (λ (ns : List ℕ). t.number ∷ ns) (numbers_linked made ts is)

-- what a call leaves

linked_risen : (l : Link) (x : TrackState) (xs : List TrackState) (is : List ℕ) (us : List TrackState) (u v : TrackState) → us ≡ all_linked l (x ∷ xs) is → u ≡ get_or us 0 u
    → v ≡ record u { next_link = x.next_link + 1 } → home_risen (all_linked l (x ∷ xs) is) ≡ set us 0 v
linked_risen l x xs [] us u v e at is =
    let here : u ≡ x = at ∙ ap (λ (l : List TrackState). get_or l 0 u) e in
    sym (ap (λ (l : List TrackState). set l 0 v) e ∙ ap (λ (w : TrackState). w ∷ xs) (is ∙ ap (λ (w : TrackState). record w { next_link = x.next_link + 1 }) here))
linked_risen l x xs (i ∷ js) us u v e at is =
    let y : TrackState = linked_item x i (Some l) in
    let here : u ≡ y = at ∙ ap (λ (l : List TrackState). get_or l 0 u) e in
    sym (ap (λ (l : List TrackState). set l 0 v) e ∙ ap (λ (w : TrackState). w ∷ all_linked l xs js) (is ∙ ap (λ (w : TrackState). record w { next_link = x.next_link + 1 }) here))

pub linked-risen : (is : List ℕ) (ts us : List TrackState) (t u v : TrackState) (made : Link) → 0 < length ts → t ≡ get_or ts 0 t → us ≡ all_linked made ts is → u ≡ get_or us 0 u
    → v ≡ record u { next_link = t.next_link + 1 } → home_risen (all_linked made ts is) ≡ set us 0 v
linked-risen is [] us t u v made some here all at next = absurd (omega (arith, some))
linked-risen is (x ∷ xs) us t u v made some here all at next =
    linked_risen made x xs is us u v all at (next ∙ ap (λ (y : TrackState). record u { next_link = y.next_link + 1 }) here)

-- why nothing is refused

pub some-named : (ts : List TrackState) (is : List ℕ) → link_refusal ts is ≡ None → 0 < length ts
some-named [] is e = absurd cc
some-named (t ∷ ts) is e = omega arith

pub all-there : (ts : List TrackState) (is : List ℕ) → link_refusal ts is ≡ None → are_there ts is ≡ true
all-there [] is e = absurd cc
all-there (t ∷ ts) is e = by (are_there (t ∷ ts) is) e where
  by : (b : Bool) → cond b (or_else (offsets_differ (t ∷ ts) is) (already_linked (t ∷ ts) is)) (Some NoItem) ≡ None → b ≡ true
  by true e = refl
  by false e = absurd cc
