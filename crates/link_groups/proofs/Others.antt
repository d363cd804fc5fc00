-- Items and gaps that are passed by, since they have not the key of a link.
use Rattle.std.proofs.Common.{◌≡◌, ℕ, zero, suc, ◌+◌, ◌*◌, ◌%◌, ◌^◌, ◌<◌, ◌≤◌, Bool, true, false, ◌&&◌, not, nat_eq, List, [], ◌∷◌, length, take, drop, Option, Some, None, slice_get, refl, sym, ap, ◌∙◌, arith, subst}
use Rattle.std.specs.List.{All, list_any}
use Rattle.std.proofs.lemmas.Bool.{eqb-true}
use Rattle.std.proofs.lemmas.List.{drop_all, drop-drop, length-drop}
use Rattle.frame_meaning.specs.declared.cells.Cell.{Cell}
use Rattle.frame_meaning.specs.declared.cells.Link.{Link}
use Rattle.frame_meaning.specs.Cells.{same_number}
use Rattle.composables.specs.declared.items.ItemView.{ItemView}
use Rattle.composables.specs.Items.{cells_of}
use Rattle.composables.specs.TrackSets.{link_key}
use Rattle.link_groups.specs.ItemLinks.{carries, is_elsewhere}
use Rattle.link_groups.proofs.Elsewhere.{any-passed}

both : (a b : Bool) → (a && b) ≡ true → (a ≡ true) × (b ≡ true)
both true b e = (refl, e)
both false b e = absurd (Prim.grind (arith, e))

-- what has the link has its key
key_same : (l : Link) (o : Option Link) → carries l o ≡ true → link_key o ≡ link_key (Some l)
key_same l None e = absurd (Prim.grind (arith, e))
key_same l (Some k) e =
    let h = both (nat_eq l.home k.home) (nat_eq l.number k.number) e in
    let home : l.home ≡ k.home = eqb-true l.home k.home h.0 in
    let number : l.number ≡ k.number = eqb-true l.number k.number h.1 in
    ap (λ (n : ℕ). Some (n % 32 * 2 ^ 27 + k.number % 2 ^ 27)) (sym home) ∙ ap (λ (n : ℕ). Some (l.home % 32 * 2 ^ 27 + n % 2 ^ 27)) (sym number)

not_carried : (l : Link) (o : Option Link) → (link_key o ≡ link_key (Some l) → ⊥) → carries l o ≡ false
not_carried l o h = by (carries l o) refl where
  by : (b : Bool) → carries l o ≡ b → carries l o ≡ false
  by false e = e
  by true e = absurd (h (key_same l o e))

-- none of so many items and gaps, from an index on, has the key of the link
abbrev pub Others : Link → List ItemView → Type 0
Others l vs = All (λ (v : ItemView). link_key v.link ≡ link_key (Some l) → ⊥) vs

-- so the one at an index among them has not the link
pub other_at : (l : Link) (i n j : ℕ) (vs : List ItemView) (v : ItemView) → Others l (take n (drop i vs)) → j < n → slice_get vs (i + j) ≡ Some v → carries l v.link ≡ false
other_at l i n j vs v h low e = not_carried l v.link (at l n j (drop i vs) h low (from i vs e)) where
  from : (i : ℕ) (vs : List ItemView) → slice_get vs (i + j) ≡ Some v → slice_get (drop i vs) j ≡ Some v
  from zero vs e = let same : 0 + j ≡ j = omega arith in ap (slice_get vs) (sym same) ∙ e
  from (suc i) [] e = absurd cc
  from (suc i) (w ∷ ws) e = let more : suc i + j ≡ suc (i + j) = omega arith in from i ws (ap (slice_get (w ∷ ws)) (sym more) ∙ e)

  at : (l : Link) (n j : ℕ) (ws : List ItemView) → Others l (take n ws) → j < n → slice_get ws j ≡ Some v → link_key v.link ≡ link_key (Some l) → ⊥
  at l zero j ws h low e = absurd (omega (arith, low))
  at l (suc n) j [] h low e = absurd cc
  at l (suc n) zero (w ∷ ws) h low e = let same : w ≡ v = cc in subst (λ (u : ItemView). link_key u.link ≡ link_key (Some l) → ⊥) same (h 0 w (omega arith))
  at l (suc n) (suc j) (w ∷ ws) h low e = at l n j ws (λ k d lt. h (suc k) d (omega (arith, lt))) (omega (arith, low)) e

pub some_at : (vs : List ItemView) (i : ℕ) → i < length vs → (v : ItemView) × (slice_get vs i ≡ Some v)
some_at [] i h = absurd (omega (arith, h))
some_at (v ∷ vs) zero h = (v, refl)
some_at (v ∷ vs) (suc i) h = some_at vs i (omega (arith, h))

-- a reader past them
pub left-past : (vs old new : List ItemView) (i n : ℕ) → old ≡ drop i vs → new ≡ drop n old → new ≡ drop (i + n) vs
left-past vs old new i n is left = left ∙ (ap (λ (ws : List ItemView). drop n ws) is ∙ drop-drop n i vs)

pub past-within : (vs old : List ItemView) (i n : ℕ) → i ≤ length vs → old ≡ drop i vs → n ≤ length old → i + n ≤ length vs
past-within vs old i n within is few = omega (arith, within, few, ap length is, length-drop i vs)

-- none of them is that of another item
elsewhere_none : (l : Link) (own i number : ℕ) (item : Option ℕ) (o : Option Link) → carries l o ≡ false → is_elsewhere l own i number item o ≡ false
elsewhere_none l own i number item o e = ap (λ (b : Bool). b && not (nat_eq number own && same_number item (Some i))) e

any_on : (l : Link) (own item number i m n : ℕ) (vs : List ItemView) → Others l (take m (drop i vs)) → n ≤ m → i + m ≤ length vs
    → list_any (λ (c : Cell). is_elsewhere l own item number c.item c.link) (cells_of (drop i vs)) ≡ list_any (λ (c : Cell). is_elsewhere l own item number c.item c.link) (cells_of (drop (i + n) vs))
any_on l own item number i m zero vs h le within = let same : i ≡ i + 0 = omega arith in ap (λ (k : ℕ). list_any (λ (c : Cell). is_elsewhere l own item number c.item c.link) (cells_of (drop k vs))) same
any_on l own item number i m (suc n) vs h le within =
    let v = some_at vs (i + n) (omega (arith, le, within)) in
    let more : (i + n) + 1 ≡ i + suc n = omega arith in
    any_on l own item number i m n vs h (omega (arith, le)) within
    ∙ (any-passed (is_elsewhere l own item number) vs (i + n) v.0 v.1 (elsewhere_none l own item number v.0.item v.0.link (other_at l i m n vs v.0 h (omega (arith, le)) v.1))
    ∙ ap (λ (k : ℕ). list_any (λ (c : Cell). is_elsewhere l own item number c.item c.link) (cells_of (drop k vs))) more)

pub any-others : (l : Link) (own item number i n : ℕ) (vs old : List ItemView) → i ≤ length vs → old ≡ drop i vs → n ≤ length old → Others l (take n old)
    → list_any (λ (c : Cell). is_elsewhere l own item number c.item c.link) (cells_of (drop i vs)) ≡ list_any (λ (c : Cell). is_elsewhere l own item number c.item c.link) (cells_of (drop (i + n) vs))
any-others l own item number i n vs old within is few h =
    any_on l own item number i n n vs (subst (λ (ws : List ItemView). Others l (take n ws)) is h) (omega arith) (past-within vs old i n within is few)

-- nothing is left behind the last
pub any-end : (l : Link) (own item number i : ℕ) (vs : List ItemView) → length vs ≤ i → list_any (λ (c : Cell). is_elsewhere l own item number c.item c.link) (cells_of (drop i vs)) ≡ false
any-end l own item number i vs h = ap (λ (ws : List ItemView). list_any (λ (c : Cell). is_elsewhere l own item number c.item c.link) (cells_of ws)) (drop_all i vs h)
