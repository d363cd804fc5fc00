-- Links whose tracks are all named.
use Rattle.std.proofs.Common.{◌≡◌, ℕ, zero, suc, ◌+◌, ◌-◌, ◌^◌, ◌<◌, ◌≤◌, max, Bool, true, false, cond, nat_eq, List, [], ◌∷◌, ◌++◌, length, drop, take, Option, None, Some, is_some, refl, sym, ap, ◌∙◌, arith, subst}
use Rattle.std.specs.Int.{bit_at}
use Rattle.std.specs.List.{All}
use Rattle.std.proofs.lemmas.Bool.{eqb-true, eq-eqb}
use Rattle.std.proofs.lemmas.Nat.Bits.{bit_at-lt, shr_and_one}
use Rattle.frame_meaning.specs.declared.cells.Cell.{Cell}
use Rattle.frame_meaning.specs.declared.cells.Link.{Link}
use Rattle.frame_meaning.specs.declared.cells.Mark.{Mark}
use Rattle.frame_meaning.specs.declared.cells.What.{What}
use Rattle.frame_meaning.specs.declared.frames.Side.{Side}
use Rattle.frame_meaning.specs.Cells.{next_side, span}
use Rattle.composables.specs.declared.items.ItemView.{ItemView}
use Rattle.composables.specs.Items.{cells_of, marked, view_cells}
use Rattle.composables.specs.Links.{first_unnamed, is_named, least_link, least_outside, outside}
use Rattle.composables.specs.TrackSets.{IsInSet, has_track, tracks_from, tracks_in}
use Rattle.composables.specs.TrackState.{TrackState}
use Rattle.composables.proofs.PassedLinks.{bare_of, low_set}
use Rattle.link_groups.specs.Inside.{AreInside}
use Rattle.link_groups.proofs.LeastLinks.{drop_over, least-none, outside-append}
use Rattle.link_groups.proofs.PassedOver.{cells_parts}

-- a set within one whose tracks are all named

is_bit : (s t : ℕ) → has_track s t ≡ nat_eq (bit_at s t) 1
is_bit s t = ap (λ (n : ℕ). nat_eq n 1) (shr_and_one s t)

bit_more : (l s t : ℕ) → bit_at l t ≤ bit_at s t → has_track l t ≡ true → has_track s t ≡ true
bit_more l s t le b =
    let one : bit_at l t ≡ 1 = eqb-true (bit_at l t) 1 (sym (is_bit l t) ∙ b) in
    is_bit s t ∙ eq-eqb (bit_at s t) 1 (omega (arith, le, one, bit_at-lt s t))

none_some : (n : ℕ) → Some n ≡ None → ⊥
none_some n e = cc

first_step : (named : List TrackState) (t : ℕ) (b d p : Bool) (xs ys : List ℕ) → is_named named t ≡ p → (b ≡ true → d ≡ true) → first_unnamed named (cond d (t ∷ ys) ys) ≡ None
    → (first_unnamed named ys ≡ None → first_unnamed named xs ≡ None) → first_unnamed named (cond b (t ∷ xs) xs) ≡ None
first_step named t false true true xs ys e f g h = h (sym (ap (λ (q : Bool). cond q (first_unnamed named ys) (Some t)) e) ∙ g)
first_step named t false true false xs ys e f g h = absurd (none_some t (sym (ap (λ (q : Bool). cond q (first_unnamed named ys) (Some t)) e) ∙ g))
first_step named t false false p xs ys e f g h = h g
first_step named t true true true xs ys e f g h =
    ap (λ (q : Bool). cond q (first_unnamed named xs) (Some t)) e ∙ h (sym (ap (λ (q : Bool). cond q (first_unnamed named ys) (Some t)) e) ∙ g)
first_step named t true true false xs ys e f g h = absurd (none_some t (sym (ap (λ (q : Bool). cond q (first_unnamed named ys) (Some t)) e) ∙ g))
first_step named t true false p xs ys e f g h = absurd (Prim.grind (arith, f refl))

named_from : (named : List TrackState) (l s t n : ℕ) → ((i : ℕ) → i < t + n → bit_at l i ≤ bit_at s i) → first_unnamed named (tracks_from s t n) ≡ None → first_unnamed named (tracks_from l t n) ≡ None
named_from named l s t zero h e = refl
named_from named l s t (suc n) h e =
    first_step named t (has_track l t) (has_track s t) (is_named named t) (tracks_from l (suc t) n) (tracks_from s (suc t) n) refl
    (λ b. bit_more l s t (h t (omega arith)) b) e (named_from named l s (suc t) n (λ i low. h i (omega (arith, low))))

named_in : (named : List TrackState) (l s : ℕ) → ((i : ℕ) → i < 32 → bit_at l i ≤ bit_at s i) → first_unnamed named (tracks_in s) ≡ None → first_unnamed named (tracks_in l) ≡ None
unfolding tracks_in
named_in named l s h e = named_from named l s 0 32 (λ i low. h i (omega (arith, low))) e

-- what has no more tracks than those is not outside
one_inside : (named : List TrackState) (tracks : Option ℕ) (o : Option Link) → AreInside named tracks → IsInSet tracks o → outside named o ≡ None
one_inside named None o h w = ap (outside named) (bare_of o w)
one_inside named (Some s) None h w = refl
one_inside named (Some s) (Some l) h w =
    ap (λ (n : Option ℕ). cond (is_some n) (Some l) None) (named_in named l.tracks s (λ i low. low_set s l i low w) h)

-- cells of which none is outside

abbrev AreApart : List TrackState → List Cell → Type 0
AreApart named [] = Unit {0}
AreApart named (c ∷ cs) = (outside named c.link ≡ None) × AreApart named cs

apart_append : (named : List TrackState) (cs ds : List Cell) → AreApart named cs → AreApart named ds → AreApart named (cs ++ ds)
apart_append named [] ds h k = k
apart_append named (c ∷ cs) ds h k = (h.0, apart_append named cs ds h.1 k)

apart_span : (named : List TrackState) (i : Option ℕ) (s : Side What) (l : Option Link) (n : ℕ) → outside named l ≡ None → AreApart named (span i s l n)
apart_span named i s l zero e = tt
apart_span named i s l (suc n) e = (e, apart_span named i (next_side s) l n e)

apart_marked : (named : List TrackState) (m : Option Mark) (cs : List Cell) → AreApart named cs → AreApart named (marked m cs)
apart_marked named m [] h = tt
apart_marked named m (c ∷ cs) h = h

apart_views : (named : List TrackState) (tracks : Option ℕ) (vs : List ItemView) → AreInside named tracks → All (λ (v : ItemView). IsInSet tracks v.link) vs → AreApart named (cells_of vs)
apart_views named tracks [] h w = tt
apart_views named tracks (v ∷ vs) h w =
    apart_append named (view_cells v) (cells_of vs)
    (apart_marked named v.mark (span v.item v.first v.link v.len) (apart_span named v.item v.first v.link v.len (one_inside named tracks v.link h (w 0 v (omega arith)))))
    (apart_views named tracks vs h (λ k d low. w (suc k) d (omega (arith, low))))

apart_drop : (named : List TrackState) (n : ℕ) (cs : List Cell) → AreApart named cs → AreApart named (drop n cs)
apart_drop named zero cs h = h
apart_drop named (suc n) [] h = tt
apart_drop named (suc n) (c ∷ cs) h = apart_drop named n cs h.1

apart_outside : (named : List TrackState) (cs : List Cell) → AreApart named cs → least_outside named cs ≡ None
apart_outside named [] h = refl
apart_outside named (c ∷ cs) h = ap (λ (o : Option Link). least_link o (least_outside named cs)) h.0 ∙ apart_outside named cs h.1

-- so many items and gaps that are passed by have no less link that reaches past what is named
pub least-inside : (named : List TrackState) (tracks : Option ℕ) (y i n : ℕ) (vs old : List ItemView) → AreInside named tracks → old ≡ drop i vs → All (λ (v : ItemView). IsInSet tracks v.link) (take n old)
    → least_outside named (drop y (cells_of (take i vs))) ≡ least_outside named (drop y (cells_of (take (i + n) vs)))
least-inside named tracks y i n vs old h is w =
    let cs = cells_of (take i vs) in
    let ds = cells_of (take n old) in
    let parts = cells_parts i n vs old is in
    let none = apart_outside named (drop (y - length cs) ds) (apart_drop named (y - length cs) ds (apart_views named tracks (take n old) h w)) in
    sym
    (ap (λ (ks : List Cell). least_outside named (drop y ks)) parts
    ∙ (ap (least_outside named) (drop_over y cs ds)
    ∙ (outside-append named (drop y cs) (drop (y - length cs) ds)
    ∙ (ap (least_link (least_outside named (drop y cs))) none ∙ least-none (least_outside named (drop y cs))))))
