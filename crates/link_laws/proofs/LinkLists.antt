-- The links of cells as a list, those that a shift splits, and those of which all tracks are named.
use Rattle.std.proofs.Common.{◌≡◌, ℕ, zero, suc, ◌+◌, ◌<◌, ◌≤◌, ◌/◌, ◌^◌, ◌⊎◌, inl, inr, ⊎_elim, ℤ, Bool, true, false, cond, eqb, ◌&&◌, ◌||◌, List, [], ◌∷◌, ◌++◌, filter, is_some, Option, Some, None, refl, sym, ap, ◌∙◌, arith, subst, IsBitSet}
use Rattle.std.proofs.lemmas.Bool.{cases_lt, eq-eqb, eqb-true}
use Rattle.std.proofs.lemmas.Nat.{bit_set_by_shift}
use Rattle.std.specs.Int.Bits.{bit_and}
use Rattle.std.specs.List.{list_any}
use Rattle.frame_meaning.specs.declared.cells.Cell.{Cell}
use Rattle.frame_meaning.specs.declared.cells.Link.{Link}
use Rattle.composables.specs.Links.{first_unnamed, is_named, least_link, least_outside, link_before, link_outside, links_in, links_with, links_with_any, outside, outside_at, outside_refusal, same_link}
use Rattle.composables.specs.Ranges.{offset_of}
use Rattle.composables.specs.TrackSets.{has_track, tracks_from, tracks_in}
use Rattle.composables.specs.TrackState.{TrackState}
use Rattle.link_laws.proofs.Sights.{Shows}

-- one home and one number
abbrev pub Same : Link → Link → Type 0
Same k l = (k.home ≡ l.home) × (k.number ≡ l.number)

pub same-sym : (k l : Link) → Same k l → Same l k
same-sym k l h = (sym h.0, sym h.1)

pub same-then : (k l m : Link) → Same k l → Same l m → Same k m
same-then k l m h g = (h.0 ∙ g.0, h.1 ∙ g.1)

pub is-same : (k l : Link) → same_link k l ≡ true → Same k l
is-same k l e = by (eqb k.home l.home) (eqb k.number l.number) refl refl e where
  by : (a b : Bool) → eqb k.home l.home ≡ a → eqb k.number l.number ≡ b → a && b ≡ true → Same k l
  by true true f g e = (eqb-true k.home l.home f, eqb-true k.number l.number g)
  by true false f g e = absurd cc
  by false b f g e = absurd cc

pub same-is-link : (k l : Link) → Same k l → same_link k l ≡ true
same-is-link k l h =
    ap (λ (b : Bool). b && eqb k.number l.number) (eq-eqb k.home l.home h.0) ∙ eq-eqb k.number l.number h.1

-- a cell of these has this link
abbrev pub Carries : List Cell → Link → Type 0
Carries [] l = ⊥
Carries (c ∷ cs) l = (c.link ≡ Some l) ⊎ Carries cs l

pub shows-carries : (p : ℕ) (cs : List Cell) (l : Link) (o : Option ℤ) → Shows p cs l o → Carries cs l
shows-carries p [] l o h = absurd h
shows-carries p (c ∷ cs) l o (inl h) = inl h.0
shows-carries p (c ∷ cs) l o (inr h) = inr (shows-carries (p + 1) cs l o h)

pub carries-shows : (p : ℕ) (cs : List Cell) (l : Link) → Carries cs l → (o : Option ℤ) × Shows p cs l o
carries-shows p [] l h = absurd h
carries-shows p (c ∷ cs) l (inl h) = (offset_of c.side p, inl (h, refl))
carries-shows p (c ∷ cs) l (inr h) = let r = carries-shows (p + 1) cs l h in (r.0, inr r.1)

pub carries-append : (cs ds : List Cell) (l : Link) → Carries (cs ++ ds) l → Carries cs l ⊎ Carries ds l
carries-append [] ds l h = inr h
carries-append (c ∷ cs) ds l (inl h) = inl (inl h)
carries-append (c ∷ cs) ds l (inr h) = by (carries-append cs ds l h) where
  by : Carries cs l ⊎ Carries ds l → Carries (c ∷ cs) l ⊎ Carries ds l
  by (inl a) = inl (inr a)
  by (inr b) = inr b

pub carries-left : (cs ds : List Cell) (l : Link) → Carries cs l → Carries (cs ++ ds) l
carries-left [] ds l h = absurd h
carries-left (c ∷ cs) ds l (inl h) = inl h
carries-left (c ∷ cs) ds l (inr h) = inr (carries-left cs ds l h)

pub carries-right : (cs ds : List Cell) (l : Link) → Carries ds l → Carries (cs ++ ds) l
carries-right [] ds l h = h
carries-right (c ∷ cs) ds l h = inr (carries-right cs ds l h)

-- a list of links has the same one
abbrev pub AnySame : Link → List Link → Type 0
AnySame l [] = ⊥
AnySame l (k ∷ ks) = Same l k ⊎ AnySame l ks

pub any-same : (k l : Link) (ls : List Link) → Same k l → AnySame k ls → AnySame l ls
any-same k l [] s h = absurd h
any-same k l (m ∷ ms) s (inl h) = inl (same-then l k m (same-sym k l s) h)
any-same k l (m ∷ ms) s (inr h) = inr (any-same k l ms s h)

pub any-true : (l : Link) (ls : List Link) → AnySame l ls → list_any (same_link l) ls ≡ true
any-true l [] h = absurd h
any-true l (k ∷ ks) (inl h) = ap (λ (b : Bool). b || list_any (same_link l) ks) (same-is-link l k h)
any-true l (k ∷ ks) (inr h) = ap (λ (b : Bool). same_link l k || b) (any-true l ks h) ∙ or_true (same_link l k) where
  or_true : (b : Bool) → b || true ≡ true
  or_true true = refl
  or_true false = refl

same_new : (l : Link) (ls : List Link) → AnySame l (links_with l ls)
same_new l [] = inl (refl, refl)
same_new l (k ∷ ks) = by (same_link l k) (link_before l k) refl (same_new l ks) where
  by : (a b : Bool) → same_link l k ≡ a → AnySame l (links_with l ks) → AnySame l (cond a (k ∷ ks) (cond b (l ∷ k ∷ ks) (k ∷ links_with l ks)))
  by true b e later = inl (is-same l k e)
  by false true e later = inl (refl, refl)
  by false false e later = inr later

same_old : (l m : Link) (ls : List Link) → AnySame l ls → AnySame l (links_with m ls)
same_old l m [] h = absurd h
same_old l m (k ∷ ks) h = by (same_link m k) (link_before m k) h (λ g. same_old l m ks g) where
  by : (a b : Bool) → AnySame l (k ∷ ks) → (AnySame l ks → AnySame l (links_with m ks)) → AnySame l (cond a (k ∷ ks) (cond b (m ∷ k ∷ ks) (k ∷ links_with m ks)))
  by true b h later = h
  by false true h later = inr h
  by false false (inl h) later = inl h
  by false false (inr h) later = inr (later h)

pub in-links : (cs : List Cell) (l : Link) → Carries cs l → AnySame l (links_in cs)
in-links [] l h = absurd h
in-links (c ∷ cs) l (inl h) = subst (λ (o : Option Link). AnySame l (links_with_any o (links_in cs))) (sym h) (same_new l (links_in cs))
in-links (c ∷ cs) l (inr h) = by c.link (in-links cs l h) where
  by : (o : Option Link) → AnySame l (links_in cs) → AnySame l (links_with_any o (links_in cs))
  by None later = later
  by (Some m) later = same_old l m (links_in cs) later

-- what is true of each link
abbrev pub AllLinks : (Link → Type 0) → List Link → Type 0
AllLinks P [] = Unit {0}
AllLinks P (l ∷ ls) = P l × AllLinks P ls

pub all-with : (P : Link → Type 0) (l : Link) (ls : List Link) → P l → AllLinks P ls → AllLinks P (links_with l ls)
all-with P l [] p h = (p, tt)
all-with P l (k ∷ ks) p h = by (same_link l k) (link_before l k) (all-with P l ks p h.1) where
  by : (a b : Bool) → AllLinks P (links_with l ks) → AllLinks P (cond a (k ∷ ks) (cond b (l ∷ k ∷ ks) (k ∷ links_with l ks)))
  by true b later = h
  by false true later = (p, h)
  by false false later = (h.0, later)

pub all-links : (P : Link → Type 0) (cs : List Cell) → ((l : Link) → Carries cs l → P l) → AllLinks P (links_in cs)
all-links P [] h = tt
all-links P (c ∷ cs) h = by c.link refl (all-links P cs (λ l k. h l (inr k))) where
  by : (o : Option Link) → c.link ≡ o → AllLinks P (links_in cs) → AllLinks P (links_with_any o (links_in cs))
  by None e rest = rest
  by (Some l) e rest = all-with P l (links_in cs) (h l (inl e)) rest

pub all-filter : (P : Link → Type 0) (f : Link → Bool) (ls : List Link) → AllLinks P ls → AllLinks P (filter f ls)
all-filter P f [] h = tt
all-filter P f (l ∷ ls) h = by (f l) (all-filter P f ls h.1) where
  by : (b : Bool) → AllLinks P (filter f ls) → AllLinks P (cond b (l ∷ filter f ls) (filter f ls))
  by true rest = (h.0, rest)
  by false rest = rest

-- a link of both lists is in the first of them, filtered by the second
pub same-filter : (l : Link) (ls bs : List Link) → AnySame l ls → AnySame l bs → AnySame l (filter (λ (k : Link). list_any (same_link k) bs) ls)
same-filter l [] bs h g = absurd h
same-filter l (k ∷ ks) bs h g = by (list_any (same_link k) bs) refl h (λ s. same-filter l ks bs s g) where
  by : (b : Bool) → list_any (same_link k) bs ≡ b → AnySame l (k ∷ ks) → (AnySame l ks → AnySame l (filter (λ (m : Link). list_any (same_link m) bs) ks))
      → AnySame l (cond b (k ∷ filter (λ (m : Link). list_any (same_link m) bs) ks) (filter (λ (m : Link). list_any (same_link m) bs) ks))
  by true e (inl s) later = inl s
  by true e (inr s) later = inr (later s)
  by false e (inl s) later = absurd (differ (sym e ∙ any-true k bs (any-same l k bs s g))) where
    differ : false ≡ true → ⊥
    differ z = cc
  by false e (inr s) later = later s

-- where no refusal is told for the links of cells, all tracks of each are named

least_none : (a b : Option Link) → least_link a b ≡ None → (a ≡ None) × (b ≡ None)
least_none None b e = (refl, e)
least_none (Some l) None e = absurd cc
least_none (Some l) (Some m) e = by (link_before m l) e where
  by : (b : Bool) → cond b (Some m) (Some l) ≡ None → (Some l ≡ None) × (Some m ≡ None)
  by true e = absurd cc
  by false e = absurd cc

least_one : (a b : Option Link) (k : Link) → least_link a b ≡ Some k → (a ≡ Some k) ⊎ (b ≡ Some k)
least_one None b k e = inr e
least_one (Some l) None k e = inl e
least_one (Some l) (Some m) k e = by (link_before m l) e where
  by : (b : Bool) → cond b (Some m) (Some l) ≡ Some k → (Some l ≡ Some k) ⊎ (Some m ≡ Some k)
  by true e = inr e
  by false e = inl e

outside_some : (named : List TrackState) (o : Option Link) (k : Link) → outside named o ≡ Some k → is_some (first_unnamed named (tracks_in k.tracks)) ≡ true
outside_some named None k e = absurd cc
outside_some named (Some l) k e = by (is_some (first_unnamed named (tracks_in l.tracks))) refl e where
  by : (b : Bool) → is_some (first_unnamed named (tracks_in l.tracks)) ≡ b → cond b (Some l) None ≡ Some k → is_some (first_unnamed named (tracks_in k.tracks)) ≡ true
  by true f e = let same : l ≡ k = cc in ap (λ (m : Link). is_some (first_unnamed named (tracks_in m.tracks))) (sym same) ∙ f
  by false f e = absurd cc

least_some : (named : List TrackState) (cs : List Cell) (k : Link) → least_outside named cs ≡ Some k → is_some (first_unnamed named (tracks_in k.tracks)) ≡ true
least_some named [] k e = absurd cc
least_some named (c ∷ cs) k e =
    ⊎_elim (λ f. outside_some named c.link k f) (λ f. least_some named cs k f) (least_one (outside named c.link) (least_outside named cs) k e)

none_least : (named : List TrackState) (cs : List Cell) → link_outside named cs ≡ None → least_outside named cs ≡ None
none_least named cs e = by (least_outside named cs) refl e where
  by : (o : Option Link) → least_outside named cs ≡ o → outside_refusal named o ≡ None → o ≡ None
  by None f g = refl
  by (Some k) f g = at (first_unnamed named (tracks_in k.tracks)) (least_some named cs k f) g where
    at : (n : Option ℕ) → is_some n ≡ true → outside_at k n ≡ None → Some k ≡ None
    at None s g = absurd cc
    at (Some n) s g = absurd cc

outside_none : (named : List TrackState) (l : Link) → outside named (Some l) ≡ None → first_unnamed named (tracks_in l.tracks) ≡ None
outside_none named l e = by (first_unnamed named (tracks_in l.tracks)) e where
  by : (o : Option ℕ) → cond (is_some o) (Some l) None ≡ None → o ≡ None
  by None e = refl
  by (Some n) e = absurd cc

each_none : (named : List TrackState) (cs : List Cell) (l : Link) → least_outside named cs ≡ None → Carries cs l → first_unnamed named (tracks_in l.tracks) ≡ None
each_none named [] l e h = absurd h
each_none named (c ∷ cs) l e (inl h) =
    outside_none named l (ap (outside named) (sym h) ∙ (least_none (outside named c.link) (least_outside named cs) e).0)
each_none named (c ∷ cs) l e (inr h) = each_none named cs l (least_none (outside named c.link) (least_outside named cs) e).1 h

has_bit : (set n : ℕ) → IsBitSet set n → has_track set n ≡ true
has_bit set n h = eq-eqb (bit_and (set / 2 ^ n) 1) 1 ((bit_set_by_shift set n).1 h)

named_from : (named : List TrackState) (set t n k : ℕ) → first_unnamed named (tracks_from set t n) ≡ None → t ≤ k → k < t + n → has_track set k ≡ true → is_named named k ≡ true
named_from named set t zero k e le lt h = absurd (omega (arith, le, lt))
named_from named set t (suc n) k e le lt h =
    by (has_track set t) refl e (λ f less. named_from named set (suc t) n k f (omega (arith, less)) (omega (arith, lt)) h) where
      by : (b : Bool) → has_track set t ≡ b → first_unnamed named (cond b (t ∷ tracks_from set (suc t) n) (tracks_from set (suc t) n)) ≡ None
          → (first_unnamed named (tracks_from set (suc t) n) ≡ None → t < k → is_named named k ≡ true) → is_named named k ≡ true
      by true f g later = at (is_named named t) refl g (cases_lt t k) where
        at : (c : Bool) → is_named named t ≡ c → cond c (first_unnamed named (tracks_from set (suc t) n)) (Some t) ≡ None → (t < k) ⊎ (k ≤ t) → is_named named k ≡ true
        at true i g (inl less) = later g less
        at true i g (inr more) = let same : t ≡ k = omega (arith, le, more) in ap (is_named named) (sym same) ∙ i
        at false i g c = absurd cc
      by false f g later = at (cases_lt t k) where
        differ : false ≡ true → ⊥
        differ z = cc

        at : (t < k) ⊎ (k ≤ t) → is_named named k ≡ true
        at (inl less) = later g less
        at (inr more) = let same : t ≡ k = omega (arith, le, more) in absurd (differ (sym f ∙ (ap (has_track set) same ∙ h)))

pub all-named : (named : List TrackState) (set k : ℕ) → first_unnamed named (tracks_in set) ≡ None → k < 32 → IsBitSet set k → is_named named k ≡ true
unfolding tracks_in
all-named named set k e lt h = named_from named set 0 32 k e (omega arith) (omega (arith, lt)) (has_bit set k h)

pub named-inside : (named : List TrackState) (cs : List Cell) (l : Link) (k : ℕ) → link_outside named cs ≡ None → Carries cs l → k < 32 → IsBitSet l.tracks k → is_named named k ≡ true
named-inside named cs l k e h lt bit = all-named named l.tracks k (each_none named cs l (none_least named cs e) h) lt bit
