-- The items and gaps at the ends of a range, among all of the track.
use Rattle.std.proofs.Common.{◌≡◌, ℕ, zero, suc, ◌+◌, ◌-◌, ◌<◌, ◌≤◌, List, [], ◌∷◌, ◌++◌, length, Option, Some, None, IfSome, refl, sym, ap, ◌∙◌, arith, take, drop, slice_get, subst, Bool}
use Rattle.std.proofs.lemmas.Bool.{cond_both}
use Rattle.std.proofs.lemmas.Option.{slice_get_within, get_or_from_slice_get}
use Rattle.frame_meaning.specs.Cells.{same_number}
use Rattle.composables.specs.declared.items.ItemView.{ItemView}
use Rattle.composables.specs.Joined.{frames_in}
use Rattle.composables.specs.TrackFacts.{EachHolds, Apart, Lacks, NumbersBelow, HasSource}
use Rattle.composables.proofs.Frames.{frames_in-take_more, no_view}
use Rattle.composables.proofs.Spans.{holds-source}
use Rattle.edit_splice.specs.declared.seams.ItemAt.{ItemAt}
use Rattle.edit_splice.specs.Parts.{Stands, split_between, view_after, after_view, after_views, end_at}

-- how the code comes to know where one stands
pub stands : (vs : List ItemView) (at i from to : ℕ) (v : ItemView) → i < length vs → from ≡ frames_in (take i vs) → to ≡ frames_in (take (i + 1) vs) → from ≤ at → at < to → Some v ≡ slice_get vs i
    → Stands vs at (record { index = i; from = from; view = v })
stands vs at i from to v inside starts stops le lt read =
    record {
      read = sym read;
      from = starts;
      begins = le;
      ends = omega (arith, lt, starts, stops, frames_in-take_more vs i no_view inside, ap (λ (w : ItemView). w.len) (get_or_from_slice_get vs i v no_view (sym read)));
    }

-- those before it, itself, and those after it
pub split-at : (vs : List ItemView) (i : ℕ) (v : ItemView) → slice_get vs i ≡ Some v → vs ≡ take i vs ++ v ∷ drop (suc i) vs
split-at [] i v e = absurd (omega (arith, slice_get_within [] i v e))
split-at (x ∷ xs) zero v e = let same : x ≡ v = cc in ap (λ (u : ItemView). u ∷ xs) same
split-at (x ∷ xs) (suc i) v e = ap (λ zs. x ∷ zs) (split-at xs i v e)

pub drop-some : (vs : List ItemView) (i : ℕ) (v : ItemView) → slice_get vs i ≡ Some v → drop i vs ≡ v ∷ drop (suc i) vs
drop-some [] i v e = absurd (omega (arith, slice_get_within [] i v e))
drop-some (x ∷ xs) zero v e = let same : x ≡ v = cc in ap (λ (u : ItemView). u ∷ xs) same
drop-some (x ∷ xs) (suc i) v e = drop-some xs i v e

drop_none : (vs : List ItemView) (i : ℕ) → slice_get vs i ≡ None → drop i vs ≡ []
drop_none [] zero e = refl
drop_none [] (suc i) e = refl
drop_none (x ∷ xs) zero e = absurd cc
drop_none (x ∷ xs) (suc i) e = drop_none xs i e

-- what is known of all is known of it and of those after it
pub holds-at : (us : List ItemView) (v : ItemView) (ws : List ItemView) → EachHolds (us ++ v ∷ ws) → EachHolds (v ∷ ws)
holds-at [] v ws h = h
holds-at (u ∷ us) v ws h = holds-at us v ws h.1

pub apart-at : (us : List ItemView) (v : ItemView) (ws : List ItemView) → Apart (us ++ v ∷ ws) → IfSome v.item (λ i. Lacks i ws)
apart-at [] v ws a = a.0
apart-at (u ∷ us) v ws a = apart-at us v ws a.1

pub below-at : (n : ℕ) (us : List ItemView) (v : ItemView) (ws : List ItemView) → NumbersBelow n (us ++ v ∷ ws) → IfSome v.item (λ i. i < n)
below-at n [] v ws b = b.0
below-at n (u ∷ us) v ws b = below-at n us v ws b.1

pub below-read : (n : ℕ) (vs : List ItemView) (i : ℕ) (v : ItemView) → slice_get vs i ≡ Some v → NumbersBelow n vs → IfSome v.item (λ i. i < n)
below-read n vs i v e b = let P : List ItemView → Type 0 = λ zs. NumbersBelow n zs in below-at n (take i vs) v (drop (suc i) vs) (subst P (split-at vs i v e) b)

pub holds-read : (vs : List ItemView) (i : ℕ) (v : ItemView) → slice_get vs i ≡ Some v → EachHolds vs → EachHolds (v ∷ drop (suc i) vs)
holds-read vs i v e h = let P : List ItemView → Type 0 = λ zs. EachHolds zs in holds-at (take i vs) v (drop (suc i) vs) (subst P (split-at vs i v e) h)

pub source-read : (vs : List ItemView) (i : ℕ) (v : ItemView) → slice_get vs i ≡ Some v → EachHolds vs → HasSource v.first v.len 0 0
source-read vs i v e h = holds-source v (drop (suc i) vs) (holds-read vs i v e h)

-- the item that is split is the one that holds the first place behind the range
pub split-lacks : (l : Option ItemAt) (h : ItemAt) (ws : List ItemView) → IfSome h.view.item (λ i. Lacks i ws) → IfSome (split_between l (Some h)) (λ i. Lacks i ws)
split-lacks None h ws a = tt
split-lacks (Some g) h ws a = cond_both (same_number g.view.item h.view.item) h.view.item None (λ (o : Option ℕ). IfSome o (λ i. Lacks i ws)) (λ t. a) (λ t. tt)

some_self : (o : Option ℕ) → IfSome o (λ i. o ≡ Some i)
some_self None = tt
some_self (Some i) = refl

pub split-names : (l : Option ItemAt) (h : ItemAt) → IfSome (split_between l (Some h)) (λ i. h.view.item ≡ Some i)
split-names None h = tt
split-names (Some g) h = cond_both (same_number g.view.item h.view.item) h.view.item None (λ (o : Option ℕ). IfSome o (λ i. h.view.item ≡ Some i)) (λ t. some_self h.view.item) (λ t. tt)

pub split-none : (l : Option ItemAt) → split_between l None ≡ None
split-none None = refl
split-none (Some g) = refl

-- those after it, the first of which may lose its dissolve
abbrev pub first_kept : Bool → ℕ → List ItemView → List ItemView
first_kept keep n [] = []
first_kept keep n (w ∷ ws) = after_view keep n w ∷ ws

pub after-parts : (keep : Bool) (vs : List ItemView) (h : ItemAt) (o : Option ItemView) (y count : ℕ) → o ≡ slice_get vs (h.index + 1)
    → after_views keep (Some h) o y ++ drop (end_at (Some h) o count) vs ≡ first_kept keep (h.view.len - (y - h.from)) (drop (suc h.index) vs)
after-parts keep vs h None y count e =
    let next : h.index + 1 ≡ suc h.index = omega arith in
    let none : drop (h.index + 1) vs ≡ [] = drop_none vs (h.index + 1) (sym e) in
    none ∙ ap (first_kept keep (h.view.len - (y - h.from))) (sym none ∙ ap (λ (k : ℕ). drop k vs) next)
after-parts keep vs h (Some w) y count e =
    let next : h.index + 1 ≡ suc h.index = omega arith in
    let last : h.index + 2 ≡ suc (h.index + 1) = omega arith in
    let n : ℕ = h.view.len - (y - h.from) in
    ap (λ (k : ℕ). after_view keep n w ∷ drop k vs) last
    ∙ ap (first_kept keep n) (sym (drop-some vs (h.index + 1) w (sym e)) ∙ ap (λ (k : ℕ). drop k vs) next)

-- the indices
pub end-within : (vs : List ItemView) (y : ℕ) (r : Option ItemAt) (o : Option ItemView) → IfSome r (λ h. slice_get vs h.index ≡ Some h.view) → o ≡ view_after vs r → end_at r o (length vs) ≤ length vs
end-within vs y None o s e = omega arith
end-within vs y (Some h) None s e = omega (arith, slice_get_within vs h.index h.view s)
end-within vs y (Some h) (Some w) s e = omega (arith, slice_get_within vs (h.index + 1) w (sym e))

pub frames_less : (vs : List ItemView) (i j : ℕ) → frames_in (take i vs) < frames_in (take j vs) → i < j
frames_less vs i zero h = absurd (omega (arith, h))
frames_less vs zero (suc j) h = omega arith
frames_less [] (suc i) (suc j) h = absurd (omega (arith, h))
frames_less (v ∷ vs) (suc i) (suc j) h = let less : i < j = frames_less vs i j (omega (arith, h)) in omega (arith, less)

end_past : (h : ItemAt) (o : Option ItemView) (n : ℕ) → h.index + 1 ≤ end_at (Some h) o n
end_past h None n = omega arith
end_past h (Some w) n = omega arith

pub index-order : (vs : List ItemView) (x y : ℕ) (g h : ItemAt) → 0 < x → x ≤ y → Stands vs (x - 1) g → Stands vs y h → g.index ≤ h.index
index-order vs x y g h some le s t =
    let inside = slice_get_within vs h.index h.view t.read in
    let more = frames_in-take_more vs h.index no_view inside in
    let len = ap (λ (w : ItemView). w.len) (get_or_from_slice_get vs h.index h.view no_view t.read) in
    let less : g.index < h.index + 1 = frames_less vs g.index (h.index + 1) (omega (arith, some, le, s.from, s.begins, t.from, t.ends, more, len)) in
    omega (arith, less)

pub order-within : (vs : List ItemView) (x y : ℕ) (g h : ItemAt) (o : Option ItemView) → 0 < x → x ≤ y → Stands vs (x - 1) g → Stands vs y h → g.index ≤ end_at (Some h) o (length vs)
order-within vs x y g h o some le s t = omega (arith, index-order vs x y g h some le s t, end_past h o (length vs))
