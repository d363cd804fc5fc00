-- A shift as it is meant, over the named tracks, and what the code does on each of them.
use Rattle.std.proofs.Common.{◌≡◌, ◌≢◌, ℕ, zero, suc, ◌-◌, ◌<◌, ◌≤◌, Bool, true, false, cond, eqb, ltb, List, [], ◌∷◌, ◌++◌, All, length, map, min, unwrap_or, Option, Some, None, Result, Ok, Err, refl, sym, ap, ◌∙◌, arith, subst, ◌||◌, nat_eq}
use Rattle.std.specs.List.{list_any}
use Rattle.std.proofs.lemmas.Bool.{eq-eqb, eqb-true}
use Rattle.std.proofs.lemmas.List.Elements.{All-cons}
use Rattle.composables.specs.declared.items.ItemView.{ItemView}
use Rattle.composables.specs.declared.media.Table.{Table}
use Rattle.composables.specs.declared.refusals.Done.{Done}
use Rattle.out_of_memory.specs.declared.fault.Fault.{Fault}
use Rattle.out_of_memory.specs.declared.fault.Fault.TheVariants.{Refused, Memory}
use Rattle.composables.specs.declared.refusals.Refusal.{Refusal}
use Rattle.composables.specs.declared.TheConstants.{MAX_FRAMES, MAX_ITEMS}
use Rattle.composables.specs.Good.{IsGood}
use Rattle.composables.specs.Items.{items_of}
use Rattle.composables.specs.Joined.{frames_in}
use Rattle.composables.specs.Roomy.{IsRoomy}
use Rattle.composables.specs.TrackFacts.{IsKept}
use Rattle.composables.specs.TrackState.{TrackState}
use Rattle.composables.specs.Views.{gap_views}
use Rattle.edit_splice.specs.Splicing.{spliced_track}
use Rattle.edit_splice.specs.declared.shifting.Shift.{Shift}
use Rattle.composables.specs.Answers.{unless}
use Rattle.out_of_memory.specs.Answers.{Answers}
use Rattle.composables.specs.Limits.{too_long, too_many, within_limits}
use Rattle.edit_splice.specs.Moves.{IsShiftOf, all_moved, moved, put_views}
use Rattle.composables.specs.OwnTracks.{for_own, track_numbered, with_track, numbers_of}
use Rattle.edit_splice.specs.Padding.{new_len, new_views, padded_track}
use Rattle.edit_splice.specs.Shifts.{shifted, shifted_along, shifted_track}
use Rattle.edit_splice.specs.Laws.{IsWithinLimits}
use Rattle.edit_splice.specs.Standing.{EachStaysGood, StaysGood}
use Rattle.composables.specs.TrackSets.{has_track, tracks_from, tracks_in}
use Rattle.edit_splice.proofs.Firsts.{few-all, short-all}
use Rattle.edit_splice.proofs.Meeting.{filled-each}
use Rattle.edit_splice.proofs.Moving.{new-kept, put-own, put-other}
use Rattle.edit_splice.proofs.Padding.{padded-put, padded-reaches}
use Rattle.edit_splice.proofs.Put.{PutIn, put-gap}
use Rattle.edit_splice.proofs.Standing.{all_head, all_none, all_tail, each-self, stays-spliced}

-- numbers that rise
abbrev pub Above : ℕ → List ℕ → Type 0
Above n [] = Unit {0}
Above n (m ∷ ms) = (n < m) × Above n ms

abbrev pub Rise : List ℕ → Type 0
Rise [] = Unit {0}
Rise (n ∷ ns) = Above n ns × Rise ns

set_above : (s k a n : ℕ) → k < a → Above k (tracks_from s a n)
set_above s k a zero h = tt
set_above s k a (suc n) h = by (has_track s a) (set_above s k (suc a) n (omega (arith, h))) where
  by : (b : Bool) → Above k (tracks_from s (suc a) n) → Above k (cond b (a ∷ tracks_from s (suc a) n) (tracks_from s (suc a) n))
  by true r = (h, r)
  by false r = r

set_rises : (s a n : ℕ) → Rise (tracks_from s a n)
set_rises s a zero = tt
set_rises s a (suc n) = by (has_track s a) (set_rises s (suc a) n) where
  by : (b : Bool) → Rise (tracks_from s (suc a) n) → Rise (cond b (a ∷ tracks_from s (suc a) n) (tracks_from s (suc a) n))
  by true r = (set_above s a (suc a) n (omega arith), r)
  by false r = r

pub tracks-rise : (s : ℕ) → Rise (tracks_in s)
unfolding tracks_in
tracks-rise s = set_rises s 0 32

-- the track with a number is the only one with it
pub is-numbered : (n : ℕ) (ts : List TrackState) (t : TrackState) → track_numbered n ts ≡ Some t → t.number ≡ n
is-numbered n [] t e = absurd (Prim.grind (arith, e))
is-numbered n (u ∷ ts) t e = by (eqb u.number n) refl e (is-numbered n ts t) where
  by : (b : Bool) → eqb u.number n ≡ b → cond b (Some u) (track_numbered n ts) ≡ Some t → (track_numbered n ts ≡ Some t → t.number ≡ n) → t.number ≡ n
  by true f k later = ap (λ (o : Option TrackState). (unwrap_or o u).number) (sym k) ∙ eqb-true u.number n f
  by false f k later = later k

others : (n : ℕ) (ts : List TrackState) → Above n (numbers_of ts) → All (λ (t : TrackState). t.number ≢ n) ts
others n [] a = all_none (λ (t : TrackState). t.number ≢ n)
others n (t ∷ ts) a = All-cons (λ (t : TrackState). t.number ≢ n) t ts (λ e. omega (arith, e, a.0)) (others n ts a.1)

-- a track that is named is found
named_found : (n : ℕ) (ts : List TrackState) → list_any (nat_eq n) (numbers_of ts) ≡ true → track_numbered n ts ≡ None → ⊥
named_found n [] e f = Prim.grind (arith, e)
named_found n (t ∷ ts) e f = by (eqb t.number n) (eqb n t.number) refl refl e f (named_found n ts) where
  by : (a b : Bool) → eqb t.number n ≡ a → eqb n t.number ≡ b → (b || list_any (nat_eq n) (numbers_of ts)) ≡ true → cond a (Some t) (track_numbered n ts) ≡ None
      → (list_any (nat_eq n) (numbers_of ts) ≡ true → track_numbered n ts ≡ None → ⊥) → ⊥
  by true b g h e f later = Prim.grind (arith, f)
  by false true g h e f later =
      let same : t.number ≡ n = sym (eqb-true n t.number h) in
      let no : true ≡ false = sym (eq-eqb t.number n same) ∙ g in
      Prim.grind (arith, no)
  by false false g h e f later = later e f

pub named-found : (n tracks : ℕ) (ts : List TrackState) → map (λ (t : TrackState). t.number) ts ≡ tracks_in tracks → list_any (nat_eq n) (tracks_in tracks) ≡ true → track_numbered n ts ≡ None → ⊥
named-found n tracks ts e f g = named_found n ts (ap (list_any (nat_eq n)) e ∙ f) g

pub only-one : (n : ℕ) (ts : List TrackState) (own : TrackState) → Rise (numbers_of ts) → track_numbered n ts ≡ Some own → All (λ (t : TrackState). t.number ≡ n → t ≡ own) ts
only-one n [] own r e = all_none (λ (t : TrackState). t.number ≡ n → t ≡ own)
only-one n (t ∷ ts) own r e = by (eqb t.number n) refl e (only-one n ts own r.1) where
  P : TrackState → Type 0
  P t = t.number ≡ n → t ≡ own

  by : (b : Bool) → eqb t.number n ≡ b → cond b (Some t) (track_numbered n ts) ≡ Some own
      → (track_numbered n ts ≡ Some own → All (λ (t : TrackState). t.number ≡ n → t ≡ own) ts) → All (λ (t : TrackState). t.number ≡ n → t ≡ own) (t ∷ ts)
  by true f k later =
      let here : t ≡ own = ap (λ (o : Option TrackState). unwrap_or o t) k in
      let number : t.number ≡ n = eqb-true t.number n f in
      All-cons (λ (t : TrackState). t.number ≡ n → t ≡ own) t ts (λ e. here)
      (λ j d lt e. absurd (others n ts (subst (λ (m : ℕ). Above m (numbers_of ts)) number r.0) j d lt e))
  by false f k later = All-cons (λ (t : TrackState). t.number ≡ n → t ≡ own) t ts (λ e. absurd (not_both (eqb t.number n) f (eq-eqb t.number n e))) (later k) where
    not_both : (b : Bool) → b ≡ false → b ≡ true → ⊥
    not_both true p q = Prim.grind (arith, p)
    not_both false p q = Prim.grind (arith, q)

-- on another track
other_moved : (s : Shift) (t : TrackState) → t.number ≢ s.own → shifted_track s.keep s.own s.x s.y (new_views s.new) t ≡ moved s t
other_moved s t n = along ∙ sym (ap (λ (vs : List ItemView). spliced_track s.keep t (min s.x (length t.cells)) (min s.y (length t.cells)) vs) (put-other s t n)) where
  not_own : eqb t.number s.own ≡ false
  not_own = by (eqb t.number s.own) refl where
    by : (b : Bool) → eqb t.number s.own ≡ b → b ≡ false
    by true e = absurd (n (eqb-true t.number s.own e))
    by false e = refl

  frames : (o : Option ItemView) → frames_in (new_views o) ≡ new_len o
  frames None = refl
  frames (Some v) = omega arith

  along : shifted_track s.keep s.own s.x s.y (new_views s.new) t ≡ spliced_track s.keep t (min s.x (length t.cells)) (min s.y (length t.cells)) (cond (ltb s.x (length t.cells)) (gap_views (new_len s.new)) [])
  along =
      ap (λ (b : Bool). cond b (spliced_track s.keep t s.x s.y (new_views s.new)) (shifted_along s.keep t s.x s.y (frames_in (new_views s.new)))) not_own
      ∙ ap (λ (k : ℕ). shifted_along s.keep t s.x s.y k) (frames s.new)

-- on the own track, which an insert pads
padded_moved : (s : Shift) (t : TrackState) → IsKept t → t.number ≡ s.own → s.y ≡ s.x → shifted_track s.keep s.own s.x s.y (new_views s.new) (padded_track t s.x) ≡ moved s t
padded_moved s t kept e f =
    ap (λ (b : Bool). cond b (spliced_track s.keep (padded_track t s.x) s.x s.y (new_views s.new)) (shifted_along s.keep (padded_track t s.x) s.x s.y (frames_in (new_views s.new)))) (eq-eqb t.number s.own e)
    ∙ ap (λ (y : ℕ). spliced_track s.keep (padded_track t s.x) s.x y (new_views s.new)) (f ∙ padded-reaches t s.x)
    ∙ padded-put s.keep t s.x s.x (new_views s.new) kept (omega arith)
    ∙ ap (λ (y : ℕ). spliced_track s.keep t (min s.x (length t.cells)) (min y (length t.cells)) (gap_views (s.x - length t.cells) ++ new_views s.new)) (sym f)
    ∙ sym (ap (λ (vs : List ItemView). spliced_track s.keep t (min s.x (length t.cells)) (min s.y (length t.cells)) vs) (put-own s t e))

-- and which an extract finds long enough
own_moved : (s : Shift) (t : TrackState) → t.number ≡ s.own → s.x ≤ length t.cells → s.y ≤ length t.cells → shifted_track s.keep s.own s.x s.y (new_views s.new) t ≡ moved s t
own_moved s t e h k =
    let z : s.x - length t.cells ≡ 0 = omega (arith, h) in
    let x : s.x ≡ min s.x (length t.cells) = omega (arith, h) in
    let y : s.y ≡ min s.y (length t.cells) = omega (arith, k) in
    ap (λ (b : Bool). cond b (spliced_track s.keep t s.x s.y (new_views s.new)) (shifted_along s.keep t s.x s.y (frames_in (new_views s.new)))) (eq-eqb t.number s.own e)
    ∙ ap (λ (n : ℕ). spliced_track s.keep t n s.y (new_views s.new)) x
    ∙ ap (λ (n : ℕ). spliced_track s.keep t (min s.x (length t.cells)) n (new_views s.new)) y
    ∙ sym (ap (λ (vs : List ItemView). spliced_track s.keep t (min s.x (length t.cells)) (min s.y (length t.cells)) vs) (put-own s t e ∙ ap (λ (n : ℕ). gap_views n ++ new_views s.new) z))

rest_moved : (s : Shift) (ts : List TrackState) → All (λ (t : TrackState). t.number ≢ s.own) ts → shifted s.keep s.own s.x s.y (new_views s.new) ts ≡ all_moved s ts
rest_moved s [] h = refl
rest_moved s (t ∷ ts) h =
    ap (λ (u : TrackState). u ∷ shifted s.keep s.own s.x s.y (new_views s.new) ts) (other_moved s t (all_head (λ (t : TrackState). t.number ≢ s.own) t ts h))
    ∙ ap (λ (us : List TrackState). moved s t ∷ us) (rest_moved s ts (all_tail (λ (t : TrackState). t.number ≢ s.own) t ts h))

neq_from : (a b : ℕ) → eqb a b ≡ false → a ≢ b
neq_from a b f e = true_not (sym (eq-eqb a b e) ∙ f) where
  true_not : true ≡ false → ⊥
  true_not p = Prim.grind (arith, p)

pub insert-moved : (s : Shift) (ts : List TrackState) (own : TrackState) → Rise (numbers_of ts) → track_numbered s.own ts ≡ Some own → IsKept own → s.y ≡ s.x
    → shifted s.keep s.own s.x s.y (new_views s.new) (with_track ts (padded_track own s.x)) ≡ all_moved s ts
insert-moved s [] own r e kept f = refl
insert-moved s (t ∷ ts) own r e kept f = by (eqb t.number s.own) refl e (λ k. insert-moved s ts own r.1 k kept f) where
  by : (b : Bool) → eqb t.number s.own ≡ b → cond b (Some t) (track_numbered s.own ts) ≡ Some own
      → (track_numbered s.own ts ≡ Some own → shifted s.keep s.own s.x s.y (new_views s.new) (with_track ts (padded_track own s.x)) ≡ all_moved s ts)
      → shifted s.keep s.own s.x s.y (new_views s.new) (cond (eqb t.number own.number) (padded_track own s.x ∷ ts) (t ∷ with_track ts (padded_track own s.x))) ≡ all_moved s (t ∷ ts)
  by true g k later =
      let here : t ≡ own = ap (λ (o : Option TrackState). unwrap_or o t) k in
      let number : t.number ≡ s.own = eqb-true t.number s.own g in
      let own_number : own.number ≡ s.own = sym (ap (λ (u : TrackState). u.number) here) ∙ number in
      ap (λ (b : Bool). shifted s.keep s.own s.x s.y (new_views s.new) (cond b (padded_track own s.x ∷ ts) (t ∷ with_track ts (padded_track own s.x)))) (eq-eqb t.number own.number (number ∙ sym own_number))
      ∙ ap (λ (us : List TrackState). shifted_track s.keep s.own s.x s.y (new_views s.new) (padded_track own s.x) ∷ us) (rest_moved s ts (others s.own ts (subst (λ (m : ℕ). Above m (numbers_of ts)) number r.0)))
      ∙ ap (λ (u : TrackState). u ∷ all_moved s ts) (padded_moved s own kept own_number f ∙ ap (moved s) (sym here))
  by false g k later =
      let own_number : own.number ≡ s.own = is-numbered s.own ts own k in
      let not_own : eqb t.number own.number ≡ false = ap (eqb t.number) own_number ∙ g in
      ap (λ (b : Bool). shifted s.keep s.own s.x s.y (new_views s.new) (cond b (padded_track own s.x ∷ ts) (t ∷ with_track ts (padded_track own s.x)))) not_own
      ∙ ap (λ (u : TrackState). u ∷ shifted s.keep s.own s.x s.y (new_views s.new) (with_track ts (padded_track own s.x))) (other_moved s t (neq_from t.number s.own g))
      ∙ ap (λ (us : List TrackState). moved s t ∷ us) (later k)

pub extract-moved : (s : Shift) (ts : List TrackState) → All (λ (t : TrackState). t.number ≡ s.own → (s.x ≤ length t.cells) × (s.y ≤ length t.cells)) ts
    → shifted s.keep s.own s.x s.y (new_views s.new) ts ≡ all_moved s ts
extract-moved s [] h = refl
extract-moved s (t ∷ ts) h =
    let here = all_head (λ (t : TrackState). t.number ≡ s.own → (s.x ≤ length t.cells) × (s.y ≤ length t.cells)) t ts h in
    ap (λ (u : TrackState). u ∷ shifted s.keep s.own s.x s.y (new_views s.new) ts) (by (eqb t.number s.own) refl here)
    ∙ ap (λ (us : List TrackState). moved s t ∷ us) (extract-moved s ts (all_tail (λ (t : TrackState). t.number ≡ s.own → (s.x ≤ length t.cells) × (s.y ≤ length t.cells)) t ts h)) where
      by : (b : Bool) → eqb t.number s.own ≡ b → (t.number ≡ s.own → (s.x ≤ length t.cells) × (s.y ≤ length t.cells)) → shifted_track s.keep s.own s.x s.y (new_views s.new) t ≡ moved s t
      by true e here = own_moved s t (eqb-true t.number s.own e) (here (eqb-true t.number s.own e)).0 (here (eqb-true t.number s.own e)).1
      by false e here = other_moved s t (neq_from t.number s.own e)

-- what is put into each track
pub put-shift : (table : Table) (s : Shift) (t : TrackState) → (t.number ≡ s.own → PutIn table t (gap_views (s.x - length t.cells) ++ new_views s.new)) → PutIn table t (put_views s t)
put-shift table s t h = by (eqb t.number s.own) (ltb s.x (length t.cells)) refl where
  by : (a b : Bool) → eqb t.number s.own ≡ a → PutIn table t (cond a (gap_views (s.x - length t.cells) ++ new_views s.new) (cond b (gap_views (new_len s.new)) []))
  by true b e = h (eqb-true t.number s.own e)
  by false true e = put-gap table t (new_len s.new)
  by false false e = put-gap table t 0

pub is-shift : (table : Table) (s : Shift) (t : TrackState) → IsGood table t → IsRoomy t → PutIn table t (put_views s t) → IsShiftOf s t
is-shift table s t g r p = record { kept = g.kept; roomy = r; frames = g.frames; stays = new-kept s t g.kept g.frames p.new.new; filled = filled-each (put_views s t) p.new.new.each; numbers = p.numbers }

-- a track within its limits stays good where the shift is made on it
abbrev pub StaysMoved : Table → Shift → TrackState → Type 0
StaysMoved table s t = IsWithinLimits (moved s t) → StaysGood table t (moved s t)

pub put-moved : (table : Table) (s : Shift) (t : TrackState) → s.x ≤ s.y → IsGood table t → PutIn table t (put_views s t) → StaysMoved table s t
put-moved table s t le g p limits = stays-spliced s.keep table t (min s.x (length t.cells)) (min s.y (length t.cells)) (put_views s t) g (omega (arith, le)) (omega arith) p limits

each_moved : (table : Table) (s : Shift) (ts : List TrackState) → All (StaysMoved table s) ts
    → All (λ (t : TrackState). length (moved s t).cells ≤ MAX_FRAMES) ts → All (λ (t : TrackState). length (items_of (moved s t).cells) ≤ MAX_ITEMS) ts → EachStaysGood table ts (all_moved s ts)
each_moved table s [] p a b = tt
each_moved table s (t ∷ ts) p a b = (
  all_head (StaysMoved table s) t ts p
      (record { frames = all_head (λ (t : TrackState). length (moved s t).cells ≤ MAX_FRAMES) t ts a; items = all_head (λ (t : TrackState). length (items_of (moved s t).cells) ≤ MAX_ITEMS) t ts b }),
  each_moved table s ts (all_tail (StaysMoved table s) t ts p)
      (all_tail (λ (t : TrackState). length (moved s t).cells ≤ MAX_FRAMES) t ts a) (all_tail (λ (t : TrackState). length (items_of (moved s t).cells) ≤ MAX_ITEMS) t ts b),
)

record AreDone (us : List TrackState) (done : Done) (new : List TrackState) (d : Done) : Type 0 where
  same : new ≡ us
  long : too_long us ≡ None
  many : too_many us ≡ None

all_done : (us : List TrackState) (done : Done) (new : List TrackState) (d : Done) → within_limits us done ≡ Ok (new, d) → AreDone us done new d
all_done us done new d = by (too_long us) (too_many us) refl refl where
  by : (a b : Option Refusal) → too_long us ≡ a → too_many us ≡ b → unless {A = List TrackState × Done} a (unless {A = List TrackState × Done} b (Ok (us, done))) ≡ Ok (new, d) → AreDone us done new d
  by (Some r) b e f k = absurd (Prim.grind (arith, k))
  by None (Some r) e f k = absurd (Prim.grind (arith, k))
  by None None e f k = record { same = Prim.grind (arith, k); long = e; many = f }

-- after a shift
pub each-shifted : (table : Table) (s : Shift) (ts us : List TrackState) (done : Done) (result : Result Done (Fault Refusal)) → All (IsGood table) ts
    → All (StaysMoved table s) ts → Answers (within_limits (all_moved s ts) done) ts us result → EachStaysGood table ts us
each-shifted table s ts us done (Ok d) g p a =
    let k : AreDone (all_moved s ts) done us d = all_done (all_moved s ts) done us d a in
    subst (EachStaysGood table ts) (sym k.same) (each_moved table s ts p (short-all s ts k.long) (few-all s ts k.many))
each-shifted table s ts us done (Err (Refused why)) g p a = subst (EachStaysGood table ts) (sym a.1) (each-self table ts g)
each-shifted table s ts us done (Err Memory) g p a = subst (EachStaysGood table ts) (sym a.1) (each-self table ts g)

-- the own track is found
pub for-found : (n : ℕ) (meant : TrackState → Result (List TrackState × Done) Refusal) (ts : List TrackState) (own : TrackState) → track_numbered n ts ≡ Some own → for_own n meant ts ≡ meant own
for-found n meant ts own e = rw e refl
