-- What a call, and what a history, leaves of the parts of an object.
use Rattle.std.proofs.Common.{◌≡◌, ◌≢◌, ℕ, zero, suc, ◌+◌, ◌<◌, List, [], ◌∷◌, ◌++◌, Bool, true, false, ◌||◌, ◌==◌, cond, Option, Some, None, IfSome, Result, Ok, Err, slice_get, slice_set, refl, sym, ap, subst, ◌∙◌, arith}
use Rattle.std.specs.List.{All, fold, list_any}
use Rattle.std.proofs.lemmas.List.{append-nil, append_cancel_left}
use Rattle.std.proofs.lemmas.List.Elements.{All-cons, filter-append}
use Rattle.std.proofs.lemmas.List.Sums.{fold-append}
use Rattle.std.proofs.lemmas.Bool.Decides.{nat_tests}
use Rattle.room_core.specs.History.{after_entry, replay, state_in}
use Rattle.room_core.specs.Parts.{AreGood, AscendBetween, numbers}
use Rattle.room_core.specs.Projection.{of_part}
use Rattle.room_core.specs.Whole.{Meaning, picked, with_picked, put_back, on_whole, unless_refused, whole}
use Rattle.room_core.specs.declared.entry.Entry.{Entry}

good_get : {P : Type 0} (good : ℕ → P → Type 0) (from count : ℕ) (ps : List P) (n : ℕ) → AreGood good (numbers from count) ps → n < count
    → (p : P) × (slice_get ps n ≡ Some p) × good (from + n) p
good_get good from zero ps n h lt = absurd (omega (arith, lt))
good_get good from (suc count) [] n h lt = absurd h
good_get good from (suc count) (p ∷ ps) zero h lt =
    let e : from ≡ from + 0 = omega arith in (p, refl, subst (λ k. good k p) e h.0)
good_get good from (suc count) (p ∷ ps) (suc n) h lt =
    let r = good_get good (from + 1) count ps n h.1 (omega (arith, lt)) in
    let e : from + 1 + n ≡ from + suc n = omega arith in (r.0, r.1, subst (λ k. good k r.0) e r.2)

good_set : {P : Type 0} (good : ℕ → P → Type 0) (from count : ℕ) (ps : List P) (n : ℕ) (q : P) → AreGood good (numbers from count) ps
    → good (from + n) q → AreGood good (numbers from count) (slice_set ps n q)
good_set good from zero [] n q h g = tt
good_set good from zero (p ∷ ps) n q h g = absurd h
good_set good from (suc count) [] n q h g = absurd h
good_set good from (suc count) (p ∷ ps) zero q h g =
    let e : from + 0 ≡ from = omega arith in (subst (λ k. good k q) e g, h.1)
good_set good from (suc count) (p ∷ ps) (suc n) q h g =
    let e : from + suc n ≡ from + 1 + n = omega arith in (h.0, good_set good (from + 1) count ps n q h.1 (subst (λ k. good k q) e g))

-- the parts that a call names are good at their numbers
pub good_picked : {P : Type 0} (good : ℕ → P → Type 0) (count least : ℕ) (ps : List P) (names : List ℕ) → AscendBetween least count names
    → AreGood good (numbers 0 count) ps → AreGood good names (picked ps names)
good_picked good count least ps [] a h = tt
good_picked good count least ps (n ∷ ns) a h =
    let r = good_get good 0 count ps n h a.1 in
    let e : 0 + n ≡ n = omega arith in
    rw r.1 (subst (λ k. good k r.0) e r.2, good_picked good count (n + 1) ps ns a.2 h)

roomy_get : {P : Type 0} (Roomy : P → Type 0) (ps : List P) (n : ℕ) (o : Option P) → slice_get ps n ≡ o → All Roomy ps → IfSome o Roomy
roomy_get Roomy [] n o e h = subst (λ o. IfSome o Roomy) e tt
roomy_get Roomy (p ∷ ps) zero o e h = subst (λ o. IfSome o Roomy) e (h 0 p (omega arith))
roomy_get Roomy (p ∷ ps) (suc n) o e h = roomy_get Roomy ps n o e (λ k d inside. h (suc k) d (omega (arith, inside)))

roomy_with : {P : Type 0} (Roomy : P → Type 0) (o : Option P) (ps : List P) → IfSome o Roomy → All Roomy ps → All Roomy (with_picked o ps)
roomy_with Roomy None ps h all = all
roomy_with Roomy (Some p) ps h all = All-cons Roomy p ps h all

-- and have room where all have
pub roomy_picked : {P : Type 0} (Roomy : P → Type 0) (ps : List P) (names : List ℕ) → All Roomy ps → All Roomy (picked ps names)
roomy_picked Roomy ps [] h = λ k d inside. absurd (omega (arith, inside))
roomy_picked Roomy ps (n ∷ ns) h =
    roomy_with Roomy (slice_get ps n) (picked ps ns) (roomy_get Roomy ps n (slice_get ps n) refl h) (roomy_picked Roomy ps ns h)

pub good_put_back : {P : Type 0} (good : ℕ → P → Type 0) (count : ℕ) (ps : List P) (names : List ℕ) (ts : List P)
    → AreGood good (numbers 0 count) ps → AreGood good names ts → AreGood good (numbers 0 count) (put_back ps names ts)
good_put_back good count ps [] ts h g = h
good_put_back good count ps (n ∷ ns) [] h g = h
good_put_back good count ps (n ∷ ns) (t ∷ ts) h g =
    let e : n ≡ 0 + n = omega arith in
    good_put_back good count (slice_set ps n t) ns ts (good_set good 0 count ps n t h (subst (λ k. good k t) e g.0)) g.1

-- a call that was done: it was not refused for its names, and what it left on these was put back
pub whole_done : {P D R : Type 0} (ps : List P) (names : List ℕ) (r : Option R) (a : Result (List P × D) R) (qs : List P) (d : D)
    → unless_refused r (on_whole ps names a) ≡ Ok (qs, d) → (r ≡ None) × (ts : List P) × (a ≡ Ok (ts, d)) × (put_back ps names ts ≡ qs)
whole_done ps names (Some r) a qs d h = absurd (Prim.grind (arith, h))
whole_done ps names None (Err r) qs d h = absurd (Prim.grind (arith, h))
whole_done ps names None (Ok (ts, e)) qs d h = (refl, ts, Prim.grind (arith, h), Prim.grind (arith, h))

no_state : {S C D R : Type 0} (apply : S → C → Result (S × D) R) (entries : List (Entry C)) → fold (after_entry apply) None entries ≡ None
no_state apply [] = refl
no_state apply (e ∷ es) = no_state apply es

-- another part stays
pub get-set_other : {P : Type 0} (ps : List P) (n k : ℕ) (p : P) → n ≢ k → slice_get (slice_set ps n p) k ≡ slice_get ps k
get-set_other [] n k p h = refl
get-set_other (q ∷ ps) zero zero p h = absurd (h refl)
get-set_other (q ∷ ps) zero (suc k) p h = refl
get-set_other (q ∷ ps) (suc n) zero p h = refl
get-set_other (q ∷ ps) (suc n) (suc k) p h = get-set_other ps n k p (λ e. h (ap suc e))

neither : (a b : Bool) → (a || b) ≡ false → (a ≡ false) × (b ≡ false)
neither true b h = absurd (Prim.grind (arith, h))
neither false b h = (refl, h)

apart : (n k : ℕ) → (n == k) ≡ false → n ≢ k
apart n k h e = Prim.grind (arith, nat_tests, h, e)

pub get-put_back : {P : Type 0} (ps : List P) (names : List ℕ) (ts : List P) (k : ℕ) → list_any (λ n. n == k) names ≡ false
    → slice_get (put_back ps names ts) k ≡ slice_get ps k
get-put_back ps [] ts k h = refl
get-put_back ps (n ∷ ns) [] k h = refl
get-put_back ps (n ∷ ns) (t ∷ ts) k h =
    let b = neither (n == k) (list_any (λ n. n == k) ns) h in
    get-put_back (slice_set ps n t) ns ts k b.1 ∙ get-set_other ps n k t (apart n k b.0)

not_kept : {X : Type 0} (b : Bool) (x : X) (rest : List X) → cond b (x ∷ rest) rest ≡ [] → (b ≡ false) × (rest ≡ [])
not_kept true x rest h = absurd (Prim.grind (arith, h))
not_kept false x rest h = (refl, h)

-- a history none of whose entries names a part leaves it
leaves_next : {P C D R : Type 0} (m : Meaning P C D R) (k : ℕ) (ps rs : List P) (e : Entry C) (es : List (Entry C)) (r : Result (List P × D) R)
    → list_any (λ n. n == k) (m.names e.call) ≡ false
    → ((qs : List P) → replay (whole m) qs es ≡ Some rs → slice_get rs k ≡ slice_get qs k)
    → whole m ps e.call ≡ r → fold (after_entry (whole m)) (state_in r) es ≡ Some rs → slice_get rs k ≡ slice_get ps k
leaves_next m k ps rs e es (Ok (qs, d)) names rest is comes =
    let done = whole_done ps (m.names e.call) (m.refuses e.call) (m.applied (picked ps (m.names e.call)) e.call) qs d is in
    rest qs comes ∙ (ap (λ xs. slice_get xs k) (sym done.3) ∙ get-put_back ps (m.names e.call) done.1 k names)
leaves_next m k ps rs e es (Err r) names rest is comes = let none = sym (no_state (whole m) es) ∙ comes in absurd (Prim.grind (arith, none))

pub replay-leaves : {P C D R : Type 0} (m : Meaning P C D R) (k : ℕ) (ps rs : List P) (entries : List (Entry C))
    → of_part m.names k entries ≡ [] → replay (whole m) ps entries ≡ Some rs → slice_get rs k ≡ slice_get ps k
replay-leaves m k ps rs [] none comes = let same : ps ≡ rs = Prim.grind (arith, comes) in ap (λ xs. slice_get xs k) (sym same)
replay-leaves m k ps rs (e ∷ es) none comes =
    let b = not_kept (list_any (λ n. n == k) (m.names e.call)) e (of_part m.names k es) none in
    leaves_next m k ps rs e es (whole m ps e.call) b.0 (λ qs. replay-leaves m k qs rs es b.1) refl comes

-- two histories, one a front of the other, that have one projection on a part come to one part there
pub one_part : {P C D R : Type 0} (m : Meaning P C D R) (k : ℕ) (ps qs rs : List P) (entries more : List (Entry C))
    → of_part m.names k (entries ++ more) ≡ of_part m.names k entries
    → replay (whole m) ps entries ≡ Some qs → replay (whole m) ps (entries ++ more) ≡ Some rs → slice_get rs k ≡ slice_get qs k
one_part m k ps qs rs entries more same first comes =
    let test : Entry _ → Bool = λ e. list_any (λ n. n == k) (m.names e.call) in
    let none = append_cancel_left (of_part m.names k entries) (of_part m.names k more) []
    (sym (filter-append test entries more) ∙ (same ∙ sym (append-nil (of_part m.names k entries)))) in
    let on = sym (fold-append (after_entry (whole m)) (Some ps) entries more ∙ ap (λ s. fold (after_entry (whole m)) s more) first) ∙ comes in
    replay-leaves m k qs rs more none on
