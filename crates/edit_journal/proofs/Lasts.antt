-- One entry more, of a number above the last of its station.
use Rattle.std.proofs.Common.{◌≡◌, ◌≢◌, ℕ, zero, suc, ◌<◌, max, List, [], ◌∷◌, ◌++◌, Bool, true, false, not, ◌&&◌, ◌||◌, ◌==◌, nat_lt, cond, Some, fold, slice_get, slice_set, refl, sym, ap, ◌∙◌, subst, arith}
use Rattle.std.proofs.lemmas.List.Elements.{filter-append}
use Rattle.std.proofs.lemmas.List.Sums.{fold-append}
use Rattle.std.proofs.lemmas.Bool.Decides.{nat_tests}
use Rattle.room_core.specs.declared.entry.Entry.{Entry}
use Rattle.room_core.specs.Machine.{is_above}
use Rattle.room_core.specs.Projection.{of_station}
use Rattle.room_core.proofs.WholeParts.{get-set_other}
use Rattle.edit_journal.specs.Turns.{last_of}

above_step : {C : Type 0} (b : Bool) (m n : ℕ) (e : Entry C) (kept : List (Entry C)) (rest : Bool)
    → ((k : ℕ) → fold (λ m e. max m e.number) k kept < n → (k < n) × (rest ≡ true))
    → fold (λ m e. max m e.number) m (cond b (e ∷ kept) kept) < n → (m < n) × ((not b || nat_lt e.number n) && rest ≡ true)
above_step true m n e kept rest f h = let r = f (max m e.number) h in Prim.grind (arith, nat_tests, r.0, r.1)
above_step false m n e kept rest f h = let r = f m h in (r.0, r.1)

above_from : {C : Type 0} (s n : ℕ) (entries : List (Entry C)) (m : ℕ) → fold (λ m e. max m e.number) m (of_station s entries) < n → (m < n) × (is_above s n entries ≡ true)
above_from s n [] m h = (h, refl)
above_from s n (e ∷ es) m h = above_step (e.station == s) m n e (of_station s es) (is_above s n es) (λ k. above_from s n es k) h

-- a number above the last is above all
pub above_last : {C : Type 0} (s n : ℕ) (entries : List (Entry C)) → last_of s entries < n → is_above s n entries ≡ true
above_last s n entries h = (above_from s n entries 0 h).1

last_step : {C : Type 0} (b : Bool) (m : ℕ) (e : Entry C) → fold (λ m e. max m e.number) m (cond b (e ∷ []) []) ≡ cond b (max m e.number) m
last_step true m e = refl
last_step false m e = refl

last-more : {C : Type 0} (s : ℕ) (entries : List (Entry C)) (e : Entry C) → last_of s (entries ++ e ∷ []) ≡ cond (e.station == s) (max (last_of s entries) e.number) (last_of s entries)
last-more s entries e =
    ap (λ l. fold (λ m e. max m e.number) 0 l) (filter-append (λ e. e.station == s) entries (e ∷ []))
    ∙ (fold-append (λ m e. max m e.number) 0 (of_station s entries) (of_station s (e ∷ [])) ∙ last_step (e.station == s) (last_of s entries) e)

get-set : {A : Type 0} (xs : List A) (n k : ℕ) (x y : A) → slice_get xs n ≡ Some y → n ≡ k → slice_get (slice_set xs n x) k ≡ Some x
get-set [] n k x y h e = absurd (Prim.grind (arith, h))
get-set (z ∷ xs) zero k x y h e = subst (λ j. slice_get (slice_set (z ∷ xs) 0 x) j ≡ Some x) e refl
get-set (z ∷ xs) (suc n) k x y h e = subst (λ j. slice_get (slice_set (z ∷ xs) (suc n) x) j ≡ Some x) e (get-set xs n n x y h refl)

lasts_step : {C : Type 0} (b : Bool) (s : ℕ) (lasts : List ℕ) (entries : List (Entry C)) (e : Entry C) → (e.station == s) ≡ b
    → slice_get lasts e.station ≡ Some (last_of e.station entries) → slice_get lasts s ≡ Some (last_of s entries) → last_of e.station entries < e.number
    → slice_get (slice_set lasts e.station e.number) s ≡ Some (cond b (max (last_of s entries) e.number) (last_of s entries))
lasts_step true s lasts entries e is own at above =
    let same : e.station ≡ s = Prim.grind (arith, nat_tests, is) in
    let over : last_of s entries < e.number = subst (λ k. last_of k entries < e.number) same above in
    let top : e.number ≡ max (last_of s entries) e.number = omega (arith, over) in
    get-set lasts e.station s e.number (last_of e.station entries) own same ∙ ap Some top
lasts_step false s lasts entries e is own at above =
    let other : e.station ≢ s = λ h. Prim.grind (arith, nat_tests, is, h) in
    get-set_other lasts e.station s e.number other ∙ at

-- the last number of each station, after one entry more
pub lasts-more : {C : Type 0} (stations : ℕ) (lasts : List ℕ) (entries : List (Entry C)) (e : Entry C) → e.station < stations → last_of e.station entries < e.number
    → ((s : ℕ) → s < stations → slice_get lasts s ≡ Some (last_of s entries))
    → (s : ℕ) → s < stations → slice_get (slice_set lasts e.station e.number) s ≡ Some (last_of s (entries ++ e ∷ []))
lasts-more stations lasts entries e inside above each s lt =
    lasts_step (e.station == s) s lasts entries e refl (each e.station inside) (each s lt) above ∙ ap Some (sym (last-more s entries e))
