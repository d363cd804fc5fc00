-- The last number of a station is its greatest.
use Rattle.std.proofs.Common.{◌≡◌, ◌≢◌, ℕ, zero, suc, ◌-◌, ◌<◌, ◌≤◌, List, [], ◌∷◌, Bool, true, false, not, ◌&&◌, ◌||◌}
use Rattle.std.proofs.Common.{◌==◌, nat_lt, Some, length, slice_get, slice_index_or, drop, refl, sym, ap, ◌∙◌, arith}
use Rattle.std.proofs.Common.{subst}
use Rattle.std.proofs.lemmas.Bool.Decides.{nat_tests}
use Rattle.room_core.specs.History.{RiseAfter, NumbersRise}
use Rattle.room_core.specs.Machine.{is_above}
use Rattle.room_core.specs.declared.entry.Entry.{Entry}
use Rattle.cut_mirror.proofs.Named.{get-index}

true_false : {A : Type 0} → true ≡ false → A
true_false e = absurd (Prim.grind (arith, e))

same_entry : {C : Type 0} (f e : Entry C) → Some f ≡ Some e → f ≡ e
same_entry f e h = Prim.grind (arith, h)

rises_to : {C : Type 0} (f : Entry C) (es : List (Entry C)) (k : ℕ) (e : Entry C)
    → RiseAfter f es → slice_get es k ≡ Some e → e.station ≡ f.station → f.number < e.number
rises_to f [] k e h is same = absurd (Prim.grind (arith, is))
rises_to f (g ∷ gs) zero e h is same =
    let one = same_entry g e is in subst (λ (x : Entry _). f.number < x.number) one
    (h.0 (ap (λ (x : Entry _). x.station) one ∙ same))
rises_to f (g ∷ gs) (suc k) e h is same = rises_to f gs k e h.1 is same

own : (a b m n : ℕ) (rest : Bool) → a ≡ b → rest ≡ true → ((not (a == b) || nat_lt m n) && rest) ≡ nat_lt m n
own a b m n true e h = by (a == b) refl where
  by : (t : Bool) → (a == b) ≡ t → ((not (a == b) || nat_lt m n) && true) ≡ nat_lt m n
  by true f = Prim.grind (arith, nat_tests, f)
  by false f = absurd (Prim.grind (arith, nat_tests, e, f))
own a b m n false e h = true_false (sym h)

-- an entry before the last one of its station says nothing more
before : (a b m last n : ℕ) (rest : Bool) → (a ≡ b → m < last) → rest ≡ nat_lt last n
    → ((not (a == b) || nat_lt m n) && rest) ≡ rest
before a b m last n false h e = by (not (a == b) || nat_lt m n) where
  by : (t : Bool) → (t && false) ≡ false
  by true = refl
  by false = refl
before a b m last n true h e = by (a == b) refl where
  by : (t : Bool) → (a == b) ≡ t → ((not (a == b) || nat_lt m n) && true) ≡ true
  by false f = Prim.grind (arith, nat_tests, f)
  by true f =
      let same : a ≡ b = Prim.grind (arith, nat_tests, f) in
      let lt : last < n = Prim.grind (arith, nat_tests, e) in
      let less = h same in
      Prim.grind (arith, nat_tests, f, lt, less)

last_at : {C : Type 0} (es : List (Entry C)) (k : ℕ) (e : Entry C) (station number : ℕ) → NumbersRise es
    → slice_get es k ≡ Some e → e.station ≡ station
    → is_above station number (drop (suc k) es) ≡ true → is_above station number es ≡ nat_lt e.number number
last_at [] k e station number h is same above = absurd (Prim.grind (arith, is))
last_at (f ∷ fs) zero e station number h is same above =
    let one = same_entry f e is in
    own f.station station f.number number (is_above station number fs)
    (ap (λ (x : Entry _). x.station) one ∙ same) above
    ∙ ap (λ (x : Entry _). nat_lt x.number number) one
last_at (f ∷ fs) (suc k) e station number h is same above =
    let rest = last_at fs k e station number h.1 is same above in
    before f.station station f.number e.number number (is_above station number fs)
    (λ own. rises_to f fs k e h.0 is (same ∙ sym own)) rest ∙ rest

-- the last entry of a station decides
pub last : {C : Type 0} (es : List (Entry C)) (n : ℕ) (e d : Entry C) (station number : ℕ) → 0 < n → n ≤ length es
    → NumbersRise es
    → e ≡ slice_index_or es (n - 1) e → e.station ≡ station → is_above station number (drop n es) ≡ true
    → nat_lt (slice_index_or es (n - 1) d).number number ≡ is_above station number es
last es zero e d station number some within rise is same above = absurd (omega (arith, some))
last es (suc n) e d station number some within rise is same above =
    let at : suc n - 1 ≡ n = omega arith in
    let here = get-index es (suc n - 1) e (omega (arith, within)) ∙ ap Some (sym is) in
    let one = same_entry (slice_index_or es (suc n - 1) d) e
    (sym (get-index es (suc n - 1) d (omega (arith, within))) ∙ here) in
    ap (λ (x : Entry _). nat_lt x.number number) one
    ∙ sym (last_at es n e station number rise (ap (slice_get es) (sym at) ∙ here) same above)
