-- The least number that the next entry of a station can bear.
use Rattle.std.proofs.Common.{◌≡◌, ◌≢◌, ℕ, ◌+◌, ◌<◌, ◌≤◌, ◌⊎◌, List, [], ◌∷◌, ◌++◌, inl, inr, refl, sym, arith}
use Rattle.edit_calls.specs.declared.asks.Call.{Call}
use Rattle.room_core.specs.declared.entry.Entry.{Entry}
use Rattle.take_back.specs.declared.step.Step.{Step}
use Rattle.room_core.specs.History.{RiseAfter, NumbersRise}
use Rattle.journal_text.specs.JournalFaults.{IsLate}

-- the number of each entry of the station is below n
abbrev pub AreBelow : List (Entry (Step Call)) → ℕ → ℕ → Type 0
AreBelow [] s n = Unit {0}
AreBelow (f ∷ fs) s n = (f.station ≡ s → f.number < n) × AreBelow fs s n

-- n is one more than the number of an entry of the station
abbrev pub IsNext : List (Entry (Step Call)) → ℕ → ℕ → Type 0
IsNext [] s n = ⊥
IsNext (f ∷ fs) s n = ((f.station ≡ s) × (f.number + 1 ≡ n)) ⊎ IsNext fs s n

pub record IsLeast (before : List (Entry (Step Call))) (s n : ℕ) : Type 0 where
  pub below : AreBelow before s n
  pub next : (n ≡ 0) ⊎ IsNext before s n

-- a number below the least one is late
next_late : (before : List (Entry (Step Call))) (e : Entry (Step Call)) (s n : ℕ) → e.station ≡ s → e.number < n → IsNext before s n → IsLate before e
next_late [] e s n same low h = absurd h
next_late (f ∷ fs) e s n same low (inl here) =
    let station : f.station ≡ e.station = cc in
    let one = here.1 in
    inl (station, omega (arith, low, one))
next_late (f ∷ fs) e s n same low (inr more) = inr (next_late fs e s n same low more)

least_late : (before : List (Entry (Step Call))) (e : Entry (Step Call)) (n : ℕ) → e.number < n → (n ≡ 0) ⊎ IsNext before e.station n → IsLate before e
least_late before e n low (inl none) = absurd (omega (arith, low, none))
least_late before e n low (inr next) = next_late before e e.station n refl low next

pub is_late : (before : List (Entry (Step Call))) (e : Entry (Step Call)) (n : ℕ) → IsLeast before e.station n → e.number < n → IsLate before e
is_late before e n h low = least_late before e n low h.next

-- one entry more, whose number is the least one or above it
below_end : (before : List (Entry (Step Call))) (e : Entry (Step Call)) (s n m : ℕ) → AreBelow before s n → n ≤ m → (e.station ≡ s → e.number < m) → AreBelow (before ++ e ∷ []) s m
below_end [] e s n m h up here = (here, tt)
below_end (f ∷ fs) e s n m h up here =
    (λ same. let low = h.0 same in omega (arith, low, up), below_end fs e s n m h.1 up here)

rise_end : (before : List (Entry (Step Call))) (f e : Entry (Step Call)) → RiseAfter f before → (e.station ≡ f.station → f.number < e.number) → RiseAfter f (before ++ e ∷ [])
rise_end [] f e h here = (here, tt)
rise_end (g ∷ gs) f e h here = (h.0, rise_end gs f e h.1 here)

pub rise_more : (before : List (Entry (Step Call))) (e : Entry (Step Call)) (n : ℕ) → NumbersRise before → AreBelow before e.station n → n ≤ e.number → NumbersRise (before ++ e ∷ [])
rise_more [] e n h below up = (tt, tt)
rise_more (f ∷ fs) e n h below up =
    (rise_end fs f e h.0 (λ same. let low = below.0 (sym same) in omega (arith, low, up)), rise_more fs e n h.1 below.1 up)

next_end : (before : List (Entry (Step Call))) (e : Entry (Step Call)) (s n : ℕ) → e.station ≡ s → e.number + 1 ≡ n → IsNext (before ++ e ∷ []) s n
next_end [] e s n same one = inl (same, one)
next_end (f ∷ fs) e s n same one = inr (next_end fs e s n same one)

next_more : (before : List (Entry (Step Call))) (e : Entry (Step Call)) (s n : ℕ) → IsNext before s n → IsNext (before ++ e ∷ []) s n
next_more [] e s n h = absurd h
next_more (f ∷ fs) e s n (inl here) = inl here
next_more (f ∷ fs) e s n (inr more) = inr (next_more fs e s n more)

still_next : (before : List (Entry (Step Call))) (e : Entry (Step Call)) (s n : ℕ) → (n ≡ 0) ⊎ IsNext before s n → (n ≡ 0) ⊎ IsNext (before ++ e ∷ []) s n
still_next before e s n (inl none) = inl none
still_next before e s n (inr next) = inr (next_more before e s n next)

pub least_other : (before : List (Entry (Step Call))) (e : Entry (Step Call)) (s n : ℕ) → IsLeast before s n → e.station ≢ s → IsLeast (before ++ e ∷ []) s n
least_other before e s n h other = record {
  below = below_end before e s n n h.below (omega arith) (λ same. absurd (other same));
  next = still_next before e s n h.next;
}

pub least_at : (before : List (Entry (Step Call))) (e : Entry (Step Call)) (s n m : ℕ) → e.station ≡ s → IsLeast before s n → n ≤ e.number → m ≡ e.number + 1 → IsLeast (before ++ e ∷ []) s m
least_at before e s n m same h up one = record {
  below = below_end before e s n m h.below (omega (arith, up, one)) (λ again. omega (arith, one));
  next = inr (next_end before e s m same (omega (arith, one)));
}
