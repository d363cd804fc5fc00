-- What holds of the machine after any events.
use Rattle.std.proofs.Common.{◌≡◌, ℕ, ◌<◌, ◌≤◌, List, [], ◌∷◌, Bool, true, false, nat_lt, Option, Some, None, Result, Ok, Err, IsSome, length, slice_get, refl, ap, ◌∙◌, arith, length-append, if◌then◌else◌}
use Rattle.std.proofs.lemmas.Bool.Decides.{nat_tests}
use Rattle.room_core.specs.History.{after_entry, replay, state_in, NumbersRise, most_entries, IsLegal}
use Rattle.room_core.specs.Machine.{Event, Take, Commit, Give, Machine, opened, committed, held_as, is_above, is_free, is_held_by, step, run}
use Rattle.room_core.specs.Whole.{Meaning, whole}
use Rattle.room_core.specs.declared.entry.Entry.{Entry}
use Rattle.room_core.proofs.Histories.{replay-more, rise-more}

-- the parts are those that the history comes to
pub record Stands {P C D R : Type 0} (meaning : Meaning P C D R) (parts : List P) (m : Machine P C) : Type 0 where
  pub within : length m.history ≤ most_entries
  pub comes_to : replay (whole meaning) parts m.history ≡ Some m.parts
  pub rise : NumbersRise m.history

stands-if : {P C D R : Type 0} (meaning : Meaning P C D R) (parts : List P) (b : Bool) (m n : Machine P C)
    → (b ≡ true → Stands meaning parts m) → Stands meaning parts n → Stands meaning parts (if b then m else n)
stands-if meaning parts true m n h k = h refl
stands-if meaning parts false m n h k = k

below : (a b : ℕ) → nat_lt a b ≡ true → a < b
below a b h = Prim.grind (arith, nat_tests, h)

stands-committed : {P C D R : Type 0} (meaning : Meaning P C D R) (parts : List P) (m : Machine P C) (e : Entry C) (r : Result (List P × D) R)
    → Stands meaning parts m → whole meaning m.parts e.call ≡ r → length m.history < most_entries
    → is_above e.station e.number m.history ≡ true → Stands meaning parts (committed m e r)
stands-committed meaning parts m e (Ok (ps, d)) h is few above = record {
  within = omega (arith, length-append m.history (e ∷ []), few);
  comes_to = replay-more (whole meaning) parts m.history e ∙ (ap (λ s. after_entry (whole meaning) s e) h.comes_to ∙ ap state_in is);
  rise = rise-more m.history e h.rise above;
}
stands-committed meaning parts m e (Err r) h is few above = h

stands-held : {P C D R : Type 0} (meaning : Meaning P C D R) (parts : List P) (m : Machine P C) (part : ℕ) (holder : Option ℕ)
    → Stands meaning parts m → Stands meaning parts (held_as m part holder)
stands-held meaning parts m part holder h = record { within = h.within; comes_to = h.comes_to; rise = h.rise }

stands-step : {P C D R : Type 0} (meaning : Meaning P C D R) (parts : List P) (m : Machine P C) (event : Event C)
    → Stands meaning parts m → Stands meaning parts (step meaning m event)
stands-step meaning parts m (Take s part) h =
    stands-if meaning parts (is_free (slice_get m.holders part)) (held_as m part (Some s)) m (λ b. stands-held meaning parts m part (Some s) h) h
stands-step meaning parts m (Commit s i c) h =
    let e : Entry _ = record { station = s; number = i; call = c } in
    stands-if meaning parts _ (committed m e (whole meaning m.parts c)) m
    (λ may. stands-committed meaning parts m e (whole meaning m.parts c) h refl
    (below (length m.history) most_entries (Prim.grind (arith, may))) (Prim.grind (arith, may)))
    h
stands-step meaning parts m (Give s part) h =
    stands-if meaning parts (is_held_by s (slice_get m.holders part)) (held_as m part None) m (λ b. stands-held meaning parts m part None h) h

stands-run : {P C D R : Type 0} (meaning : Meaning P C D R) (parts : List P) (m : Machine P C) (events : List (Event C))
    → Stands meaning parts m → Stands meaning parts (run meaning m events)
stands-run meaning parts m [] h = h
stands-run meaning parts m (event ∷ events) h = stands-run meaning parts (step meaning m event) events (stands-step meaning parts m event h)

pub after_events : {P C D R : Type 0} (meaning : Meaning P C D R) (parts : List P) (events : List (Event C))
    → Stands meaning parts (run meaning (opened parts) events)
after_events meaning parts events = stands-run meaning parts (opened parts) events (record { within = omega arith; comes_to = refl; rise = tt })

is_some : {A : Type 0} (o : Option A) (a : A) → o ≡ Some a → IsSome o
is_some o a h = rw h refl

pub legal-events : {P C D R : Type 0} (meaning : Meaning P C D R) (parts : List P) (events : List (Event C))
    → IsLegal (whole meaning) parts (run meaning (opened parts) events).history
legal-events meaning parts events =
    let s = after_events meaning parts events in record { within = s.within; applies = is_some _ _ s.comes_to; rise = s.rise }
