-- An event that has no place is refused by one of the two codes that events have.
use Rattle.std.proofs.Common.{◌≡◌, ℕ, Bool, true, false, cond, ◌&&◌, ◌==◌, List, [], ◌∷◌, Option, Some, None, ap, subst}
use Rattle.timecode12.specs.Numbers.{Counted}
use Rattle.reel_names.specs.Names.{is_black}
use Rattle.edl_events.specs.declared.event.Event.{Event}
use Rattle.edl_events.specs.declared.event.FromLine.{FromLine}
use Rattle.list_import.specs.declared.fault.ImportCode.{ImportCode}
use Rattle.list_import.specs.declared.fault.ImportCode.TheVariants.{I1, I2, I3, I4}
use Rattle.list_import.specs.Refusals.{IsRefused, code_by, event_code, first_refused, told_at}

abbrev OfEvent : ImportCode → Type 0
OfEvent I1 = Unit {0}
OfEvent I2 = Unit {0}
OfEvent I3 = ⊥
OfEvent I4 = ⊥

of_tests : (b d : Bool) (code : ImportCode) → cond b (Some I1) (cond d (Some I2) None) ≡ Some code → OfEvent code
of_tests true d code h = let same : I1 ≡ code = cc in subst (λ (c : ImportCode). OfEvent c) same tt
of_tests false true code h = let same : I2 ≡ code = cc in subst (λ (c : ImportCode). OfEvent c) same tt
of_tests false false code h = absurd cc

of_event : (o : Option FromLine) (n len : ℕ) (reel : List ℕ) (code : ImportCode) → code_by o n len reel ≡ Some code → OfEvent code
of_event None n len reel code h = absurd cc
of_event (Some from) n len reel code h = of_tests (n == 1 && len == 1) (is_black from.reel && is_black reel) code h

of_told : (o : Option ImportCode) (line : ℕ) (rest : Option (ImportCode × ℕ)) (code : ImportCode) (n : ℕ) → ((c : ImportCode) → o ≡ Some c → OfEvent c) → (rest ≡ Some (code, n) → OfEvent code)
    → told_at o line rest ≡ Some (code, n) → OfEvent code
of_told None line rest code n own more h = more h
of_told (Some c) line rest code n own more h =
    let same : ◌≡◌ {A = ImportCode × ℕ} (c, line) (code, n) = cc in
    own code (ap (λ (p : ImportCode × ℕ). Some p.0) same)

of_first : (es : List Event) (code : ImportCode) (n : ℕ) → first_refused es ≡ Some (code, n) → OfEvent code
of_first [] code n h = absurd cc
of_first (e ∷ es) code n h = of_told (event_code e) e.line (first_refused es) code n (of_event e.from e.frames e.len e.reel) (of_first es code n) h

pub refused_by : (events : List Event) (counted : Counted) (code : ImportCode) (n : ℕ) → first_refused events ≡ Some (code, n) → IsRefused events counted code n
refused_by events counted I1 n h = h
refused_by events counted I2 n h = h
refused_by events counted I3 n h = absurd (of_first events I3 n h)
refused_by events counted I4 n h = absurd (of_first events I4 n h)
