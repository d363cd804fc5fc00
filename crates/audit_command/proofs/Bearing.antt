-- Numbers that no entry of a station bears, by the entries one after another.
use Rattle.std.proofs.Common.{◌≡◌, ◌≢◌, ℕ, zero, suc, ◌+◌, ◌-◌, ◌<◌, ◌≤◌, inl, inr, List, [], ◌∷◌, ◌++◌, Bool, true, false, Some, length, take, set, get_or, replicate, slice_get, sym, ap, ◌∙◌, subst, arith}
use Rattle.std.proofs.lemmas.Bool.{cases_eq}
use Rattle.std.proofs.lemmas.List.{take_more, get_or-set_same, get_or-set_other, length-set}
use Rattle.std.proofs.lemmas.Option.{get_or_from_slice_get, slice_get-get_or, slice_get_within}
use Rattle.recorded_sessions.specs.Places.{Says}
use Rattle.room_core.specs.declared.entry.Entry.{Entry}
use Rattle.station_sessions.specs.Transcript.{BearsNone}

bears_more : {C : Type 0} (es : List (Entry C)) (e : Entry C) (station line : ℕ) → BearsNone es station line
    → (e.station ≡ station → e.number ≢ line) → BearsNone (es ++ e ∷ []) station line
bears_more [] e station line none other = (other, tt)
bears_more (f ∷ fs) e station line none other = (none.0, bears_more fs e station line none.1 other)

bears_less : {C : Type 0} (es : List (Entry C)) (e : Entry C) (station line : ℕ) → BearsNone (es ++ e ∷ []) station line
    → BearsNone es station line × (e.station ≡ station → e.number ≢ line)
bears_less [] e station line none = (tt, none.0)
bears_less (f ∷ fs) e station line none = let rest = bears_less fs e station line none.1 in ((none.0, rest.0), rest.1)

-- what the signs say of the entries
abbrev pub SayBorne : {C : Type 0} → List (Entry C) → ℕ → List Bool → Type 0
SayBorne es station signs = (index : ℕ) (sign : Bool) → slice_get signs index ≡ Some sign → Says sign (BearsNone es station (index + 1))

says_more : {C : Type 0} (es : List (Entry C)) (e : Entry C) (station line : ℕ) → (e.station ≡ station → e.number ≢ line)
    → (sign : Bool) → Says sign (BearsNone es station line) → Says sign (BearsNone (es ++ e ∷ []) station line)
says_more es e station line other true none = bears_more es e station line none other
says_more es e station line other false some = λ none. some (bears_less es e station line none).0

one_sign : (a b : Bool) → Some a ≡ Some b → b ≡ a
one_sign a b h = Prim.grind (arith, h)

all_true : (n index : ℕ) (sign : Bool) → slice_get (replicate n true) index ≡ Some sign → sign ≡ true
all_true zero index sign at = absurd (Prim.grind (arith, at))
all_true (suc n) zero sign at = one_sign true sign at
all_true (suc n) (suc index) sign at = all_true n index sign at

-- before the first entry all are free
pub free_first : (C : Type 0) (station n : ℕ) → SayBorne {C = C} [] station (replicate n true)
free_first C station n = λ index sign at. subst (λ b. Says b (BearsNone {C = C} [] station (index + 1))) (sym (all_true n index sign at)) tt

module _ {C : Type 0} (es : List (Entry C)) (station i : ℕ) (one : Entry C) (within : i < length es) (found : one ≡ get_or es i one)
    (signs : List Bool) (say : SayBorne (take i es) station signs) where
  grown : take (i + 1) es ≡ take i es ++ one ∷ []
  grown = take_more es i one within ∙ ap (λ e. take i es ++ e ∷ []) (sym found)

  -- an entry that bears none of the numbers
  pub pass_entry : ((index : ℕ) → index < length signs → one.station ≡ station → one.number ≢ index + 1) → SayBorne (take (i + 1) es) station signs
  pass_entry other = λ index sign at.
      subst (λ fs. Says sign (BearsNone fs station (index + 1))) (sym grown)
      (says_more (take i es) one station (index + 1) (other index (slice_get_within signs index sign at)) sign (say index sign at))

  -- an entry that bears one
  module _ (own : one.station ≡ station) (some : 0 < one.number) (few : one.number ≤ length signs) where
    bears_one : (index : ℕ) → one.number ≡ index + 1 → Says false (BearsNone (take (i + 1) es) station (index + 1))
    bears_one index is = λ none.
        (bears_less (take i es) one station (index + 1) (subst (λ fs. BearsNone fs station (index + 1)) grown none)).1 own is

    sign_there : (index : ℕ) (sign : Bool) → slice_get (set signs (one.number - 1) false) index ≡ Some sign → index ≡ one.number - 1 → sign ≡ false
    sign_there index sign at is =
        sym (get_or_from_slice_get (set signs (one.number - 1) false) index sign true at)
        ∙ (ap (λ k. get_or (set signs (one.number - 1) false) k true) is
        ∙ get_or-set_same signs (one.number - 1) false true (omega (arith, some, few)))

    sign_else : (index : ℕ) (sign : Bool) → slice_get (set signs (one.number - 1) false) index ≡ Some sign → (index ≡ one.number - 1 → ⊥)
        → slice_get signs index ≡ Some sign
    sign_else index sign at other =
        let less = slice_get_within (set signs (one.number - 1) false) index sign at in
        slice_get-get_or signs index true (omega (arith, less, length-set signs (one.number - 1) false))
        ∙ ap (λ b. Some b) (sym (get_or-set_other signs (one.number - 1) index false true other)
        ∙ get_or_from_slice_get (set signs (one.number - 1) false) index sign true at)

    pub mark_entry : SayBorne (take (i + 1) es) station (set signs (one.number - 1) false)
    mark_entry = λ index sign at.
        elim (cases_eq index (one.number - 1)) [
          | inl is ↦ subst (λ b. Says b (BearsNone (take (i + 1) es) station (index + 1))) (sym (sign_there index sign at is))
              (bears_one index (omega (arith, is, some)))
          | inr other ↦ subst (λ fs. Says sign (BearsNone fs station (index + 1))) (sym grown)
              (says_more (take i es) one station (index + 1) (λ same here. other (omega (arith, here))) sign
              (say index sign (sign_else index sign at other)))
        ]
