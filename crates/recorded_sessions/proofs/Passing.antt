-- The entries of a station, one place after another.
use Rattle.std.proofs.Common.{◌≡◌, ◌≢◌, ℕ, suc, ◌+◌, ◌<◌, inl, inr, List, [], ◌∷◌, ◌++◌, Bool, true, false, Some, IsSomeAnd, cond, length, take, slice_get, get_or, ◌==◌, refl, sym, ap, ◌∙◌, subst, arith, append_assoc}
use Rattle.std.proofs.lemmas.Bool.Decides.{nat_tests}
use Rattle.std.proofs.lemmas.List.{append-nil, length-take-le, take_more}
use Rattle.std.proofs.lemmas.List.Elements.{All-nil, All-push}
use Rattle.std.proofs.lemmas.Option.{get_or_from_slice_get, slice_get-get_or, slice_get_within}
use Rattle.room_core.specs.declared.entry.Entry.{Entry}
use Rattle.recorded_sessions.specs.Places.{IsFront, IsPassed, IsStopped, IsUntold}
use Rattle.recorded_sessions.specs.Sessions.{places_of}
use Rattle.recorded_sessions.specs.declared.session.Heard.{Heard}

same_true : (a b : ℕ) → a ≡ b → (a == b) ≡ true
same_true a b e = Prim.grind (arith, nat_tests, e)

other_false : (a b : ℕ) → a ≢ b → (a == b) ≡ false
other_false a b e = Prim.grind (arith, nat_tests, e)

-- where the entry behind some stands, if it is the station's
abbrev place_if : Bool → ℕ → List ℕ
place_if true place = place ∷ []
place_if false place = []

first_place : (t : Bool) (place : ℕ) (rest : List ℕ) → cond t (place ∷ rest) rest ≡ place_if t place ++ rest
first_place true place rest = refl
first_place false place rest = refl

places_more : {C : Type 0} (place station : ℕ) (es : List (Entry C)) (e : Entry C)
    → places_of place station (es ++ e ∷ []) ≡ places_of place station es ++ place_if (e.station == station) (place + length es)
places_more place station [] e =
    let at : place + 0 ≡ place = omega arith in
    rw at (first_place (e.station == station) place [] ∙ append-nil (place_if (e.station == station) place))
places_more place station (f ∷ es) e =
    let at : place + 1 + length es ≡ place + suc (length es) = omega arith in
    let rest = places_of (place + 1) station es in
    first_place (f.station == station) place (places_of (place + 1) station (es ++ e ∷ []))
    ∙ (ap (λ ps. place_if (f.station == station) place ++ ps)
    (places_more (place + 1) station es e ∙ ap (λ n. places_of (place + 1) station es ++ place_if (e.station == station) n) at)
    ∙ (sym (append_assoc (place_if (f.station == station) place) rest (place_if (e.station == station) (place + suc (length es))))
    ∙ ap (λ ps. ps ++ place_if (e.station == station) (place + suc (length es))) (sym (first_place (f.station == station) place rest))))

-- an entry before which so many of a station's points stand
module _ {C : Type 0} (left : ℕ → Type 0) (heard : Heard) (points : List ℕ) (place count : ℕ) (entries : List (Entry C)) (d : Entry C)
    (within : place < length entries) (so : IsFront left heard points place count entries) where
  places_next : (t : Bool) → ((get_or entries place d).station == heard.station) ≡ t
      → places_of 0 heard.station (take (place + 1) entries) ≡ (take count points ++ so.skipped) ++ place_if t place
  places_next t is =
      let at : 0 + length (take place entries) ≡ place = omega (arith, length-take-le place entries (omega (arith, within))) in
      ap (places_of 0 heard.station) (take_more entries place d within)
      ∙ (places_more 0 heard.station (take place entries) (get_or entries place d)
      ∙ (ap (λ n. places_of 0 heard.station (take place entries) ++ place_if ((get_or entries place d).station == heard.station) n) at
      ∙ (ap (λ b. places_of 0 heard.station (take place entries) ++ place_if b place) is
      ∙ ap (λ ps. ps ++ place_if t place) so.front)))

  pub pass_other : (get_or entries place d).station ≢ heard.station → IsFront left heard points (place + 1) count entries
  pass_other other = record {
    skipped = so.skipped;
    within = so.within;
    front = places_next false (other_false _ _ other) ∙ append-nil (take count points ++ so.skipped);
    are_left = so.are_left;
    last = so.last;
  }

  pass_told : (get_or entries place d).station ≡ heard.station → slice_get points count ≡ Some place → so.skipped ≡ []
      → IsFront left heard points (place + 1) (count + 1) entries
  pass_told own told none =
      let less = slice_get_within points count place told in record {
        skipped = [];
        within = omega (arith, less);
        front = places_next true (same_true _ _ own)
            ∙ (ap (λ ps. (take count points ++ ps) ++ place ∷ []) none
            ∙ (ap (λ ps. ps ++ place ∷ []) (append-nil (take count points))
            ∙ (ap (λ p. take count points ++ p ∷ []) (sym (get_or_from_slice_get points count place place told))
            ∙ (sym (take_more points count place less) ∙ sym (append-nil (take (count + 1) points))))));
        are_left = All-nil left;
        last = inl refl;
      }

  pub pass_own : (get_or entries place d).station ≡ heard.station → (after : ℕ) → IsPassed left heard points place count after
      → IsFront left heard points (place + 1) after entries
  pass_own own after passed = elim passed [
    | inl p ↦ subst (λ n. IsFront left heard points (place + 1) n entries) (sym p.1) (elim so.last [
      | inl none ↦ pass_told own p.0 none
      | inr all ↦ absurd (omega (arith, slice_get_within points count place p.0, all.1))
    ])
    | inr p ↦ subst (λ n. IsFront left heard points (place + 1) n entries) (sym p.3) (record {
      skipped = so.skipped ++ place ∷ [];
      within = so.within;
      front = places_next true (same_true _ _ own) ∙ append_assoc (take count points) so.skipped (place ∷ []);
      are_left = All-push left so.skipped place so.are_left p.2;
      last = inr (p.0, p.1);
    })
  ]

  pub stop_at : (get_or entries place d).station ≡ heard.station → IsStopped left heard points place count
      → IsUntold left heard points entries place
  stop_at own stopped =
      (count, subst (λ o. IsSomeAnd o (λ e. e.station ≡ heard.station)) (sym (slice_get-get_or entries place d within)) own, so, stopped)
