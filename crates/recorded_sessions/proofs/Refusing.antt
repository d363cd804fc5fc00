-- No session that is explained is refused.
use Rattle.std.proofs.Common.{◌≡◌, ℕ, zero, suc, ◌+◌, ◌-◌, ◌<◌, inl, inr, List, [], ◌∷◌, ◌++◌, Bool, true, false, Some, All, cond, length, take, slice_get, ◌==◌, refl, sym, ap, ◌∙◌, subst, arith, append_assoc}
use Rattle.std.proofs.lemmas.Bool.{cases_lt}
use Rattle.std.proofs.lemmas.List.{append-nil, append_cancel_left, length-append, length-take-le, take_all}
use Rattle.std.proofs.lemmas.List.Elements.{All-head, All-tail}
use Rattle.room_core.specs.declared.entry.Entry.{Entry}
use Rattle.recorded_sessions.specs.Following.{StopsFollowing}
use Rattle.recorded_sessions.specs.Places.{IsUntold}
use Rattle.recorded_sessions.specs.Sessions.{AreOwn, IsSession, places_of}
use Rattle.recorded_sessions.specs.Stopping.{HasNoPair, IsRefusal, StopsAtEntry, StopsAtReply, pairs_in}
use Rattle.recorded_sessions.specs.Telling.{AreKnown, Explaining, Goes}
use Rattle.recorded_sessions.specs.declared.session.Heard.{Heard}
use Rattle.recorded_sessions.specs.declared.session.Stop.{Stop}
use Rattle.recorded_sessions.specs.declared.session.Stop.TheVariants.{Reply, Unpaired, Untold, Memory}
use Rattle.recorded_sessions.specs.declared.telling.Told.{Told}
use Rattle.recorded_sessions.proofs.Settled.{each_any, goes_front, one_way, own_first, same_one, some_at}

-- ---- lists

push_in : (t : Bool) (m : ℕ) (xs ys zs : List ℕ) → xs ≡ ys ++ zs → cond t (m ∷ xs) xs ≡ cond t (m ∷ ys) ys ++ zs
push_in true m xs ys zs h = ap (λ ps. m ∷ ps) h
push_in false m xs ys zs h = h

places_split : {C : Type 0} (m station : ℕ) (es : List (Entry C)) (i : ℕ) (e : Entry C) → slice_get es i ≡ Some e → e.station ≡ station
    → (rest : List ℕ) × (places_of m station es ≡ places_of m station (take i es) ++ (m + i) ∷ rest)
places_split m station [] i e at own = absurd (Prim.grind (arith, at))
places_split m station (f ∷ fs) zero e at own =
    let here : m ≡ m + 0 = omega arith in (
      places_of (m + 1) station fs,
      own_first f fs m station (ap (λ (x : Entry _). x.station) (same_one f e at) ∙ own) ∙ ap (λ n. n ∷ places_of (m + 1) station fs) here,
    )
places_split m station (f ∷ fs) (suc i) e at own =
    let here : m + 1 + i ≡ m + suc i = omega arith in
    let more = places_split (m + 1) station fs i e at own in (
      more.0,
      push_in (f.station == station) m (places_of (m + 1) station fs) (places_of (m + 1) station (take i fs)) ((m + suc i) ∷ more.0)
          (more.1 ∙ ap (λ n. places_of (m + 1) station (take i fs) ++ n ∷ more.0) here),
    )

front_get : (xs ys : List ℕ) (k : ℕ) → k < length xs → slice_get (xs ++ ys) k ≡ slice_get xs k
front_get [] ys k less = absurd (omega (arith, less))
front_get (x ∷ xs) ys zero less = refl
front_get (x ∷ xs) ys (suc k) less = front_get xs ys k (omega (arith, less))

at_length : (xs : List ℕ) (y : ℕ) (ys : List ℕ) (k : ℕ) → length xs ≡ k → slice_get (xs ++ y ∷ ys) k ≡ Some y
at_length [] y ys zero is = refl
at_length [] y ys (suc k) is = absurd (omega (arith, is))
at_length (x ∷ xs) y ys zero is = absurd (omega (arith, is))
at_length (x ∷ xs) y ys (suc k) is = at_length xs y ys k (omega (arith, is))

all_mid : (P : ℕ → Type 0) (xs : List ℕ) (y : ℕ) (ys : List ℕ) → All P (xs ++ y ∷ ys) → P y
all_mid P [] y ys h = All-head P y ys h
all_mid P (x ∷ xs) y ys h = all_mid P xs y ys (All-tail P x (xs ++ y ∷ ys) h)

some_there : {A : Type 0} (xs : List ℕ) (y : ℕ) (ys : List ℕ) → [] ≡ xs ++ y ∷ ys → A
some_there xs y ys h = absurd (omega (arith, ap length h, length-append xs (y ∷ ys)))

-- ---- a session that is explained, by replies of which it is known what they tell

module _ {C : Type 0} (explains : Explaining) (left : ℕ → Type 0) (heard : Heard) (entries : List (Entry C)) (tells : List Told)
    (known : AreKnown explains tells) (own : AreOwn entries heard.station tells) (pairs : length tells ≡ pairs_in heard)
    (session : IsSession explains left heard entries) where
  all_paired : pairs_in heard ≡ heard.replies
  all_paired = omega (arith, session.few)

  never_reply : (number told : ℕ) → StopsAtReply explains (pairs_in heard) number told → ⊥
  never_reply number told s =
      let within = s.within in
      let parts = goes_front explains 1 s.before (suc (heard.replies - (s.before + 1))) heard.replies 0 session.told session.answered
      (omega (arith, within, all_paired)) session.goes in
      let same = one_way explains 1 s.before 0 parts.0 told parts.1 s.points
      (each_any explains entries heard.station tells known own s.before (omega (arith, within, pairs))) parts.3 s.explained in
      let line : 1 + s.before ≡ number = omega (arith, s.number_is) in
      s.unexplained parts.4.0 parts.4.1
      (subst (λ n. explains n told parts.4.0 parts.4.1) line (subst (λ m. explains (1 + s.before) m parts.4.0 parts.4.1) same.0 parts.4.3))

  never_pair : HasNoPair heard → ⊥
  never_pair none = elim none [
    | inl less ↦ absurd (omega (arith, less, session.few))
    | inr more ↦ absurd (omega (arith, more.0, (session.whole more.1).0))
  ]

  module _ (place : ℕ) (s : StopsAtEntry explains left heard entries place) where
    same_points : s.points ≡ session.answered
    same_points =
        (one_way explains 1 (pairs_in heard) 0 s.told session.told s.points session.answered
        (each_any explains entries heard.station tells known own (pairs_in heard) (omega (arith, pairs)))
        s.explained (subst (λ n. Goes explains 1 n 0 session.told session.answered) (sym all_paired) session.goes)).1

    abbrev count : ℕ
    count = s.untold.0

    abbrev skipped : List ℕ
    skipped = s.untold.2.skipped

    lists : (rest : List ℕ) × (s.points ++ session.unanswered ≡ (take s.untold.0 s.points ++ s.untold.2.skipped) ++ place ∷ rest)
    lists =
        let e = some_at (λ x. x.station ≡ heard.station) (slice_get entries place) s.untold.1 in
        let split = places_split 0 heard.station entries place e.0 e.1 e.2 in
        let here : 0 + place ≡ place = omega arith in (
          split.0,
          ap (λ ps. ps ++ session.unanswered) same_points
              ∙ (sym session.places
              ∙ (split.1
              ∙ (ap (λ n. places_of 0 heard.station (take place entries) ++ n ∷ split.0) here
              ∙ ap (λ ps. ps ++ place ∷ split.0) s.untold.2.front))),
        )

    is_next : count < length s.points → skipped ≡ [] → slice_get s.points count ≡ Some place
    is_next less none =
        sym (front_get s.points session.unanswered count less)
        ∙ (ap (λ ps. slice_get ps count) (lists.1 ∙ ap (λ ps. (take count s.points ++ ps) ++ place ∷ lists.0) none
        ∙ ap (λ ps. ps ++ place ∷ lists.0) (append-nil (take count s.points)))
        ∙ at_length (take count s.points) place lists.0 count (length-take-le count s.points (omega (arith, less))))

    others : count ≡ length s.points → session.unanswered ≡ skipped ++ place ∷ lists.0
    others all =
        append_cancel_left s.points session.unanswered (skipped ++ place ∷ lists.0)
        (lists.1
        ∙ (ap (λ ps. (ps ++ skipped) ++ place ∷ lists.0) (take_all count s.points (omega (arith, all)))
        ∙ append_assoc s.points skipped (place ∷ lists.0)))

    is_left : count ≡ length s.points → left place
    is_left all = all_mid left skipped place lists.0 (subst (All left) (others all) session.are_left)

    never_left : (t : Bool) → heard.is_cut ≡ t → count ≡ length s.points → ⊥
    never_left true is all = s.untold.3.not_left is all (is_left all)
    never_left false is all = some_there skipped place lists.0 (sym (session.whole is).1 ∙ others all)

    never_entry : ⊥
    never_entry = elim (cases_lt count (length s.points)) [
      | inl less ↦ elim s.untold.2.last [
        | inl none ↦ s.untold.3.untold (is_next less none)
        | inr all ↦ absurd (omega (arith, less, all.1))
      ]
      | inr more ↦ never_left heard.is_cut refl (omega (arith, more, s.untold.2.within))
    ]

  pub never_followed : (stop : Stop) → StopsFollowing explains (length tells) stop → IsRefusal stop → ⊥
  never_followed (Reply number told) s refusal = never_reply number told (subst (λ n. StopsAtReply explains n number told) pairs s)
  never_followed (Unpaired number) s refusal = s
  never_followed (Untold place) s refusal = s
  never_followed Memory s refusal = refusal

  pub never_unpaired : HasNoPair heard → ⊥
  never_unpaired = never_pair

  pub never_untold : (place told : ℕ) (points : List ℕ) → Goes explains 1 (length tells) 0 told points → (HasNoPair heard → ⊥)
      → IsUntold left heard points entries place → ⊥
  never_untold place told points goes paired untold =
      never_entry place (record {
        told = told;
        points = points;
        paired = paired;
        explained = subst (λ n. Goes explains 1 n 0 told points) pairs goes;
        untold = untold;
      })
