-- A session by the points of its own entries: they rise, and each is there, so that no other is told of.
use Rattle.std.proofs.Common.{◌≡◌, ℕ, zero, suc, ◌+◌, ◌-◌, ◌<◌, ◌≤◌, ◌⊎◌, inl, inr, List, [], ◌∷◌, ◌++◌, Bool, true, false, Option, Some, None, All, IsSomeAnd, cond, length, nat_le, take, slice_get, get_or, ◌==◌, refl, sym, ap, ◌∙◌, subst, arith}
use Rattle.std.proofs.lemmas.Bool.{cases_lt}
use Rattle.std.proofs.lemmas.Bool.Decides.{nat_tests}
use Rattle.std.proofs.lemmas.List.{append-nil, take_all}
use Rattle.std.proofs.lemmas.List.Elements.{All-append, All-cons, All-head, All-nil, All-tail, All-weaker}
use Rattle.std.proofs.lemmas.Option.{get_or_from_slice_get, slice_get-get_or, slice_get_within}
use Rattle.room_core.specs.declared.entry.Entry.{Entry}
use Rattle.recorded_sessions.specs.Places.{PassesAll}
use Rattle.recorded_sessions.specs.Sessions.{AreOwn, IsAt, IsSession, places_of}
use Rattle.recorded_sessions.specs.Stopping.{HasNoPair, pairs_in}
use Rattle.recorded_sessions.specs.Telling.{AreKnown, Explaining, Goes, IsKnown, own_points, told_after}
use Rattle.recorded_sessions.specs.declared.session.Heard.{Heard}
use Rattle.recorded_sessions.specs.declared.telling.Told.{Told}
use Rattle.recorded_sessions.specs.declared.telling.Told.TheVariants.{Nothing, Own, Point, Least, Same}

-- ---- points that rise

abbrev Rising : List ℕ → Type 0
Rising [] = Unit {0}
Rising (p ∷ ps) = All (λ q. p < q) ps × Rising ps

rising-append : (a : ℕ) (xs ys : List ℕ) → Rising xs → Rising ys → All (λ p. p < a) xs → All (λ q. a ≤ q) ys → Rising (xs ++ ys)
rising-append a [] ys rx ry below above = ry
rising-append a (x ∷ xs) ys rx ry below above =
    let less : x < a = All-head (λ p. p < a) x xs below in (
      All-append (λ q. x < q) xs ys rx.0 (All-weaker (λ q. a ≤ q) (λ q. x < q) (λ q h. omega (arith, h, less)) ys above),
      rising-append a xs ys rx.1 ry (All-tail (λ p. p < a) x xs below) above,
    )

-- those before one of them are less
before_one : (points : List ℕ) (k x : ℕ) → Rising points → slice_get points k ≡ Some x → All (λ p. p < x) (take k points)
before_one [] k x rise at = absurd (Prim.grind (arith, at))
before_one (p ∷ ps) zero x rise at = All-nil (λ q. q < x)
before_one (p ∷ ps) (suc k) x rise at =
    let less : p < x = subst (λ y. p < y) (get_or_from_slice_get ps k x x at) (rise.0 k x (slice_get_within ps k x at)) in
    All-cons (λ q. q < x) p (take k ps) less (before_one ps k x rise.1 at)

-- ---- what one reply tells

when : (t : Bool) (told n k after : ℕ) → nat_le told n ≡ t → cond t (Some k) None ≡ Some after → (told ≤ n) × (k ≡ after)
when true told n k after is e = (Prim.grind (arith, nat_tests, is), Prim.grind (arith, e))
when false told n k after is e = absurd (Prim.grind (arith, e))

record IsTold (t : Told) (told after : ℕ) : Type 0 where
  on : told ≤ after
  above : All (λ p. told ≤ p) (own_points t)
  below : All (λ p. p < after) (own_points t)
  rise : Rising (own_points t)

none_told : (told after : ℕ) → told ≤ after → (t : Told) → own_points t ≡ [] → IsTold t told after
none_told told after on t none = record {
  on = on;
  above = subst (All (λ p. told ≤ p)) (sym none) (All-nil (λ p. told ≤ p));
  below = subst (All (λ p. p < after)) (sym none) (All-nil (λ p. p < after));
  rise = subst Rising (sym none) tt;
}

one_reply : (t : Told) (told after : ℕ) → told_after t told ≡ Some after → IsTold t told after
one_reply Nothing told after e = absurd (Prim.grind (arith, e))
one_reply (Own n) told after e =
    let w = when (nat_le told n) told n (n + 1) after refl e in record {
      on = omega (arith, w.0, w.1);
      above = All-cons (λ p. told ≤ p) n [] w.0 (All-nil (λ p. told ≤ p));
      below = All-cons (λ p. p < after) n [] (omega (arith, w.1)) (All-nil (λ p. p < after));
      rise = (All-nil (λ q. n < q), tt);
    }
one_reply (Point n) told after e =
    let w = when (nat_le told n) told n n after refl e in none_told told after (omega (arith, w.0, w.1)) (Point n) refl
one_reply (Least n) told after e = none_told told after (Prim.grind (arith, e)) (Least n) refl
one_reply Same told after e = none_told told after (Prim.grind (arith, e)) Same refl

-- ---- replies of each of which it is known what it tells

module _ (explains : Explaining) where
  abbrev pub Each : ℕ → ℕ → (Told → Type 0) → Type 0
  Each number count And = (k : ℕ) → number ≤ k → k < number + count → (t : Told) × IsKnown (explains k) t × And t

  abbrev pub Any : Told → Type 0
  Any t = Unit {0}

  pub goes_rising : (P : ℕ → Type 0) (number count told last : ℕ) (points : List ℕ) → Each number count (λ t. All P (own_points t))
      → Goes explains number count told last points → Rising points × All (λ p. told ≤ p) points × All P points
  goes_rising P number zero told last points each goes =
      (subst Rising (sym goes.1) tt, subst (All (λ p. told ≤ p)) (sym goes.1) (All-nil (λ p. told ≤ p)), subst (All P) (sym goes.1) (All-nil P))
  goes_rising P number (suc count) told last points each goes =
      let one = each number (omega arith) (omega arith) in
      let tells = one.1.only told goes.0 goes.1 goes.3 in
      let is = one_reply one.0 told goes.0 tells.0 in
      let rest = goes_rising P (number + 1) count goes.0 last goes.2 (λ k least most. each k (omega (arith, least)) (omega (arith, most))) goes.4 in
      let all : points ≡ own_points one.0 ++ goes.2 = goes.5 ∙ ap (λ ps. ps ++ goes.2) tells.1 in (
        subst Rising (sym all) (rising-append goes.0 (own_points one.0) goes.2 is.rise rest.0 is.below rest.1),
        subst (All (λ p. told ≤ p)) (sym all)
            (All-append (λ p. told ≤ p) (own_points one.0) goes.2 is.above
            (All-weaker (λ p. goes.0 ≤ p) (λ p. told ≤ p) (λ p h. omega (arith, h, is.on)) goes.2 rest.1)),
        subst (All P) (sym all) (All-append P (own_points one.0) goes.2 one.2 rest.2),
      )

  -- they have one end
  same_end : (a b c : ℕ) → Some a ≡ Some b → Some a ≡ Some c → b ≡ c
  same_end a b c e f = Prim.grind (arith, e, f)

  pub one_way : (number count told last other : ℕ) (points others : List ℕ) → Each number count Any
      → Goes explains number count told last points → Goes explains number count told other others → (last ≡ other) × (points ≡ others)
  one_way number zero told last other points others each goes went = (goes.0 ∙ sym went.0, goes.1 ∙ sym went.1)
  one_way number (suc count) told last other points others each goes went =
      let one = each number (omega arith) (omega arith) in
      let here = one.1.only told goes.0 goes.1 goes.3 in
      let there = one.1.only told went.0 went.1 went.3 in
      let same : went.0 ≡ goes.0 = end (told_after one.0 told) went.0 goes.0 there.0 here.0 in
      let rest =
      one_way (number + 1) count goes.0 last other goes.2 went.2 (λ k least most. each k (omega (arith, least)) (omega (arith, most))) goes.4
      (subst (λ a. Goes explains (number + 1) count a other went.2) same went.4) in
      (rest.0, goes.5 ∙ (ap (λ ps. ps ++ goes.2) (here.1 ∙ sym there.1) ∙ (ap (λ ps. went.1 ++ ps) rest.1 ∙ sym went.5)))
    where
      end : (o : Option ℕ) (a b : ℕ) → o ≡ Some a → o ≡ Some b → a ≡ b
      end o a b e f = Prim.grind (arith, sym e ∙ f)

  -- the first of them, and those after these
  pub goes_front : (number a b n told last : ℕ) (points : List ℕ) → n ≡ a + b → Goes explains number n told last points
      → (mid : ℕ) × (front : List ℕ) × (back : List ℕ) × Goes explains number a told mid front × Goes explains (number + a) b mid last back
  goes_front number zero b n told last points is goes =
      let at : number ≡ number + 0 = omega arith in
      let same : n ≡ b = omega (arith, is) in
      (told, [], points, (refl, refl), subst (λ m. Goes explains m b told last points) at (subst (λ m. Goes explains number m told last points) same goes))
  goes_front number (suc a) b n told last points is goes =
      let more : n ≡ suc (a + b) = omega (arith, is) in
      let went : Goes explains number (suc (a + b)) told last points = subst (λ m. Goes explains number m told last points) more goes in
      let at : number + 1 + a ≡ number + suc a = omega arith in
      let rest = goes_front (number + 1) a b (a + b) went.0 last went.2 refl went.4 in (
        rest.0,
        went.1 ++ rest.1,
        rest.2,
        (went.0, went.1, rest.1, went.3, rest.3, refl),
        subst (λ m. Goes explains m b rest.0 last rest.2) at rest.4,
      )

  -- what is known of the first replies
  module _ {C : Type 0} (entries : List (Entry C)) (station : ℕ) (tells : List Told) (known : AreKnown explains tells) (own : AreOwn entries station tells) where
    own_at : (t : Told) → ((n : ℕ) → t ≡ Own n → IsAt entries station n) → All (IsAt entries station) (own_points t)
    own_at Nothing is = All-nil (IsAt entries station)
    own_at (Own n) is = All-cons (IsAt entries station) n [] (is n refl) (All-nil (IsAt entries station))
    own_at (Point n) is = All-nil (IsAt entries station)
    own_at (Least n) is = All-nil (IsAt entries station)
    own_at Same is = All-nil (IsAt entries station)

    at_line : (k : ℕ) → 1 ≤ k → k < 1 + length tells → slice_get tells (k - 1) ≡ Some (get_or tells (k - 1) Same)
    at_line k least most = slice_get-get_or tells (k - 1) Same (omega (arith, least, most))

    known_line : (k : ℕ) → 1 ≤ k → k < 1 + length tells → IsKnown (explains k) (get_or tells (k - 1) Same)
    known_line k least most =
        let line : k - 1 + 1 ≡ k = omega (arith, least) in
        subst (λ m. IsKnown (explains m) (get_or tells (k - 1) Same)) line (known (k - 1) _ (at_line k least most))

    pub each_own : Each 1 (length tells) (λ t. All (IsAt entries station) (own_points t))
    each_own k least most =
        (get_or tells (k - 1) Same, known_line k least most, own_at _ (λ n is. own (k - 1) n (at_line k least most ∙ ap Some is)))

    pub each_any : (count : ℕ) → count ≤ length tells → Each 1 count Any
    each_any count few k least most =
        (get_or tells (k - 1) Same, known_line k least (omega (arith, most, few)), tt)

-- ---- a station's entries

pub some_at : {A : Type 0} (Q : A → Type 0) (o : Option A) → IsSomeAnd o Q → (x : A) × (o ≡ Some x) × Q x
some_at Q None h = absurd h
some_at Q (Some x) h = (x, refl, h)

pub same_one : {A : Type 0} (x y : A) → Some x ≡ Some y → x ≡ y
same_one x y h = Prim.grind (arith, h)

pub own_first : {C : Type 0} (f : Entry C) (fs : List (Entry C)) (m station : ℕ) → f.station ≡ station
    → places_of m station (f ∷ fs) ≡ m ∷ places_of (m + 1) station fs
own_first f fs m station own = by (f.station == station) refl where
  by : (t : Bool) → (f.station == station) ≡ t → cond t (m ∷ places_of (m + 1) station fs) (places_of (m + 1) station fs) ≡ m ∷ places_of (m + 1) station fs
  by true is = refl
  by false is = absurd (Prim.grind (arith, nat_tests, own, is))

rest_all : (P : ℕ → Type 0) (t : Bool) (m : ℕ) (rest : List ℕ) → All P (cond t (m ∷ rest) rest) → All P rest
rest_all P true m rest h = All-tail P m rest h
rest_all P false m rest h = h

place_all : {C : Type 0} (P : ℕ → Type 0) (m station : ℕ) (es : List (Entry C)) (i : ℕ) (e : Entry C) → All P (places_of m station es)
    → slice_get es i ≡ Some e → e.station ≡ station → P (m + i)
place_all P m station [] i e all at own = absurd (Prim.grind (arith, at))
place_all P m station (f ∷ fs) zero e all at own =
    let same : f ≡ e = same_one f e at in
    let here : m ≡ m + 0 = omega arith in
    let is = own_first f fs m station (ap (λ (x : Entry _). x.station) same ∙ own) in
    subst P here (All-head P m (places_of (m + 1) station fs) (subst (All P) is all))
place_all P m station (f ∷ fs) (suc i) e all at own =
    let here : m + 1 + i ≡ m + suc i = omega arith in
    subst P here (place_all P (m + 1) station fs i e (rest_all P (f.station == station) m (places_of (m + 1) station fs) all) at own)

-- where all are passed, all points are
module _ {C : Type 0} (left : ℕ → Type 0) (heard : Heard) (points : List ℕ) (entries : List (Entry C)) (passes : PassesAll left heard points entries)
    (rise : Rising points) (own : All (IsAt entries heard.station) points) where
  all_front : places_of 0 heard.station entries ≡ take passes.0 points ++ passes.1.skipped
  all_front = ap (places_of 0 heard.station) (sym (take_all (length entries) entries (omega arith))) ∙ passes.1.front

  no_other : passes.0 < length points → passes.1.skipped ≡ [] → ⊥
  no_other less none =
      let x = get_or points passes.0 0 in
      let at : slice_get points passes.0 ≡ Some (get_or points passes.0 0) = slice_get-get_or points passes.0 0 less in
      let found = some_at (λ e. e.station ≡ heard.station) (slice_get entries (get_or points passes.0 0)) (own passes.0 0 less) in
      let front : places_of 0 heard.station entries ≡ take passes.0 points =
      all_front ∙ (ap (λ ps. take passes.0 points ++ ps) none ∙ append-nil (take passes.0 points)) in
      let below = place_all (λ p. p < get_or points passes.0 0) 0 heard.station entries (get_or points passes.0 0) found.0
      (subst (All (λ p. p < get_or points passes.0 0)) (sym front) (before_one points passes.0 (get_or points passes.0 0) rise at)) found.1 found.2 in
      omega (arith, below)

  pub all_passed : passes.0 ≡ length points
  all_passed = elim (cases_lt passes.0 (length points)) [
    | inl less ↦ elim passes.1.last [
      | inl none ↦ absurd (no_other less none)
      | inr all ↦ all.1
    ]
    | inr more ↦ omega (arith, more, passes.1.within)
  ]

  pub all_places : places_of 0 heard.station entries ≡ points ++ passes.1.skipped
  all_places = all_front ∙ ap (λ ps. ps ++ passes.1.skipped) (ap (λ n. take n points) all_passed ∙ take_all (length points) points (omega arith))

-- ---- the whole session

pub true_false : {A : Type 0} (t : Bool) → t ≡ true → t ≡ false → A
true_false true is not = absurd (Prim.grind (arith, not))
true_false false is not = absurd (Prim.grind (arith, is))

none_unless : (is_cut : Bool) (skipped : List ℕ) (All' : Type 0) → ((skipped ≡ []) ⊎ ((is_cut ≡ true) × All')) → is_cut ≡ false → skipped ≡ []
none_unless is_cut skipped All' last whole = elim last [
  | inl none ↦ none
  | inr all ↦ true_false is_cut all.0 whole
]

no_more : (heard : Heard) → (HasNoPair heard → ⊥) → heard.replies ≤ heard.lines
no_more heard paired = elim (cases_lt heard.lines heard.replies) [
  | inl less ↦ absurd (paired (inl less))
  | inr more ↦ more
]

no_fewer : (heard : Heard) → (HasNoPair heard → ⊥) → heard.is_cut ≡ false → heard.lines ≤ heard.replies
no_fewer heard paired whole = elim (cases_lt heard.replies heard.lines) [
  | inl less ↦ absurd (paired (inr (less, whole)))
  | inr more ↦ more
]

pub all_replies : (heard : Heard) → (HasNoPair heard → ⊥) → pairs_in heard ≡ heard.replies
all_replies heard paired = omega (arith, no_more heard paired)

-- the session that was followed to its end
pub session_of : {C : Type 0} (explains : Explaining) (left : ℕ → Type 0) (heard : Heard) (entries : List (Entry C)) (tells : List Told) (told : ℕ) (points : List ℕ)
    → AreKnown explains tells → AreOwn entries heard.station tells → length tells ≡ pairs_in heard
    → Goes explains 1 (length tells) 0 told points → (HasNoPair heard → ⊥) → PassesAll left heard points entries
    → IsSession explains left heard entries
session_of explains left heard entries tells told points known own pairs goes paired passes =
    let few = no_more heard paired in
    let way = goes_rising explains (IsAt entries heard.station) 1 (length tells) 0 told points (each_own explains entries heard.station tells known own) goes in
    record {
      told = told;
      answered = points;
      unanswered = passes.1.skipped;
      few = few;
      whole = λ whole. (omega (arith, few, no_fewer heard paired whole), none_unless heard.is_cut passes.1.skipped _ passes.1.last whole);
      goes = subst (λ n. Goes explains 1 n 0 told points) (pairs ∙ all_replies heard paired) goes;
      places = all_places left heard points entries passes way.0 way.2;
      are_left = passes.1.are_left;
    }
