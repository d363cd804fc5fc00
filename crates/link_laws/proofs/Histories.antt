-- Histories of calls that keep the tracks of a room together.
use Rattle.std.proofs.Common.{◌≡◌, ℕ, zero, suc, ◌+◌, ◌^◌, ◌≤◌, List, [], ◌∷◌, fold, length, slice_get, slice_set, Option, Some, None, Ok, Err, refl, sym, ap, ◌∙◌, arith, subst}
use Rattle.composables.specs.declared.media.Table.{Table}
use Rattle.composables.specs.declared.refusals.Done.{Done}
use Rattle.composables.specs.declared.refusals.Refusal.{Refusal}
use Rattle.composables.specs.Answers.{Applied}
use Rattle.composables.specs.OwnTracks.{numbers_of}
use Rattle.composables.specs.TrackState.{TrackState}
use Rattle.room_core.specs.declared.entry.Entry.{Entry}
use Rattle.room_core.specs.History.{after_entry, replay, state_in}
use Rattle.room_core.specs.Parts.{AscendBetween}
use Rattle.room_core.specs.Whole.{Meaning, on_whole, picked, put_back, unless_refused, whole, with_picked}
use Rattle.link_laws.specs.Together.{Together}
use Rattle.link_laws.specs.Weights.{NextsWithin, given, most_added, runs_on, weight, weight_of}
use Rattle.link_laws.specs.Given.{AreGiven, LeavesGiven}
use Rattle.link_laws.specs.Rooms.{AreLow, AreNamed, AreTracks, IsNumbered, with_tracks}
use Rattle.link_laws.specs.Wholes.{KeepsNumbers, Numbered, StayTogether}
use Rattle.link_laws.specs.Histories.{AreAfter, AreGivenAfter, CallsKeepGiven, CallsKeepTogether, GoodBefore, HistoriesStayGiven, HistoriesStayTogether, LinkNumbersLast}
use Rattle.link_laws.proofs.Weighing.{nexts-more, nexts-within}
use Rattle.link_laws.proofs.Wholes.{among-from, among-picked, ascend-of, ascend-picked, at-place, none-within, put-back, set-length, set-numbered, wholes-keep}

-- one call on all tracks

pub numbers-picked : (all : List TrackState) (least : ℕ) (names : List ℕ) → Numbered 0 all → AscendBetween least (length all) names → numbers_of (picked all names) ≡ names
numbers-picked all least [] h a = refl
numbers-picked all least (n ∷ ns) h a = by (slice_get all n) refl (numbers-picked all (n + 1) ns h a.2) where
  by : (o : Option TrackState) → slice_get all n ≡ o → numbers_of (picked all ns) ≡ ns → numbers_of (with_picked o (picked all ns)) ≡ n ∷ ns
  by None e rest = absurd (none-within all n e a.1)
  by (Some t) e rest =
      ap (λ (m : ℕ). m ∷ numbers_of (picked all ns)) (at-place all n t h e).0 ∙ ap (λ (ms : List ℕ). n ∷ ms) rest

abbrev Ordered : ℕ → Applied → Type 0
Ordered count (Ok (us, d)) = Numbered 0 us × (length us ≡ count)
Ordered count (Err r) = Unit {0}

pub ordered-back : (all us : List TrackState) → Numbered 0 all → Numbered 0 (put_back all (numbers_of us) us) × (length (put_back all (numbers_of us) us) ≡ length all)
ordered-back all [] h = (h, refl)
ordered-back all (u ∷ us) h =
    let z : u.number ≡ 0 + u.number = omega arith in
    let r = ordered-back (slice_set all u.number u) us (set-numbered 0 u.number u all h z) in
    (r.0, r.1 ∙ set-length u.number u all)

ordered_whole : (all : List TrackState) (names : List ℕ) (r : Applied) → Numbered 0 all → KeepsNumbers names r → Ordered (length all) (on_whole all names r)
ordered_whole all names (Ok (us, d)) h n =
    subst (λ (ns : List ℕ). Numbered 0 (put_back all ns us) × (length (put_back all ns us) ≡ length all)) n (ordered-back all us h)
ordered_whole all names (Err why) h n = tt

-- link numbers, whatever else the tracks are

low_numbered : (from : ℕ) (ts : List TrackState) → Numbered from ts → from + length ts ≤ 32 → AreLow ts
low_numbered from [] h le = tt
low_numbered from (t ∷ ts) h le = (omega (arith, h.0, le), low_numbered (from + 1) ts h.1 (omega (arith, le)))

pub numbered-room : (all : List TrackState) → Numbered 0 all → length all ≤ 32 → IsNumbered all
numbered-room all h few = record { apart = among-from all 0 all h refl; ascend = ascend-of 0 all h; low = low_numbered 0 all h (omega (arith, few)) }

kept_numbers : (all named : List TrackState) (names : List ℕ) (r : Applied) → numbers_of named ≡ names → LeavesGiven all named r → KeepsNumbers names r
kept_numbers all named names (Ok (us, d)) n s = s.numbers ∙ n
kept_numbers all named names (Err why) n s = tt

abbrev GivenIn : List TrackState → Applied → Type 0
GivenIn all (Ok (us, d)) = AreGiven us × (weight us ≤ weight all + most_added)
GivenIn all (Err why) = Unit {0}

module _ {C : Type 0} (m : Meaning TrackState C Done Refusal) where
  given_back : (all : List TrackState) (names : List ℕ) (r : Applied) → Numbered 0 all → AscendBetween 0 (length all) names → numbers_of (picked all names) ≡ names
      → LeavesGiven all (picked all names) r → GivenIn all (on_whole all names r) × Ordered (length all) (on_whole all names r)
  given_back all names (Ok (us, d)) h a n s =
      let numbers : numbers_of us ≡ names = s.numbers ∙ n in
      let asc : AscendBetween 0 (length all) (numbers_of us) = subst (AscendBetween 0 (length all)) (sym numbers) a in
      let same : put_back all names us ≡ with_tracks all us = ap (λ (ns : List ℕ). put_back all ns us) (sym numbers) ∙ put-back 0 all us h asc in (
        (subst AreGiven (sym same) s.given, omega (arith, ap weight same, s.little)),
        ordered_whole all names (Ok (us, d)) h numbers,
      )
  given_back all names (Err why) h a n s = (tt, tt)

  given_call : (all : List TrackState) (c : C) → CallsKeepGiven (length all) m → Numbered 0 all → length all ≤ 32 → AreGiven all
      → GivenIn all (whole m all c) × Ordered (length all) (whole m all c)
  given_call all c k h few g = by (m.refuses c) refl where
    by : (o : Option Refusal) → m.refuses c ≡ o
        → GivenIn all (unless_refused o (on_whole all (m.names c) (m.applied (picked all (m.names c)) c)))
        × Ordered (length all) (unless_refused o (on_whole all (m.names c) (m.applied (picked all (m.names c)) c)))
    by None e =
        let a = k.names c e in
        let n : numbers_of (picked all (m.names c)) ≡ m.names c = numbers-picked all 0 (m.names c) h a in
        let named : AreNamed all (picked all (m.names c)) = record { among = among-picked all (m.names c) h; ascend = ascend-picked all 0 (m.names c) h a } in
        given_back all (m.names c) (m.applied (picked all (m.names c)) c) h a n (k.keeps c all (picked all (m.names c)) n (numbered-room all h few) named g)
    by (Some r) e = (tt, tt)

  past_state : (es : List (Entry C)) → fold (after_entry (whole m)) None es ≡ None
  past_state [] = refl
  past_state (e ∷ es) = past_state es

  given_history : (all qs : List TrackState) (es : List (Entry C)) → CallsKeepGiven (length all) m → Numbered 0 all → length all ≤ 32 → AreGiven all
      → replay (whole m) all es ≡ Some qs → AreGivenAfter all qs (length es)
  given_history all qs [] k h few g comes =
      let same : all ≡ qs = Prim.grind (arith, comes) in
      record { given = subst AreGiven same g; little = omega (arith, ap weight same) }
  given_history all qs (e ∷ es) k h few g comes = by (whole m all e.call) (given_call all e.call k h few g) comes (λ us l. given_history us qs es l) where
    by : (r : Applied) → GivenIn all r × Ordered (length all) r → fold (after_entry (whole m)) (state_in r) es ≡ Some qs
        → ((us : List TrackState) → CallsKeepGiven (length us) m → Numbered 0 us → length us ≤ 32 → AreGiven us → replay (whole m) us es ≡ Some qs → AreGivenAfter us qs (length es))
        → AreGivenAfter all qs (length (e ∷ es))
    by (Ok (us, d)) s cs later =
        let r = later us (subst (λ (n : ℕ). CallsKeepGiven n m) (sym s.1.1) k) s.1.0 (omega (arith, s.1.1, few)) s.0.0 cs in
        record { given = r.given; little = omega (arith, r.little, s.0.1) }
    by (Err why) s cs later = let none = sym (past_state es) ∙ cs in absurd (Prim.grind (arith, none))

pub histories-given : {C : Type 0} → HistoriesStayGiven C
histories-given m all qs es k h few g comes = given_history m all qs es k h few g comes

-- and together

module _ {C : Type 0} (table : Table) (m : Meaning TrackState C Done Refusal) where
  one_call : (all : List TrackState) (c : C) → CallsKeepTogether table (length all) m → Numbered 0 all → length all ≤ 32 → AreGiven all → AreTracks table all
      → Together all → StayTogether all (whole m all c)
  one_call all c k h few v tracks g = by (m.refuses c) refl where
    by : (o : Option Refusal) → m.refuses c ≡ o → StayTogether all (unless_refused o (on_whole all (m.names c) (m.applied (picked all (m.names c)) c)))
    by None e =
        let a = k.given.names c e in
        let n : numbers_of (picked all (m.names c)) ≡ m.names c = numbers-picked all 0 (m.names c) h a in
        let named : AreNamed all (picked all (m.names c)) = record { among = among-picked all (m.names c) h; ascend = ascend-picked all 0 (m.names c) h a } in
        wholes-keep table (λ named. m.applied named c) all (m.names c) (k.keeps c) h tracks a
        (kept_numbers all (picked all (m.names c)) (m.names c) (m.applied (picked all (m.names c)) c) n (k.given.keeps c all (picked all (m.names c)) n (numbered-room all h few) named v)) g
    by (Some r) e = tt

  history : (all qs : List TrackState) (es : List (Entry C)) → CallsKeepTogether table (length all) m → Numbered 0 all → length all ≤ 32 → AreGiven all → Together all
      → GoodBefore table (whole m) (Some all) es → replay (whole m) all es ≡ Some qs → AreAfter all qs (length es)
  history all qs [] k h few v g good comes =
      let same : all ≡ qs = Prim.grind (arith, comes) in
      record { together = subst Together same g; little = omega (arith, ap weight same) }
  history all qs (e ∷ es) k h few v g good comes =
      by (whole m all e.call) (one_call all e.call k h few v good.0 g) (given_call m all e.call k.given h few v) good.1 comes (λ us l. history us qs es l) where
        by : (r : Applied) → StayTogether all r → GivenIn all r × Ordered (length all) r → GoodBefore table (whole m) (state_in r) es
            → fold (after_entry (whole m)) (state_in r) es ≡ Some qs
            → ((us : List TrackState) → CallsKeepTogether table (length us) m → Numbered 0 us → length us ≤ 32 → AreGiven us → Together us → GoodBefore table (whole m) (Some us) es
            → replay (whole m) us es ≡ Some qs → AreAfter us qs (length es))
            → AreAfter all qs (length (e ∷ es))
        by (Ok (us, d)) s v gs cs later =
            let r = later us (subst (λ (n : ℕ). CallsKeepTogether table n m) (sym v.1.1) k) v.1.0 (omega (arith, v.1.1, few)) v.0.0 s.together gs cs in
            record { together = r.together; little = omega (arith, r.little, s.little) }
        by (Err why) s v gs cs later = let none = sym (past_state m es) ∙ cs in absurd (Prim.grind (arith, none))

pub histories-together : {C : Type 0} → HistoriesStayTogether C
histories-together table m all qs es k h few v g good comes = history table m all qs es k h few v g good comes

given_none : (f : ℕ → ℕ) (n : ℕ) → n ≤ 0 → given f n ≡ 0
given_none f zero le = refl
given_none f (suc n) le = absurd (omega (arith, le))

weight_none : (f : ℕ → ℕ → ℕ) (ts : List TrackState) → NextsWithin 0 ts → weight_of f ts ≡ 0
weight_none f [] h = refl
weight_none f (t ∷ ts) h = omega (arith, given_none (f t.number) t.next_link h.0, weight_none f ts h.1)

pub numbers-last : {C : Type 0} → LinkNumbersLast C
numbers-last m all qs es k h few g young within comes =
    let r = histories-given m all qs es k h few g comes in
    nexts-more (weight qs) (2 ^ 31) qs (omega (arith, r.little, weight_none (λ (i n : ℕ). runs_on i n all) all young, within)) (nexts-within qs)
