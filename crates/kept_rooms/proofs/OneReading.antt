-- The records of a kept file have one reading.
use Rattle.std.proofs.Common.{◌≡◌, ℕ, ◌+◌, ◌⊎◌, inl, inr, List, [], ◌∷◌, ◌++◌, None, Some, Option, Result, IsSome, length, refl, sym, ap, subst, ◌∙◌, arith, append_assoc, fold}
use Rattle.std.proofs.lemmas.List.Sums.{fold-append}
use Rattle.edit_calls.specs.declared.asks.Call.{Call}
use Rattle.take_back.specs.declared.step.Step.{Step}
use Rattle.room_core.specs.declared.entry.Entry.{Entry}
use Rattle.room_core.specs.History.{after_entry, replay}
use Rattle.room_core.specs.Whole.{Meaning, whole}
use Rattle.kept_rooms.specs.declared.fault.KeptFault.{KeptFault}
use Rattle.kept_rooms.specs.declared.fault.KeptFault.TheVariants.{Refused, NotApplied, Strayed, Memory}
use Rattle.kept_rooms.specs.Kept.{AreKept, AreTaken, IsRefusedAfter, IsTakenAfter, KeptRefused, StandsAfter}
use Rattle.kept_rooms.proofs.Taking.{taken_once, taken_within, taken_or_refused, refused_once, text_once}

none_stays : {S C D R : Type 0} (apply : S → C → Result (S × D) R) (entries : List (Entry C)) → fold (after_entry apply) None entries ≡ None
none_stays apply [] = refl
none_stays apply (e ∷ es) = none_stays apply es

-- a front of entries that apply is not one that does not
front_applies : {S C D R : Type 0} (apply : S → C → Result (S × D) R) (s : S) (entries rest : List (Entry C))
    → replay apply s entries ≡ None → IsSome (replay apply s (entries ++ rest)) → ⊥
front_applies {S} apply s entries rest none some =
    let split = fold-append (after_entry apply) (Some s) entries rest in
    let there = split ∙ (ap (λ o. fold (after_entry apply) o rest) none ∙ none_stays apply rest) in
    let no : IsSome {T = S} None = subst (λ (o : Option S). IsSome o) there some in
    absurd (grind (arith, no))

is_there : {S : Type 0} (o : Option S) → (o ≡ None → ⊥) → IsSome o
is_there None h = absurd (h refl)
is_there (Some s) h = refl

-- a front of entries that apply applies
pub front_some : {S C D R : Type 0} (apply : S → C → Result (S × D) R) (s : S) (entries rest : List (Entry C))
    → IsSome (replay apply s (entries ++ rest)) → IsSome (replay apply s entries)
front_some apply s entries rest some = is_there (replay apply s entries) (λ none. front_applies apply s entries rest none some)

-- two lists with a line in each are split at one place, or one in the other's front
abbrev Splits : List (List ℕ) → List ℕ → List (List ℕ) → List ℕ → Type 0
Splits xs x ys y = ((xs ≡ ys) × (x ≡ y))
    ⊎ (((more : List (List ℕ)) × (ys ≡ xs ++ x ∷ more)) ⊎ ((more : List (List ℕ)) × (xs ≡ ys ++ y ∷ more)))

splits_on : (l : List ℕ) (xs : List (List ℕ)) (x : List ℕ) (ys : List (List ℕ)) (y : List ℕ) → Splits xs x ys y → Splits (l ∷ xs) x (l ∷ ys) y
splits_on l xs x ys y (inl h) = inl (ap (λ k. l ∷ k) h.0, h.1)
splits_on l xs x ys y (inr (inl h)) = inr (inl (h.0, ap (λ k. l ∷ k) h.1))
splits_on l xs x ys y (inr (inr h)) = inr (inr (h.0, ap (λ k. l ∷ k) h.1))

splits : (xs : List (List ℕ)) (x : List ℕ) (a : List (List ℕ)) (ys : List (List ℕ)) (y : List ℕ) (b : List (List ℕ)) → xs ++ x ∷ a ≡ ys ++ y ∷ b → Splits xs x ys y
splits [] x a [] y b same = inl (refl, cc)
splits [] x a (m ∷ ys) y b same =
    let here : x ≡ m = cc in
    inr (inl (ys, ap (λ k. k ∷ ys) (sym here)))
splits (l ∷ xs) x a [] y b same =
    let here : l ≡ y = cc in
    inr (inr (xs, ap (λ k. k ∷ xs) here))
splits (l ∷ xs) x a (m ∷ ys) y b same =
    let here : l ≡ m = cc in
    let rest : xs ++ x ∷ a ≡ ys ++ y ∷ b = cc in
    subst (λ (k : List ℕ). Splits (l ∷ xs) x (k ∷ ys) y) here (splits_on l xs x ys y (splits xs x a ys y b rest))

module _ {P D R : Type 0} (m : Meaning P (Step Call) D R) (opening : List P) (stations : ℕ) where
  pub kept_once : (records : List (List ℕ)) (es fs : List (Entry (Step Call))) → AreKept m opening stations records es → AreKept m opening stations records fs → es ≡ fs
  kept_once records es fs h k = taken_once stations [] records es fs h.taken k.taken

  pub not_both : (records : List (List ℕ)) (es : List (Entry (Step Call))) (fault : KeptFault)
      → AreKept m opening stations records es → KeptRefused m opening stations records fault → ⊥
  not_both records es (Refused code number) h k =
      let all = subst (λ (r : List (List ℕ)). AreTaken stations [] r es) k.stands.records_are h.taken in
      let there = taken_within stations [] k.stands.lines k.line k.stands.others k.before es all k.stands.taken in
      taken_or_refused stations k.before k.line there.entry code there.taken k.refused
  not_both records es (NotApplied place) h k =
      let all = subst (λ (r : List (List ℕ)). AreTaken stations [] r es) k.stands.records_are h.taken in
      let there = taken_within stations [] k.stands.lines k.line k.stands.others k.before es all k.stands.taken in
      let one : there.entry ≡ k.entry = text_once there.entry k.entry there.taken.has_line k.taken.has_line (sym there.taken.text ∙ k.taken.text) in
      let are : es ≡ (k.before ++ k.entry ∷ []) ++ there.rest =
      there.entries_are ∙ (ap (λ e. k.before ++ e ∷ there.rest) one ∙ sym (append_assoc k.before (k.entry ∷ []) there.rest)) in
      let some = subst (λ (l : List (Entry (Step Call))). IsSome (replay (whole m) opening l)) are h.applies in
      front_applies (whole m) opening (k.before ++ k.entry ∷ []) there.rest k.refused some
  not_both records es Strayed h k = k
  not_both records es Memory h k = k

  -- the entries before a refusal, and its line, in records that go on otherwise
  stands_in : (records front : List (List ℕ)) (before : List (Entry (Step Call))) (line : List ℕ) (others : List (List ℕ)) (s : StandsAfter m opening stations records before line)
      → front ≡ s.lines ++ line ∷ others → StandsAfter m opening stations front before line
  stands_in records front before line others s is =
      record { lines = s.lines; others = others; records_are = is; taken = s.taken; applies = s.applies }

  kept_before : (records : List (List ℕ)) (before : List (Entry (Step Call))) (line : List ℕ) (s : StandsAfter m opening stations records before line)
      → AreKept m opening stations s.lines before
  kept_before records before line s = record { taken = s.taken; applies = s.applies }

  abbrev LineOf : (records : List (List ℕ)) (fault : KeptFault) → KeptRefused m opening stations records fault → Type 0
  LineOf records fault k = (before : List (Entry (Step Call))) × (line : List ℕ) × (s : StandsAfter m opening stations records before line)
      × ((front others : List (List ℕ)) → front ≡ s.lines ++ line ∷ others → KeptRefused m opening stations front fault)

  line_of : (records : List (List ℕ)) (fault : KeptFault) (k : KeptRefused m opening stations records fault) → LineOf records fault k
  line_of records (Refused code number) k = (
    k.before,
    k.line,
    k.stands,
    λ front others is. record {
      before = k.before;
      line = k.line;
      stands = stands_in records front k.before k.line others k.stands is;
      refused = k.refused;
      number_is = k.number_is;
    },
  )
  line_of records (NotApplied place) k = (
    k.before,
    k.line,
    k.stands,
    λ front others is. record {
      before = k.before;
      line = k.line;
      entry = k.entry;
      stands = stands_in records front k.before k.line others k.stands is;
      taken = k.taken;
      refused = k.refused;
      place_is = k.place_is;
    },
  )
  line_of records Strayed k = absurd k
  line_of records Memory k = absurd k

  -- two refusals of one line after the same entries
  same_fault : (records : List (List ℕ)) (f g : KeptFault) (h : KeptRefused m opening stations records f) (k : KeptRefused m opening stations records g)
      → (line_of records f h).0 ≡ (line_of records g k).0 → (line_of records f h).1 ≡ (line_of records g k).1 → f ≡ g
  unfolding line_of
  same_fault records (Refused c i) (Refused d j) h k entries line =
      let first = subst (λ (b : List (Entry (Step Call))). IsRefusedAfter stations b k.line d) (sym entries) k.refused in
      let there : IsRefusedAfter stations h.before h.line d = subst (λ (l : List ℕ). IsRefusedAfter stations h.before l d) (sym line) first in
      let codes = refused_once stations h.before h.line c d h.refused there in
      let numbers : i ≡ j = h.number_is ∙ (ap (λ (e : List (Entry (Step Call))). length e + 1) entries ∙ sym k.number_is) in
      ap (λ x. Refused x i) codes ∙ ap (λ n. Refused d n) numbers
  same_fault records (Refused c i) (NotApplied j) h k entries line =
      let first = subst (λ (b : List (Entry (Step Call))). IsTakenAfter stations b k.line k.entry) (sym entries) k.taken in
      let there : IsTakenAfter stations h.before h.line k.entry = subst (λ (l : List ℕ). IsTakenAfter stations h.before l k.entry) (sym line) first in
      absurd (taken_or_refused stations h.before h.line k.entry c there h.refused)
  same_fault records (NotApplied i) (Refused d j) h k entries line =
      let first = subst (λ (b : List (Entry (Step Call))). IsTakenAfter stations b h.line h.entry) entries h.taken in
      let there : IsTakenAfter stations k.before k.line h.entry = subst (λ (l : List ℕ). IsTakenAfter stations k.before l h.entry) line first in
      absurd (taken_or_refused stations k.before k.line h.entry d there k.refused)
  same_fault records (NotApplied i) (NotApplied j) h k entries line =
      let places : i ≡ j = h.place_is ∙ (ap length entries ∙ sym k.place_is) in
      ap (λ n. NotApplied n) places
  same_fault records Strayed g h k entries line = absurd h
  same_fault records Memory g h k entries line = absurd h
  same_fault records (Refused c i) Strayed h k entries line = absurd k
  same_fault records (Refused c i) Memory h k entries line = absurd k
  same_fault records (NotApplied i) Strayed h k entries line = absurd k
  same_fault records (NotApplied i) Memory h k entries line = absurd k

  by_splits : (records : List (List ℕ)) (f g : KeptFault) (h : KeptRefused m opening stations records f) (k : KeptRefused m opening stations records g)
      → Splits (line_of records f h).2.lines (line_of records f h).1 (line_of records g k).2.lines (line_of records g k).1 → f ≡ g
  by_splits records f g h k (inl same) =
      let a = line_of records f h in
      let b = line_of records g k in
      let other : AreTaken stations [] a.2.lines b.0 = subst (λ (l : List (List ℕ)). AreTaken stations [] l b.0) (sym same.0) b.2.taken in
      same_fault records f g h k (taken_once stations [] a.2.lines a.0 b.0 a.2.taken other) same.1
  by_splits records f g h k (inr (inl in_second)) =
      let a = line_of records f h in
      let b = line_of records g k in
      absurd (not_both b.2.lines b.0 f (kept_before records b.0 b.1 b.2) (a.3 b.2.lines in_second.0 in_second.1))
  by_splits records f g h k (inr (inr in_first)) =
      let a = line_of records f h in
      let b = line_of records g k in
      absurd (not_both a.2.lines a.0 g (kept_before records a.0 a.1 a.2) (b.3 a.2.lines in_first.0 in_first.1))

  pub one_fault : (records : List (List ℕ)) (f g : KeptFault) → KeptRefused m opening stations records f → KeptRefused m opening stations records g → f ≡ g
  one_fault records f g h k =
      let a = (line_of records f h).2 in
      let b = (line_of records g k).2 in
      by_splits records f g h k (splits a.lines (line_of records f h).1 a.others b.lines (line_of records g k).1 b.others (sym a.records_are ∙ b.records_are))
