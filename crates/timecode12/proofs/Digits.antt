-- Labels and their texts, byte by byte.
use Rattle.std.proofs.Common.{◌≡◌, ℕ, ◌+◌, ◌/◌, ◌%◌, ◌<◌, List, [], ◌∷◌, length, slice_index, Some, ◌⊎◌, inl, inr, ◌↔◌, refl, sym, ap, ◌∙◌, subst, arith}
use Rattle.timecode12.specs.declared.label.Label.{Label}
use Rattle.timecode12.specs.Labels.{label_with}
use Rattle.timecode12.specs.Spelling.{IsMark, text_of, HasTwoDigits, Spells}

-- a number below 100 is read from its two digits
pub record IsNumber (tens ones n : ℕ) : Type 0 where
  pub small : n < 100
  pub tens_is : tens ≡ 48 + n / 10
  pub ones_is : ones ≡ 48 + n % 10

one_number : (t o a b : ℕ) → IsNumber t o a → IsNumber t o b → a ≡ b
one_number t o a b p q = omega (arith, p.tens_is, p.ones_is, q.tens_is, q.ones_is)

pub record IsWritten (text : List ℕ) (l : Label) : Type 0 where
  pub size : length text ≡ 11
  pub hours : IsNumber (slice_index text 0) (slice_index text 1) l.hours
  pub first : slice_index text 2 ≡ 58
  pub minutes : IsNumber (slice_index text 3) (slice_index text 4) l.minutes
  pub second : slice_index text 5 ≡ 58
  pub seconds : IsNumber (slice_index text 6) (slice_index text 7) l.seconds
  pub third : IsMark (slice_index text 8)
  pub frames : IsNumber (slice_index text 9) (slice_index text 10) l.frames

number_of : (xs : List ℕ) (i j n : ℕ) → n < 100 → slice_index xs i ≡ 48 + n / 10 → slice_index xs j ≡ 48 + n % 10 → IsNumber (slice_index xs i) (slice_index xs j) n
number_of xs i j n small p q = record { small = small; tens_is = p; ones_is = q }

written_as : (l : Label) (mark : ℕ) → IsMark mark → HasTwoDigits l → IsWritten (text_of l mark) l
written_as l mark is two = record {
  size = refl;
  hours = record { small = two.hours; tens_is = refl; ones_is = refl };
  first = refl;
  minutes = record { small = two.minutes; tens_is = refl; ones_is = refl };
  second = refl;
  seconds = record { small = two.seconds; tens_is = refl; ones_is = refl };
  third = is;
  frames = record { small = two.frames; tens_is = refl; ones_is = refl };
}

written_from : (text : List ℕ) (l : Label) → HasTwoDigits l → (text ≡ text_of l 58) ⊎ (text ≡ text_of l 59) → IsWritten text l
written_from text l two (inl e) = subst (λ xs. IsWritten xs l) (sym e) (written_as l 58 (inl refl) two)
written_from text l two (inr e) = subst (λ xs. IsWritten xs l) (sym e) (written_as l 59 (inr refl) two)

pub written : (text : List ℕ) (l : Label) → Spells text l → IsWritten text l
written text l spells = written_from text l spells.0 spells.1

eleven : (xs : List ℕ) → length xs ≡ 11
    → xs ≡ slice_index xs 0 ∷ slice_index xs 1 ∷ slice_index xs 2 ∷ slice_index xs 3 ∷ slice_index xs 4 ∷ slice_index xs 5 ∷ slice_index xs 6 ∷ slice_index xs 7 ∷ slice_index xs 8 ∷ slice_index xs 9 ∷ slice_index xs 10 ∷ []
eleven (a ∷ b ∷ c ∷ d ∷ e ∷ f ∷ g ∷ h ∷ i ∷ j ∷ k ∷ []) size = refl
eleven [] size = absurd (omega arith)
eleven (a ∷ []) size = absurd (omega arith)
eleven (a ∷ b ∷ []) size = absurd (omega arith)
eleven (a ∷ b ∷ c ∷ []) size = absurd (omega arith)
eleven (a ∷ b ∷ c ∷ d ∷ []) size = absurd (omega arith)
eleven (a ∷ b ∷ c ∷ d ∷ e ∷ []) size = absurd (omega arith)
eleven (a ∷ b ∷ c ∷ d ∷ e ∷ f ∷ []) size = absurd (omega arith)
eleven (a ∷ b ∷ c ∷ d ∷ e ∷ f ∷ g ∷ []) size = absurd (omega arith)
eleven (a ∷ b ∷ c ∷ d ∷ e ∷ f ∷ g ∷ h ∷ []) size = absurd (omega arith)
eleven (a ∷ b ∷ c ∷ d ∷ e ∷ f ∷ g ∷ h ∷ i ∷ []) size = absurd (omega arith)
eleven (a ∷ b ∷ c ∷ d ∷ e ∷ f ∷ g ∷ h ∷ i ∷ j ∷ []) size = absurd (omega arith)
eleven (a ∷ b ∷ c ∷ d ∷ e ∷ f ∷ g ∷ h ∷ i ∷ j ∷ k ∷ m ∷ rest) size = absurd (omega arith)

text_with : (text : List ℕ) (l : Label) (mark : ℕ) → IsWritten text l → slice_index text 8 ≡ mark → text ≡ text_of l mark
text_with text l mark w is =
    eleven text w.size ∙ rw (w.hours.tens_is, w.hours.ones_is, w.first, w.minutes.tens_is, w.minutes.ones_is, w.second, w.seconds.tens_is, w.seconds.ones_is, is, w.frames.tens_is, w.frames.ones_is) refl

pub spelled : (text : List ℕ) (l : Label) → IsWritten text l → Spells text l
spelled text l w = (record { hours = w.hours.small; minutes = w.minutes.small; seconds = w.seconds.small; frames = w.frames.small }, by w.third)
  where
    by : IsMark (slice_index text 8) → (text ≡ text_of l 58) ⊎ (text ≡ text_of l 59)
    by (inl e) = inl (text_with text l 58 w e)
    by (inr e) = inr (text_with text l 59 w e)

-- a text writes one label
pub one_label : (text : List ℕ) (l k : Label) → Spells text l → Spells text k → l ≡ k
one_label text l k p q =
    let a = written text l p in
    let b = written text k q in
    same l.hours l.minutes l.seconds l.frames k.hours k.minutes k.seconds k.frames
    (one_number _ _ _ _ a.hours b.hours) (one_number _ _ _ _ a.minutes b.minutes) (one_number _ _ _ _ a.seconds b.seconds) (one_number _ _ _ _ a.frames b.frames)
  where
    same : (h m s f h' m' s' f' : ℕ) → h ≡ h' → m ≡ m' → s ≡ s' → f ≡ f' → label_with h m s f ≡ label_with h' m' s' f'
    same h m s f h' m' s' f' eh em es ef = rw (eh, em, es, ef) refl

pub read_some : (text : List ℕ) (l : Label) → IsWritten text l → (k : Label) → (Some l ≡ Some k) ↔ Spells text k
read_some text l w k =
    ((λ e. let same : l ≡ k = cc in subst (Spells text) same (spelled text l w)), (λ spells. ap (λ x. Some x) (one_label text l k (spelled text l w) spells)))

pub is_written : (text : List ℕ) (h m s f : ℕ) → (length text ≡ 11) × (slice_index text 2 ≡ 58) × (slice_index text 5 ≡ 58) × IsMark (slice_index text 8)
    → (h < 100) × (slice_index text 0 ≡ 48 + h / 10) × (slice_index text 1 ≡ 48 + h % 10)
    → (m < 100) × (slice_index text 3 ≡ 48 + m / 10) × (slice_index text 4 ≡ 48 + m % 10)
    → (s < 100) × (slice_index text 6 ≡ 48 + s / 10) × (slice_index text 7 ≡ 48 + s % 10)
    → (f < 100) × (slice_index text 9 ≡ 48 + f / 10) × (slice_index text 10 ≡ 48 + f % 10)
    → IsWritten text (label_with h m s f)
is_written text h m s f marks hours minutes seconds frames = record {
  size = marks.0;
  hours = record { small = hours.0; tens_is = hours.1; ones_is = hours.2 };
  first = marks.1;
  minutes = record { small = minutes.0; tens_is = minutes.1; ones_is = minutes.2 };
  second = marks.2;
  seconds = record { small = seconds.0; tens_is = seconds.1; ones_is = seconds.2 };
  third = marks.3;
  frames = record { small = frames.0; tens_is = frames.1; ones_is = frames.2 };
}
