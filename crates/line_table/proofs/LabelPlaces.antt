-- The frame of the day whose label a word writes.
use Rattle.std.proofs.Common.{◌≡◌, ℕ, ◌+◌, ◌-◌, ◌/◌, ◌%◌, Bool, true, false, ◌||◌, List, Option, Some, None, Result, Ok, Err, get_or, nat_le, ◌⊎◌, inl, inr, refl, ap, sym, ◌∙◌, subst, arith}
use Rattle.std.specs.Prelude.{slice_get}
use Rattle.std.specs.Str.{bytes_eq}
use Rattle.std.proofs.lemmas.Bool.{and_parts, and_from, ltb-true, lt-ltb, leb-true, le-leb}
use Rattle.std.proofs.lemmas.List.Quantifiers.{position-Some}
use Rattle.std.proofs.lemmas.Option.{slice_get-get_or}
use Rattle.std.proofs.lemmas.Slice.Eq.{bytes_eq-Decides}
use Rattle.timecode12.specs.declared.counting.LabelFault.{LabelFault}
use Rattle.timecode12.specs.declared.label.Label.{Label}
use Rattle.timecode12.specs.Numbers.{Counted}
use Rattle.timecode12.specs.Labels.{label_with, day_of, IsLabelOf}
use Rattle.timecode12.specs.Spelling.{text_of, HasTwoDigits, Spells}
use Rattle.timecode12.proofs.Told.{one_frame}
use Rattle.line_table.specs.Labels.{has_two_digits, is_written, frame_named, from_start, place_by}
use Rattle.line_table.proofs.Positions.{position_one, position_none}
use Rattle.line_table.proofs.ReadParts.{chosen}

either : (a b : Bool) → (a || b) ≡ true → (a ≡ true) ⊎ (b ≡ true)
either true b h = inl refl
either false b h = inr h

or_left : (a b : Bool) → a ≡ true → (a || b) ≡ true
or_left a b h = rw h refl

or_right : (a b : Bool) → b ≡ true → (a || b) ≡ true
or_right true b h = refl
or_right false b h = h

two_digits_told : (label : Label) → has_two_digits label ≡ true → HasTwoDigits label
two_digits_told label h =
    let halves = and_parts _ _ h in
    let first = and_parts _ _ halves.0 in
    let second = and_parts _ _ halves.1 in
    record { hours = ltb-true _ _ first.0; minutes = ltb-true _ _ first.1; seconds = ltb-true _ _ second.0; frames = ltb-true _ _ second.1 }

two_digits_test : (label : Label) → HasTwoDigits label → has_two_digits label ≡ true
two_digits_test label h =
    and_from _ _ (and_from _ _ (lt-ltb _ _ h.hours) (lt-ltb _ _ h.minutes)) (and_from _ _ (lt-ltb _ _ h.seconds) (lt-ltb _ _ h.frames))

written_told : (word : List ℕ) (label : Label) → is_written word label ≡ true → Spells word label
written_told word label h =
    let both = and_parts (has_two_digits label) (bytes_eq word (text_of label 58) || bytes_eq word (text_of label 59)) h in (
      two_digits_told label both.0,
      elim (either (bytes_eq word (text_of label 58)) (bytes_eq word (text_of label 59)) both.1) [
        | inl colon ↦ inl ((bytes_eq-Decides word (text_of label 58)).0 colon)
        | inr semicolon ↦ inr ((bytes_eq-Decides word (text_of label 59)).0 semicolon)
      ],
    )

written_test : (word : List ℕ) (label : Label) → Spells word label → is_written word label ≡ true
written_test word label h =
    and_from (has_two_digits label) (bytes_eq word (text_of label 58) || bytes_eq word (text_of label 59)) (two_digits_test label h.0) (elim h.1 [
      | inl colon ↦ or_left _ (bytes_eq word (text_of label 59)) ((bytes_eq-Decides word (text_of label 58)).1 colon)
      | inr semicolon ↦ or_right (bytes_eq word (text_of label 58)) _ ((bytes_eq-Decides word (text_of label 59)).1 semicolon)
    ])

pub frame_named-found : (c : Counted) (word : List ℕ) (label : Label) (frame : ℕ) → Spells word label → ((l : Label) → Spells word l → label ≡ l)
    → IsLabelOf c frame label → ((f : ℕ) → IsLabelOf c f label → frame ≡ f) → frame_named c word ≡ Some frame
unfolding frame_named
frame_named-found c word label frame spelled one_label stands one_frame =
    position_one (is_written word) (day_of c) frame label stands (written_test word label spelled)
    (λ f l there written. let P : Label → Type 0 = λ x. slice_get (day_of c) f ≡ Some x in
    sym (one_frame f (subst P (sym (one_label l (written_told word l written))) there)))

pub frame_named-no_label : (c : Counted) (word : List ℕ) → ((l : Label) → Spells word l → ⊥) → frame_named c word ≡ None
unfolding frame_named
frame_named-no_label c word never =
    position_none (is_written word) (day_of c) (label_with 0 0 0 0) (λ f l there written. never l (written_told word l written))

pub frame_named-no_frame : (c : Counted) (word : List ℕ) (label : Label) → ((l : Label) → Spells word l → label ≡ l) → ((f : ℕ) → IsLabelOf c f label → ⊥) → frame_named c word ≡ None
unfolding frame_named
frame_named-no_frame c word label one_label never =
    position_none (is_written word) (day_of c) (label_with 0 0 0 0)
    (λ f l there written. let P : Label → Type 0 = λ x. slice_get (day_of c) f ≡ Some x in
    never f (subst P (sym (one_label l (written_told word l written))) there))

pub some_same : (l k : Label) → Some l ≡ Some k → l ≡ k
some_same l k h = cc

pub found_same : (f g : ℕ) → ◌≡◌ {A = Result ℕ LabelFault} (Ok f) (Ok g) → f ≡ g
found_same f g h = cc

pub never_ok : (e : LabelFault) (f : ℕ) → Err e ≡ Ok f → ⊥
never_ok e f h = cc

-- ---- the place of a label, and the label of a place

digits_same : (n m : ℕ) → 48 + n / 10 ≡ 48 + m / 10 → 48 + n % 10 ≡ 48 + m % 10 → n ≡ m
digits_same n m tens ones = omega arith

fields_same : (l k : Label) → l.hours ≡ k.hours → l.minutes ≡ k.minutes → l.seconds ≡ k.seconds → l.frames ≡ k.frames → l ≡ k
fields_same l k hours minutes seconds frames = numbers_same l.hours l.minutes l.seconds l.frames k.hours k.minutes k.seconds k.frames hours minutes seconds frames
  where
    numbers_same : (h m s f h' m' s' f' : ℕ) → h ≡ h' → m ≡ m' → s ≡ s' → f ≡ f' → label_with h m s f ≡ label_with h' m' s' f'
    numbers_same h m s f h' m' s' f' p q r t = cc

texts_same : (l k : Label) (mark other : ℕ) → text_of l mark ≡ text_of k other → l ≡ k
texts_same l k mark other h =
    let hour_tens : 48 + l.hours / 10 ≡ 48 + k.hours / 10 = cc in
    let hour_ones : 48 + l.hours % 10 ≡ 48 + k.hours % 10 = cc in
    let minute_tens : 48 + l.minutes / 10 ≡ 48 + k.minutes / 10 = cc in
    let minute_ones : 48 + l.minutes % 10 ≡ 48 + k.minutes % 10 = cc in
    let second_tens : 48 + l.seconds / 10 ≡ 48 + k.seconds / 10 = cc in
    let second_ones : 48 + l.seconds % 10 ≡ 48 + k.seconds % 10 = cc in
    let frame_tens : 48 + l.frames / 10 ≡ 48 + k.frames / 10 = cc in
    let frame_ones : 48 + l.frames % 10 ≡ 48 + k.frames % 10 = cc in
    fields_same l k (digits_same l.hours k.hours hour_tens hour_ones) (digits_same l.minutes k.minutes minute_tens minute_ones)
    (digits_same l.seconds k.seconds second_tens second_ones) (digits_same l.frames k.frames frame_tens frame_ones)

labels_same : (word : List ℕ) (l k : Label) → Spells word l → Spells word k → l ≡ k
labels_same word l k (two, inl x) (two', inl y) = texts_same l k 58 58 (sym x ∙ y)
labels_same word l k (two, inl x) (two', inr y) = texts_same l k 58 59 (sym x ∙ y)
labels_same word l k (two, inr x) (two', inl y) = texts_same l k 59 58 (sym x ∙ y)
labels_same word l k (two, inr x) (two', inr y) = texts_same l k 59 59 (sym x ∙ y)

from_start_told : (start : ℕ) (o : Option ℕ) (place : ℕ) → from_start start o ≡ Some place → o ≡ Some (start + place)
from_start_told start None place h = absurd cc
from_start_told start (Some frame) place h = elim (chosen (nat_le start frame) _ _ (Some place) h) [
  | inl after ↦
      let low = leb-true start frame after.0 in
      let same : frame - start ≡ place = cc in
      let sum : frame ≡ start + place = omega arith in
      ap Some sum
  | inr before ↦ absurd cc
]

frame_told : (c : Counted) (word : List ℕ) (frame : ℕ) → frame_named c word ≡ Some frame → (l : Label) × Spells word l × IsLabelOf c frame l
unfolding frame_named
frame_told c word frame h =
    let at = position-Some (is_written word) (day_of c) frame (label_with 0 0 0 0) h in
    (get_or (day_of c) frame (label_with 0 0 0 0), written_told word _ at.1, slice_get-get_or (day_of c) frame (label_with 0 0 0 0) at.0)

pub place_told : (c : Counted) (start place : ℕ) (word : List ℕ) → place_by c start word ≡ Some place → (l : Label) × Spells word l × IsLabelOf c (start + place) l
place_told c start place word h = frame_told c word (start + place) (from_start_told start (frame_named c word) place h)

pub place_named : (c : Counted) (start place : ℕ) (word : List ℕ) → (l : Label) × Spells word l × IsLabelOf c (start + place) l → place_by c start word ≡ Some place
place_named c start place word h =
    let frame = frame_named-found c word h.0 (start + place) h.1 (λ l spelled. labels_same word h.0 l h.1 spelled) h.2 (λ f stands. one_frame c h.0 (start + place) f h.2 stands) in
    let low = le-leb start (start + place) (omega arith) in
    let same : start + place - start ≡ place = omega arith in
    rw (frame, low, same) refl
