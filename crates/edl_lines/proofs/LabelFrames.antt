-- The frame of the day whose label a word writes.
use Rattle.std.proofs.Common.{◌≡◌, ℕ, ◌<◌, Bool, true, false, ◌||◌, List, Some, None, Result, Ok, Err, length, get_or, ◌⊎◌, inl, inr, refl, sym, subst, arith}
use Rattle.std.specs.Prelude.{slice_get}
use Rattle.std.specs.List.{position}
use Rattle.std.specs.Str.{bytes_eq}
use Rattle.std.proofs.lemmas.Bool.{and_parts, and_from, ltb-true, lt-ltb, le-ltb}
use Rattle.std.proofs.lemmas.List.Sums.{position_or_len_is}
use Rattle.std.proofs.lemmas.Option.{slice_get-get_or, get_or_from_slice_get, slice_get_cases}
use Rattle.std.proofs.lemmas.Slice.Eq.{bytes_eq-Decides}
use Rattle.timecode12.specs.declared.counting.LabelFault.{LabelFault}
use Rattle.timecode12.specs.declared.label.Label.{Label}
use Rattle.timecode12.specs.Numbers.{Counted}
use Rattle.timecode12.specs.Labels.{label_with, day_of, IsLabelOf}
use Rattle.timecode12.specs.Spelling.{text_of, HasTwoDigits, Spells}
use Rattle.edl_lines.specs.Labels.{has_two_digits, is_written, frame_named}

-- ---- the place at which a test passes, where it passes at one place at most

fails : (b : Bool) → (b ≡ true → ⊥) → b ≡ false
fails true never = absurd (never refl)
fails false never = refl

pub within : {A : Type 0} (xs : List A) (i : ℕ) (x : A) → slice_get xs i ≡ Some x → i < length xs
within xs i x h = elim ((slice_get_cases xs i).1) [
  | inl found ↦ found.1
  | inr past ↦ absurd cc
]

position_one : {A : Type 0} (p : A → Bool) (xs : List A) (i : ℕ) (x : A) → slice_get xs i ≡ Some x → p x ≡ true
    → ((j : ℕ) (y : A) → slice_get xs j ≡ Some y → p y ≡ true → j ≡ i) → position p xs ≡ Some i
position_one p xs i x h passes only =
    let inside = within xs i x h in
    let before : (k : ℕ) → k < i → p (get_or xs k x) ≡ false = λ k low.
    fails (p (get_or xs k x)) (λ yes. let same = only k (get_or xs k x) (slice_get-get_or xs k x (omega arith)) yes in omega arith) in
    let here : p (get_or xs i x) ≡ true = rw (get_or_from_slice_get xs i x x h) passes in
    let first = position_or_len_is p xs i x (omega arith) before (λ _. here) in
    let test = lt-ltb i (length xs) inside in
    rw (first, test) refl

position_none : {A : Type 0} (p : A → Bool) (xs : List A) (d : A) → ((j : ℕ) (y : A) → slice_get xs j ≡ Some y → p y ≡ true → ⊥) → position p xs ≡ None
position_none p xs d never =
    let before : (k : ℕ) → k < length xs → p (get_or xs k d) ≡ false = λ k low.
    fails (p (get_or xs k d)) (λ yes. never k (get_or xs k d) (slice_get-get_or xs k d low) yes) in
    let first = position_or_len_is p xs (length xs) d (omega arith) before (λ h. absurd (omega arith)) in
    let test = le-ltb (length xs) (length xs) (omega arith) in
    rw (first, test) refl

-- ---- labels

either : (a b : Bool) → (a || b) ≡ true → (a ≡ true) ⊎ (b ≡ true)
either true b h = inl refl
either false b h = inr h

or_left : (a b : Bool) → a ≡ true → (a || b) ≡ true
or_left a b h = rw h refl

or_right : (a b : Bool) → b ≡ true → (a || b) ≡ true
or_right true b h = refl
or_right false b h = h

two_digits_told : (label : Label) → has_two_digits label ≡ true → HasTwoDigits label
two_digits_told label h =
    let halves = and_parts _ _ h in
    let first = and_parts _ _ halves.0 in
    let second = and_parts _ _ halves.1 in
    record { hours = ltb-true _ _ first.0; minutes = ltb-true _ _ first.1; seconds = ltb-true _ _ second.0; frames = ltb-true _ _ second.1 }

two_digits_test : (label : Label) → HasTwoDigits label → has_two_digits label ≡ true
two_digits_test label h =
    and_from _ _ (and_from _ _ (lt-ltb _ _ h.hours) (lt-ltb _ _ h.minutes)) (and_from _ _ (lt-ltb _ _ h.seconds) (lt-ltb _ _ h.frames))

written_told : (word : List ℕ) (label : Label) → is_written word label ≡ true → Spells word label
written_told word label h =
    let both = and_parts (has_two_digits label) (bytes_eq word (text_of label 58) || bytes_eq word (text_of label 59)) h in (
      two_digits_told label both.0,
      elim (either (bytes_eq word (text_of label 58)) (bytes_eq word (text_of label 59)) both.1) [
        | inl colon ↦ inl ((bytes_eq-Decides word (text_of label 58)).0 colon)
        | inr semicolon ↦ inr ((bytes_eq-Decides word (text_of label 59)).0 semicolon)
      ],
    )

written_test : (word : List ℕ) (label : Label) → Spells word label → is_written word label ≡ true
written_test word label h =
    and_from (has_two_digits label) (bytes_eq word (text_of label 58) || bytes_eq word (text_of label 59)) (two_digits_test label h.0) (elim h.1 [
      | inl colon ↦ or_left _ (bytes_eq word (text_of label 59)) ((bytes_eq-Decides word (text_of label 58)).1 colon)
      | inr semicolon ↦ or_right (bytes_eq word (text_of label 58)) _ ((bytes_eq-Decides word (text_of label 59)).1 semicolon)
    ])

pub frame_named-found : (c : Counted) (word : List ℕ) (label : Label) (frame : ℕ) → Spells word label → ((l : Label) → Spells word l → label ≡ l)
    → IsLabelOf c frame label → ((f : ℕ) → IsLabelOf c f label → frame ≡ f) → frame_named c word ≡ Some frame
unfolding frame_named
frame_named-found c word label frame spelled one_label stands one_frame =
    position_one (is_written word) (day_of c) frame label stands (written_test word label spelled)
    (λ f l there written. let P : Label → Type 0 = λ x. slice_get (day_of c) f ≡ Some x in
    sym (one_frame f (subst P (sym (one_label l (written_told word l written))) there)))

pub frame_named-no_label : (c : Counted) (word : List ℕ) → ((l : Label) → Spells word l → ⊥) → frame_named c word ≡ None
unfolding frame_named
frame_named-no_label c word never =
    position_none (is_written word) (day_of c) (label_with 0 0 0 0) (λ f l there written. never l (written_told word l written))

pub frame_named-no_frame : (c : Counted) (word : List ℕ) (label : Label) → ((l : Label) → Spells word l → label ≡ l) → ((f : ℕ) → IsLabelOf c f label → ⊥) → frame_named c word ≡ None
unfolding frame_named
frame_named-no_frame c word label one_label never =
    position_none (is_written word) (day_of c) (label_with 0 0 0 0)
    (λ f l there written. let P : Label → Type 0 = λ x. slice_get (day_of c) f ≡ Some x in
    never f (subst P (sym (one_label l (written_told word l written))) there))

pub some_same : (l k : Label) → Some l ≡ Some k → l ≡ k
some_same l k h = cc

pub found_same : (f g : ℕ) → ◌≡◌ {A = Result ℕ LabelFault} (Ok f) (Ok g) → f ≡ g
found_same f g h = cc

pub never_ok : (e : LabelFault) (f : ℕ) → Err e ≡ Ok f → ⊥
never_ok e f h = cc
