-- The parts of a line of an event, each as it is written and read again.
use Rattle.std.proofs.Common.{◌≡◌, ℕ, ◌+◌, ◌-◌, ◌/◌, ◌%◌, ◌^◌, ◌<◌, ◌≤◌, Bool, true, false, cond, ◌&&◌, ◌==◌, List, [], ◌∷◌, Some, Result, Ok, Err, length, nat_le, inl, refl, sym, ap, ◌∙◌, arith, subst}
use Rattle.std.specs.Prelude.{codes}
use Rattle.std.specs.Char.{is_ascii_digit}
use Rattle.std.specs.List.{list_all}
use Rattle.std.specs.Str.{bytes_eq}
use Rattle.std.proofs.lemmas.Bool.{and_parts, le-leb, leb-true, lt-ltb}
use Rattle.std.proofs.lemmas.Bool.Decides.{nat_tests}
use Rattle.line_words.specs.Digits.{is_number, number_of, value_of}
use Rattle.timecode12.specs.declared.label.Label.{Label}
use Rattle.timecode12.specs.Labels.{IsLabelOf, day_of}
use Rattle.timecode12.specs.Numbers.{Counted}
use Rattle.timecode12.specs.Spelling.{HasTwoDigits, Spells, text_of}
use Rattle.timecode12.proofs.Digits.{one_label}
use Rattle.timecode12.proofs.Told.{each_frame, one_frame}
use Rattle.reel_names.specs.Names.{is_printable, is_reel_name}
use Rattle.reel_names.specs.Namers.{three_digits}
use Rattle.edl_events.specs.declared.channel.Channel.{Channel}
use Rattle.edl_events.specs.declared.channel.Channel.TheVariants.{V, A, A2}
use Rattle.edl_events.specs.Channels.{set_of}
use Rattle.edl_write.specs.Text.{channel_text, label_text, time_text}
use Rattle.edl_write.proofs.Labels.{two_digits}
use Rattle.edl_lines.specs.declared.code.LineCode.{LineCode}
use Rattle.edl_lines.specs.declared.code.LineCode.TheVariants.{P7, P11}
use Rattle.line_words.specs.declared.numbers.NumberFault.{NumberFault}
use Rattle.edl_lines.specs.EventLines.{line_number}
use Rattle.edl_lines.specs.Labels.{frame_named}
use Rattle.edl_lines.specs.Spelling.{◌>>=◌, channels_of, dissolve_length, is_note, number_of_event, or_layout, or_no_label, span_between, span_of, time_of, value_if_any, within_999}
use Rattle.edl_lines.proofs.LabelFrames.{frame_named-found}
use Rattle.edl_laws.proofs.LineBytes.{EachAbove}

-- what was read is gone on with
pub go_on : {X Y E : Type 0} (x : Result X E) (a : X) (f : X → Result Y E) → x ≡ Ok a → (x >>= f) ≡ f a
go_on {X} {Y} {E} x a f h = ap (λ (y : Result X E). y >>= f) h

-- ---- numbers of three digits

digit : (n : ℕ) → n < 10 → is_ascii_digit (48 + n) ≡ true
digit n h = grind (arith, nat_tests)

three_are_digits : (n : ℕ) → n < 1000 → is_number (three_digits n) ≡ true
three_are_digits n h =
    let a = digit (n / 100) (omega arith) in
    let b = digit (n / 10 % 10) (omega arith) in
    let c = digit (n % 10) (omega arith) in
    rw (a, b, c) refl

three_value : (n : ℕ) → value_of (three_digits n) ≡ n
three_value n = omega arith

number_read : (word : List ℕ) (n : ℕ) → is_number word ≡ true → value_of word ≡ n → n < 2 ^ 32 → number_of word ≡ Ok n
number_read word n spelled is small = let fit = lt-ltb n (2 ^ 32) small in rw (spelled, is, fit) refl

three_read : (n : ℕ) → n < 1000 → number_of (three_digits n) ≡ Ok n
three_read n h = number_read (three_digits n) n (three_are_digits n h) (three_value n) (omega arith)

not_m : (n : ℕ) → n < 1000 → (48 + n / 100 == 77) ≡ false
not_m n h = grind (arith, nat_tests)

not_f : (n : ℕ) → n < 1000 → (48 + n / 100 == 70) ≡ false
not_f n h = grind (arith, nat_tests)

not_t : (n : ℕ) → n < 1000 → (48 + n / 100 == 84) ≡ false
not_t n h = grind (arith, nat_tests)

not_star : (n : ℕ) → (48 + n / 100 == 42) ≡ false
not_star n = grind (arith, nat_tests)

pub no_note : (n : ℕ) → n < 1000 → is_note (three_digits n) ≡ false
no_note n h = let star = not_star n in let title = not_t n h in rw (star, title) refl

pub no_counting : (n : ℕ) → n < 1000 → bytes_eq (three_digits n) (codes "FCM:") ≡ false
no_counting n h = let other = not_f n h in rw other refl

pub number_is_read : (n : ℕ) → n < 1000 → line_number (three_digits n) ≡ Ok n
number_is_read n h =
    let speed : bytes_eq (three_digits n) (codes "M2") ≡ false = let other = not_m n h in rw other refl in
    let small = le-leb n 999 (omega arith) in
    ap (λ (b : Bool). cond b (Err P7) (number_of_event (three_digits n))) speed
    ∙ (ap (λ (r : Result ℕ NumberFault). within_999 (value_if_any r)) (three_read n h) ∙ ap (λ (b : Bool). cond b (Ok n) (Err P11)) small)

pub length_is_read : (n : ℕ) → n < 1000 → dissolve_length (three_digits n) ≡ Ok n
length_is_read n h = ap (λ (r : Result ℕ NumberFault). or_layout (value_if_any r)) (three_read n h)

pub three_above : (n : ℕ) → EachAbove 32 (three_digits n)
three_above n =
    let a : 32 < 48 + n / 100 = omega arith in
    let b : 32 < 48 + n / 10 % 10 = omega arith in
    let c : 32 < 48 + n % 10 = omega arith in
    (a, (b, (c, tt)))

-- ---- channels

pub channel_is_read : (c : Channel) → channels_of (channel_text (set_of c)) ≡ Ok (set_of c)
channel_is_read V = refl
channel_is_read A = refl
channel_is_read A2 = refl

-- a word that a line may have, of so many bytes at most
pub record IsPlain (most : ℕ) (word : List ℕ) : Type 0 where
  pub above : EachAbove 32 word
  pub some : 0 < length word
  pub few : length word ≤ most

pub channel_is_plain : (c : Channel) → IsPlain 2 (channel_text (set_of c))
channel_is_plain V = let a : 32 < 86 = omega arith in record { above = (a, tt); some = omega arith; few = omega arith }
channel_is_plain A = let a : 32 < 65 = omega arith in record { above = (a, tt); some = omega arith; few = omega arith }
channel_is_plain A2 = let a : 32 < 65 = omega arith in let b : 32 < 50 = omega arith in record { above = (a, (b, tt)); some = omega arith; few = omega arith }

-- ---- reels

character_above : (b : ℕ) → is_printable b ≡ true → 32 < b
character_above b h = grind (arith, nat_tests)

printable_above : (name : List ℕ) → list_all is_printable name ≡ true → EachAbove 32 name
printable_above [] h = tt
printable_above (b ∷ bs) h =
    let parts = and_parts (is_printable b) (list_all is_printable bs) h in
    (character_above b parts.0, printable_above bs parts.1)

pub name_is_plain : (name : List ℕ) → is_reel_name name ≡ true → IsPlain 32 name
name_is_plain name h =
    let parts = and_parts (nat_le 1 (length name) && nat_le (length name) 32) (list_all is_printable name) h in
    let lengths = and_parts (nat_le 1 (length name)) (nat_le (length name) 32) parts.0 in
    record { above = printable_above name parts.1; some = leb-true 1 (length name) lengths.0; few = leb-true (length name) 32 lengths.1 }

-- ---- times

two_above : (n : ℕ) → (32 < 48 + n / 10) × (32 < 48 + n % 10)
two_above n = let a : 32 < 48 + n / 10 = omega arith in let b : 32 < 48 + n % 10 = omega arith in (a, b)

label_above : (l : Label) → EachAbove 32 (text_of l 58)
label_above l =
    let colon : 32 < 58 = omega arith in
    let h = two_above l.hours in
    let m = two_above l.minutes in
    let s = two_above l.seconds in
    let f = two_above l.frames in
    (h.0, (h.1, (colon, (m.0, (m.1, (colon, (s.0, (s.1, (colon, (f.0, (f.1, tt)))))))))))

-- the word of a frame of the day
pub record IsTime (c : Counted) (frame : ℕ) (word : List ℕ) : Type 0 where
  pub above : EachAbove 32 word
  pub count : length word ≡ 11
  pub read : time_of c word ≡ Ok frame

label_is_time : (c : Counted) (l : Label) (frame : ℕ) → IsLabelOf c frame l → IsTime c frame (text_of l 58)
label_is_time c l frame stands =
    let two : HasTwoDigits l = two_digits c l frame stands in
    let spelled : Spells (text_of l 58) l = (two, inl refl) in
    let found : frame_named c (text_of l 58) ≡ Some frame =
    frame_named-found c (text_of l 58) l frame spelled (λ k other. one_label (text_of l 58) l k spelled other) stands (λ g there. one_frame c l frame g stands there) in
    record { above = label_above l; count = refl; read = ap or_no_label found }

pub time_is_time : (c : Counted) (frame : ℕ) → frame < length (day_of c) → IsTime c frame (time_text c frame)
time_is_time c frame h =
    let found = each_frame c frame h in
    let is : time_text c frame ≡ text_of found.0 58 = ap label_text found.1 in
    subst (IsTime c frame) (sym is) (label_is_time c found.0 frame found.1)

same_length : (source place len : ℕ) → ((nat_le source (source + len) && nat_le place (place + len)) && (source + len - source == place + len - place)) ≡ true
same_length source place len = grind (arith, nat_tests)

span_between_is : (source place len : ℕ) → span_between source (source + len) place (place + len) ≡ Ok (record { source = source; place = place; len = len })
span_between_is source place len =
    let same = same_length source place len in
    let left : place + len - place ≡ len = omega arith in
    rw same (ap (λ (n : ℕ). Ok (record { source = source; place = place; len = n })) left)

span_chain : (w x y z : Result ℕ LineCode) (s t p q : ℕ) → w ≡ Ok s → x ≡ Ok t → y ≡ Ok p → z ≡ Ok q → (w >>= (λ a. x >>= (λ b. y >>= (λ d. z >>= (λ e. span_between a b d e))))) ≡ span_between s t p q
span_chain w x y z s t p q hw hx hy hz = rw (hw, hx, hy, hz) refl

pub span_is_read : (c : Counted) (source place len : ℕ) (a b d e : List ℕ) → time_of c a ≡ Ok source → time_of c b ≡ Ok (source + len) → time_of c d ≡ Ok place → time_of c e ≡ Ok (place + len)
    → span_of c a b d e ≡ Ok (record { source = source; place = place; len = len })
span_is_read c source place len a b d e ha hb hd he =
    span_chain (time_of c a) (time_of c b) (time_of c d) (time_of c e) source (source + len) place (place + len) ha hb hd he ∙ span_between_is source place len
