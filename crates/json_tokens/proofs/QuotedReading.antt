-- Reading on in quotes, where a plain x could stand: the characters before it are read, and what fails behind them fails
-- as it does alone. Then how a text fails at a sequence that is no character, at half a pair, and in an escape.
use Rattle.std.proofs.Common.{◌≡◌, ◌≢◌, ℕ, zero, suc, ◌+◌, ◌/◌, ◌%◌, ◌<◌, ◌≤◌, ◌⊎◌, inl, inr, Bool, List, [], ◌∷◌, ◌++◌, length, Option, Some, None, Ok, Err, refl, sym, ap, subst, ◌∙◌, append_assoc, length-append, arith}
use Rattle.std.specs.List.{AllByRecursion, flat_map}
use Rattle.std.specs.Char.{IsScalar, encode_utf8}
use Rattle.std.proofs.lemmas.Bool.{ne_eqb, le-ltb, le-leb, lt-leb, cases_lt}
use Rattle.std.proofs.lemmas.List.{append-nil}
use Rattle.json_tokens.specs.declared.fault.JsonFault.{JsonFault}
use Rattle.json_tokens.specs.declared.fault.JsonFault.TheVariants.{Syntax, NotUtf8}
use Rattle.json_tokens.specs.Reading.{Read}
use Rattle.json_tokens.specs.Tables.{hex_value, short_escape}
use Rattle.json_tokens.specs.ReadingTexts.{sequence_at, unit_at, second_half_at, pair_at, unicode_at, escape_at, character_at, text_at}
use Rattle.json_tokens.specs.Decimal.{Digits}
use Rattle.json_tokens.specs.Grammar.{IsBlank, AreBlanks, IsUnit, IsCharacter, IsText, IsQuoted, IsDigit, IsMinus, IsWhole, IsFraction, IsSign, IsExponent, IsNumber}
use Rattle.json_tokens.specs.Faults.{IsHexadecimal, IsBroken, BeginsSecond, IsAlone, BeginsCharacter}
use Rattle.json_tokens.proofs.FirstBytes.{same_itself}
use Rattle.json_tokens.proofs.Utf8Laws.{sequence_took, raw_bytes, encode_one, encode_two, encode_three, encode_four, scalar_low}
use Rattle.json_tokens.proofs.TextLaws.{unit_again, half_took, length_unit, character_again}
use Rattle.json_tokens.proofs.SequenceFaults.{Completes, sequence_fault}
use Rattle.json_tokens.proofs.CharacterFaults.{second_fault}
use Rattle.json_tokens.proofs.TextFaults.{text_halts, begins_behind}
use Rattle.json_tokens.proofs.Stuck.{BeginsText}

-- ---- bytes that are no x

abbrev pub Without : List ℕ → Type 0
Without = AllByRecursion (λ b. b ≢ 120)

pub without_x : (w rest : List ℕ) → Without (w ++ 120 ∷ rest) → ⊥
without_x [] rest h = h.0 refl
without_x (b ∷ w) rest h = without_x w rest h.1

without_both : (a b : List ℕ) → Without a → Without b → Without (a ++ b)
without_both [] b g h = h
without_both (x ∷ a) b g h = (g.0, without_both a b g.1 h)

without_all : (P : ℕ → Type 0) → ((b : ℕ) → P b → b ≢ 120) → (bs : List ℕ) → AllByRecursion P bs → Without bs
without_all P never [] h = tt
without_all P never (b ∷ bs) h = (never b h.0, without_all P never bs h.1)

no_blank_x : (b : ℕ) → IsBlank b → b ≢ 120
no_blank_x b (inl e) = λ f. omega (arith, e, f)
no_blank_x b (inr (inl e)) = λ f. omega (arith, e, f)
no_blank_x b (inr (inr (inl e))) = λ f. omega (arith, e, f)
no_blank_x b (inr (inr (inr e))) = λ f. omega (arith, e, f)

pub blanks_without : (ws : List ℕ) → AreBlanks ws → Without ws
blanks_without ws h = without_all IsBlank no_blank_x ws h

pub first_and_others : (p q : ℕ) (ps qs : List ℕ) → p ∷ ps ≡ q ∷ qs → (p ≡ q) × (ps ≡ qs)
first_and_others p q ps qs h = (cc, cc)

-- where one of two lists has the byte
pub splits : (a b w rest : List ℕ) (c : ℕ) → a ++ b ≡ w ++ c ∷ rest → ((mid : List ℕ) × (a ≡ w ++ c ∷ mid) × (rest ≡ mid ++ b)) ⊎ ((mid : List ℕ) × (w ≡ a ++ mid) × (b ≡ mid ++ c ∷ rest))
splits [] b w rest c e = inr (w, refl, e)
splits (x ∷ xs) b [] rest c e = let same = first_and_others x c (xs ++ b) rest e in inl (xs, ap (λ (d : ℕ). d ∷ xs) same.0, sym same.1)
splits (x ∷ xs) b (y ∷ ys) rest c e =
    let same = first_and_others x y (xs ++ b) (ys ++ c ∷ rest) e in
    elim (splits xs b ys rest c same.1) [
      | inl p ↦ inl (p.0, (λ i. same.0 i ∷ p.1 i), p.2)
      | inr p ↦ inr (p.0, (λ i. sym same.0 i ∷ p.1 i), p.2)
    ]

pub behind_byte : (b : ℕ) (bs w rest : List ℕ) → b ≢ 120 → b ∷ bs ≡ w ++ 120 ∷ rest → (v : List ℕ) × (w ≡ b ∷ v) × (bs ≡ v ++ 120 ∷ rest)
behind_byte b bs [] rest never e = absurd (never (first_and_others b 120 bs rest e).0)
behind_byte b bs (c ∷ w) rest never e = let same = first_and_others b c bs (w ++ 120 ∷ rest) e in (w, ap (λ (d : ℕ). d ∷ w) (sym same.0), same.1)

-- between brackets or quotes
pub between : (left right : ℕ) (inner bytes w rest : List ℕ) → left ≢ 120 → right ≢ 120 → bytes ≡ left ∷ (inner ++ right ∷ []) → bytes ≡ w ++ 120 ∷ rest → (v mid : List ℕ) × (w ≡ left ∷ v) × (inner ≡ v ++ 120 ∷ mid)
between left right inner bytes w rest no_left no_right h e =
    let p = behind_byte left (inner ++ right ∷ []) w rest no_left (sym h ∙ e) in
    elim (splits inner (right ∷ []) p.0 rest 120 p.2) [
      | inl q ↦ (p.0, q.0, p.1, q.1)
      | inr q ↦ absurd (without_x q.0 rest (subst Without q.2 (no_right, tt)))
    ]

-- ---- characters

clash_value : {A : Type 0} (v : A) → ◌≡◌ {A = Option A} None (Some v) → ⊥
clash_value v h = cc

hex_no_x : (b v : ℕ) → hex_value b ≡ Some v → b ≢ 120
hex_no_x b v h = λ q. clash_value v (ap hex_value (sym q) ∙ h)

short_no_x : (b v : ℕ) → short_escape b ≡ Some v → b ≢ 120
short_no_x b v h = λ q. clash_value v (ap short_escape (sym q) ∙ h)

unit_without : (digits : List ℕ) (unit : ℕ) → IsUnit digits unit → Without digits
unit_without digits unit h = subst Without (sym h.digits_are) (hex_no_x h.a h.first h.a_is, (hex_no_x h.b h.second h.b_is, (hex_no_x h.c h.third h.c_is, (hex_no_x h.d h.fourth h.d_is, tt))))

high_without : (c : ℕ) → 128 ≤ c → Without (encode_utf8 c)
high_without c l =
    elim (cases_lt c 2048) [
      | inl h ↦ subst Without (sym (encode_two c (192 + c / 64) (128 + c % 64) l h refl refl)) ((λ e. omega arith), ((λ e. omega arith), tt))
      | inr m ↦ elim (cases_lt c 65536) [
        | inl h ↦ subst Without (sym (encode_three c (224 + c / 4096) (128 + c / 64 % 64) (128 + c % 64) m h refl refl refl)) ((λ e. omega arith), ((λ e. omega arith), ((λ e. omega arith), tt)))
        | inr n ↦ subst Without (sym (encode_four c (240 + c / 262144) (128 + c / 4096 % 64) (128 + c / 64 % 64) (128 + c % 64) n refl refl refl refl)) ((λ e. omega arith), ((λ e. omega arith), ((λ e. omega arith), ((λ e. omega arith), tt))))
      ]
    ]

nothing_has : (w rest : List ℕ) (c : ℕ) → [] ≡ w ++ c ∷ rest → ⊥
nothing_has [] rest c e = absurd cc
nothing_has (b ∷ w) rest c e = absurd cc

one_alone : (b : ℕ) (w rest : List ℕ) → b ∷ [] ≡ w ++ 120 ∷ rest → w ≡ []
one_alone b [] rest e = refl
one_alone b (c ∷ w) rest e = absurd (nothing_has w rest 120 (first_and_others b c [] (w ++ 120 ∷ rest) e).1)

-- an x stands for itself alone
letter_alone : (s : List ℕ) (c : ℕ) → IsCharacter (s, c) → (w rest : List ℕ) → s ≡ w ++ 120 ∷ rest → w ≡ []
letter_alone s c (inl r) w rest e =
    elim (cases_lt c 128) [
      | inl lt ↦ one_alone c w rest (sym (r.spelling_is ∙ encode_one c lt) ∙ e)
      | inr le ↦ absurd (without_x w rest (subst Without (sym r.spelling_is ∙ e) (high_without c le)))
    ]
letter_alone s c (inr (inl h)) w rest e = absurd (without_x w rest (subst Without (sym h.spelling_is ∙ e) ((λ f. omega (arith, f)), (short_no_x h.letter c h.stands_for, tt))))
letter_alone s c (inr (inr (inl h))) w rest e = absurd (without_x w rest (subst Without (sym h.spelling_is ∙ e) ((λ f. omega (arith, f)), ((λ f. omega (arith, f)), unit_without h.digits c h.code))))
letter_alone s c (inr (inr (inr h))) w rest e =
    let low : Without (92 ∷ 117 ∷ h.low_digits) = ((λ f. omega (arith, f)), ((λ f. omega (arith, f)), unit_without h.low_digits h.low h.low_code)) in
    absurd (without_x w rest (subst Without (sym h.spelling_is ∙ e) ((λ f. omega (arith, f)), ((λ f. omega (arith, f)), without_both h.high_digits (92 ∷ 117 ∷ h.low_digits) (unit_without h.high_digits h.high h.high_code) low))))

abbrev bodies : List (List ℕ × ℕ) → List ℕ
bodies cs = flat_map (λ x. x.0) cs

-- the characters before the x
front_characters : (cs : List (List ℕ × ℕ)) → AllByRecursion IsCharacter cs → (w rest : List ℕ) → bodies cs ≡ w ++ 120 ∷ rest → (front : List (List ℕ × ℕ)) × AllByRecursion IsCharacter front × (w ≡ bodies front)
front_characters [] h w rest e = absurd (nothing_has w rest 120 e)
front_characters (c ∷ cs) h w rest e =
    elim (splits c.0 (bodies cs) w rest 120 e) [
      | inl p ↦ ([], tt, letter_alone c.0 c.1 h.0 w p.0 p.1)
      | inr p ↦
          let r = front_characters cs h.1 p.0 rest p.2 in
          (c ∷ r.0, (h.0, r.1), p.1 ∙ ap (λ (l : List ℕ). c.0 ++ l) r.2)
    ]

-- ---- a text, behind characters

-- with more than it needs
text_more : (most at : ℕ) (v : List ℕ) (e : JsonFault) → length v ≤ most → text_at (length v) at v ≡ Err e → text_at most at v ≡ Err e
text_more most at v e le h =
    let t = text_halts (length v) at v e (omega arith) h in
    elim (cases_lt (length t.front) most) [
      | inl lt ↦ ap (text_at most at) t.parts ∙ t.same most t.rest lt (same_itself t.rest)
      | inr ge ↦
          let n : length v ≡ most = omega (arith, le, ge, ap length t.parts, length-append t.front t.rest) in
          subst (λ (k : ℕ). text_at k at v ≡ Err e) n h
    ]

characters_fail : (cs : List (List ℕ × ℕ)) → AllByRecursion IsCharacter cs → (most at : ℕ) (v : List ℕ) (e : JsonFault) → length (bodies cs ++ v) ≤ most → text_at (length v) (at + length (bodies cs)) v ≡ Err e
    → text_at most at (bodies cs ++ v) ≡ Err e
unfolding text_at
characters_fail [] h most at v e le f =
    let n : at + 0 ≡ at = omega arith in
    text_more most at v e le (subst (λ (k : ℕ). text_at (length v) k v ≡ Err e) n f)
characters_fail (c ∷ cs) h zero at v e le f = absurd (omega (arith, le, (character_again c h.0).0, length-append (c.0 ++ bodies cs) v, length-append c.0 (bodies cs)))
characters_fail (c ∷ cs) h (suc most) at v e le f =
    let again = character_again c h.0 in
    let one = again.1 at (bodies cs ++ v) in
    let n : at + length (c.0 ++ bodies cs) ≡ at + length c.0 + length (bodies cs) = omega (arith, length-append c.0 (bodies cs)) in
    let few : length (bodies cs ++ v) ≤ most = omega (arith, le, again.0, length-append (c.0 ++ bodies cs) v, length-append c.0 (bodies cs), length-append (bodies cs) v) in
    ap (text_at (suc most) at) (append_assoc c.0 (bodies cs) v)
    ∙ rw (one.0, one.1, characters_fail cs h.1 most (at + length c.0) v e few (subst (λ (k : ℕ). text_at (length v) k v ≡ Err e) n f)) refl

characters_begin : (cs : List (List ℕ × ℕ)) → AllByRecursion IsCharacter cs → (v : List ℕ) → BeginsText v → BeginsText (bodies cs ++ v)
characters_begin [] h v b = b
characters_begin (c ∷ cs) h v b = subst BeginsText (sym (append_assoc c.0 (bodies cs) v)) (begins_behind c.0 c.1 h.0 (bodies cs ++ v) (characters_begin cs h.1 v b))

-- bytes behind an opening quote, with which a text goes on
pub record InText (w : List ℕ) : Type 0 where
  pub fails : (at : ℕ) (v : List ℕ) (e : JsonFault) → text_at (length v) (at + length w) v ≡ Err e → text_at (length (w ++ v)) at (w ++ v) ≡ Err e
  pub begins : (v : List ℕ) → BeginsText v → BeginsText (w ++ v)

pub text_finds : (body s w rest : List ℕ) → IsText body s → body ≡ w ++ 120 ∷ rest → InText w
text_finds body s w rest h e =
    let f = front_characters h.characters h.each w rest (sym h.body_is ∙ e) in
    subst InText (sym f.2) (record {
      fails = λ at v d k. characters_fail f.0 f.1 (length (bodies f.0 ++ v)) at v d (omega arith) k;
      begins = characters_begin f.0 f.1;
    })

-- in quotes
pub quoted_finds : (bytes s w rest : List ℕ) → IsQuoted bytes s → bytes ≡ w ++ 120 ∷ rest → (v : List ℕ) × (w ≡ 34 ∷ v) × InText v
quoted_finds bytes s w rest h e =
    let p = between 34 34 h.body bytes w rest (λ f. omega (arith, f)) (λ f. omega (arith, f)) h.bytes_are e in
    (p.0, p.2, text_finds h.body s p.0 p.1 h.spelled p.3)

-- ---- numbers have no x

digits_without : (ds : List ℕ) → AllByRecursion IsDigit ds → Without ds
digits_without ds h = without_all IsDigit (λ b d f. omega (arith, d.0, d.1, f)) ds h

whole_without : (ds : List ℕ) → IsWhole ds → Without ds
whole_without [] h = absurd h
whole_without (d ∷ ds) (inl h) = ((λ f. omega (arith, h.0, f)), subst Without (sym h.1) tt)
whole_without (d ∷ ds) (inr h) = ((λ f. omega (arith, h.1, f)), digits_without ds h.2)

pub number_without : (bytes : List ℕ) (d : Digits) → IsNumber bytes d → Without bytes
number_without bytes d h =
    subst Without (sym h.bytes_are)
    (without_both h.sign (d.whole ++ (h.fraction_part ++ h.exponent_part)) (by_minus h.sign d.negative h.minus)
    (without_both d.whole (h.fraction_part ++ h.exponent_part) (whole_without d.whole h.whole)
    (without_both h.fraction_part h.exponent_part (by_fraction h.fraction_part d.fraction h.fraction) (by_exponent h.exponent_part d.lowers d.exponent h.exponent))))
  where
    by_minus : (sign : List ℕ) (negative : Bool) → IsMinus sign negative → Without sign
    by_minus sign negative (inl m) = subst Without (sym m.0) tt
    by_minus sign negative (inr m) = subst Without (sym m.0) ((λ f. omega (arith, f)), tt)

    by_fraction : (part digits : List ℕ) → IsFraction part digits → Without part
    by_fraction part digits (inl m) = subst Without (sym m.0) tt
    by_fraction part digits (inr m) = subst Without (sym m.0) ((λ f. omega (arith, f)), digits_without digits m.1.1)

    by_sign : (sign : List ℕ) (lowers : Bool) → IsSign sign lowers → Without sign
    by_sign sign lowers (inl m) = subst Without (sym m.0) ((λ f. omega (arith, f)), tt)
    by_sign sign lowers (inr m) = by_minus sign lowers m

    by_mark : (mark : ℕ) → (mark ≡ 101) ⊎ (mark ≡ 69) → mark ≢ 120
    by_mark mark (inl m) = λ f. omega (arith, m, f)
    by_mark mark (inr m) = λ f. omega (arith, m, f)

    by_exponent : (part : List ℕ) (lowers : Bool) (digits : List ℕ) → IsExponent part lowers digits → Without part
    by_exponent part lowers digits (inl m) = subst Without (sym m.0) tt
    by_exponent part lowers digits (inr m) = subst Without (sym m.5) (by_mark m.0 m.2, without_both m.1 digits (by_sign m.1 lowers m.3) (digits_without digits m.4.1))

-- ---- a sequence that is no character

no_end : {A : Type 0} (x : A) (at n : ℕ) (mid : List ℕ) (b : ℕ) (bs : List ℕ) (y : A) → ◌≡◌ {A = Read A} (Ok (x, at, [])) (Ok (y, n, mid ++ b ∷ bs)) → ⊥
no_end x at n mid b bs y e = nothing_has mid bs b (ap (λ r. rest_of r) e)
  where
    rest_of : {A : Type 0} → Read A → List ℕ
    rest_of (Ok z) = z.2
    rest_of (Err d) = []

-- no character goes on behind another one
no_longer : (c d : ℕ) → IsScalar c → IsScalar d → 128 ≤ c → 128 ≤ d → (mid : List ℕ) (b : ℕ) (bs : List ℕ) → encode_utf8 d ≡ encode_utf8 c ++ (mid ++ b ∷ bs) → ⊥
no_longer c d c_is d_is c_le d_le mid b bs e =
    let p = raw_bytes c c_le c_is in
    let q = raw_bytes d d_le d_is in
    let more = mid ++ b ∷ bs in
    let same = first_and_others q.first p.first q.tail (p.tail ++ more) (sym q.utf8 ∙ e ∙ ap (λ (l : List ℕ). l ++ more) p.utf8) in
    let all : q.tail ++ [] ≡ p.tail ++ more = append-nil q.tail ∙ same.1 in
    no_end d (0 + length q.tail) (0 + length p.tail) mid b bs c
    (sym (q.again 0 0 []) ∙ ap (λ (k : ℕ). sequence_at 0 k 0 (q.tail ++ [])) same.0 ∙ ap (sequence_at 0 p.first 0) all ∙ p.again 0 0 more)

-- a first byte and others, of which the reader makes no character and no front of one
refused : (start first at : ℕ) (bytes : List ℕ) → ((x : ℕ × ℕ × List ℕ) → sequence_at start first at bytes ≡ Ok x → ⊥) → (Completes first bytes → ⊥) → sequence_at start first at bytes ≡ Err (NotUtf8 start)
refused start first at bytes none never = by_read (sequence_at start first at bytes) refl
  where
    by_read : (r : Read ℕ) → sequence_at start first at bytes ≡ r → sequence_at start first at bytes ≡ Err (NotUtf8 start)
    by_read (Ok x) e = absurd (none x e)
    by_read (Err d) e = elim (sequence_fault start first at bytes d e) [ inl f ↦ e ∙ ap Err f | inr g ↦ absurd (never g) ]

first_bad : (start first at : ℕ) (more : List ℕ) → (BeginsCharacter (first ∷ []) → ⊥) → sequence_at start first at more ≡ Err (NotUtf8 start)
first_bad start first at more bad =
    refused start first at more
    (λ x e. let r = sequence_took start first at more x e in bad (r.tail, x.0, r.scalar, r.utf8))
    (λ c. bad (more ++ c.1 ∷ c.2, c.0, c.3, sym c.5))

sequence_bad : (start first at : ℕ) (front : List ℕ) (last other : ℕ) (more rest : List ℕ) (c : ℕ) → IsScalar c → 128 ≤ c → first ∷ (front ++ other ∷ rest) ≡ encode_utf8 c → (BeginsCharacter (first ∷ (front ++ last ∷ [])) → ⊥)
    → sequence_at start first at (front ++ last ∷ more) ≡ Err (NotUtf8 start)
sequence_bad start first at front last other more rest c is le code bad =
    refused start first at (front ++ last ∷ more)
    (λ x e.
    let r = sequence_took start first at (front ++ last ∷ more) x e in
    elim (splits r.tail x.2 front more last (sym r.parts)) [
      | inl p ↦ bad (p.0, x.0, r.scalar, ap (λ (l : List ℕ). first ∷ l) (append_assoc front (last ∷ []) p.0 ∙ sym p.1) ∙ r.utf8)
      | inr p ↦
          no_longer x.0 c r.scalar is r.above le p.0 other rest
          (sym code ∙ ap (λ (l : List ℕ). first ∷ (l ++ other ∷ rest)) p.1 ∙ ap (λ (l : List ℕ). first ∷ l) (append_assoc r.tail p.0 (other ∷ rest)) ∙ ap (λ (l : List ℕ). l ++ (p.0 ++ other ∷ rest)) r.utf8)
    ])
    (λ k.
    let tail = more ++ k.1 ∷ k.2 in
    let all : (front ++ last ∷ []) ++ tail ≡ (front ++ last ∷ more) ++ k.1 ∷ k.2 = append_assoc front (last ∷ []) tail ∙ sym (append_assoc front (last ∷ more) (k.1 ∷ k.2)) in
    bad (tail, k.0, k.3, ap (λ (l : List ℕ). first ∷ l) all ∙ sym k.5))

raw_text : (most at first : ℕ) (bytes : List ℕ) (e : JsonFault) → 128 ≤ first → sequence_at at first (at + 1) bytes ≡ Err e → text_at (suc most) at (first ∷ bytes) ≡ Err e
unfolding text_at character_at
raw_text most at first bytes e le h =
    rw (ne_eqb first 34 (λ f. omega (arith, le, f)), le-ltb first 32 (omega (arith, le)), ne_eqb first 92 (λ f. omega (arith, le, f)), le-ltb first 128 le, h) refl

pub bad_text : (most at : ℕ) (bad more : List ℕ) → IsBroken BeginsCharacter bad → text_at (suc most) at (bad ++ more) ≡ Err (NotUtf8 at)
bad_text most at bad more b = by_front b.0 b.1 b.2 b.3 b.4 b.5
  where
    by_front : (front : List ℕ) (last other : ℕ) → bad ≡ front ++ last ∷ [] → BeginsCharacter (front ++ other ∷ []) → (BeginsCharacter bad → ⊥) → text_at (suc most) at (bad ++ more) ≡ Err (NotUtf8 at)
    by_front [] last other e begins never =
        let none : BeginsCharacter (last ∷ []) → ⊥ = λ h. never (subst BeginsCharacter (sym e) h) in
        let high : 128 ≤ last = elim (cases_lt last 128) [ inl lt ↦ absurd (none ([], last, scalar_low last (omega (arith, lt)), sym (encode_one last lt))) | inr le ↦ le ] in
        ap (λ (l : List ℕ). text_at (suc most) at (l ++ more)) e ∙ raw_text most at last more (NotUtf8 at) high (first_bad at last (at + 1) more none)
    by_front (first ∷ front) last other e begins never =
        let none : BeginsCharacter (first ∷ (front ++ last ∷ [])) → ⊥ = λ h. never (subst BeginsCharacter (sym e) h) in
        let rest = begins.0 in
        let c = begins.1 in
        let code : first ∷ (front ++ other ∷ rest) ≡ encode_utf8 c = ap (λ (l : List ℕ). first ∷ l) (sym (append_assoc front (other ∷ []) rest)) ∙ begins.3 in
        let wide : 128 ≤ c = elim (cases_lt c 128) [ inl lt ↦ absurd (nothing_has front rest other (sym (first_and_others first c (front ++ other ∷ rest) [] (code ∙ encode_one c lt)).1)) | inr le ↦ le ] in
        let raw = raw_bytes c wide begins.2 in
        let high : 128 ≤ first = omega (arith, raw.above, (first_and_others first raw.first (front ++ other ∷ rest) raw.tail (code ∙ raw.utf8)).0) in
        ap (λ (l : List ℕ). text_at (suc most) at (l ++ more)) e
        ∙ ap (λ (l : List ℕ). text_at (suc most) at (first ∷ l)) (append_assoc front (last ∷ []) more)
        ∙ raw_text most at first (front ++ last ∷ more) (NotUtf8 at) high (sequence_bad at first (at + 1) front last other more rest c begins.2 wide code none)

-- ---- half a pair

unicode_text : (most at : ℕ) (bytes : List ℕ) (e : JsonFault) → unicode_at at (at + 1 + 1) bytes ≡ Err e → text_at (suc most) at (92 ∷ 117 ∷ bytes) ≡ Err e
unfolding text_at character_at escape_at
unicode_text most at bytes e h = rw h refl

-- the second half breaks off
second_bad : (start at high : ℕ) (digits : List ℕ) → IsUnit digits high → 0xd800 ≤ high → high < 0xdc00 → at ≡ start + 6 → (front : List ℕ) (last other : ℕ) (more : List ℕ) → BeginsSecond (front ++ other ∷ []) → (BeginsSecond (front ++ last ∷ []) → ⊥)
    → second_half_at start at (front ++ last ∷ more) ≡ Err (Syntax start)
second_bad start at high digits code lower upper place front last other more begins never = by_read (second_half_at start at (front ++ last ∷ more)) refl
  where
    by_read : (r : Read ℕ) → second_half_at start at (front ++ last ∷ more) ≡ r → second_half_at start at (front ++ last ∷ more) ≡ Err (Syntax start)
    by_read (Ok x) e =
        let h = half_took start at (front ++ last ∷ more) x e in
        elim (splits (92 ∷ 117 ∷ h.digits) x.2 front more last (sym h.parts)) [
          | inl p ↦ absurd (never (p.0, h.digits, x.0, h.unit, h.low.0, h.low.1, append_assoc front (last ∷ []) p.0 ∙ sym p.1))
          | inr p ↦
              let longer : length front ≡ 6 + length p.0 = omega (arith, ap length p.1, length-append (92 ∷ 117 ∷ h.digits) p.0, length_unit h.digits x.0 h.unit) in
              let short : length front + 1 + length begins.0 ≡ 6 = omega (arith, ap length begins.6, length-append (front ++ other ∷ []) begins.0, length-append front (other ∷ []), length_unit begins.1 begins.2 begins.3) in
              absurd (omega (arith, longer, short))
        ]
    by_read (Err d) e =
        elim (second_fault start high digits d code lower upper at place (front ++ last ∷ more) e) [
          | inl f ↦ e ∙ ap Err f
          | inr k ↦
              let tail = more ++ k.0 ∷ k.1.0 in
              let all : (front ++ last ∷ []) ++ tail ≡ ((front ++ last ∷ more) ++ k.0 ∷ []) ++ k.1.0 = append_assoc front (last ∷ []) tail ∙ sym (append_assoc front (last ∷ more) (k.0 ∷ k.1.0)) ∙ sym (append_assoc (front ++ last ∷ more) (k.0 ∷ []) k.1.0) in
              absurd (never (tail, k.1.1, k.1.2, k.1.3, k.1.4, k.1.5, all ∙ k.1.6))
        ]

alone_unicode : (at : ℕ) (digits behind more : List ℕ) (unit : ℕ) → IsUnit digits unit → IsAlone unit behind → unicode_at at (at + 1 + 1) (digits ++ (behind ++ more)) ≡ Err (Syntax at)
unfolding unicode_at pair_at
alone_unicode at digits behind more unit code (inl h) =
    rw (unit_again digits unit (at + 1 + 1) (behind ++ more) code, le-ltb unit 0xd800 (omega (arith, h.0)), lt-leb 0xe000 unit h.1, le-leb 0xdc00 unit h.0) refl
alone_unicode at digits behind more unit code (inr h) =
    let b = h.2 in
    let all : behind ++ more ≡ b.0 ++ b.1 ∷ more = ap (λ (l : List ℕ). l ++ more) b.3 ∙ append_assoc b.0 (b.1 ∷ []) more in
    let second = second_bad at (at + 1 + 1 + 4) unit digits code h.0 h.1 (omega arith) b.0 b.1 b.2 more b.4 (λ k. b.5 (subst BeginsSecond (sym b.3) k)) in
    ap (λ (l : List ℕ). unicode_at at (at + 1 + 1) (digits ++ l)) all
    ∙ rw (unit_again digits unit (at + 1 + 1) (b.0 ++ b.1 ∷ more) code, le-ltb unit 0xd800 h.0, lt-leb 0xe000 unit (omega (arith, h.1)), lt-leb 0xdc00 unit h.1, second) refl

pub alone_text : (most at : ℕ) (digits behind more : List ℕ) (unit : ℕ) → IsUnit digits unit → IsAlone unit behind → text_at (suc most) at (92 ∷ 117 ∷ ((digits ++ behind) ++ more)) ≡ Err (Syntax at)
alone_text most at digits behind more unit code alone =
    unicode_text most at ((digits ++ behind) ++ more) (Syntax at) (ap (unicode_at at (at + 1 + 1)) (append_assoc digits behind more) ∙ alone_unicode at digits behind more unit code alone)

-- ---- an escape that ends too early

few_digits : (at : ℕ) (digits : List ℕ) → length digits < 4 → AllByRecursion IsHexadecimal digits → unit_at at digits ≡ Err (Syntax (at + length digits))
unfolding unit_at
few_digits at [] lt h = ap (λ (k : ℕ). Err (Syntax k)) (omega arith)
few_digits at (a ∷ []) lt h = rw h.0.1 (ap (λ (k : ℕ). Err (Syntax k)) (omega arith))
few_digits at (a ∷ b ∷ []) lt h = rw (h.0.1, h.1.0.1) (ap (λ (k : ℕ). Err (Syntax k)) (omega arith))
few_digits at (a ∷ b ∷ c ∷ []) lt h = rw (h.0.1, h.1.0.1, h.1.1.0.1) (ap (λ (k : ℕ). Err (Syntax k)) (omega arith))
few_digits at (a ∷ b ∷ c ∷ d ∷ ds) lt h = absurd (omega (arith, lt))

pub unfinished_text : (most at : ℕ) (digits : List ℕ) → length digits < 4 → AllByRecursion IsHexadecimal digits → text_at (suc most) at (92 ∷ 117 ∷ digits) ≡ Err (Syntax (at + 2 + length digits))
unfolding unicode_at
unfinished_text most at digits lt h =
    let n : at + 1 + 1 + length digits ≡ at + 2 + length digits = omega arith in
    unicode_text most at digits (Syntax (at + 2 + length digits)) (rw (few_digits (at + 1 + 1) digits lt h) (ap (λ (k : ℕ). Err (Syntax k)) n))
