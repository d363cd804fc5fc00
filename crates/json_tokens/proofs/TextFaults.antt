-- Where a text in quotes stops, and that texts which begin alike are read alike.
use Rattle.std.proofs.Common.{◌≡◌, ℕ, zero, suc, ◌+◌, ◌<◌, ◌≤◌, inl, inr, List, [], ◌∷◌, ◌++◌, length, Option, Some, None, Ok, Err, refl, sym, ap, subst, ◌∙◌, append_assoc, length-append, arith}
use Rattle.std.specs.Char.{encode_utf8}
use Rattle.json_tokens.specs.declared.fault.JsonFault.{JsonFault}
use Rattle.json_tokens.specs.declared.fault.JsonFault.TheVariants.{Syntax}
use Rattle.json_tokens.specs.Reading.{◌>>=◌, Read, byte_at}
use Rattle.json_tokens.specs.ReadingTexts.{character_at, unless_closed, with_character, text_at}
use Rattle.json_tokens.specs.Grammar.{IsCharacter}
use Rattle.json_tokens.specs.Faults.{IsLawful}
use Rattle.json_tokens.proofs.Tools.{byte_other}
use Rattle.json_tokens.proofs.TextLaws.{CharacterTook, CharacterAgain, NoQuote, no_quote, character_took, character_again, text_took, text_again}
use Rattle.json_tokens.proofs.FirstBytes.{SameFirst, same_behind, same_none}
use Rattle.json_tokens.proofs.Halts.{IsToldBy, halt_stuck, lawful_behind, told_behind, Halts, bind_err, err_is}
use Rattle.json_tokens.proofs.TextBegins.{CharacterStop, begins_nothing}
use Rattle.json_tokens.proofs.CharacterFaults.{character_halts}
use Rattle.json_tokens.proofs.Stuck.{Stuck, Alike, BeginsText}

found_text : List ℕ → ℕ → List ℕ → List ℕ × ℕ × List ℕ
found_text s at rest = (s, at, rest)

-- ---- texts that were read

-- up to the closing quote, whatever stands behind it
record Reads (most at : ℕ) (bytes : List ℕ) (x : List ℕ × ℕ × List ℕ) : Type 0 where
  pub front : List ℕ
  pub parts : bytes ≡ front ++ x.2
  pub place : x.1 ≡ at + length front
  pub same : (other : List ℕ) → text_at most at (front ++ other) ≡ Ok (found_text x.0 x.1 other)

pub quoted_text_alike : (at : ℕ) (bytes : List ℕ) (x : List ℕ) (after b : ℕ) (rest : List ℕ) → text_at (length bytes) at bytes ≡ Ok (x, after, b ∷ rest) → Alike (λ at bytes. text_at (length bytes) at bytes) at bytes x after b rest
unfolding found_text
quoted_text_alike at bytes x after b rest h =
    let t = text_took (length bytes) at bytes (found_text x after (b ∷ rest)) h in
    let front = t.body ++ 34 ∷ [] in
    let place : after ≡ at + length front = omega (arith, t.place, length-append t.body (34 ∷ [])) in
    record {
      front = front;
      parts = t.parts ∙ sym (append_assoc t.body (34 ∷ []) (b ∷ rest));
      place = place;
      same = λ more.
          let all : front ++ b ∷ more ≡ t.body ++ 34 ∷ b ∷ more = append_assoc t.body (34 ∷ []) (b ∷ more) in
          ap (λ (l : List ℕ). text_at (length l) at l) all
          ∙ text_again t.body x (length (t.body ++ 34 ∷ b ∷ more)) at (b ∷ more) t.is (omega (arith, length-append t.body (34 ∷ b ∷ more)))
          ∙ ap (λ (n : ℕ). Ok (found_text x n (b ∷ more))) (sym t.place);
    }

-- ---- texts that stop

pub record TextHalts (at : ℕ) (bytes : List ℕ) (e : JsonFault) : Type 0 where
  pub front : List ℕ
  pub rest : List ℕ
  pub parts : bytes ≡ front ++ rest
  pub lawful : IsLawful BeginsText front
  pub told : IsToldBy BeginsText at front rest e
  pub same : (most : ℕ) (other : List ℕ) → length front < most → SameFirst rest other → text_at most at (front ++ other) ≡ Err e

pub begins_behind : (spelling : List ℕ) (c : ℕ) → IsCharacter (spelling, c) → (w : List ℕ) → BeginsText w → BeginsText (spelling ++ w)
begins_behind spelling c is w h = (
  h.0,
  spelling ++ h.1,
  encode_utf8 c ++ h.2,
  record {
    characters = (spelling, c) ∷ h.3.characters;
    each = (is, h.3.each);
    body_is = ap (λ (l : List ℕ). spelling ++ l) h.3.body_is;
    text_is = ap (λ (l : List ℕ). encode_utf8 c ++ l) h.3.text_is;
  },
  append_assoc spelling w h.0 ∙ ap (λ (l : List ℕ). spelling ++ l) h.4 ∙ sym (append_assoc spelling h.1 (34 ∷ [])),
)

ended_halts : (at : ℕ) (bytes : List ℕ) (e : JsonFault) → bytes ≡ [] → ◌≡◌ {A = Read (List ℕ)} (Err (Syntax at)) (Err e) → TextHalts at bytes e
unfolding text_at character_at
ended_halts at bytes e none h = record {
  front = [];
  rest = [];
  parts = none;
  lawful = inl begins_nothing;
  told = subst (IsToldBy BeginsText at [] []) (err_is (Syntax at) e h) (inl (omega arith));
  same = λ most other lt first. subst (λ (l : List ℕ). text_at most at l ≡ Err e) (sym (same_none other first)) (at_end most lt);
}
  where
    at_end : (most : ℕ) → 0 < most → text_at most at [] ≡ Err e
    at_end zero lt = absurd (omega arith)
    at_end (suc most) lt = h

-- the first byte says that no quote stands there
still_none : (at : ℕ) (bytes other : List ℕ) → SameFirst bytes other → NoQuote bytes → byte_at 34 at other ≡ None
still_none at [] [] s q = refl
still_none at [] (c ∷ cs) s q = absurd s
still_none at (b ∷ bs) [] s q = absurd s
still_none at (b ∷ bs) (c ∷ cs) s q = byte_other 34 at c cs (λ f. q (s ∙ f))

first_halts : (at : ℕ) (bytes : List ℕ) (e : JsonFault) → NoQuote bytes → Halts (character_at at) (CharacterStop at e) bytes e → TextHalts at bytes e
unfolding text_at
first_halts at bytes e q h = record { front = h.front; rest = h.rest; parts = h.parts; lawful = h.is.0; told = h.is.1; same = same }
  where
    same : (most : ℕ) (other : List ℕ) → length h.front < most → SameFirst h.rest other → text_at most at (h.front ++ other) ≡ Err e
    same zero other lt first = absurd (omega arith)
    same (suc most) other lt first =
        let begins : SameFirst bytes (h.front ++ other) = subst (λ (l : List ℕ). SameFirst l (h.front ++ other)) (sym h.parts) (same_behind h.front h.rest other first) in
        rw (still_none at bytes (h.front ++ other) begins q, h.same other first) refl

others_halt : (at : ℕ) (bytes : List ℕ) (c : ℕ × ℕ × List ℕ) (e : JsonFault) → CharacterTook [] at bytes c → TextHalts c.1 c.2 e → TextHalts at bytes e
unfolding text_at
others_halt at bytes c e t h = record {
  front = t.spelling ++ h.front;
  rest = h.rest;
  parts = t.parts ∙ ap (λ (l : List ℕ). t.spelling ++ l) h.parts ∙ sym (append_assoc t.spelling h.front h.rest);
  lawful = lawful_behind BeginsText t.spelling moves h.front h.lawful;
  told = told_behind BeginsText t.spelling moves at h.front h.rest e (subst (λ (n : ℕ). IsToldBy BeginsText n h.front h.rest e) t.place h.told);
  same = same;
}
  where
    moves : (w : List ℕ) → BeginsText w → BeginsText (t.spelling ++ w)
    moves = begins_behind t.spelling c.0 t.is

    again : CharacterAgain t.spelling c.0
    again = character_again (t.spelling, c.0) t.is

    same : (most : ℕ) (other : List ℕ) → length (t.spelling ++ h.front) < most → SameFirst h.rest other → text_at most at ((t.spelling ++ h.front) ++ other) ≡ Err e
    same zero other lt first = absurd (omega arith)
    same (suc most) other lt first =
        let one = again.1 at (h.front ++ other) in
        let few : length h.front < most = omega (arith, lt, again.0, length-append t.spelling h.front) in
        ap (text_at (suc most) at) (append_assoc t.spelling h.front other)
        ∙ rw (one.0, one.1) (ap (λ (n : ℕ). with_character c.0 (text_at most n (h.front ++ other))) (sym t.place) ∙ ap (with_character c.0) (h.same most other few first))

pub text_halts : (most at : ℕ) (bytes : List ℕ) (e : JsonFault) → length bytes ≤ most → text_at most at bytes ≡ Err e → TextHalts at bytes e
unfolding text_at
text_halts zero at [] e le h = ended_halts at [] e refl h
text_halts zero at (b ∷ bs) e le h = absurd (omega arith)
text_halts (suc most) at bytes e le h = by_quote (byte_at 34 at bytes) refl h (λ c l g. text_halts most c.1 c.2 e l g)
  where
    by_quote : (o : Option (ℕ × List ℕ)) → byte_at 34 at bytes ≡ o → unless_closed o (character_at at bytes >>= λ c. with_character c.0 (text_at most c.1 c.2)) ≡ Err e
        → ((c : ℕ × ℕ × List ℕ) → length c.2 ≤ most → text_at most c.1 c.2 ≡ Err e → TextHalts c.1 c.2 e) → TextHalts at bytes e
    by_quote (Some after) is g rec = absurd cc
    by_quote None is g rec =
        let q = no_quote at bytes is in
        elim (bind_err (character_at at bytes) (λ c. with_character c.0 (text_at most c.1 c.2)) e g) [
          | inl f ↦ first_halts at bytes e q (character_halts at bytes e q f)
          | inr a ↦
              let t = character_took at bytes a.0 q a.1 in
              let longer = (character_again (t.spelling, a.0.0) t.is).0 in
              let fewer : length a.0.2 ≤ most = omega (arith, le, longer, ap length t.parts, length-append t.spelling a.0.2) in
              others_halt at bytes a.0 e t (rec a.0 fewer (failed a.0.0 (text_at most a.0.1 a.0.2) a.2))
        ]
      where
        failed : (c : ℕ) (r : Read (List ℕ)) → with_character c r ≡ Err e → r ≡ Err e
        failed c (Ok x) p = absurd cc
        failed c (Err d) p = ap Err (err_is d e p)

-- before all that begins with the same byte as what was left, or again at the end
read_again : (read : ℕ → List ℕ → Read (List ℕ)) (at : ℕ) (bytes : List ℕ) (e : JsonFault) → read at bytes ≡ Err e → (front rest : List ℕ) → bytes ≡ front ++ rest
    → ((b : ℕ) (more : List ℕ) → length front < length bytes → SameFirst rest (b ∷ more) → read at (front ++ b ∷ more) ≡ Err e) → (other : List ℕ) → SameFirst rest other → read at (front ++ other) ≡ Err e
read_again read at bytes e h front [] parts same other f = subst (λ (l : List ℕ). read at l ≡ Err e) (parts ∙ ap (λ (l : List ℕ). front ++ l) (sym (same_none other f))) h
read_again read at bytes e h front (b ∷ bs) parts same [] f = absurd f
read_again read at bytes e h front (b ∷ bs) parts same (c ∷ cs) f = same c cs (omega (arith, ap length parts, length-append front (b ∷ bs))) f

pub quoted_text_stuck : (Deeper : List ℕ → Type 0) (at : ℕ) (bytes : List ℕ) (e : JsonFault) → text_at (length bytes) at bytes ≡ Err e → Stuck (λ at bytes. text_at (length bytes) at bytes) BeginsText Deeper at bytes e
quoted_text_stuck Deeper at bytes e h =
    let t = text_halts (length bytes) at bytes e (omega arith) h in
    halt_stuck (λ at bytes. text_at (length bytes) at bytes) BeginsText Deeper at bytes t.front t.rest e t.parts t.lawful t.told
    (read_again (λ at bytes. text_at (length bytes) at bytes) at bytes e h t.front t.rest t.parts (λ b more lt f. t.same (length (t.front ++ b ∷ more)) (b ∷ more) (omega (arith, length-append t.front (b ∷ more))) f))
