-- Reading characters one after the other, as a loop does.
use Rattle.std.proofs.Common.{◌≡◌, ℕ, suc, ◌-◌, ◌+◌, ◌≤◌, ◌<◌, List, ◌++◌, Some, None, Result, Ok, Err, refl, sym, ap, ◌∙◌, append_assoc, arith}
use Rattle.std.specs.Char.{encode_utf8}
use Rattle.std.proofs.lemmas.List.{append-nil}
use Rattle.json_tokens.specs.declared.fault.JsonFault.{JsonFault}
use Rattle.json_tokens.specs.declared.fault.JsonFault.TheVariants.{Syntax, Depth, NotUtf8, TooLarge, Memory}
use Rattle.json_tokens.specs.Reading.{◌>>=◌, Fails, Read, byte_at}
use Rattle.json_tokens.specs.ReadingTexts.{text_at, character_at, with_character}

-- what was read before, and what is still read
abbrev pub with_text : List ℕ → Read (List ℕ) → Read (List ℕ)
with_text front read = read >>= λ x. Ok (front ++ x.0, x.1, x.2)

regroup : (front : List ℕ) (c : ℕ) (read : Read (List ℕ)) → with_text front (with_character c read) ≡ with_text (front ++ encode_utf8 c) read
regroup front c (Ok x) = ap (λ (s : List ℕ). Ok (s, x.1, x.2)) (sym (append_assoc front (encode_utf8 c) x.0))
regroup front c (Err f) = refl

-- a fault is the answer of all that is read
pub fails_is : {X Y : Type 0} (e : JsonFault) (one : Result X JsonFault) (total : Result Y JsonFault) → Fails e one → ((f : JsonFault) → one ≡ Err f → total ≡ Err f) → Fails e total
fails_is Memory one total h k = tt
fails_is (Syntax at) one total h k = k (Syntax at) h
fails_is (Depth at) one total h k = k (Depth at) h
fails_is (NotUtf8 at) one total h k = k (NotUtf8 at) h
fails_is TooLarge one total h k = k TooLarge h

module _ (front : List ℕ) (most i at : ℕ) (bytes : List ℕ) (total : Read (List ℕ)) (so_far : with_text front (text_at (most - i) at bytes) ≡ total) where
  pub goes_on : (c after_at : ℕ) (after : List ℕ) → i < most → byte_at 34 at bytes ≡ None → character_at at bytes ≡ Ok (c, after_at, after)
      → with_text (front ++ encode_utf8 c) (text_at (most - (i + 1)) after_at after) ≡ total
  unfolding text_at
  goes_on c after_at after lt unclosed h =
      let k : most - i ≡ suc (most - (i + 1)) = omega arith in
      let one : with_text front (text_at (most - i) at bytes) ≡ with_text (front ++ encode_utf8 c) (text_at (most - (i + 1)) after_at after) = rw (k, unclosed, h) (regroup front c (text_at (most - (i + 1)) after_at after)) in
      sym one ∙ so_far

  pub ends : (e : JsonFault) → i < most → byte_at 34 at bytes ≡ None → Fails e (character_at at bytes) → Fails e total
  unfolding text_at
  ends e lt unclosed h =
      let k : most - i ≡ suc (most - (i + 1)) = omega arith in
      fails_is e (character_at at bytes) total h (λ f is. let one : with_text front (text_at (most - i) at bytes) ≡ Err f = rw (k, unclosed, is) refl in sym so_far ∙ one)

  pub is_closed : (after : ℕ × List ℕ) → i < most → byte_at 34 at bytes ≡ Some after → total ≡ Ok (front, after.0, after.1)
  unfolding text_at
  is_closed after lt closed =
      let k : most - i ≡ suc (most - (i + 1)) = omega arith in
      let one : with_text front (text_at (most - i) at bytes) ≡ Ok (front, after.0, after.1) = rw (k, closed) (ap (λ (s : List ℕ). Ok (s, after.0, after.1)) (append-nil front)) in
      sym so_far ∙ one

  pub is_out : most ≤ i → total ≡ Err (Syntax at)
  unfolding text_at
  is_out le =
      let k : most - i ≡ 0 = omega arith in
      let one : with_text front (text_at (most - i) at bytes) ≡ Err (Syntax at) = rw k refl in
      sym so_far ∙ one
