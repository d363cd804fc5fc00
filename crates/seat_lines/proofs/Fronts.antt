-- A walk over a text that counts its lines.
use Rattle.std.proofs.Common.{◌≡◌, ℕ, suc, ◌+◌, ◌<◌, ◌≤◌, List, ◌∷◌, Bool, true, false, cond, length, take, drop, get_or, refl, sym, ap, ◌∙◌, arith, inl, inr}
use Rattle.std.proofs.lemmas.Bool.{cases_lt}
use Rattle.std.proofs.lemmas.List.{drop_more, take-append-drop, take-take}
use Rattle.line_words.specs.Lines.{is_lf}
use Rattle.seat_lines.specs.Texts.{lines_in, after_lines, bytes_of_lines}
use Rattle.seat_lines.proofs.Texts.{bytes_are, lines_in-append, lines_in-take}

-- after so many bytes of a text, in which so many lines have ended
pub record Walk (text : List ℕ) (at n : ℕ) : Type 0 where
  pub lines : lines_in text ≡ n + lines_in (drop at text)
  pub next : (j : ℕ) → after_lines (suc (n + j)) text ≡ after_lines (suc j) (drop at text)

none_more : (j : ℕ) → suc (0 + j) ≡ suc j
none_more j = omega arith

pub walk_begins : (text : List ℕ) → Walk text 0 0
walk_begins text = record { lines = omega arith; next = λ j. ap (λ k. after_lines k text) (none_more j) }

after_lf : (j b : ℕ) (bs : List ℕ) → is_lf b ≡ true → after_lines (suc j) (b ∷ bs) ≡ after_lines j bs
after_lf j b bs h = ap (λ t. cond t (after_lines j bs) (after_lines (suc j) bs)) h

after_other : (j b : ℕ) (bs : List ℕ) → is_lf b ≡ false → after_lines (suc j) (b ∷ bs) ≡ after_lines (suc j) bs
after_other j b bs h = ap (λ t. cond t (after_lines j bs) (after_lines (suc j) bs)) h

count_lf : (b : ℕ) (bs : List ℕ) → is_lf b ≡ true → lines_in (b ∷ bs) ≡ suc (lines_in bs)
count_lf b bs h = ap (λ t. cond t (suc (lines_in bs)) (lines_in bs)) h

count_other : (b : ℕ) (bs : List ℕ) → is_lf b ≡ false → lines_in (b ∷ bs) ≡ lines_in bs
count_other b bs h = ap (λ t. cond t (suc (lines_in bs)) (lines_in bs)) h

one_on : (n j : ℕ) → suc ((n + 1) + j) ≡ suc (n + suc j)
one_on n j = omega arith

pub walk_lf : (text rest : List ℕ) (at n b : ℕ) → drop at text ≡ b ∷ rest → drop (at + 1) text ≡ rest → is_lf b ≡ true → Walk text at n → Walk text (at + 1) (n + 1)
walk_lf text rest at n b here there h w = record {
  lines = omega (arith, w.lines, ap lines_in here, ap lines_in there, count_lf b rest h);
  next = λ j. ap (λ k. after_lines k text) (one_on n j) ∙ (w.next (suc j) ∙ (ap (after_lines (suc (suc j))) here ∙ (after_lf (suc j) b rest h ∙ ap (after_lines (suc j)) (sym there))));
}

pub walk_on : (text rest : List ℕ) (at n b : ℕ) → drop at text ≡ b ∷ rest → drop (at + 1) text ≡ rest → is_lf b ≡ false → Walk text at n → Walk text (at + 1) n
walk_on text rest at n b here there h w = record {
  lines = omega (arith, w.lines, ap lines_in here, ap lines_in there, count_other b rest h);
  next = λ j. w.next j ∙ (ap (after_lines (suc j)) here ∙ (after_other j b rest h ∙ ap (after_lines (suc j)) (sym there)));
}

none_after : (n : ℕ) → n + 1 ≡ suc (n + 0)
none_after n = omega arith

pub walk_found : (text rest : List ℕ) (at n b : ℕ) → drop at text ≡ b ∷ rest → drop (at + 1) text ≡ rest → is_lf b ≡ true → Walk text at n → drop (at + 1) text ≡ after_lines (n + 1) text
walk_found text rest at n b here there h w =
    there ∙ (sym (ap (after_lines 1) here ∙ after_lf 0 b rest h) ∙ (sym (w.next 0) ∙ ap (λ k. after_lines k text) (sym (none_after n))))

-- The first lines of a text that end in its first bytes, and how many bytes they have.
pub record Found (text : List ℕ) (at n bytes : ℕ) : Type 0 where
  pub rest : drop bytes text ≡ after_lines n text
  pub before : bytes ≤ at
  pub fewer : n ≤ bytes
  pub walk : Walk text at n

pub found_begins : (text : List ℕ) → Found text 0 0 0
found_begins text = record { rest = refl; before = omega arith; fewer = omega arith; walk = walk_begins text }

found_step : (t : Bool) (text rest : List ℕ) (at n bytes b : ℕ) → is_lf b ≡ t → drop at text ≡ b ∷ rest → drop (at + 1) text ≡ rest
    → Found text at n bytes → Found text (at + 1) (cond t (n + 1) n) (cond t (at + 1) bytes)
found_step true text rest at n bytes b is here there f = record {
  rest = walk_found text rest at n b here there is f.walk;
  before = omega arith;
  fewer = omega (arith, f.before, f.fewer);
  walk = walk_lf text rest at n b here there is f.walk;
}
found_step false text rest at n bytes b is here there f = record {
  rest = f.rest;
  before = omega (arith, f.before);
  fewer = f.fewer;
  walk = walk_on text rest at n b here there is f.walk;
}

pub found_next : (text : List ℕ) (at n bytes m k b : ℕ) → at < length text → b ≡ get_or text at 0
    → m ≡ cond (is_lf b) (n + 1) n → k ≡ cond (is_lf b) (at + 1) bytes → Found text at n bytes → Found text (at + 1) m k
found_next text at n bytes m k b h e em ek f =
    rw (em, ek) (found_step (is_lf b) text (drop (at + 1) text) at n bytes b refl (drop_more text at 0 h ∙ ap (λ x. x ∷ drop (at + 1) text) (sym e)) refl f)

pub at_most_more : (t : Bool) (n m most : ℕ) → m ≡ cond t (n + 1) n → n < most → m ≤ most
at_most_more true n m most e h = omega (arith, e, h)
at_most_more false n m most e h = omega (arith, e, h)

pub found_bytes : (text : List ℕ) (at n bytes : ℕ) → at ≤ length text → Found text at n bytes → bytes ≡ bytes_of_lines n text
found_bytes text at n bytes h f = bytes_are n bytes text (omega (arith, h, f.before)) f.rest

-- so many lines end in the bytes that the walk has passed
pub found_lines : (text : List ℕ) (at n bytes : ℕ) → Found text at n bytes → n ≡ lines_in (take at text)
found_lines text at n bytes f =
    omega (arith, f.walk.lines, lines_in-append (take at text) (drop at text), ap lines_in (take-append-drop at text))

pub found_within : (text : List ℕ) (at may n bytes : ℕ) → at ≤ may → Found text at n bytes → n ≤ lines_in (take may text)
found_within text at may n bytes h f =
    omega (arith, found_lines text at n bytes f, ap lines_in (take-take at may text h), lines_in-take at (take may text))

pub strictly : (n m : ℕ) → n ≤ m → (n ≡ m → ⊥) → n < m
strictly n m h k = elim (cases_lt n m) [
  | inl l ↦ l
  | inr g ↦ absurd (k (omega (arith, h, g)))
]

pub found_all : (text : List ℕ) (at may n bytes : ℕ) → at ≤ may → may ≤ at → Found text at n bytes → n ≡ lines_in (take may text)
found_all text at may n bytes low high f =
    let e : at ≡ may = omega (arith, low, high) in found_lines text at n bytes f ∙ ap (λ k. lines_in (take k text)) e
