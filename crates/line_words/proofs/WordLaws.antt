-- The words of a line, one after another.
use Rattle.std.proofs.Common.{◌≡◌, ℕ, ◌+◌, ◌-◌, ◌<◌, ◌≤◌, List, [], ◌∷◌, ◌++◌, true, false, length, drop, get_or, slice_range, filter, refl, sym, ap, ◌∙◌, arith, inl, inr}
use Rattle.std.specs.List.{slice_split, All, AllWithin}
use Rattle.std.proofs.lemmas.List.{append-nil, take-append-drop, length-take, length-drop, drop-drop, drop_more, drop_all, get_or-take, get_or-drop}
use Rattle.std.proofs.lemmas.List.Splits.{slice_split_at, slice_split_none, slice_split-cons_yes}
use Rattle.std.proofs.lemmas.Bool.{cases_lt}
use Rattle.line_words.specs.Blanks.{is_blank, is_filled, words_of, IsWord}

-- a blank begins no word
pub words_of-blank : (byte : ℕ) (rest : List ℕ) → is_blank byte ≡ true → words_of (byte ∷ rest) ≡ words_of rest
words_of-blank byte rest h = ap (filter is_filled) (slice_split-cons_yes is_blank byte rest h)

pub words_of-past_blank : (line : List ℕ) (at : ℕ) → at < length line → is_blank (get_or line at 0) ≡ true → words_of (drop (at + 1) line) ≡ words_of (drop at line)
words_of-past_blank line at h b = sym (ap words_of (drop_more line at 0 h) ∙ words_of-blank (get_or line at 0) (drop (at + 1) line) b)

filled : (word : List ℕ) (parts : List (List ℕ)) → 0 < length word → filter is_filled (word ∷ parts) ≡ word ∷ filter is_filled parts
filled [] parts h = absurd (omega arith)
filled (byte ∷ word) parts h = refl

-- a word goes up to the line's end, or to a blank
pub words_of-last : (word : List ℕ) → IsWord word → words_of word ≡ word ∷ []
words_of-last word w = ap (filter is_filled) (slice_split_none is_blank word w.no_blank) ∙ filled word [] w.filled

pub words_of-word : (word : List ℕ) (byte : ℕ) (rest : List ℕ) → IsWord word → is_blank byte ≡ true → words_of (word ++ byte ∷ rest) ≡ word ∷ words_of rest
words_of-word word byte rest w b =
    ap (filter is_filled) (slice_split_at is_blank word byte rest w.no_blank b) ∙ filled word (slice_split is_blank rest) w.filled

in_range : (line : List ℕ) (start end : ℕ) → end ≤ length line → AllWithin (λ byte. is_blank byte ≡ false) line start end → All (λ byte. is_blank byte ≡ false) (slice_range line start end)
in_range line start end within h = λ k d inside.
    let small : k < end - start = omega (arith, length-take (end - start) (drop start line)) in
    rw get_or-take (rw get_or-drop (h (start + k) d (omega arith) (omega arith)))

cut_at : (line : List ℕ) (start end : ℕ) → start ≤ end → drop start line ≡ slice_range line start end ++ drop end line
cut_at line start end h =
    let whole : start + (end - start) ≡ end = omega arith in
    sym (take-append-drop (end - start) (drop start line)) ∙ ap (λ rest. slice_range line start end ++ rest) (drop-drop (end - start) start line ∙ ap (λ n. drop n line) whole)

pub words_of-next : (line : List ℕ) (start end : ℕ) → start < end → end ≤ length line → AllWithin (λ byte. is_blank byte ≡ false) line start end
    → (end < length line → is_blank (get_or line end 0) ≡ true) → words_of (drop start line) ≡ slice_range line start end ∷ words_of (drop end line)
words_of-next line start end some within no_blank ends =
    let word = slice_range line start end in
    let is_word : IsWord (slice_range line start end) = record {
      filled = omega (arith, length-take (end - start) (drop start line), length-drop start line);
      no_blank = in_range line start end within no_blank;
    } in
    let cut = ap words_of (cut_at line start end (omega arith)) in
    elim (cases_lt end (length line)) [
      | inl inside ↦ let more = drop_more line end 0 inside in
          cut ∙ (ap (λ rest. words_of (word ++ rest)) more ∙ (words_of-word word (get_or line end 0) (drop (end + 1) line) is_word (ends inside) ∙ ap (λ ws. word ∷ ws) (words_of-past_blank line end inside (ends inside))))
      | inr past ↦ let none = drop_all end line past in
          cut ∙ (ap (λ rest. words_of (word ++ rest)) none ∙ (ap words_of (append-nil word) ∙ (words_of-last word is_word ∙ ap (λ rest. word ∷ words_of rest) (sym none))))
    ]
