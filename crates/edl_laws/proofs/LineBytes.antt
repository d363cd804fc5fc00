-- The bytes of lines and words: what ends them.
use Rattle.std.proofs.Common.{◌≡◌, ℕ, zero, suc, ◌-◌, ◌<◌, ◌≤◌, Bool, false, cond, ◌==◌, List, [], ◌∷◌, ◌++◌, length, take, get_or, replicate, refl, ap, ◌∙◌, arith, append_assoc}
use Rattle.std.specs.List.{All, slice_split}
use Rattle.std.proofs.lemmas.Bool.Decides.{nat_tests}
use Rattle.std.proofs.lemmas.List.{append-nil}
use Rattle.std.proofs.lemmas.List.Elements.{All-cons}
use Rattle.std.proofs.lemmas.List.Splits.{length-slice_split, slice_split_at}
use Rattle.line_words.specs.Blanks.{IsWord, is_blank, words_of}
use Rattle.line_words.specs.Lines.{is_lf, without_cr}
use Rattle.line_words.specs.declared.line.LineEnd.{LineEnd}
use Rattle.line_words.specs.declared.line.LineEnd.TheVariants.{Whole}
use Rattle.line_words.proofs.WordLaws.{words_of-blank, words_of-word}
use Rattle.edl_write.specs.Text.{padded}
use Rattle.edl_lines.specs.ListLines.{ListLine, end_of, ended_line, lines_from, list_lines}

-- each byte is above a number
abbrev pub EachAbove : ℕ → List ℕ → Type 0
EachAbove n [] = Unit {0}
EachAbove n (b ∷ bs) = (n < b) × EachAbove n bs

pub above_append : (n : ℕ) (xs ys : List ℕ) → EachAbove n xs → EachAbove n ys → EachAbove n (xs ++ ys)
above_append n [] ys h k = k
above_append n (x ∷ xs) ys h k = (h.0, above_append n xs ys h.1 k)

pub above_less : (m n : ℕ) (xs : List ℕ) → m ≤ n → EachAbove n xs → EachAbove m xs
above_less m n [] le h = tt
above_less m n (x ∷ xs) le h = let first : m < x = omega (arith, le, h.0) in (first, above_less m n xs le h.1)

pub above_replicate : (n k b : ℕ) → n < b → EachAbove n (replicate k b)
above_replicate n zero b h = tt
above_replicate n (suc k) b h = (h, above_replicate n k b h)

all_above : (P : ℕ → Type 0) (n : ℕ) (xs : List ℕ) → ((b : ℕ) → n < b → P b) → EachAbove n xs → All P xs
all_above P n [] each h = λ k d inside. absurd (omega arith)
all_above P n (x ∷ xs) each h = All-cons P x xs (each x h.0) (all_above P n xs each h.1)

-- ---- lines

no_lf : (b : ℕ) → 31 < b → is_lf b ≡ false
no_lf b h = grind (arith, nat_tests)

no_cr : (b : ℕ) → 31 < b → (b == 13) ≡ false
no_cr b h = grind (arith, nat_tests)

keeps_its_end : (xs : List ℕ) → EachAbove 31 xs → without_cr xs ≡ xs
keeps_its_end [] h = refl
keeps_its_end (x ∷ xs) h =
    let all : All (λ b. (b == 13) ≡ false) (x ∷ xs) = all_above (λ b. (b == 13) ≡ false) 31 (x ∷ xs) no_cr h in
    let last : (get_or (x ∷ xs) (length (x ∷ xs) - 1) 0 == 13) ≡ false = all (length (x ∷ xs) - 1) 0 (omega arith) in
    ap (λ (b : Bool). cond b (take (length (x ∷ xs) - 1) (x ∷ xs)) (x ∷ xs)) last

short_enough : (xs : List ℕ) → length xs ≤ 1024 → end_of xs ≡ Whole
short_enough xs h = grind (arith, nat_tests)

ended : (xs : List ℕ) → EachAbove 31 xs → length xs ≤ 1024 → ◌≡◌ {A = ListLine} (ended_line xs) (record { text = xs; end = Whole })
ended xs above short =
    ap (λ (t : List ℕ). record { text = t; end = end_of xs }) (keeps_its_end xs above) ∙ ap (λ (e : LineEnd). record { text = xs; end = e }) (short_enough xs short)

lines_more : (part : List ℕ) (parts : List (List ℕ)) → 0 < length parts → lines_from (part ∷ parts) ≡ ended_line part ∷ lines_from parts
lines_more part [] h = absurd (omega arith)
lines_more part (next ∷ parts) h = refl

-- a line, and the lines behind it
pub next_line : (xs rest : List ℕ) → EachAbove 31 xs → length xs ≤ 1024 → list_lines (xs ++ 10 ∷ rest) ≡ record { text = xs; end = Whole } ∷ list_lines rest
next_line xs rest above short =
    let some : 0 < length (slice_split is_lf rest) = omega (arith, length-slice_split is_lf rest) in
    ap lines_from (slice_split_at is_lf xs 10 rest (all_above (λ b. is_lf b ≡ false) 31 xs no_lf above) refl)
    ∙ (lines_more xs (slice_split is_lf rest) some ∙ ap (λ (l : ListLine). l ∷ list_lines rest) (ended xs above short))

-- ---- words

no_space : (b : ℕ) → 32 < b → is_blank b ≡ false
no_space b h = grind (arith, nat_tests)

pub is_word : (word : List ℕ) → 0 < length word → EachAbove 32 word → IsWord word
is_word word some above = record { filled = some; no_blank = all_above (λ b. is_blank b ≡ false) 32 word no_space above }

pub spaces : (k : ℕ) (rest : List ℕ) → words_of (replicate k 32 ++ rest) ≡ words_of rest
spaces zero rest = refl
spaces (suc k) rest = words_of-blank 32 (replicate k 32 ++ rest) refl ∙ spaces k rest

-- a word, and the words behind it
pub next_word : (word rest : List ℕ) → IsWord word → words_of (word ++ 32 ∷ rest) ≡ word ∷ words_of rest
next_word word rest h = words_of-word word 32 rest h refl

-- the same of a word with so many spaces behind it
spaced_word : (k : ℕ) (word rest : List ℕ) → IsWord word → words_of ((word ++ replicate k 32) ++ 32 ∷ rest) ≡ word ∷ words_of rest
spaced_word zero word rest h = ap (λ (xs : List ℕ). words_of (xs ++ 32 ∷ rest)) (append-nil word) ∙ next_word word rest h
spaced_word (suc k) word rest h =
    ap words_of (append_assoc word (32 ∷ replicate k 32) (32 ∷ rest))
    ∙ (next_word word (replicate k 32 ++ 32 ∷ rest) h
    ∙ ap (λ (ws : List (List ℕ)). word ∷ ws) (spaces k (32 ∷ rest) ∙ words_of-blank 32 rest refl))

pub padded_word : (width : ℕ) (word rest : List ℕ) → IsWord word → words_of (padded width word ++ 32 ∷ rest) ≡ word ∷ words_of rest
padded_word width word rest h = spaced_word (width - length word) word rest h
