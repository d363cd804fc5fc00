-- Laws of texts of lines.
use Rattle.std.proofs.Common.{◌≡◌, ℕ, zero, suc, ◌+◌, ◌-◌, ◌≤◌, List, [], ◌∷◌, ◌++◌, Bool, true, false, cond, length, take, drop, refl, sym, ap, ◌∙◌, arith, append_assoc}
use Rattle.std.proofs.lemmas.List.{length-append, length-drop, take-append-drop, drop-append-le, drop-drop}
use Rattle.line_words.specs.Lines.{is_lf}
use Rattle.seat_lines.specs.Texts.{lines_in, after_lines, bytes_of_lines, text_of}

-- ---- how many lines end in a text

in_step : (t : Bool) (m n k : ℕ) → m ≡ n + k → cond t (suc m) m ≡ cond t (suc n) n + k
in_step true m n k h = omega (arith, h)
in_step false m n k h = h

pub lines_in-append : (xs ys : List ℕ) → lines_in (xs ++ ys) ≡ lines_in xs + lines_in ys
lines_in-append [] ys = omega arith
lines_in-append (b ∷ bs) ys = in_step (is_lf b) _ _ _ (lines_in-append bs ys)

pub lines_in-take : (n : ℕ) (xs : List ℕ) → lines_in (take n xs) ≤ lines_in xs
lines_in-take n xs = omega (arith, lines_in-append (take n xs) (drop n xs), ap lines_in (take-append-drop n xs))

-- ---- what stands after lines

length_step : (t : Bool) (m n : ℕ) → m ≤ n → cond t (suc m) m ≤ suc n
length_step true m n h = omega (arith, h)
length_step false m n h = omega (arith, h)

pub lines_in-length : (xs : List ℕ) → lines_in xs ≤ length xs
lines_in-length [] = omega arith
lines_in-length (b ∷ bs) = length_step (is_lf b) _ _ (lines_in-length bs)

pub after_none : (n : ℕ) → after_lines n [] ≡ []
after_none zero = refl
after_none (suc n) = refl

append_step : (t : Bool) (n : ℕ) (bs ys : List ℕ)
    → (n ≤ lines_in bs → after_lines n (bs ++ ys) ≡ after_lines n bs ++ ys)
    → (suc n ≤ lines_in bs → after_lines (suc n) (bs ++ ys) ≡ after_lines (suc n) bs ++ ys)
    → suc n ≤ cond t (suc (lines_in bs)) (lines_in bs)
    → cond t (after_lines n (bs ++ ys)) (after_lines (suc n) (bs ++ ys)) ≡ cond t (after_lines n bs) (after_lines (suc n) bs) ++ ys
append_step true n bs ys now later h = now (omega (arith, h))
append_step false n bs ys now later h = later h

pub after_lines-append : (n : ℕ) (xs ys : List ℕ) → n ≤ lines_in xs → after_lines n (xs ++ ys) ≡ after_lines n xs ++ ys
after_lines-append zero xs ys h = refl
after_lines-append (suc n) [] ys h = absurd (omega (arith, h))
after_lines-append (suc n) (b ∷ bs) ys h = append_step (is_lf b) n bs ys (after_lines-append n bs ys) (after_lines-append (suc n) bs ys) h

twice_step : (t : Bool) (m n : ℕ) (bs : List ℕ)
    → after_lines n (after_lines m bs) ≡ after_lines (m + n) bs
    → after_lines n (after_lines (suc m) bs) ≡ after_lines (suc m + n) bs
    → after_lines n (cond t (after_lines m bs) (after_lines (suc m) bs)) ≡ cond t (after_lines (m + n) bs) (after_lines (suc m + n) bs)
twice_step true m n bs now later = now
twice_step false m n bs now later = later

one_more : (m n : ℕ) → suc m + n ≡ suc (m + n)
one_more m n = omega arith

none_and : (n : ℕ) → n ≡ 0 + n
none_and n = omega arith

pub after_lines-twice : (m n : ℕ) (xs : List ℕ) → after_lines n (after_lines m xs) ≡ after_lines (m + n) xs
after_lines-twice zero n xs = ap (λ k. after_lines k xs) (none_and n)
after_lines-twice (suc m) n [] = after_none n ∙ sym (after_none (suc m + n))
after_lines-twice (suc m) n (b ∷ bs) =
    twice_step (is_lf b) m n bs (after_lines-twice m n bs) (after_lines-twice (suc m) n bs)
    ∙ (ap (λ k. cond (is_lf b) (after_lines (m + n) bs) (after_lines k bs)) (one_more m n)
    ∙ sym (ap (λ k. after_lines k (b ∷ bs)) (one_more m n)))

left_step : (t : Bool) (n : ℕ) (bs : List ℕ)
    → (n ≤ lines_in bs → lines_in (after_lines n bs) + n ≡ lines_in bs)
    → (suc n ≤ lines_in bs → lines_in (after_lines (suc n) bs) + suc n ≡ lines_in bs)
    → suc n ≤ cond t (suc (lines_in bs)) (lines_in bs)
    → lines_in (cond t (after_lines n bs) (after_lines (suc n) bs)) + suc n ≡ cond t (suc (lines_in bs)) (lines_in bs)
left_step true n bs now later h = omega (arith, now (omega (arith, h)))
left_step false n bs now later h = later h

pub lines_in-after : (n : ℕ) (xs : List ℕ) → n ≤ lines_in xs → lines_in (after_lines n xs) + n ≡ lines_in xs
lines_in-after zero xs h = omega arith
lines_in-after (suc n) [] h = absurd (omega (arith, h))
lines_in-after (suc n) (b ∷ bs) h = left_step (is_lf b) n bs (lines_in-after n bs) (lines_in-after (suc n) bs) h

-- ---- what stands after lines stands after so many bytes

pub record IsRest (xs ys : List ℕ) : Type 0 where
  pub count : ℕ
  pub within : count ≤ length xs
  pub rest : drop count xs ≡ ys

further : (b : ℕ) (bs ys : List ℕ) → IsRest bs ys → IsRest (b ∷ bs) ys
further b bs ys r = record { count = suc r.count; within = omega (arith, r.within); rest = r.rest }

rest_step : (t : Bool) (b n : ℕ) (bs : List ℕ) → IsRest bs (after_lines n bs) → IsRest bs (after_lines (suc n) bs)
    → IsRest (b ∷ bs) (cond t (after_lines n bs) (after_lines (suc n) bs))
rest_step true b n bs now later = further b bs _ now
rest_step false b n bs now later = further b bs _ later

pub is_rest : (n : ℕ) (xs : List ℕ) → IsRest xs (after_lines n xs)
is_rest zero xs = record { count = 0; within = omega arith; rest = refl }
is_rest (suc n) [] = record { count = 0; within = omega arith; rest = refl }
is_rest (suc n) (b ∷ bs) = rest_step (is_lf b) b n bs (is_rest n bs) (is_rest (suc n) bs)

count_of : (xs ys : List ℕ) (r : IsRest xs ys) → length xs - length ys ≡ r.count
count_of xs ys r = omega (arith, length-drop r.count xs, ap length r.rest, r.within)

pub drop_lines : (n : ℕ) (xs : List ℕ) → drop (bytes_of_lines n xs) xs ≡ after_lines n xs
drop_lines n xs = let r = is_rest n xs in ap (λ k. drop k xs) (count_of xs _ r) ∙ r.rest

pub bytes_within : (n : ℕ) (xs : List ℕ) → bytes_of_lines n xs ≤ length xs
bytes_within n xs = omega arith

pub length_after : (n : ℕ) (xs : List ℕ) → length (after_lines n xs) + bytes_of_lines n xs ≡ length xs
length_after n xs = let r = is_rest n xs in omega (arith, length-drop r.count xs, ap length r.rest, r.within)

-- where so many bytes are those lines
pub bytes_are : (n k : ℕ) (xs : List ℕ) → k ≤ length xs → drop k xs ≡ after_lines n xs → k ≡ bytes_of_lines n xs
bytes_are n k xs h e = omega (arith, length-drop k xs, ap length e, h)

-- ---- lines that end in a front of a text

pub lines_of_front : (n s : ℕ) (xs : List ℕ) → n ≤ lines_in (take s xs) → after_lines n xs ≡ after_lines n (take s xs) ++ drop s xs
lines_of_front n s xs h = sym (ap (after_lines n) (take-append-drop s xs)) ∙ after_lines-append n (take s xs) (drop s xs) h

pub bytes_of_front : (n s : ℕ) (xs : List ℕ) → n ≤ lines_in (take s xs) → bytes_of_lines n xs ≤ s
bytes_of_front n s xs h =
    omega (arith, ap length (lines_of_front n s xs h), length-append (after_lines n (take s xs)) (drop s xs), length-drop s xs)

together : (s k : ℕ) → k ≤ s → k + (s - k) ≡ s
together s k h = omega (arith, h)

pub drop_front_lines : (n s : ℕ) (xs : List ℕ) → n ≤ lines_in (take s xs) → drop (s - bytes_of_lines n xs) (after_lines n xs) ≡ drop s xs
drop_front_lines n s xs h =
    let k = bytes_of_lines n xs in
    ap (drop (s - k)) (sym (drop_lines n xs)) ∙ (drop-drop (s - k) k xs ∙ ap (λ m. drop m xs) (together s k (bytes_of_front n s xs h)))

-- the same lines of the text, where so many bytes of the front are those of the front
pub front_rest : (n k s : ℕ) (xs : List ℕ) → n ≤ lines_in (take s xs) → k ≤ length (take s xs) → drop k (take s xs) ≡ after_lines n (take s xs)
    → drop k xs ≡ after_lines n xs
front_rest n k s xs h w e =
    sym (ap (drop k) (take-append-drop s xs)) ∙ (drop-append-le k (take s xs) (drop s xs) w ∙ (ap (λ q. q ++ drop s xs) e ∙ sym (lines_of_front n s xs h)))

-- ---- lines as a text

pub text_of-append : (ls ms : List (List ℕ)) → text_of (ls ++ ms) ≡ text_of ls ++ text_of ms
text_of-append [] ms = refl
text_of-append (l ∷ ls) ms = ap (λ q. (l ++ 10 ∷ []) ++ q) (text_of-append ls ms) ∙ sym (append_assoc (l ++ 10 ∷ []) (text_of ls) (text_of ms))
