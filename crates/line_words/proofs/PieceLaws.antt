-- The laws of a text in pieces: a piece may be cut anywhere, and the lines are those of the joined text.
use Rattle.std.proofs.Common.{◌≡◌, ℕ, suc, ◌+◌, ◌<◌, ◌≤◌, List, [], ◌∷◌, ◌++◌, Bool, true, false, Some, None, cond, length, take, drop, position, refl, sym, ap, ◌∙◌, arith, append_assoc, ◌≢◌, subst, inl, inr}
use Rattle.std.specs.List.{position_or_len, slice_split, onto_first, concat}
use Rattle.std.proofs.lemmas.List.{append-nil, length-append, take-append-drop, drop-drop}
use Rattle.std.specs.List.{All}
use Rattle.std.proofs.lemmas.List.Elements.{All-weaker}
use Rattle.std.proofs.lemmas.List.Splits.{slice_split_at, slice_split_none}
use Rattle.std.proofs.lemmas.List.Recursion.{is_position_or_len}
use Rattle.std.proofs.lemmas.Bool.{ltb-true, ltb-false}
use Rattle.std.proofs.lemmas.Bool.Decides.{leb_tells, nat_tests}
use Rattle.line_words.specs.Lines.{Line, is_lf, limited, ended_line, last_line, lines_from, lines_of}
use Rattle.line_words.specs.Pieces.{grown, pending_after, ended, lines_in_pieces}

-- A piece may be cut anywhere.

pending_step : (p q : Line) (xs ys : List ℕ) (t : Bool)
    → cond t (pending_after p (xs ++ ys)) (pending_after q (xs ++ ys)) ≡ cond t (pending_after (pending_after p xs) ys) (pending_after (pending_after q xs) ys)
    → cond t (pending_after p (xs ++ ys)) (pending_after q (xs ++ ys)) ≡ pending_after (cond t (pending_after p xs) (pending_after q xs)) ys
pending_step p q xs ys true h = h
pending_step p q xs ys false h = h

pub pending_after-append : (p : Line) (xs ys : List ℕ) → pending_after p (xs ++ ys) ≡ pending_after (pending_after p xs) ys
pending_after-append p [] ys = refl
pending_after-append p (b ∷ bs) ys =
    pending_step (Some []) (grown p (b ∷ [])) bs ys (is_lf b)
    (ap (λ q. cond (is_lf b) q (pending_after (grown p (b ∷ [])) (bs ++ ys))) (pending_after-append (Some []) bs ys) ∙ ap (λ q. cond (is_lf b) (pending_after (pending_after (Some []) bs) ys) q) (pending_after-append (grown p (b ∷ [])) bs ys))

ended_step : (p q r : Line) (xs ys : List ℕ) (t : Bool)
    → ended p (xs ++ ys) ≡ ended p xs ++ ended (pending_after p xs) ys → ended q (xs ++ ys) ≡ ended q xs ++ ended (pending_after q xs) ys
    → cond t (r ∷ ended p (xs ++ ys)) (ended q (xs ++ ys)) ≡ cond t (r ∷ ended p xs) (ended q xs) ++ ended (cond t (pending_after p xs) (pending_after q xs)) ys
ended_step p q r xs ys true h k = ap (λ ls. r ∷ ls) h
ended_step p q r xs ys false h k = k

pub ended-append : (p : Line) (xs ys : List ℕ) → ended p (xs ++ ys) ≡ ended p xs ++ ended (pending_after p xs) ys
ended-append p [] ys = refl
ended-append p (b ∷ bs) ys =
    ended_step (Some []) (grown p (b ∷ [])) (ended_line p) bs ys (is_lf b) (ended-append (Some []) bs ys) (ended-append (grown p (b ∷ [])) bs ys)

-- the same, at a place within a piece
pub ended_cut : (p : Line) (n : ℕ) (xs : List ℕ) → ended p xs ≡ ended p (take n xs) ++ ended (pending_after p (take n xs)) (drop n xs)
ended_cut p n xs = sym (ap (ended p) (take-append-drop n xs)) ∙ ended-append p (take n xs) (drop n xs)

pub pending_after_cut : (p : Line) (n : ℕ) (xs : List ℕ) → pending_after p xs ≡ pending_after (pending_after p (take n xs)) (drop n xs)
pending_after_cut p n xs = sym (ap (pending_after p) (take-append-drop n xs)) ∙ pending_after-append p (take n xs) (drop n xs)

-- the same, for a caller at a place of a piece whose reader has taken n bytes more, told these lines, and has q pending
pub ended_fed : (p q : Line) (told : List Line) (piece : List ℕ) (at n : ℕ) → told ≡ ended p (take n (drop at piece)) → q ≡ pending_after p (take n (drop at piece))
    → ended p (drop at piece) ≡ told ++ ended q (drop (at + n) piece)
ended_fed p q told piece at n t e = rw (t, e) (ended_cut p n (drop at piece) ∙ ap (λ rest. ended p (take n (drop at piece)) ++ ended (pending_after p (take n (drop at piece))) rest) (drop-drop n at piece))

pub pending_after_fed : (p q : Line) (piece : List ℕ) (at n : ℕ) → q ≡ pending_after p (take n (drop at piece)) → pending_after p (drop at piece) ≡ pending_after q (drop (at + n) piece)
pending_after_fed p q piece at n e = rw e (pending_after_cut p n (drop at piece) ∙ ap (pending_after (pending_after p (take n (drop at piece)))) (drop-drop n at piece))

-- What is pending grows by bytes without a line feed.

limited_in : (xs : List ℕ) → length xs ≤ 1024 → limited xs ≡ Some xs
limited_in xs h = grind (arith, nat_tests)

limited_out : (xs : List ℕ) → 1024 < length xs → limited xs ≡ None
limited_out xs h = grind (arith, nat_tests)

limited_more : (xs ys : List ℕ) → grown (limited xs) ys ≡ limited (xs ++ ys)
limited_more xs ys = elim (leb_tells (length xs) 1024) [
  | inl h ↦ ap (λ q. grown q ys) (limited_in xs h.1)
  | inr h ↦ ap (λ q. grown q ys) (limited_out xs h.1) ∙ sym (limited_out (xs ++ ys) (omega (arith, length-append xs ys)))
]

grown_more : (p : Line) (xs ys : List ℕ) → grown (grown p xs) ys ≡ grown p (xs ++ ys)
grown_more None xs ys = refl
grown_more (Some l) xs ys = limited_more (l ++ xs) ys ∙ ap limited (append_assoc l xs ys)

grown_whole : (p : Line) (xs : List ℕ) → grown (grown p xs) [] ≡ grown p xs
grown_whole p xs = grown_more p xs [] ∙ ap (grown p) (append-nil xs)

-- what is pending in a reader is no longer than a line may be
pub grown_none : (long : Bool) (xs : List ℕ) → length xs ≤ 1024 → grown (cond long None (Some xs)) [] ≡ cond long None (Some xs)
grown_none true xs h = refl
grown_none false xs h = ap limited (append-nil xs) ∙ limited_in xs h

-- A piece without a line feed ends no line, and one that ends with its first line feed ends one.

abbrev lf : List ℕ → ℕ
lf [] = 0
lf (b ∷ bs) = cond (is_lf b) 0 (suc (lf bs))

cond_some : (b : Bool) (x i : ℕ) → cond b (Some x) None ≡ Some i → (b ≡ true) × (x ≡ i)
cond_some true x i e = (refl, cc)
cond_some false x i e = absurd cc

cond_none : (b : Bool) (x : ℕ) → cond b (Some x) None ≡ None → b ≡ false
cond_none true x e = absurd cc
cond_none false x e = refl

-- where no line ends
pub record NoLine (p : Line) (xs : List ℕ) : Type 0 where
  pub lines : ended p xs ≡ []
  pub pending : pending_after p xs ≡ grown p xs

none_step : (p : Line) (b : ℕ) (bs : List ℕ) (t : Bool) → is_lf b ≡ t
    → (length bs ≤ lf bs → NoLine (grown p (b ∷ [])) bs)
    → suc (length bs) ≤ cond t 0 (suc (lf bs)) → NoLine p (b ∷ bs)
none_step p b bs true e ih h = absurd (omega arith)
none_step p b bs false e ih h = let r = ih (omega arith) in record { lines = rw e r.lines; pending = rw e (r.pending ∙ grown_more p (b ∷ []) bs) }

none_ends : (p : Line) (xs : List ℕ) → grown p [] ≡ p → length xs ≤ lf xs → NoLine p xs
none_ends p [] w h = record { lines = refl; pending = sym w }
none_ends p (b ∷ bs) w h = none_step p b bs (is_lf b) refl (none_ends (grown p (b ∷ [])) bs (grown_whole p (b ∷ []))) h

-- where one line ends, at a place
pub record OneLine (p : Line) (xs : List ℕ) (i : ℕ) : Type 0 where
  pub lines : ended p (take (suc i) xs) ≡ ended_line (grown p (take i xs)) ∷ []
  pub pending : pending_after p (take (suc i) xs) ≡ Some []

one_step : (p : Line) (b : ℕ) (bs : List ℕ) (t : Bool) → is_lf b ≡ t → grown p [] ≡ p
    → (lf bs < length bs → OneLine (grown p (b ∷ [])) bs (lf bs))
    → cond t 0 (suc (lf bs)) < suc (length bs) → OneLine p (b ∷ bs) (cond t 0 (suc (lf bs)))
one_step p b bs true e w ih h = record { lines = rw e (ap (λ q. ended_line q ∷ []) (sym w)); pending = rw e refl }
one_step p b bs false e w ih h =
    let r = ih (omega arith) in
    record { lines = rw e (r.lines ∙ ap (λ q. ended_line q ∷ []) (grown_more p (b ∷ []) (take (lf bs) bs))); pending = rw e r.pending }

one_ends : (p : Line) (xs : List ℕ) → grown p [] ≡ p → lf xs < length xs → OneLine p xs (lf xs)
one_ends p [] w h = absurd (omega arith)
one_ends p (b ∷ bs) w h = one_step p b bs (is_lf b) refl w (one_ends (grown p (b ∷ [])) bs (grown_whole p (b ∷ []))) h

one_more : (n : ℕ) → suc n ≡ 1 + n
one_more n = omega arith

lf_is : (xs : List ℕ) → lf xs ≡ position_or_len is_lf xs
lf_is xs = is_position_or_len lf is_lf refl (λ x xs. ap (cond (is_lf x) 0) (one_more (lf xs))) xs

pub no_line : (p : Line) (xs : List ℕ) → grown p [] ≡ p → position is_lf xs ≡ None → NoLine p xs
no_line p xs w h =
    let out = cond_none _ _ h in
    none_ends p xs w (let e = lf_is xs in let o = ltb-false (position_or_len is_lf xs) (length xs) out in omega arith)

pub one_line : (p : Line) (xs : List ℕ) (i : ℕ) → grown p [] ≡ p → position is_lf xs ≡ Some i → OneLine p xs i
one_line p xs i w h =
    let in_range = cond_some _ _ _ h in
    let e = lf_is xs in
    let at : lf xs ≡ i = e ∙ in_range.1 in
    subst (OneLine p xs) at (one_ends p xs w (let o = ltb-true (position_or_len is_lf xs) (length xs) in_range.0 in omega arith))

-- The lines that end piece by piece, and the last one, are the lines of the text.

-- bytes before the first of the parts
abbrev before : List ℕ → List (List ℕ) → List (List ℕ)
before xs [] = xs ∷ []
before xs (part ∷ parts) = (xs ++ part) ∷ parts

one_more_part : (x : ℕ) (parts : List (List ℕ)) → (first : List ℕ) × (rest : List (List ℕ)) × (onto_first x parts ≡ first ∷ rest)
one_more_part x [] = (x ∷ [], [], refl)
one_more_part x (part ∷ parts) = (x ∷ part, parts, refl)

some_part : (t : Bool) (x : ℕ) (parts : List (List ℕ)) → (first : List ℕ) × (rest : List (List ℕ)) × (cond t ([] ∷ parts) (onto_first x parts) ≡ first ∷ rest)
some_part true x parts = ([], parts, refl)
some_part false x parts = one_more_part x parts

-- a text has a first part
first_part : (xs : List ℕ) → (first : List ℕ) × (rest : List (List ℕ)) × (slice_split is_lf xs ≡ first ∷ rest)
first_part [] = ([], [], refl)
first_part (x ∷ xs) = some_part (is_lf x) x (slice_split is_lf xs)

next_part : (part xs : List ℕ) → lines_from (part ∷ slice_split is_lf xs) ≡ ended_line (limited part) ∷ lines_from (slice_split is_lf xs)
next_part part xs = let s = first_part xs in rw s.2 refl

before_none : (xs : List ℕ) → before [] (slice_split is_lf xs) ≡ slice_split is_lf xs
before_none xs = let s = first_part xs in rw s.2 refl

before_more : (xs : List ℕ) (x : ℕ) (parts : List (List ℕ)) → before (xs ++ x ∷ []) parts ≡ before xs (onto_first x parts)
before_more xs x [] = refl
before_more xs x (part ∷ parts) = ap (λ q. q ∷ parts) (append_assoc xs (x ∷ []) part)

-- the lines of a text whose first bytes are pending
abbrev lines_after : Line → List ℕ → List Line
lines_after p xs = ended p xs ++ last_line (pending_after p xs)

after_step : (xs : List ℕ) (b : ℕ) (bs : List ℕ) (t : Bool)
    → lines_after (Some []) bs ≡ lines_from (before [] (slice_split is_lf bs))
    → lines_after (limited (xs ++ b ∷ [])) bs ≡ lines_from (before (xs ++ b ∷ []) (slice_split is_lf bs))
    → cond t (ended_line (limited xs) ∷ ended (Some []) bs) (ended (grown (limited xs) (b ∷ [])) bs) ++ last_line (cond t (pending_after (Some []) bs) (pending_after (grown (limited xs) (b ∷ [])) bs))
    ≡ lines_from (before xs (cond t ([] ∷ slice_split is_lf bs) (onto_first b (slice_split is_lf bs))))
after_step xs b bs true new more =
    ap (λ ls. ended_line (limited xs) ∷ ls) (new ∙ ap lines_from (before_none bs)) ∙ (sym (next_part xs bs) ∙ ap (λ q. lines_from (q ∷ slice_split is_lf bs)) (sym (append-nil xs)))
after_step xs b bs false new more =
    ap (λ p. lines_after p bs) (limited_more xs (b ∷ [])) ∙ (more ∙ ap lines_from (before_more xs b (slice_split is_lf bs)))

lines_after_limited : (xs ys : List ℕ) → lines_after (limited xs) ys ≡ lines_from (before xs (slice_split is_lf ys))
lines_after_limited xs [] = ap (λ q. last_line (limited q)) (sym (append-nil xs))
lines_after_limited xs (b ∷ bs) = after_step xs b bs (is_lf b) (lines_after_limited [] bs) (lines_after_limited (xs ++ b ∷ []) bs)

-- the lines of a text are those that end in it, and the last one
pub lines_of_lem : (text : List ℕ) → lines_of text ≡ ended (Some []) text ++ last_line (pending_after (Some []) text)
lines_of_lem text = sym (lines_after_limited [] text ∙ ap lines_from (before_none text))

lines_in_pieces_step : (p : Line) (piece rest : List ℕ)
    → ended p piece ++ lines_after (pending_after p piece) rest ≡ lines_after p (piece ++ rest)
lines_in_pieces_step p piece rest =
    sym (append_assoc (ended p piece) (ended (pending_after p piece) rest) (last_line (pending_after (pending_after p piece) rest)))
    ∙ (ap (λ ls. ls ++ last_line (pending_after (pending_after p piece) rest)) (sym (ended-append p piece rest))
    ∙ ap (λ q. ended p (piece ++ rest) ++ last_line q) (sym (pending_after-append p piece rest)))

lines_in_pieces_after : (p : Line) (pieces : List (List ℕ)) → lines_in_pieces p pieces ≡ lines_after p (concat pieces)
lines_in_pieces_after p [] = refl
lines_in_pieces_after p (piece ∷ pieces) =
    ap (λ ls. ended p piece ++ ls) (lines_in_pieces_after (pending_after p piece) pieces) ∙ lines_in_pieces_step p piece (concat pieces)

-- however a text is cut, its lines are the same
pub lines_in_pieces_lem : (pieces : List (List ℕ)) → lines_in_pieces (Some []) pieces ≡ lines_of (concat pieces)
lines_in_pieces_lem pieces = lines_in_pieces_after (Some []) pieces ∙ sym (lines_of_lem (concat pieces))

-- What stands between line feeds.

not_lf : (front : List ℕ) → All (λ byte. byte ≢ 10) front → All (λ byte. is_lf byte ≡ false) front
not_lf front h = All-weaker (λ byte. byte ≢ 10) (λ byte. is_lf byte ≡ false) (λ byte other. grind (arith, nat_tests)) front h

pub lines_of-line : (front rest : List ℕ) → All (λ byte. byte ≢ 10) front → lines_of (front ++ 10 ∷ rest) ≡ ended_line (limited front) ∷ lines_of rest
lines_of-line front rest h = ap lines_from (slice_split_at is_lf front 10 rest (not_lf front h) refl) ∙ next_part front rest

pub lines_of-last : (front : List ℕ) → All (λ byte. byte ≢ 10) front → lines_of front ≡ last_line (limited front)
lines_of-last front h = ap lines_from (slice_split_none is_lf front (not_lf front h))
