-- Lines that end in bytes which come piece by piece.
use Rattle.std.proofs.Common.{◌≡◌, ℕ, suc, ◌+◌, ◌-◌, ◌<◌, ◌≤◌, min, List, [], ◌∷◌, ◌++◌, Bool, true, false, Some, None, cond, length, take, position, refl, sym, ap, ◌∙◌, arith, append_assoc, subst, inl, inr}
use Rattle.std.proofs.lemmas.List.{append-nil, take_all, take-append-le, take-take, length-take, length-take-le}
use Rattle.std.specs.List.{position_or_len}
use Rattle.std.proofs.lemmas.List.Recursion.{is_position_or_len}
use Rattle.std.proofs.lemmas.Bool.{ltb-true, ltb-false, cases_lt}
use Rattle.line_words.specs.Lines.{is_lf}
use Rattle.line_words.specs.declared.TheConstants.{MAX_LINE}
use Rattle.seat_lines.specs.Sayings.{saying_of}
use Rattle.seat_lines.specs.Texts.{shortened, ended, pending_after}
use Rattle.seat_lines.specs.Seats.{SeatState, bytes_come, line_comes, lines_come, said, with_pending}
use Rattle.seat_lines.specs.declared.saying.Saying.{Saying}
use Rattle.seat_lines.specs.declared.saying.Saying.TheVariants.{Leave, Got, Nothing}
use Rattle.seat_lines.specs.Runs.{for_session, left_after, of_session}

pending_step : (p q xs ys : List ℕ) (t : Bool)
    → pending_after p (xs ++ ys) ≡ pending_after (pending_after p xs) ys → pending_after q (xs ++ ys) ≡ pending_after (pending_after q xs) ys
    → cond t (pending_after p (xs ++ ys)) (pending_after q (xs ++ ys)) ≡ pending_after (cond t (pending_after p xs) (pending_after q xs)) ys
pending_step p q xs ys true h k = h
pending_step p q xs ys false h k = k

pub pending_after-append : (p xs ys : List ℕ) → pending_after p (xs ++ ys) ≡ pending_after (pending_after p xs) ys
pending_after-append p [] ys = refl
pending_after-append p (b ∷ bs) ys =
    pending_step [] (shortened (p ++ b ∷ [])) bs ys (is_lf b) (pending_after-append [] bs ys) (pending_after-append (shortened (p ++ b ∷ [])) bs ys)

ended_step : (p q r xs ys : List ℕ) (t : Bool)
    → ended p (xs ++ ys) ≡ ended p xs ++ ended (pending_after p xs) ys → ended q (xs ++ ys) ≡ ended q xs ++ ended (pending_after q xs) ys
    → cond t (r ∷ ended p (xs ++ ys)) (ended q (xs ++ ys)) ≡ cond t (r ∷ ended p xs) (ended q xs) ++ ended (cond t (pending_after p xs) (pending_after q xs)) ys
ended_step p q r xs ys true h k = ap (λ ls. r ∷ ls) h
ended_step p q r xs ys false h k = k

pub ended-append : (p xs ys : List ℕ) → ended p (xs ++ ys) ≡ ended p xs ++ ended (pending_after p xs) ys
ended-append p [] ys = refl
ended-append p (b ∷ bs) ys =
    ended_step [] (shortened (p ++ b ∷ [])) p bs ys (is_lf b) (ended-append [] bs ys) (ended-append (shortened (p ++ b ∷ [])) bs ys)

-- ---- for the session

abbrev pub left_all : Bool → List (List ℕ) → Bool
left_all left [] = left
left_all left (l ∷ ls) = left_all (left_after left (saying_of l)) ls

pub left_all-append : (left : Bool) (xs ys : List (List ℕ)) → left_all left (xs ++ ys) ≡ left_all (left_all left xs) ys
left_all-append left [] ys = refl
left_all-append left (x ∷ xs) ys = left_all-append (left_after left (saying_of x)) xs ys

pub for_session-append : (left : Bool) (xs ys : List (List ℕ)) → for_session left (xs ++ ys) ≡ for_session left xs ++ for_session (left_all left xs) ys
for_session-append left [] ys = refl
for_session-append left (x ∷ xs) ys =
    ap (λ q. of_session left (saying_of x) x ++ q) (for_session-append (left_after left (saying_of x)) xs ys)
    ∙ sym (append_assoc (of_session left (saying_of x) x) (for_session (left_after left (saying_of x)) xs) (for_session (left_all (left_after left (saying_of x)) xs) ys))

-- ---- what is pending grows by bytes without a line feed

front_more : (n : ℕ) (xs ys : List ℕ) → take n (take n xs ++ ys) ≡ take n (xs ++ ys)
front_more n xs ys = elim (cases_lt (length xs) n) [
  | inl h ↦ ap (λ q. take n (q ++ ys)) (take_all n xs (omega (arith, h)))
  | inr h ↦
      take-append-le n (take n xs) ys (omega (arith, length-take-le n xs h))
      ∙ (take-take n n xs (omega arith) ∙ sym (take-append-le n xs ys h))
]

pub grown_more : (p xs ys : List ℕ) → shortened (shortened (p ++ xs) ++ ys) ≡ shortened (p ++ (xs ++ ys))
grown_more p xs ys = front_more (MAX_LINE + 1) (p ++ xs) ys ∙ ap shortened (append_assoc p xs ys)

all_of : (n : ℕ) (p : List ℕ) → length p ≤ n → take n (p ++ []) ≡ p
all_of n p h = ap (take n) (append-nil p) ∙ take_all n p h

pub grown_none : (p : List ℕ) → length p ≤ MAX_LINE + 1 → shortened (p ++ []) ≡ p
grown_none p h = all_of (MAX_LINE + 1) p h

at_most : (n : ℕ) (p : List ℕ) → length (take n p) ≤ n
at_most n p = omega (arith, length-take n p)

no_more : (k : ℕ) → 0 + k ≡ k
no_more k = omega arith

one_longer : (n k : ℕ) → suc n + k ≡ suc (n + k)
one_longer n k = omega arith

the_less : (k n : ℕ) → k ≤ n → min n k ≡ k
the_less k n h = omega (arith, h)

all_room : (most n : ℕ) → n ≤ most → n + (most - n) ≡ most
all_room most n h = omega (arith, h)

take_over : (k : ℕ) (p more : List ℕ) → take (length p + k) (p ++ more) ≡ p ++ take k more
take_over k [] more = ap (λ m. take m more) (no_more k)
take_over k (x ∷ p) more = ap (λ m. take m (x ∷ (p ++ more))) (one_longer (length p) k) ∙ ap (λ q. x ∷ q) (take_over k p more)

take_least : (k : ℕ) (more : List ℕ) → take (min (length more) k) more ≡ take k more
take_least k more = elim (cases_lt (length more) k) [
  | inl h ↦ take_all (min (length more) k) more (omega (arith, h)) ∙ sym (take_all k more (omega (arith, h)))
  | inr h ↦ ap (λ m. take m more) (the_less k (length more) h)
]

-- as many bytes as there is room for
filled : (most n : ℕ) (p more : List ℕ) → length p ≤ most → n ≡ min (length more) (most - length p) → p ++ take n more ≡ take most (p ++ more)
filled most n p more h e =
    ap (λ m. p ++ take m more) e
    ∙ (ap (λ q. p ++ q) (take_least (most - length p) more)
    ∙ (sym (take_over (most - length p) p more) ∙ ap (λ m. take m (p ++ more)) (all_room most (length p) h)))

pub kept_so : (n : ℕ) (p more : List ℕ) → length p ≤ MAX_LINE + 1 → n ≡ min (length more) (MAX_LINE + 1 - length p) → p ++ take n more ≡ shortened (p ++ more)
kept_so n p more h e = filled (MAX_LINE + 1) n p more h e

pub shortened_short : (p : List ℕ) → length (shortened p) ≤ MAX_LINE + 1
shortened_short p = at_most (MAX_LINE + 1) p

-- ---- a piece without a line feed ends no line, and one that ends with its first line feed ends one

abbrev lf : List ℕ → ℕ
lf [] = 0
lf (b ∷ bs) = cond (is_lf b) 0 (suc (lf bs))

cond_some : (b : Bool) (x i : ℕ) → cond b (Some x) None ≡ Some i → (b ≡ true) × (x ≡ i)
cond_some true x i e = (refl, cc)
cond_some false x i e = absurd cc

cond_none : (b : Bool) (x : ℕ) → cond b (Some x) None ≡ None → b ≡ false
cond_none true x e = absurd cc
cond_none false x e = refl

pub record NoLine (p : List ℕ) (xs : List ℕ) : Type 0 where
  pub lines : ended p xs ≡ []
  pub pending : pending_after p xs ≡ shortened (p ++ xs)

none_step : (p : List ℕ) (b : ℕ) (bs : List ℕ) (t : Bool) → is_lf b ≡ t
    → (length bs ≤ lf bs → NoLine (shortened (p ++ b ∷ [])) bs)
    → suc (length bs) ≤ cond t 0 (suc (lf bs)) → NoLine p (b ∷ bs)
none_step p b bs true e ih h = absurd (omega arith)
none_step p b bs false e ih h = let r = ih (omega arith) in record { lines = rw e r.lines; pending = rw e (r.pending ∙ grown_more p (b ∷ []) bs) }

none_ends : (p : List ℕ) (xs : List ℕ) → length p ≤ MAX_LINE + 1 → length xs ≤ lf xs → NoLine p xs
none_ends p [] w h = record { lines = refl; pending = sym (grown_none p w) }
none_ends p (b ∷ bs) w h = none_step p b bs (is_lf b) refl (none_ends (shortened (p ++ b ∷ [])) bs (shortened_short (p ++ b ∷ []))) h

pub record OneLine (p : List ℕ) (xs : List ℕ) (i : ℕ) : Type 0 where
  pub lines : ended p (take (suc i) xs) ≡ shortened (p ++ take i xs) ∷ []
  pub pending : pending_after p (take (suc i) xs) ≡ []

one_step : (p : List ℕ) (b : ℕ) (bs : List ℕ) (t : Bool) → is_lf b ≡ t → length p ≤ MAX_LINE + 1
    → (lf bs < length bs → OneLine (shortened (p ++ b ∷ [])) bs (lf bs))
    → cond t 0 (suc (lf bs)) < suc (length bs) → OneLine p (b ∷ bs) (cond t 0 (suc (lf bs)))
one_step p b bs true e w ih h = record { lines = rw e (ap (λ q. q ∷ []) (sym (grown_none p w))); pending = rw e refl }
one_step p b bs false e w ih h =
    let r = ih (omega arith) in
    record { lines = rw e (r.lines ∙ ap (λ q. q ∷ []) (grown_more p (b ∷ []) (take (lf bs) bs))); pending = rw e r.pending }

one_ends : (p : List ℕ) (xs : List ℕ) → length p ≤ MAX_LINE + 1 → lf xs < length xs → OneLine p xs (lf xs)
one_ends p [] w h = absurd (omega arith)
one_ends p (b ∷ bs) w h = one_step p b bs (is_lf b) refl w (one_ends (shortened (p ++ b ∷ [])) bs (shortened_short (p ++ b ∷ []))) h

one_further : (n : ℕ) → suc n ≡ 1 + n
one_further n = omega arith

lf_is : (xs : List ℕ) → lf xs ≡ position_or_len is_lf xs
lf_is xs = is_position_or_len lf is_lf refl (λ x xs. ap (cond (is_lf x) 0) (one_further (lf xs))) xs

pub no_line : (p : List ℕ) (xs : List ℕ) → length p ≤ MAX_LINE + 1 → position is_lf xs ≡ None → NoLine p xs
no_line p xs w h =
    let out = cond_none _ _ h in
    none_ends p xs w (let e = lf_is xs in let o = ltb-false (position_or_len is_lf xs) (length xs) out in omega arith)

pub one_line : (p : List ℕ) (xs : List ℕ) (i : ℕ) → length p ≤ MAX_LINE + 1 → position is_lf xs ≡ Some i → OneLine p xs i
one_line p xs i w h =
    let in_range = cond_some _ _ _ h in
    let e = lf_is xs in
    let at : lf xs ≡ i = e ∙ in_range.1 in
    subst (OneLine p xs) at (one_ends p xs w (let o = ltb-true (position_or_len is_lf xs) (length xs) in_range.0 in omega arith))

-- ---- bytes that come to a seat

same_pending : (s : SeatState) (p q line : List ℕ) (w : Saying)
    → with_pending q (said w line (with_pending p s)) ≡ with_pending q (said w line s)
same_pending s p q line Leave = refl
same_pending s p q line (Got n) = refl
same_pending s p q line Nothing = refl

same_line : (s : SeatState) (p q line : List ℕ) (b : Bool)
    → with_pending q (cond b (with_pending p s) (said (saying_of line) line (with_pending p s))) ≡ with_pending q (cond b s (said (saying_of line) line s))
same_line s p q line true = refl
same_line s p q line false = same_pending s p q line (saying_of line)

pub came_none : (s : SeatState) (piece : List ℕ) → length s.pending ≤ MAX_LINE + 1 → position is_lf piece ≡ None
    → with_pending (shortened (s.pending ++ piece)) s ≡ bytes_come (take (length piece) piece) s
came_none s piece w h =
    let n = no_line s.pending piece w h in
    sym (ap (λ q. bytes_come q s) (take_all (length piece) piece (omega arith))
    ∙ (ap (λ q. with_pending q (lines_come (ended s.pending piece) s)) n.pending
    ∙ ap (λ ls. with_pending (shortened (s.pending ++ piece)) (lines_come ls s)) n.lines))

one_come : (s : SeatState) (bytes p : List ℕ) → ended s.pending bytes ≡ p ∷ [] → pending_after s.pending bytes ≡ []
    → with_pending [] (line_comes p (with_pending p s)) ≡ bytes_come bytes s
one_come s bytes p lines pending =
    same_line s p [] p s.has_left
    ∙ sym (ap (λ q. with_pending q (lines_come (ended s.pending bytes) s)) pending ∙ ap (λ ls. with_pending [] (lines_come ls s)) lines)

one_after : (i : ℕ) → i + 1 ≡ suc i
one_after i = omega arith

pub came_one : (s : SeatState) (piece : List ℕ) (i : ℕ) → length s.pending ≤ MAX_LINE + 1 → position is_lf piece ≡ Some i
    → with_pending [] (line_comes (shortened (s.pending ++ take i piece)) (with_pending (shortened (s.pending ++ take i piece)) s)) ≡ bytes_come (take (i + 1) piece) s
came_one s piece i w h =
    let o = one_line s.pending piece i w h in
    rw (one_after i) (one_come s (take (suc i) piece) (shortened (s.pending ++ take i piece)) o.lines o.pending)
