-- Lines and records in bytes: where a line ends, and that bytes begin with one record at most.
use Rattle.std.proofs.Common.{◌≡◌, ◌≢◌, ◌↔◌, IsTrue, ℕ, zero, suc, ◌+◌, ◌<◌, ◌≤◌, List, [], ◌∷◌, ◌++◌}
use Rattle.std.proofs.Common.{Bool, true, false, true≢false, Some, None, cond, length, take, drop, get_or}
use Rattle.std.proofs.Common.{position, refl, sym, ◌∙◌, ap, subst, arith, append_assoc}
use Rattle.std.specs.List.{position_or_len, AllByRecursion}
use Rattle.std.proofs.lemmas.Bool.{ltb-false}
use Rattle.std.proofs.lemmas.Bool.Decides.{nat_tests}
use Rattle.std.proofs.lemmas.List.{flat_map_more, take-append-drop, drop_more, drop-drop, length-take-le}
use Rattle.std.proofs.lemmas.List.Quantifiers.{position-Some}
use Rattle.std.proofs.lemmas.List.Sums.{fails_before_first}
use Rattle.journal_file.specs.Layout.{IsLine, record_of, records_of}
use Rattle.journal_file.specs.Reading.{is_lf}

-- no line feed among these
abbrev pub NoFeed : List ℕ → Type 0
NoFeed xs = AllByRecursion (λ byte. byte ≢ 10) xs

not_lf : (x : ℕ) → is_lf x ≡ false → x ≢ 10
not_lf x off is = Prim.grind (arith, nat_tests, off, is)

pub is_feed : (x : ℕ) → is_lf x ≡ true → x ≡ 10
is_feed x on = Prim.grind (arith, nat_tests, on)

pub no_feed : (xs : List ℕ) (i : ℕ) → i ≤ length xs → ((k : ℕ) → k < i → is_lf (get_or xs k 0) ≡ false)
    → NoFeed (take i xs)
no_feed xs zero le h = tt
no_feed [] (suc i) le h = absurd (omega (arith, le))
no_feed (x ∷ xs) (suc i) le h = (
  not_lf x (h 0 (omega arith)),
  no_feed xs i (omega (arith, le))
      (λ k l. h (suc k) (omega (arith, l))),
)

pub no_feed_all : (xs : List ℕ) → position is_lf xs ≡ None → NoFeed xs
no_feed_all xs none =
    let out = ltb-false (position_or_len is_lf xs) (length xs) (cond_out _ _ none) in
    subst NoFeed (take_whole xs) (no_feed xs (length xs) (omega arith)
    (λ k l. fails_before_first is_lf xs k 0 (omega (arith, out, l))))
  where
    cond_out : (b : Bool) (i : ℕ) → cond b (Some i) None ≡ None → b ≡ false
    cond_out true i e = Prim.grind (arith, e)
    cond_out false i e = refl

    take_whole : (ys : List ℕ) → take (length ys) ys ≡ ys
    take_whole [] = refl
    take_whole (y ∷ ys) = ap (λ l. y ∷ l) (take_whole ys)

-- the bytes up to a line feed, and what is behind it
pub at_feed : (xs : List ℕ) (i : ℕ) → i < length xs → is_lf (get_or xs i 0) ≡ true → xs ≡ take i xs
    ++ 10 ∷ drop (i + 1) xs
at_feed xs i lt on =
    sym (take-append-drop i xs) ∙ ap (λ t. take i xs ++ t) (drop_more xs i 0 lt ∙ ap (λ b. b ∷ drop (i + 1) xs)
    (is_feed (get_or xs i 0) on))

-- one line ends where the other does
pub same_line : (l m xs ys : List ℕ) → NoFeed l → NoFeed m → l ++ 10 ∷ xs ≡ m ++ 10 ∷ ys → (l ≡ m) × (xs ≡ ys)
same_line [] [] xs ys nl nm e = (refl, ap tail e)
  where
    tail : List ℕ → List ℕ
    tail [] = []
    tail (z ∷ zs) = zs
same_line [] (y ∷ m) xs ys nl nm e = absurd (nm.0 (sym (ap head e)))
  where
    head : List ℕ → ℕ
    head [] = 0
    head (z ∷ zs) = z
same_line (x ∷ l) [] xs ys nl nm e = absurd (nl.0 (ap head e))
  where
    head : List ℕ → ℕ
    head [] = 0
    head (z ∷ zs) = z
same_line (x ∷ l) (y ∷ m) xs ys nl nm e =
    let r = same_line l m xs ys nl.1 nm.1 (ap tail e) in
    (let h : x ≡ y = ap head e in ap (λ z. z ∷ l) h ∙ ap (λ t. y ∷ t) r.0, r.1)
  where
    tail : List ℕ → List ℕ
    tail [] = []
    tail (z ∷ zs) = zs

    head : List ℕ → ℕ
    head [] = 0
    head (z ∷ zs) = z

no_end : (m ys : List ℕ) → NoFeed (m ++ 10 ∷ ys) → ⊥
no_end [] ys n = n.0 refl
no_end (y ∷ m) ys n = no_end m ys n.1

-- bytes without a line feed begin with no line
pub no_feed_no_line : (xs m ys : List ℕ) → NoFeed xs → xs ≡ m ++ 10 ∷ ys → ⊥
no_feed_no_line xs m ys n e = no_end m ys (subst NoFeed e n)

pub all_push : {A : Type 0} (P : A → Type 0) (xs : List A) (x : A) → AllByRecursion P xs → P x
    → AllByRecursion P (xs ++ x ∷ [])
all_push P [] x h p = (p, tt)
all_push P (y ∷ xs) x h p = (h.0, all_push P xs x h.1 p)

pub all_append : {A : Type 0} (P : A → Type 0) (xs ys : List A) → AllByRecursion P xs → AllByRecursion P ys
    → AllByRecursion P (xs ++ ys)
all_append P [] ys h p = p
all_append P (x ∷ xs) ys h p = (h.0, all_append P xs ys h.1 p)

-- one record more
pub records_push : (lines : List (List ℕ)) (line rest : List ℕ) → records_of lines
    ++ (record_of line ++ rest) ≡ records_of (lines ++ line ∷ []) ++ rest
records_push lines line rest = sym (append_assoc (records_of lines) (record_of line) rest)
    ∙ ap (λ t. t ++ rest) (flat_map_more record_of [] lines line)

-- the record and what is behind it
pub record_split : (line rest : List ℕ) → record_of line ++ rest ≡ 43 ∷ (line ++ 10 ∷ rest)
record_split line rest = ap (λ t. 43 ∷ t) (append_assoc line (10 ∷ []) rest)

-- ---- a line and its line feed

-- the line that ends at the first line feed
pub line_at : (xs : List ℕ) (i : ℕ) → position is_lf xs ≡ Some i → NoFeed (take i xs)
    × (xs ≡ take i xs ++ 10 ∷ drop (i + 1) xs)
line_at xs i e =
    let p = position-Some is_lf xs i 0 e in
    (no_feed xs i (omega (arith, p.0)) p.2, at_feed xs i p.0 p.1)

pub is_line_at : (xs : List ℕ) (i : ℕ) → position is_lf xs ≡ Some i → i < length xs → 0 < i → i ≤ 1024
    → IsLine (take i xs) × (xs ≡ take i xs ++ 10 ∷ drop 1 (drop i xs))
is_line_at xs i e lt some most =
    let l = line_at xs i e in
    let n = length-take-le i xs (omega (arith, lt)) in (
      record { some = omega (arith, n, some); most = omega (arith, n, most); one = l.0 },
      l.1
          ∙ ap (λ t. take i xs ++ 10 ∷ t) (sym (drop-drop 1 i xs)),
    )

-- any line that begins these bytes ends there
pub ends_there : (xs : List ℕ) (i : ℕ) → position is_lf xs ≡ Some i → (line after : List ℕ) → IsLine line → xs ≡ line
    ++ 10 ∷ after → length line ≡ i
ends_there xs i e line after is at =
    let p = position-Some is_lf xs i 0 e in
    let l = line_at xs i e in
    let s = same_line (take i xs) line (drop (i + 1) xs) after l.0 is.one (sym l.1 ∙ at) in
    ap length (sym s.0) ∙ length-take-le i xs (omega (arith, p.0))

-- bytes with a line feed are no line
pub no_line : (xs : List ℕ) (i : ℕ) → position is_lf xs ≡ Some i → IsTrue false ↔ IsLine xs
no_line xs i e = (λ y. absurd (true≢false (sym y)), λ is. absurd (without is))
  where
    without : IsLine xs → ⊥
    without is = no_feed_no_line xs (take i xs) (drop (i + 1) xs) is.one (line_at xs i e).1

-- bytes without one are a line where they are some and not too many
pub whole_line : (xs : List ℕ) (b : Bool) → position is_lf xs ≡ None → IsTrue b ↔ (0 < length xs) × (length xs ≤ 1024)
    → IsTrue b ↔ IsLine xs
whole_line xs b none h = (
  λ y. record { some = (h.0 y).0; most = (h.0 y).1; one = no_feed_all xs none },
  λ is. h.1 (is.some, is.most),
)
