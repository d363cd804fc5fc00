-- A batch's bytes: its lines are read from them, and one line more.
use Rattle.std.proofs.Common.{◌≡◌, ◌≢◌, ℕ, ◌+◌, ◌<◌, ◌≤◌, List, [], ◌∷◌, ◌++◌, Bool, true, false, length, drop, set}
use Rattle.std.proofs.Common.{refl, sym, ◌∙◌, ap, subst, arith, append_assoc, length-append, if◌then◌else◌, ◌==◌}
use Rattle.std.specs.List.{AllByRecursion}
use Rattle.std.proofs.lemmas.Bool.Decides.{nat_tests}
use Rattle.std.proofs.Math.Seq.{set-append_seam}
use Rattle.std.proofs.lemmas.Grind.{flat_map-append}
use Rattle.std.proofs.lemmas.List.{append-nil}
use Rattle.journal_file.specs.Layout.{IsLine, record_of, records_of}
use Rattle.journal_file.specs.Batches.{piece_of, bytes_of, lines_from, lines_in}
use Rattle.journal_file.proofs.Lines.{NoFeed, all_append, record_split}

-- ---- the lines of the bytes

no_end : (b : ℕ) → b ≢ 10 → (b == 10) ≡ false
no_end b not = Prim.grind (arith, nat_tests, not)

one_more : (b : ℕ) (t : Bool) (line bs : List ℕ) → (b == 10) ≡ t → t ≡ false
    → lines_from true line (b ∷ bs) ≡ lines_from true (line ++ b ∷ []) bs
unfolding lines_from
one_more b t line bs e off = ap (λ u. if u then line ∷ lines_from false [] bs else lines_from true (line ++ b ∷ []) bs)
    (e ∙ off)

-- a line to its end
line_more : (l line bs : List ℕ) → NoFeed l → lines_from true line (l ++ 10 ∷ bs) ≡ (line ++ l) ∷ lines_from false [] bs
unfolding lines_from
line_more [] line bs n = ap (λ k. k ∷ lines_from false [] bs) (sym (append-nil line))
line_more (x ∷ l) line bs n =
    one_more x (x == 10) line (l ++ 10 ∷ bs) refl (no_end x n.0)
    ∙ (line_more l (line ++ x ∷ []) bs n.1 ∙ ap (λ k. k ∷ lines_from false [] bs) (append_assoc line (x ∷ []) l))

-- the lines behind a gate
behind : (ls : List (List ℕ)) → AllByRecursion IsLine ls → lines_from false [] (records_of ls ++ 45 ∷ []) ≡ ls
unfolding lines_from
behind [] all = refl
behind (l ∷ ls) all =
    ap (lines_from false []) (append_assoc (record_of l) (records_of ls) (45 ∷ [])
    ∙ record_split l (records_of ls ++ 45 ∷ []))
    ∙ (line_more l [] (records_of ls ++ 45 ∷ []) all.0.one ∙ ap (λ k. l ∷ k) (behind ls all.1))

piece_is : (l : List ℕ) (ls : List (List ℕ)) → piece_of (l ∷ ls) ≡ l ++ 10 ∷ (records_of ls ++ 45 ∷ [])
piece_is l ls = append_assoc (l ++ 10 ∷ []) (records_of ls) (45 ∷ []) ∙ append_assoc l (10 ∷ []) (records_of ls ++ 45 ∷ [])

pub lines_back : (ls : List (List ℕ)) → AllByRecursion IsLine ls → lines_in (bytes_of ls) ≡ ls
unfolding lines_from
lines_back [] all = refl
lines_back (l ∷ ls) all =
    ap (lines_from true []) (piece_is l ls)
    ∙ (line_more l [] (records_of ls ++ 45 ∷ []) all.0.one ∙ ap (λ k. l ∷ k) (behind ls all.1))

-- ---- one line more

-- the bytes up to the gate of some lines
abbrev body_of : List (List ℕ) → List ℕ
body_of ls = drop 1 (records_of ls)

pub first_push : (ls : List (List ℕ)) (line bytes : List ℕ) → bytes ≡ bytes_of ls → length bytes ≡ 0
    → bytes ++ (line ++ 10 ∷ 45 ∷ []) ≡ bytes_of (ls ++ line ∷ [])
first_push [] line bytes is none = ap (λ b. b ++ (line ++ 10 ∷ 45 ∷ [])) is ∙ sym (piece_is line [])
first_push (l ∷ ls) line bytes is none =
    let e : length bytes ≡ length (drop 1 (records_of (l ∷ ls)) ++ 45 ∷ []) = ap length is in
    absurd (omega (arith, none, e, length-append (drop 1 (records_of (l ∷ ls))) (45 ∷ [])))

body_more : (l : List ℕ) (ls : List (List ℕ)) (m : List ℕ) → body_of ((l ∷ ls) ++ m ∷ []) ≡ body_of (l ∷ ls)
    ++ record_of m
body_more l ls m =
    ap (drop 1) (flat_map-append record_of (l ∷ ls) (m ∷ []))
    ∙ ap (λ t. body_of (l ∷ ls) ++ t) (append-nil (record_of m))

pub next_push : (ls : List (List ℕ)) (m bytes : List ℕ) (at : ℕ) → bytes ≡ bytes_of ls
    → at + 1 ≡ length bytes → set (bytes ++ (m ++ 10 ∷ 45 ∷ [])) at 43 ≡ bytes_of (ls ++ m ∷ [])
next_push [] m bytes at is place = absurd (omega (arith, place, ap length is))
next_push (l ∷ ls) m bytes at is place =
    let e : length bytes ≡ length (drop 1 (records_of (l ∷ ls)) ++ 45 ∷ []) = ap length is in
    let n : at ≡ length (drop 1 (records_of (l ∷ ls))) =
    omega (arith, place, e, length-append (drop 1 (records_of (l ∷ ls))) (45 ∷ [])) in
    ap (λ i. set (bytes ++ (m ++ 10 ∷ 45 ∷ [])) i 43) n
    ∙ (ap (λ b. set (b ++ (m ++ 10 ∷ 45 ∷ [])) (length (body_of (l ∷ ls))) 43) is
    ∙ (ap (λ b. set b (length (body_of (l ∷ ls))) 43) (append_assoc (body_of (l ∷ ls)) (45 ∷ []) (m ++ 10 ∷ 45 ∷ []))
    ∙ (set-append_seam (body_of (l ∷ ls)) 45 (m ++ 10 ∷ 45 ∷ []) 43
    ∙ (ap (λ t. body_of (l ∷ ls) ++ t) (sym (record_split m (45 ∷ [])))
    ∙ (sym (append_assoc (body_of (l ∷ ls)) (record_of m) (45 ∷ []))
    ∙ ap (λ t. t ++ 45 ∷ []) (sym (body_more l ls m)))))))

-- what is kept for some lines is what is written
pub kept_piece : (ls : List (List ℕ)) → 0 < length ls → bytes_of ls ≡ piece_of ls
kept_piece [] some = absurd (omega (arith, some))
kept_piece (l ∷ ls) some = refl

-- a line by itself is what is written for it
pub line_piece : (line : List ℕ) → line ++ 10 ∷ 45 ∷ [] ≡ piece_of (line ∷ [])
line_piece line = sym (piece_is line [])

-- a batch of one line more, as its bytes tell it
pub pushed : (ls : List (List ℕ)) (line bytes : List ℕ) → AllByRecursion IsLine ls → IsLine line
    → bytes ≡ bytes_of (ls ++ line ∷ []) → lines_in bytes ≡ ls ++ line ∷ []
pushed ls line bytes all is e =
    ap lines_in e ∙ lines_back (ls ++ line ∷ []) (all_append IsLine ls (line ∷ []) all (is, tt))

-- the batch of one line more
pub filled : (ls : List (List ℕ)) (line bytes : List ℕ) (count : ℕ) → AllByRecursion IsLine ls → IsLine line
    → bytes ≡ bytes_of (ls ++ line ∷ []) → length ls ≡ count → length ls < 1024
    → AllByRecursion IsLine (lines_in bytes) × (bytes ≡ bytes_of (lines_in bytes))
    × (length (lines_in bytes) ≡ count + 1) × (count + 1 ≤ 1024)
filled ls line bytes count all is e counts room =
    let back = pushed ls line bytes all is e in (
      subst (AllByRecursion IsLine) (sym back) (all_append IsLine ls (line ∷ []) all (is, tt)),
      e ∙ ap bytes_of (sym back),
      omega (arith, ap length back, length-append ls (line ∷ []), counts),
      omega (arith, counts, room),
    )

-- a batch of nothing
pub nothing_in : lines_in [] ≡ []
nothing_in = lines_back [] tt

pub nothing_held : AllByRecursion IsLine (lines_in []) × ([] ≡ bytes_of (lines_in [])) × (length (lines_in []) ≡ 0)
    × (0 ≤ 1024)
nothing_held = subst (λ (ls : List (List ℕ)). AllByRecursion IsLine ls × ([] ≡ bytes_of ls) × (length ls ≡ 0)
    × (0 ≤ 1024)) (sym nothing_in) (tt, refl, refl, omega arith)
