-- Reads of bytes that are given piece by piece.
use Rattle.std.proofs.Common.{◌≡◌, ℕ, ◌+◌, ◌<◌, ◌≤◌, ◌↔◌, List, [], ◌∷◌, ◌++◌, take, drop, length, min, Some, Vec, get_or, refl, sym, ap, ◌∙◌, arith, length-append, length-drop, length-take, take-append-drop}
use Rattle.std.specs.Global.{Global}
use Rattle.std.proofs.lemmas.List.{take-append-le, drop-append-le, drop-drop, drop_more, drop_all}
use Rattle.std.proofs.Math.Seq.{take-append_seam}
use Rattle.room_ports.specs.Bytes.{Gives}
use Rattle.room_ports.specs.Pieces.{Reads, joined, without_empty, first_piece, further, contents_of, left_from}

-- empty pieces hold nothing
pub joined-without_empty : (ps : List (List ℕ)) → joined (without_empty ps) ≡ joined ps
joined-without_empty [] = refl
joined-without_empty ([] ∷ ps) = joined-without_empty ps
joined-without_empty ((b ∷ bs) ∷ ps) = refl

pub joined-further : (n : ℕ) (ps : List (List ℕ)) → n ≤ length (first_piece ps) → joined (further n ps) ≡ drop n (joined ps)
joined-further n [] h = sym (drop_all n [] (omega arith))
joined-further n (p ∷ ps) h = sym (drop-append-le n p (joined ps) h)

pub take-first_piece : (n : ℕ) (ps : List (List ℕ)) → n ≤ length (first_piece ps) → take n (first_piece ps) ≡ take n (joined ps)
take-first_piece n [] h = refl
take-first_piece n (p ∷ ps) h = sym (take-append-le n p (joined ps) h)

length-first_piece : (ps : List (List ℕ)) → length (first_piece ps) ≤ length (joined ps)
length-first_piece [] = omega arith
length-first_piece (p ∷ ps) = omega (arith, length-append p (joined ps))

-- where the next piece is empty, no byte is left
pub no_piece : (ps : List (List ℕ)) → length (first_piece (without_empty ps)) ≡ 0 → joined ps ≡ []
no_piece [] h = refl
no_piece ([] ∷ ps) h = no_piece ps h
no_piece ((b ∷ bs) ∷ ps) h = absurd (omega (arith, h))

take_head : (n : ℕ) (xs ys : List ℕ) → length xs ≡ n → take n (xs ++ ys) ≡ xs
take_head n xs ys e = ap (λ m. take m (xs ++ ys)) (sym e) ∙ take-append_seam xs ys

without_empty-filled : (p : List ℕ) (ps : List (List ℕ)) → 0 < length p → without_empty (p ∷ ps) ≡ p ∷ ps
without_empty-filled [] ps h = absurd (omega (arith, h))
without_empty-filled (b ∷ bs) ps h = refl

-- what is left from a byte of a piece on
left_from-piece : (xs : List (Vec ℕ Global)) (i at : ℕ) (p : Vec ℕ Global) → i < length xs → p ≡ get_or xs i p
    → left_from xs i at ≡ drop at p.items ∷ contents_of (drop (i + 1) xs)
left_from-piece xs i at p lt is =
    ap (λ ys. further at (contents_of ys)) (drop_more xs i p lt)
    ∙ ap (λ q. drop at q.items ∷ contents_of (drop (i + 1) xs)) (sym is)

-- a read out of a piece in which bytes are left
pub reads_piece : (xs : List (Vec ℕ Global)) (i at : ℕ) (p : Vec ℕ Global) (before : List (List ℕ))
    (bytes rest room into copied : List ℕ) (n : ℕ)
    → i < length xs → p ≡ get_or xs i p → bytes ≡ p.items → at < length bytes → rest ≡ drop at bytes
    → without_empty (left_from xs i at) ≡ without_empty before → into ≡ room
    → n ≡ min (length rest) (length into) → copied ≡ take n rest
    → Reads before (left_from xs i (at + n)) room (copied ++ drop n into) n
reads_piece xs i at p before bytes rest room into copied n lt is held some from left same count copy =
    let here : rest ≡ drop at p.items = from ∙ ap (drop at) held in
    let more : 0 < length (drop at p.items) = omega (arith, some, ap length held, length-drop at p.items) in
    let next : without_empty before ≡ rest ∷ contents_of (drop (i + 1) xs) =
    sym left ∙ (ap without_empty (left_from-piece xs i at p lt is)
    ∙ (without_empty-filled (drop at p.items) _ more ∙ ap (λ r. r ∷ contents_of (drop (i + 1) xs)) (sym here))) in
    record {
      count = let e : length (first_piece (without_empty before)) ≡ length rest = ap (λ ps. length (first_piece ps)) next in omega (arith, e, count, ap length same);
      bytes = rw (next, copy, same) refl;
      rest = left_from-piece xs i (at + n) p lt is ∙ (ap (λ r. r ∷ contents_of (drop (i + 1) xs)) (sym (drop-drop n at p.items) ∙ ap (drop n) (sym here)) ∙ ap (further n) (sym next));
    }

-- such a read gives the front of what is left
pub reads-gives : (before after : List (List ℕ)) (room buffer : List ℕ) (n : ℕ) → Reads before after room buffer n
    → Gives (Some (joined before)) (Some (joined after)) (take n buffer)
reads-gives before after room buffer n r =
    let ps = without_empty before in
    let within : n ≤ length (first_piece ps) = omega (arith, r.count) in
    let whole : length (take n (first_piece ps)) ≡ n = length-take n (first_piece ps) ∙ omega (arith, within) in
    let front : take n buffer ≡ take n (joined ps) =
    ap (take n) r.bytes ∙ (take_head n (take n (first_piece ps)) (drop n room) whole ∙ take-first_piece n ps within) in
    let rest : joined after ≡ drop n (joined ps) = ap joined r.rest ∙ joined-further n ps within in
    sym (ap (λ bytes. bytes ++ joined after) front ∙ (ap (λ bytes. take n (joined ps) ++ bytes) rest
    ∙ (take-append-drop n (joined ps) ∙ joined-without_empty before)))

-- and none exactly where none is left
pub reads-end : (before after : List (List ℕ)) (room buffer : List ℕ) (n : ℕ) → Reads before after room buffer n
    → 0 < length room → (n ≡ 0) ↔ (joined before ≡ [])
reads-end before after room buffer n r some =
    let ps = without_empty before in
    let same : joined ps ≡ joined before = joined-without_empty before in (
      (λ none. no_piece before (omega (arith, none, r.count, some))),
      (λ end. omega (arith, r.count, length-first_piece ps, ap length same, ap length end)),
    )
