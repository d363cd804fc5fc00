-- Lines that end in a piece.
use Rattle.std.proofs.Common.{◌≡◌, ℕ, ◌+◌, ◌≤◌, min, List, [], ◌∷◌, ◌++◌, true, Some, take, drop, length, get_or, sym, ap, ◌∙◌, arith, append_assoc}
use Rattle.std.specs.List.{position}
use Rattle.std.proofs.lemmas.Bool.Decides.{nat_tests}
use Rattle.std.proofs.lemmas.List.{append-nil, drop-drop, length-take, take-append-drop, take_at, take_more}
use Rattle.std.proofs.lemmas.List.Quantifiers.{position-Some}
use Rattle.web_lines.specs.Lines.{as_line, as_lines, is_line_feed}

feed_is : (byte : ℕ) → is_line_feed byte ≡ true → byte ≡ 10
feed_is byte h = grind (arith, nat_tests, h)

-- the bytes up to the line feed, and it
pub up_to_feed : (piece : List ℕ) (at : ℕ) → position is_line_feed piece ≡ Some at → take (at + 1) piece ≡ take at piece ++ 10 ∷ []
up_to_feed piece at h =
    let p = position-Some is_line_feed piece at 0 h in
    take_more piece at 0 p.0 ∙ ap (λ b. take at piece ++ b ∷ []) (feed_is (get_or piece at 0) p.1)

-- what was begun, and these, are one line
pub one_line : (begun piece : List ℕ) (at : ℕ) → position is_line_feed piece ≡ Some at
    → begun ++ take (at + 1) piece ≡ as_lines ((begun ++ take at piece) ∷ []) ++ []
one_line begun piece at h =
    let t = begun ++ take at piece in
    ap (λ u. begun ++ u) (up_to_feed piece at h) ∙ (sym (append_assoc begun (take at piece) (10 ∷ []))
    ∙ (sym (append-nil (as_line t)) ∙ sym (append-nil (as_line t ++ []))))

-- as many bytes as there is room for were copied, and the others are left
pub given : (line rest into copied : List ℕ) (g n : ℕ) → rest ≡ drop g line → n ≡ min (length rest) (length into) → copied ≡ take n rest
    → drop g line ≡ take n (copied ++ drop n into) ++ drop (g + n) line
given line rest into copied g n from count copy =
    let within : n ≤ length rest = omega (arith, count) in
    let long : length copied ≡ n = ap length copy ∙ (length-take n rest ∙ omega (arith, within)) in
    let front : take n (copied ++ drop n into) ≡ take n rest = take_at copied (drop n into) n long ∙ copy in
    let back : drop (g + n) line ≡ drop n rest = sym (drop-drop n g line) ∙ ap (drop n) (sym from) in
    rw (front, back) (sym from ∙ sym (take-append-drop n rest))
