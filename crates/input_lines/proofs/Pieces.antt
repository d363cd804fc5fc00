-- The lines of an input that is read in pieces.
use Rattle.std.proofs.Common.{◌≡◌, ℕ, zero, suc, min, nat_le, Bool, true, false, ◌+◌, ◌-◌, ◌<◌, ◌≤◌, ◌↔◌, ◌⊎◌, inl, inr, List, [], ◌∷◌, ◌++◌, length, take, drop, Option, Some, None, IfSome, refl, sym, ap, ◌∙◌, arith, append_assoc}
use Rattle.std.proofs.lemmas.Bool.Decides.{nat_tests}
use Rattle.std.proofs.lemmas.List.{append-nil, length-append, take_at}
use Rattle.room_ports.specs.Bytes.{Gives}
use Rattle.line_words.specs.Lines.{Line, last_line, lines_of}
use Rattle.line_words.specs.Pieces.{ended, pending_after}
use Rattle.line_words.specs.Told.{line_told, lines_told}
use Rattle.line_words.specs.declared.line.LineEnd.{LineEnd}
use Rattle.line_words.proofs.PieceLaws.{ended-append, pending_after-append, lines_of_lem}
use Rattle.input_lines.specs.Inputs.{GivesAll}

-- a line that ended in a piece
pub one_told : (line : Option LineEnd) (end : LineEnd) (text last : List ℕ) (told : List Line) → line ≡ Some end → text ≡ last → lines_told line last ≡ told → line_told end text ∷ [] ≡ told
one_told line end text last told is same h =
    ap (λ (t : List ℕ). line_told end t ∷ []) same ∙ (sym (ap (λ (o : Option LineEnd). lines_told o last) is) ∙ h)

-- none ended
pub none_told : (line : Option LineEnd) (last : List ℕ) (told : List Line) → line ≡ None → lines_told line last ≡ told → [] ≡ told
none_told line last told is h = sym (ap (λ (o : Option LineEnd). lines_told o last) is) ∙ h

behind_nothing : (us vs : List ℕ) → us ++ vs ≡ [] → vs ≡ []
behind_nothing [] vs e = e
behind_nothing (u ∷ us) vs e = cc

-- a read of nothing at the end
pub all_given : (before now after : Option (List ℕ)) (got chunk : List ℕ) (n : ℕ) → Gives before now got → Gives now after chunk
    → n ≡ 0 → IfSome now (λ bytes. (n ≡ 0) ↔ (bytes ≡ [])) → GivesAll before after got
all_given None now after got chunk n g h none_read end = tt
all_given (Some b) None after got chunk n g h none_read end = absurd g
all_given (Some b) (Some x) None got chunk n g h none_read end = absurd h
all_given (Some b) (Some x) (Some y) got chunk n g h none_read end =
    let none : x ≡ [] = end.0 none_read in
    let rest : y ≡ [] = behind_nothing chunk y (sym h ∙ none) in
    (g ∙ (ap (λ t. got ++ t) none ∙ append-nil got), ap Some rest)

-- the lines that end in a piece more
pub ended_more : (got piece : List ℕ) (pending : Line) → pending ≡ pending_after (Some []) got → ended (Some []) got ++ ended pending piece ≡ ended (Some []) (got ++ piece)
ended_more got piece pending is = ap (λ p. ended (Some []) got ++ ended p piece) is ∙ sym (ended-append (Some []) got piece)

pub pending_more : (got piece : List ℕ) (pending next : Line) → pending ≡ pending_after (Some []) got → next ≡ pending_after pending piece → next ≡ pending_after (Some []) (got ++ piece)
pending_more got piece pending next is then = then ∙ (ap (λ p. pending_after p piece) is ∙ sym (pending_after-append (Some []) got piece))

-- at the end the lines are those of all bytes
pub lines_at_end : (got : List ℕ) (pending : Line) → pending ≡ pending_after (Some []) got → ended (Some []) got ++ last_line pending ≡ lines_of got
lines_at_end got pending is = ap (λ p. ended (Some []) got ++ last_line p) is ∙ sym (lines_of_lem got)

-- the first bytes of an input
pub first_bytes : (got piece more : List ℕ) (n : ℕ) → length got + length piece ≡ n → take n (got ++ (piece ++ more)) ≡ got ++ piece
first_bytes got piece more n h = ap (take n) (sym (append_assoc got piece more)) ∙ take_at (got ++ piece) more n (length-append got piece ∙ h)

pub take_split : (m n : ℕ) (xs : List ℕ) → m ≤ n → take n xs ≡ take m xs ++ drop m (take n xs)
take_split zero n xs h = refl
take_split (suc m) zero xs h = absurd (omega arith)
take_split (suc m) (suc n) [] h = refl
take_split (suc m) (suc n) (x ∷ xs) h = ap (λ ys. x ∷ ys) (take_split m n xs (omega arith))

-- the least of two numbers reaches one of them
pub fitting : (f n m : ℕ) → f ≡ min n m → (m ≤ f) ⊎ (n ≤ f)
fitting f n m is = by (nat_le n m) refl where
  by : (b : Bool) → nat_le n m ≡ b → (m ≤ f) ⊎ (n ≤ f)
  by true e = inr (grind (arith, nat_tests, is, e))
  by false e = inl (grind (arith, nat_tests, is, e))

-- these bytes of a chunk that fit
pub take_fitting : (m n f : ℕ) (xs : List ℕ) → f ≤ m → f ≤ n → (m ≤ f) ⊎ (n ≤ f) → take m (take n xs) ≡ take f xs
take_fitting m n zero xs fm fn (inl le) = let z : m ≡ 0 = omega (arith, le) in rw z refl
take_fitting m n zero xs fm fn (inr le) = let z : n ≡ 0 = omega (arith, le) in rw z (nothing m) where
  nothing : (m : ℕ) → take {A = ℕ} m [] ≡ []
  nothing zero = refl
  nothing (suc m) = refl
take_fitting zero n (suc f) xs fm fn either = absurd (omega (arith, fm))
take_fitting (suc m) zero (suc f) xs fm fn either = absurd (omega (arith, fn))
take_fitting (suc m) (suc n) (suc f) [] fm fn either = refl
take_fitting (suc m) (suc n) (suc f) (x ∷ xs) fm fn (inl le) = ap (λ ys. x ∷ ys) (take_fitting m n f xs (omega (arith, fm)) (omega (arith, fn)) (inl (omega (arith, le))))
take_fitting (suc m) (suc n) (suc f) (x ∷ xs) fm fn (inr le) = ap (λ ys. x ∷ ys) (take_fitting m n f xs (omega (arith, fm)) (omega (arith, fn)) (inr (omega (arith, le))))
