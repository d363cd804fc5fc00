-- The lines and the replies of a text, by its parts between line feeds.
use Rattle.std.proofs.Common.{◌≡◌, ℕ, ◌+◌, ◌-◌, ◌<◌, ◌≤◌, List, [], ◌∷◌, ◌++◌, Bool, true, false, Some, None, cond, nat_le, suc, map, length, take, drop, get_or, refl, sym, ap, ◌∙◌, arith, append_assoc}
use Rattle.std.proofs.lemmas.List.{append-nil, drop_all, drop_more, length-drop, length-map}
use Rattle.line_words.specs.Lines.{Line, ended_line, last_line, limited, lines_from}
use Rattle.line_words.specs.declared.TheConstants.{MAX_LINE}
use Rattle.recorded_sessions.specs.Recordings.{but_last}

-- all but the last of some things, as seen
pub but_last-map : {A B : Type 0} (f : A → B) (xs : List A) → map f (but_last xs) ≡ but_last (map f xs)
but_last-map f [] = refl
but_last-map f (x ∷ []) = refl
but_last-map f (x ∷ y ∷ ys) = ap (λ zs. f x ∷ zs) (but_last-map f (y ∷ ys))

pub but_last-push : {A : Type 0} (xs : List A) (x : A) → but_last (xs ++ x ∷ []) ≡ xs
but_last-push [] x = refl
but_last-push (y ∷ []) x = refl
but_last-push (y ∷ z ∷ zs) x = ap (λ ws. y ∷ ws) (but_last-push (z ∷ zs) x)

-- a line behind which another stands
between : (part : List ℕ) (rest : List (List ℕ)) → 0 < length rest → lines_from (part ∷ rest) ≡ ended_line (limited part) ∷ lines_from rest
between part [] h = absurd (omega (arith, h))
between part (next ∷ rest) h = refl

kept : (byte : ℕ) (bytes : List ℕ) (t : Bool) → last_line (cond t (Some (byte ∷ bytes)) None) ≡ cond t (Some (byte ∷ bytes)) None ∷ []
kept byte bytes true = refl
kept byte bytes false = refl

last_filled : (part : List ℕ) → 0 < length part → lines_from (part ∷ []) ≡ limited part ∷ []
last_filled [] h = absurd (omega (arith, h))
last_filled (byte ∷ bytes) h = kept byte bytes (nat_le (length (byte ∷ bytes)) MAX_LINE)

last_empty : (part : List ℕ) → length part ≡ 0 → lines_from (part ∷ []) ≡ []
last_empty [] h = refl
last_empty (byte ∷ bytes) h = absurd (omega (arith, h))

-- The parts from a place on, of which some are seen as lines: what is put behind the lines so far.
module _ {P : Type 0} (seen : P → List ℕ) (parts : List P) (index : ℕ) (d : P) (within : index < length parts) where
  parted : map seen (drop index parts) ≡ seen (get_or parts index d) ∷ map seen (drop (index + 1) parts)
  parted = ap (map seen) (drop_more parts index d within)

  rest_length : length (map seen (drop (index + 1) parts)) ≡ length parts - (index + 1)
  rest_length = length-map (drop (index + 1) parts) seen ∙ length-drop (index + 1) parts

  pub line_between : (front : List Line) (line : Line) (all : List Line) → index + 1 < length parts
      → line ≡ ended_line (limited (seen (get_or parts index d))) → front ++ lines_from (map seen (drop index parts)) ≡ all
      → (front ++ line ∷ []) ++ lines_from (map seen (drop (index + 1) parts)) ≡ all
  line_between front line all more is so =
      append_assoc front (line ∷ []) _
      ∙ (ap (λ ls. front ++ ls) (ap (λ l. l ∷ lines_from (map seen (drop (index + 1) parts))) is ∙ sym (between (seen (get_or parts index d)) (map seen (drop (index + 1) parts)) (omega (arith, rest_length, more)))
      ∙ sym (ap lines_from parted))
      ∙ so)

  none_left : length parts ≤ index + 1 → map seen (drop (index + 1) parts) ≡ []
  none_left few = ap (map seen) (drop_all (index + 1) parts few)

  alone : length parts ≤ index + 1 → lines_from (map seen (drop index parts)) ≡ lines_from (seen (get_or parts index d) ∷ [])
  alone few = ap lines_from (parted ∙ ap (λ ps. seen (get_or parts index d) ∷ ps) (none_left few))

  pub line_last : (front : List Line) (line : Line) (all : List Line) → length parts ≤ index + 1
      → 0 < length (seen (get_or parts index d)) → line ≡ limited (seen (get_or parts index d))
      → front ++ lines_from (map seen (drop index parts)) ≡ all
      → (front ++ line ∷ []) ++ lines_from (map seen (drop (index + 1) parts)) ≡ all
  line_last front line all few filled is so =
      ap (λ ps. (front ++ line ∷ []) ++ lines_from ps) (none_left few)
      ∙ (append-nil _
      ∙ (ap (λ ls. front ++ ls) (ap (λ l. l ∷ []) is ∙ sym (last_filled _ filled) ∙ sym (alone few))
      ∙ so))

  pub line_none : (front : List Line) (all : List Line) → length parts ≤ index + 1 → length (seen (get_or parts index d)) ≡ 0
      → front ++ lines_from (map seen (drop index parts)) ≡ all
      → front ++ lines_from (map seen (drop (index + 1) parts)) ≡ all
  line_none front all few empty so =
      ap (λ ps. front ++ lines_from ps) (none_left few)
      ∙ (ap (λ ls. front ++ ls) (sym (last_empty _ empty) ∙ sym (alone few)) ∙ so)

-- all but the last, by how many there are
one_less : {A : Type 0} (xs : List A) → take (length xs - 1) xs ≡ but_last xs
one_less [] = refl
one_less (x ∷ []) = refl
one_less (x ∷ y ∷ ys) =
    let more : length (x ∷ y ∷ ys) - 1 ≡ suc (length (y ∷ ys) - 1) = omega arith in
    rw more (ap (λ zs. x ∷ zs) (one_less (y ∷ ys)))

pub all_but_last : {P : Type 0} (seen : P → List ℕ) (parts : List P) (n : ℕ) (all : List (List ℕ)) → n ≡ length parts → map seen parts ≡ all
    → map seen (take (n - 1) parts) ≡ but_last all
all_but_last seen parts n all is so =
    ap (λ k. map seen (take (k - 1) parts)) is ∙ (ap (map seen) (one_less parts) ∙ (but_last-map seen parts ∙ ap but_last so))
