-- Words behind the seventh, one after another.
use Rattle.std.proofs.Common.{◌≡◌, ℕ, zero, suc, ◌+◌, ◌<◌, ◌≤◌, Bool, true, false, ◌||◌, not, ◌==◌, List, [], ◌∷◌, ◌++◌, length, map, drop, take, cond, if◌then◌else◌, Option, Some, None, slice_get, slice_index_or, refl, sym, ap, ◌∙◌, arith, inl, inr}
use Rattle.std.specs.Prelude.{is_some}
use Rattle.std.specs.List.{list_any}
use Rattle.std.proofs.lemmas.Option.{none-some, same_Some}
use Rattle.std.proofs.lemmas.List.{map-append}
use Rattle.std.proofs.lemmas.Bool.{cases_Bool}
use Rattle.reel_names.specs.Names.{fits, is_reel_name}
use Rattle.reel_names.specs.Tables.{NamedText, has_text, is_named, row_fault}
use Rattle.reel_names.proofs.NameBytes.{fits_named, unnamed}
use Rattle.command_words.specs.Names.{first_fault, or_later, word_fault, row_of}
use Rattle.reel_names.specs.declared.table.TableFault.TheVariants as table
use Rattle.command_words.specs.declared.names.RowFault.{RowFault}
use Rattle.command_words.specs.declared.names.RowFault.TheVariants.{Again, NoText, Taken, Unfit}

behind : (ws : List (List ℕ)) (i : ℕ) (w : List ℕ) → slice_get ws i ≡ Some w → drop i ws ≡ w ∷ drop (suc i) ws
behind [] i w h = absurd (none-some w h)
behind (a ∷ ws) zero w h = ap (λ x. x ∷ ws) (same_Some a w h)
behind (a ∷ ws) (suc i) w h = behind ws i w h

in_front : (ws : List (List ℕ)) (end i : ℕ) (w : List ℕ) → i < end → slice_get ws i ≡ Some w → slice_get (take end ws) i ≡ Some w
in_front [] end i w l h = absurd (none-some w h)
in_front (a ∷ ws) zero i w l h = absurd (omega (arith, l))
in_front (a ∷ ws) (suc end) zero w l h = h
in_front (a ∷ ws) (suc end) (suc i) w l h = in_front ws end i w (omega (arith, l)) h

-- whether a row passes, of those from a word on
any_next : (p : NamedText → Bool) (ws : List (List ℕ)) (end i : ℕ) (w : List ℕ) → i < end → slice_get ws i ≡ Some w
    → list_any p (map row_of (drop i (take end ws))) ≡ (p (row_of w) || list_any p (map row_of (drop (i + 1) (take end ws))))
any_next p ws end i w l h =
    let next : suc i ≡ i + 1 = omega arith in
    ap (λ xs. list_any p (map row_of xs)) (behind (take end ws) i w (in_front ws end i w l h) ∙ ap (λ n. w ∷ drop n (take end ws)) next)

pub found : (p : NamedText → Bool) (ws : List (List ℕ)) (end i : ℕ) (w : List ℕ) → i < end → slice_get ws i ≡ Some w → p (row_of w) ≡ true
    → list_any p (map row_of (drop i (take end ws))) ≡ true
found p ws end i w l h e = any_next p ws end i w l h ∙ ap (λ (b : Bool). b || list_any p (map row_of (drop (i + 1) (take end ws)))) e

pub passed : (p : NamedText → Bool) (ws : List (List ℕ)) (end i : ℕ) (w : List ℕ) → i < end → slice_get ws i ≡ Some w → p (row_of w) ≡ false
    → list_any p (map row_of (drop (i + 1) (take end ws))) ≡ list_any p (map row_of (drop i (take end ws)))
passed p ws end i w l h e = sym (any_next p ws end i w l h ∙ ap (λ (b : Bool). b || list_any p (map row_of (drop (i + 1) (take end ws)))) e)

-- the rows of the words from the eighth up to one
one_more : (k i : ℕ) (ws : List (List ℕ)) (w : List ℕ) → k ≤ i → slice_get ws i ≡ Some w → drop k (take (suc i) ws) ≡ drop k (take i ws) ++ w ∷ []
one_more k i [] w l h = absurd (none-some w h)
one_more zero zero (a ∷ ws) w l h = ap (λ x. x ∷ []) (same_Some a w h)
one_more zero (suc i) (a ∷ ws) w l h = ap (λ xs. a ∷ xs) (one_more zero i ws w (omega arith) h)
one_more (suc k) zero (a ∷ ws) w l h = absurd (omega (arith, l))
one_more (suc k) (suc i) (a ∷ ws) w l h = one_more k i ws w (omega (arith, l)) h

pub rows_next : (ws : List (List ℕ)) (i : ℕ) (w : List ℕ) → 7 ≤ i → slice_get ws i ≡ Some w
    → map row_of (drop 7 (take (i + 1) ws)) ≡ map row_of (drop 7 (take i ws)) ++ row_of w ∷ []
rows_next ws i w l h =
    let next : i + 1 ≡ suc i = omega arith in
    ap (λ n. map row_of (drop 7 (take n ws))) next ∙ (ap (map row_of) (one_more 7 i ws w l h) ∙ map-append row_of (drop 7 (take i ws)) (w ∷ []))

-- the first fault, from a word on
pub fault_next : (ws : List (List ℕ)) (i : ℕ) (w : List ℕ) → 7 ≤ i → slice_get ws i ≡ Some w
    → first_fault (map row_of (drop 7 (take i ws))) (drop i ws)
    ≡ or_later w (word_fault (map row_of (drop 7 (take i ws))) (row_of w)) (first_fault (map row_of (drop 7 (take (i + 1) ws))) (drop (i + 1) ws))
fault_next ws i w l h =
    let next : suc i ≡ i + 1 = omega arith in
    ap (first_fault (map row_of (drop 7 (take i ws)))) (behind ws i w h ∙ ap (λ n. w ∷ drop n ws) next)
    ∙ ap (λ rows. or_later w (word_fault (map row_of (drop 7 (take i ws))) (row_of w)) (first_fault rows (drop (i + 1) ws))) (sym (rows_next ws i w l h))

word_is : (ws : List (List ℕ)) (k : ℕ) (w : List ℕ) → slice_get ws k ≡ Some w → slice_index_or ws k [] ≡ w
word_is [] k w e = absurd (none-some w e)
word_is (a ∷ ws) zero w e = same_Some a w e
word_is (a ∷ ws) (suc k) w e = word_is ws k w e

pub fault_told : (ws : List (List ℕ)) (i : ℕ) (w : List ℕ) (fault : RowFault) → 7 ≤ i → slice_get ws i ≡ Some w
    → Some fault ≡ word_fault (map row_of (drop 7 (take i ws))) (row_of (slice_index_or ws i []))
    → Some (w, fault) ≡ first_fault (map row_of (drop 7 (take i ws))) (drop i ws)
fault_told ws i w fault l h e =
    let rows = map row_of (drop 7 (take i ws)) in
    let here : word_fault rows (row_of w) ≡ Some fault = ap (λ x. word_fault rows (row_of x)) (sym (word_is ws i w h)) ∙ sym e in
    sym (fault_next ws i w l h ∙ ap (λ f. or_later w f (first_fault (map row_of (drop 7 (take (i + 1) ws))) (drop (i + 1) ws))) here)

-- where no word is refused
none_first : (w : List ℕ) (f : Option RowFault) (later : Option (List ℕ × RowFault)) → or_later w f later ≡ None → (f ≡ None) × (later ≡ None)
none_first w None later h = (refl, h)
none_first w (Some f) later h = absurd cc

pub row_taken : (ws : List (List ℕ)) (i : ℕ) (w : List ℕ) → 7 ≤ i → slice_get ws i ≡ Some w
    → first_fault (map row_of (drop 7 (take i ws))) (drop i ws) ≡ None
    → (word_fault (map row_of (drop 7 (take i ws))) (row_of w) ≡ None) × (first_fault (map row_of (drop 7 (take (i + 1) ws))) (drop (i + 1) ws) ≡ None)
row_taken ws i w l h e =
    let rows = map row_of (drop 7 (take i ws)) in
    none_first w (word_fault rows (row_of w)) (first_fault (map row_of (drop 7 (take (i + 1) ws))) (drop (i + 1) ws)) (sym (fault_next ws i w l h) ∙ e)

faultless : (bare fit there named : Bool) → (if bare then Some NoText else if not fit then Some Unfit else if there then Some Again else if named then Some Taken else None) ≡ None
    → (fit ≡ true) × ((if not fit then Some table.Unfit else if there then Some table.Again else if named then Some table.Taken else None) ≡ None)
faultless true fit there named h = absurd cc
faultless false false there named h = absurd cc
faultless false true true named h = absurd cc
faultless false true false true h = absurd cc
faultless false true false false h = (refl, refl)

-- a row that a table takes
pub row_fits : (rows : List NamedText) (row : NamedText) → word_fault rows row ≡ None → (is_reel_name row.name ≡ true) × (row_fault rows row ≡ None)
row_fits rows row h =
    let free = faultless (length row.text == 0) (fits row.name) (has_text rows row.text) (is_named rows row.name) h in
    (fits_named row.name free.0, free.1)

pub named : (r : Option (List ℕ)) (text : List ℕ) → r ≡ (if is_reel_name text then Some text else None) → is_reel_name text ≡ true → is_some r ≡ true
named r text e t = ap is_some (e ∙ ap (λ (b : Bool). cond b (Some text) None) t)

-- what no list has that is written
no_name : (text : List ℕ) → None ≡ (if is_reel_name text then Some text else None) → is_reel_name text ≡ false
no_name text h =
    elim (cases_Bool (is_reel_name text)) [
      | inl t ↦
          let some : None ≡ Some text = h ∙ ap (λ (b : Bool). cond b (Some text) None) t in
          absurd cc
      | inr f ↦ f
    ]

pub unfit : (text : List ℕ) → None ≡ (if is_reel_name text then Some text else None) → false ≡ fits text
unfit text h = sym (unnamed text (no_name text h))
