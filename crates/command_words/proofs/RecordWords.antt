-- Words that name records, one record after another.
use Rattle.std.proofs.Common.{◌≡◌, ℕ, zero, suc, ◌+◌, ◌<◌, ◌≤◌, Bool, true, false, if◌then◌else◌, List, [], ◌∷◌, ◌++◌, length, drop, Option, Some, None, slice_get, refl, sym, ap, arith, ◌∙◌, append_assoc, length-append}
use Rattle.std.specs.Prelude.{bytes_eq, codes, option_map}
use Rattle.std.proofs.lemmas.List.{drop-drop}
use Rattle.std.proofs.lemmas.Option.{same_Some}
use Rattle.command_words.proofs.WordsBehind.{behind_at, none_behind}
use Rattle.command_words.specs.Commands.{most_stations}
use Rattle.command_words.specs.WordFaults.{more_fault, records_fault}
use Rattle.command_words.specs.declared.word_faults.Part.TheVariants as part
use Rattle.command_words.specs.declared.word_faults.WordFault.TheVariants as fault
use Rattle.command_words.specs.Records.{Named, Record, first_record, is_cut, or_none, record_so, records_in, with_record}

-- the record of two names, before those that are named after it
next_so : (l r : List ℕ) (ws : List (List ℕ)) (cut : Bool) → is_cut ws ≡ cut
    → records_in (l ∷ r ∷ ws) ≡ with_record (record_so l r ws cut).0 (records_in (record_so l r ws cut).1)
next_so l r [] true e = absurd (Prim.grind (arith, e))
next_so l r [] false e = refl
next_so l r (w ∷ ws) true e = ap (λ (t : Bool). if t then with_record (record { lines = l; replies = r; cut = true }) (records_in ws) else with_record (record { lines = l; replies = r; cut = false }) (records_in (w ∷ ws))) e
next_so l r (w ∷ ws) false e = ap (λ (t : Bool). if t then with_record (record { lines = l; replies = r; cut = true }) (records_in ws) else with_record (record { lines = l; replies = r; cut = false }) (records_in (w ∷ ws))) e

pub next_record : (ws : List (List ℕ)) (n : Named) (rest : List (List ℕ)) → Some (n, rest) ≡ first_record ws → records_in ws ≡ with_record n (records_in rest)
next_record [] n rest e = absurd (Prim.grind (arith, e))
next_record (a ∷ []) n rest e = absurd (Prim.grind (arith, e))
next_record (l ∷ r ∷ ws) n rest e =
    let same : ◌≡◌ {A = Record} (record_so l r ws (is_cut ws)) (n, rest) = same_Some (record_so l r ws (is_cut ws)) (n, rest) (sym e) in
    next_so l r ws (is_cut ws) refl ∙ ap (λ (x : Record). with_record x.0 (records_in x.1)) same

-- one name alone is no record
pub no_record : (ws : List (List ℕ)) → None ≡ first_record ws → 0 < length ws → None ≡ records_in ws
no_record [] e h = absurd (omega (arith, h))
no_record (a ∷ []) e h = refl
no_record (l ∷ r ∷ ws) e h = absurd (Prim.grind (arith, e))

some_left : (ws : List (List ℕ)) (i : ℕ) → i < length ws → 0 < length (drop i ws)
some_left [] i h = absurd (omega (arith, h))
some_left (a ∷ ws) zero h = omega arith
some_left (a ∷ ws) (suc i) h = some_left ws i (omega (arith, h))

pub no_record_at : (ws : List (List ℕ)) (i : ℕ) → None ≡ first_record (drop i ws) → i < length ws → None ≡ records_in (drop i ws)
no_record_at ws i e h = no_record (drop i ws) e (some_left ws i h)

-- fewer than two words name none
pub too_few : (ws : List (List ℕ)) (i : ℕ) → length ws < i + 2 → None ≡ first_record (drop i ws)
too_few [] zero h = refl
too_few [] (suc i) h = refl
too_few (a ∷ []) zero h = refl
too_few (a ∷ b ∷ ws) zero h = absurd (omega (arith, h))
too_few (a ∷ ws) (suc i) h = too_few ws i (omega (arith, h))

pub cut_at : (ws : List (List ℕ)) (i : ℕ) (w : List ℕ) → slice_get ws i ≡ Some w → bytes_eq w (codes "cut") ≡ is_cut (drop i ws)
cut_at ws i w x = sym (ap is_cut (behind_at ws i w x))

pub no_cut : (ws : List (List ℕ)) (i : ℕ) → length ws ≤ i → false ≡ is_cut (drop i ws)
no_cut ws i h = sym (ap is_cut (none_behind ws i h))

-- a mark that is there has a place
pub cut_within : (ws : List (List ℕ)) (i : ℕ) → is_cut (drop i ws) ≡ true → i < length ws
cut_within [] zero e = absurd (Prim.grind (arith, e))
cut_within [] (suc i) e = absurd (Prim.grind (arith, e))
cut_within (a ∷ ws) zero e = omega arith
cut_within (a ∷ ws) (suc i) e = let low = cut_within ws i e in omega (arith, low)

-- two words, and what stands after them
two_at : (ws : List (List ℕ)) (i : ℕ) (l r : List ℕ) → slice_get ws i ≡ Some l → slice_get ws (i + 1) ≡ Some r → drop i ws ≡ l ∷ r ∷ drop (i + 2) ws
two_at ws i l r x y =
    let two : i + 1 + 1 ≡ i + 2 = omega arith in
    behind_at ws i l x ∙ ap (λ rest. l ∷ rest) (behind_at ws (i + 1) r y ∙ ap (λ n. r ∷ drop n ws) two)

pub record_cut : (ws : List (List ℕ)) (i : ℕ) (l r : List ℕ) → slice_get ws i ≡ Some l → slice_get ws (i + 1) ≡ Some r → is_cut (drop (i + 2) ws) ≡ true
    → Some (record { lines = l; replies = r; cut = true }, drop (i + 3) ws) ≡ first_record (drop i ws)
record_cut ws i l r x y e =
    let three : i + 3 ≡ i + 2 + 1 = omega arith in
    ap (λ n. Some (record { lines = l; replies = r; cut = true }, drop n ws)) three
    ∙ (ap (λ rest. Some (record { lines = l; replies = r; cut = true }, rest)) (sym (drop-drop 1 (i + 2) ws))
    ∙ (ap (λ (t : Bool). Some (record_so l r (drop (i + 2) ws) t)) (sym e) ∙ ap first_record (sym (two_at ws i l r x y))))

pub record_whole : (ws : List (List ℕ)) (i : ℕ) (l r : List ℕ) → slice_get ws i ≡ Some l → slice_get ws (i + 1) ≡ Some r → is_cut (drop (i + 2) ws) ≡ false
    → Some (record { lines = l; replies = r; cut = false }, drop (i + 2) ws) ≡ first_record (drop i ws)
record_whole ws i l r x y e =
    ap (λ (t : Bool). Some (record_so l r (drop (i + 2) ws) t)) (sym e) ∙ ap first_record (sym (two_at ws i l r x y))

-- ---- how many there are

pub count_next : (k : ℕ) (ws : List (List ℕ)) (n : Named) (rest : List (List ℕ)) → Some (n, rest) ≡ first_record ws
    → option_map (λ more. k + 1 + more) (option_map length (records_in rest)) ≡ option_map (λ more. k + more) (option_map length (records_in ws))
count_next k ws n rest e = at (records_in rest) ∙ ap (λ found. option_map (λ more. k + more) (option_map length found)) (sym (next_record ws n rest e))
  where
    at : (found : Option (List Named)) → option_map (λ more. k + 1 + more) (option_map length found) ≡ option_map (λ more. k + more) (option_map length (with_record n found))
    at None = refl
    at (Some records) = ap Some (omega arith)

pub rows_after : (front : List Named) (ws : List (List ℕ)) (n : Named) (rest : List (List ℕ)) → Some (n, rest) ≡ first_record ws
    → option_map (λ more. (front ++ n ∷ []) ++ more) (records_in rest) ≡ option_map (λ more. front ++ more) (records_in ws)
rows_after front ws n rest e = at (records_in rest) ∙ ap (λ found. option_map (λ more. front ++ more) found) (sym (next_record ws n rest e))
  where
    at : (found : Option (List Named)) → option_map (λ more. (front ++ n ∷ []) ++ more) found ≡ option_map (λ more. front ++ more) (with_record n found)
    at None = refl
    at (Some records) = ap Some (append_assoc front (n ∷ []) records)

-- there is room for one more of those that the words name
pub room_for : (front : List Named) (ws : List (List ℕ)) (all : Option (List Named)) (most : ℕ) (n : Named) (rest : List (List ℕ))
    → option_map (λ more. front ++ more) (records_in ws) ≡ all → 0 < length (or_none all) → length (or_none all) ≤ most → Some (n, rest) ≡ first_record ws
    → length front < most
room_for front ws all most n rest same some few e = at (records_in rest) (sym (ap (λ found. option_map (λ more. front ++ more) found) (next_record ws n rest e)) ∙ same)
  where
    at : (found : Option (List Named)) → option_map (λ more. front ++ more) (with_record n found) ≡ all → length front < most
    at None x = let none : length (or_none all) ≡ 0 = ap (λ found. length (or_none found)) (sym x) in absurd (omega (arith, none, some))
    at (Some records) x =
        let whole : length (or_none all) ≡ length (front ++ n ∷ records) = ap (λ found. length (or_none found)) (sym x) in
        let parts : length (front ++ n ∷ records) ≡ length front + length (n ∷ records) = length-append front (n ∷ records) in
        omega (arith, whole, parts, few)

-- ---- more than there may be

pub fault_next : (k : ℕ) (ws : List (List ℕ)) (n : Named) (rest : List (List ℕ)) → Some (n, rest) ≡ first_record ws → more_fault k rest ≡ more_fault (suc k) ws
fault_next k [] n rest e = absurd (Prim.grind (arith, e))
fault_next k (a ∷ []) n rest e = absurd (Prim.grind (arith, e))
fault_next k (l ∷ r ∷ ws) n rest e =
    let same : ◌≡◌ {A = Record} (record_so l r ws (is_cut ws)) (n, rest) = same_Some (record_so l r ws (is_cut ws)) (n, rest) (sym e) in
    sym (ap (λ (x : Record). more_fault k x.1) same) ∙ at (is_cut ws)
  where
    at : (cut : Bool) → more_fault k (record_so l r ws cut).1 ≡ (if cut then more_fault k (drop 1 ws) else more_fault k ws)
    at true = refl
    at false = refl

pub half_a_record : (k : ℕ) (ws : List (List ℕ)) → None ≡ first_record ws → 0 < length ws → Some ([], fault.Missing part.Replies) ≡ more_fault (suc k) ws
half_a_record k [] e h = absurd (omega (arith, h))
half_a_record k (a ∷ []) e h = refl
half_a_record k (l ∷ r ∷ ws) e h = absurd (Prim.grind (arith, e))

pub half_a_record_at : (k : ℕ) (ws : List (List ℕ)) (i : ℕ) → None ≡ first_record (drop i ws) → i < length ws → Some ([], fault.Missing part.Replies) ≡ more_fault (suc k) (drop i ws)
half_a_record_at k ws i e h = half_a_record k (drop i ws) e (some_left ws i h)

none_more : (n : ℕ) → None ≡ more_fault n []
none_more zero = refl
none_more (suc n) = refl

pub no_more : (n : ℕ) (ws : List (List ℕ)) (i : ℕ) → length ws ≤ i → None ≡ more_fault n (drop i ws)
no_more n ws i h = none_more n ∙ ap (more_fault n) (sym (none_behind ws i h))

begun : (xs : List (List ℕ)) → 0 < length xs → more_fault most_stations xs ≡ records_fault xs
begun [] h = absurd (omega (arith, h))
begun (w ∷ ws) h = refl

pub begun_at : (ws : List (List ℕ)) (i : ℕ) → i < length ws → more_fault most_stations (drop i ws) ≡ records_fault (drop i ws)
begun_at ws i h = begun (drop i ws) (some_left ws i h)

pub none_named : (ws : List (List ℕ)) (i : ℕ) → length ws ≤ i → Some ([], fault.Missing part.Lines) ≡ records_fault (drop i ws)
none_named ws i h = sym (ap records_fault (none_behind ws i h))
