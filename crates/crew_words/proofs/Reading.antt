-- The lines of a crew's file, one after another.
use Rattle.std.proofs.Common.{◌≡◌, ℕ, ◌+◌, Bool, true, false, List, [], ◌∷◌, Some, None, Result, Ok, Err, length, take, drop, nat_lt, if◌then◌else◌, refl, ap, ◌∙◌, arith, OnOk, IfErr}
use Rattle.std.specs.List.{slice_split, position, position_or_len}
use Rattle.std.proofs.lemmas.Bool.{ltb-true, ltb-false}
use Rattle.std.proofs.lemmas.List.Sums.{fails_before_first}
use Rattle.std.proofs.lemmas.List.Splits.{slice_split_first, slice_split_none}
use Rattle.crew_words.specs.Crews.{IsNoCrew, MemberState, goes_on, line_read, lines_read}
use Rattle.crew_words.specs.declared.crew.CrewFault.{CrewFault}
use Rattle.crew_words.specs.declared.crew.CrewFault.TheVariants.{Line, Twice, Few, Long, Memory}

place_told : (b : Bool) (n i : ℕ) → (if b then Some n else None) ≡ Some i → (b ≡ true) × (n ≡ i)
place_told true n i h = (refl, cc)
place_told false n i h = absurd cc

place_none : (b : Bool) (n : ℕ) → (if b then Some n else None) ≡ None → b ≡ false
place_none true n h = absurd cc
place_none false n h = refl

pub split_some : (p : ℕ → Bool) (xs : List ℕ) (i : ℕ) → position p xs ≡ Some i → slice_split p xs ≡ take i xs ∷ slice_split p (drop (i + 1) xs)
split_some p xs i h =
    let told = place_told (nat_lt (position_or_len p xs) (length xs)) (position_or_len p xs) i h in
    slice_split_first p xs 0 (ltb-true _ _ told.0) ∙ ap (λ n. take n xs ∷ slice_split p (drop (n + 1) xs)) told.1

pub split_none : (p : ℕ → Bool) (xs : List ℕ) → position p xs ≡ None → slice_split p xs ≡ xs ∷ []
split_none p xs h =
    let past = ltb-false _ _ (place_none (nat_lt (position_or_len p xs) (length xs)) (position_or_len p xs) h) in
    slice_split_none p xs (λ k d inside. fails_before_first p xs k d (omega (arith, past, inside)))

-- what is read goes on after a line that was read
pub goes_ok : (read : Result (List MemberState) CrewFault) (next : List MemberState → Result (List MemberState) CrewFault) (more : List MemberState)
    → read ≡ Ok more → goes_on read next ≡ next more
goes_ok read next more ok = ap (λ (r : Result (List MemberState) CrewFault). goes_on r next) ok

-- and not after a fault
pub goes_err : (read : Result (List MemberState) CrewFault) (next : List MemberState → Result (List MemberState) CrewFault) (fault : CrewFault)
    → IsNoCrew read fault → IsNoCrew (goes_on read next) fault
goes_err read next (Line number) err = ap (λ (r : Result (List MemberState) CrewFault). goes_on r next) err
goes_err read next (Twice number) err = ap (λ (r : Result (List MemberState) CrewFault). goes_on r next) err
goes_err read next (Few there wanted) err = ap (λ (r : Result (List MemberState) CrewFault). goes_on r next) err
goes_err read next Long err = ap (λ (r : Result (List MemberState) CrewFault). goes_on r next) err
goes_err read next Memory err = tt

pub first_ok : (crew more : List MemberState) (number : ℕ) (line : List ℕ) (lines all : List (List ℕ))
    → all ≡ line ∷ lines → line_read crew number line ≡ Ok more → lines_read crew number all ≡ lines_read more (number + 1) lines
first_ok crew more number line lines all all_are ok =
    ap (λ (l : List (List ℕ)). lines_read crew number l) all_are ∙ goes_ok (line_read crew number line) (λ m. lines_read m (number + 1) lines) more ok

pub first_err : (crew : List MemberState) (number : ℕ) (line : List ℕ) (lines all : List (List ℕ)) (fault : CrewFault)
    → all ≡ line ∷ lines → IsNoCrew (line_read crew number line) fault → IsNoCrew (lines_read crew number all) fault
first_err crew number line lines all fault all_are err =
    rw all_are (goes_err (line_read crew number line) (λ m. lines_read m (number + 1) lines) fault err)

-- what follows where a call went well, or did not
pub when_ok : (result : Result (Unit {0}) CrewFault) (P Q : Type 0) → (P → Q) → OnOk result P → OnOk result Q
when_ok (Ok done) P Q follows ok = follows ok
when_ok (Err fault) P Q follows ok = ok

pub when_err : (result : Result (Unit {0}) CrewFault) (P Q : CrewFault → Type 0) → ((fault : CrewFault) → P fault → Q fault) → IfErr result P → IfErr result Q
when_err (Ok done) P Q follows err = err
when_err (Err fault) P Q follows err = follows fault err
