-- The records of a kept file, one after another.
use Rattle.std.proofs.Common.{◌≡◌, ◌≢◌, ℕ, ◌<◌, ◌≤◌, List, [], ◌∷◌, ◌++◌, Bool, true, false, not, ◌==◌, Option, Some, None, length, drop, slice_index, slice_set, refl, sym, ap, ◌∙◌, subst, arith, append_assoc, inl, inr, if◌then◌else◌}
use Rattle.std.specs.List.{AllByRecursion}
use Rattle.std.proofs.lemmas.Bool.{and_parts}
use Rattle.std.proofs.lemmas.Bool.Decides.{nat_tests}
use Rattle.std.proofs.lemmas.List.{get_or-set_same, get_or-set_other, length-set}
use Rattle.std.proofs.lemmas.Option.{slice_get-get_or}
use Rattle.line_words.specs.Lines.{is_lf}
use Rattle.journal_file.specs.Layout.{HasLines, IsLine, Kept, NoRecord, record_of, records_of}
use Rattle.journal_text.specs.JournalFaults.{HasNoLineFeed}
use Rattle.journal_text.proofs.EntryTexts.{is_plain, cut_once}
use Rattle.journal_text.proofs.JournalSteps.{plain_from}
use Rattle.kept_numbers.specs.Numbers.{AreLastNumbers, last_number, last_or, numbered, numbers_of, own_number}
use Rattle.kept_numbers.specs.Steps.{GoesOn, noted}

-- ---- lines without a line feed

not_feed : (byte : ℕ) → byte ≢ 10 → not (is_lf byte) ≡ true
not_feed byte h = Prim.grind (arith, nat_tests, h)

line_plain : (line : List ℕ) → AllByRecursion (λ byte. byte ≢ 10) line → is_plain line ≡ true
line_plain [] h = refl
line_plain (byte ∷ line) h = let here = not_feed byte h.0 in let more = line_plain line h.1 in rw (here, more) refl

-- a record and what stands after it
record_split : (line rest : List ℕ) → record_of line ++ rest ≡ 43 ∷ (line ++ 10 ∷ rest)
record_split line rest = ap (λ t. 43 ∷ t) (append_assoc line (10 ∷ []) rest)

first_same : (a b : ℕ) (x y : List ℕ) → a ∷ x ≡ b ∷ y → (a ≡ b) × (x ≡ y)
first_same a b x y same = (Prim.cc, Prim.cc)

feed_in : (line rest : List ℕ) → is_plain (line ++ 10 ∷ rest) ≡ true → ⊥
feed_in [] rest h = absurd (Prim.grind (arith, h))
feed_in (byte ∷ line) rest h = feed_in line rest (and_parts (not (is_lf byte)) (is_plain (line ++ 10 ∷ rest)) h).1

-- where no line ends after a plus, no record begins
pub no_record : (more : List ℕ) → HasNoLineFeed more → NoRecord (43 ∷ more)
no_record more none = λ line after is same.
    let rest = (first_same 43 43 more (line ++ 10 ∷ after) (same ∙ record_split line after)).1 in
    feed_in line after (subst (λ (t : List ℕ). is_plain t ≡ true) rest (plain_from more none))

-- ---- the numbers after a line more

noted_own : (b : Bool) (numbers : List ℕ) (own number station : ℕ) (rest : List ℕ) → (own == station) ≡ b → station < length numbers
    → last_or (slice_index numbers station) ((if b then number ∷ [] else []) ++ rest) ≡ last_or (slice_index (slice_set numbers own number) station) rest
noted_own true numbers own number station rest is within =
    let same : own ≡ station = Prim.grind (arith, nat_tests, is) in
    let read : slice_index (slice_set numbers own number) station ≡ number =
    subst (λ k. slice_index (slice_set numbers k number) station ≡ number) (sym same) (get_or-set_same numbers station number 0 within) in
    ap (λ last. last_or last rest) (sym read)
noted_own false numbers own number station rest is within =
    let other : station ≢ own = λ h. Prim.grind (arith, nat_tests, is, h) in
    ap (λ last. last_or last rest) (sym (get_or-set_other numbers own station number 0 other))

noted_one : (o : Option (ℕ × ℕ)) (numbers : List ℕ) (station : ℕ) (rest : List ℕ) → station < length numbers
    → last_or (slice_index numbers station) (own_number station o ++ rest) ≡ last_or (slice_index (noted numbers o) station) rest
noted_one None numbers station rest within = refl
noted_one (Some (own, number)) numbers station rest within = noted_own (own == station) numbers own number station rest refl within

pub noted_long : (o : Option (ℕ × ℕ)) (numbers : List ℕ) → length (noted numbers o) ≡ length numbers
noted_long None numbers = refl
noted_long (Some (own, number)) numbers = length-set numbers own number

-- ---- one record after another

pub goes_on : (lines : List (List ℕ)) (bytes numbers line after : List ℕ) → GoesOn lines bytes numbers → length numbers ≡ 16
    → HasNoLineFeed line → bytes ≡ record_of line ++ after → GoesOn lines after (noted numbers (numbered line))
goes_on lines bytes numbers line after g long none split = by g.left g.are_lines g.parts g.last where
  by : (left : List (List ℕ)) → AllByRecursion IsLine left → bytes ≡ records_of left ++ g.gate ∷ g.rest
      → ((station : ℕ) → station < 16 → last_or (slice_index numbers station) (numbers_of station left) ≡ last_number station lines)
      → GoesOn lines after (noted numbers (numbered line))
  by [] are parts last = absurd (g.closed (first_same g.gate 43 g.rest (line ++ 10 ∷ after) (sym parts ∙ (split ∙ record_split line after))).0)
  by (l ∷ ls) are parts last =
      let whole : record_of l ++ (records_of ls ++ g.gate ∷ g.rest) ≡ record_of line ++ after =
      sym (append_assoc (record_of l) (records_of ls) (g.gate ∷ g.rest)) ∙ (sym parts ∙ split) in
      let tails = (first_same 43 43 (l ++ 10 ∷ (records_of ls ++ g.gate ∷ g.rest)) (line ++ 10 ∷ after)
      (sym (record_split l (records_of ls ++ g.gate ∷ g.rest)) ∙ (whole ∙ record_split line after))).1 in
      let same = cut_once l line (records_of ls ++ g.gate ∷ g.rest) after (line_plain l are.0.one) (plain_from line none) tails in
      record {
        left = ls;
        gate = g.gate;
        rest = g.rest;
        closed = g.closed;
        are_lines = are.1;
        parts = sym same.1;
        last = λ station within.
            let inside : station < length numbers = omega (arith, within, long) in
            let one = noted_one (numbered l) numbers station (numbers_of station ls) inside in
            subst (λ (k : List ℕ). last_or (slice_index (noted numbers (numbered k)) station) (numbers_of station ls) ≡ last_number station lines) same.0
            (sym one ∙ last station within);
      }

-- where no record is left these are the numbers
pub at_gate : (lines : List (List ℕ)) (bytes numbers : List ℕ) → GoesOn lines bytes numbers → length numbers ≡ 16 → NoRecord bytes → AreLastNumbers lines numbers
at_gate lines bytes numbers g long none = by g.left g.are_lines g.parts g.last where
  by : (left : List (List ℕ)) → AllByRecursion IsLine left → bytes ≡ records_of left ++ g.gate ∷ g.rest
      → ((station : ℕ) → station < 16 → last_or (slice_index numbers station) (numbers_of station left) ≡ last_number station lines)
      → AreLastNumbers lines numbers
  by [] are parts last = λ station within.
      let inside : station < length numbers = omega (arith, within, long) in
      slice_get-get_or numbers station 0 inside ∙ ap Some (last station within)
  by (l ∷ ls) are parts last = absurd (none l (records_of ls ++ g.gate ∷ g.rest) are.0 (parts ∙ append_assoc (record_of l) (records_of ls) (g.gate ∷ g.rest)))

-- numbers that are 0
abbrev pub AreNone : List ℕ → Type 0
AreNone numbers = (station : ℕ) → station < 16 → slice_index numbers station ≡ 0

pub begins : (lines : List (List ℕ)) (bytes numbers : List ℕ) → HasLines bytes lines → AreNone numbers → GoesOn lines (drop 18 bytes) numbers
begins lines bytes numbers has none = record {
  left = lines;
  gate = has.gate;
  rest = has.rest;
  closed = has.closed;
  are_lines = has.are_lines;
  parts = ap (drop 18) has.parts;
  last = λ station within. ap (λ last. last_or last (numbers_of station lines)) (none station within);
}

-- a file that counts as new, and one that does not
pub of_new : (lines : List (List ℕ)) (bytes numbers : List ℕ) → length bytes ≤ 19 → Kept bytes lines → AreNone numbers → length numbers ≡ 16 → AreLastNumbers lines numbers
of_new lines bytes numbers short (inl new) none long = λ station within.
    let inside : station < length numbers = omega (arith, within, long) in
    slice_get-get_or numbers station 0 inside ∙ (ap Some (none station within) ∙ ap (λ (ls : List (List ℕ)). Some (last_number station ls)) (sym new.1))
of_new lines bytes numbers short (inr old) none long = let over = old.0 in absurd (omega (arith, short, over))

pub of_old : (lines : List (List ℕ)) (bytes numbers : List ℕ) → 19 < length bytes → Kept bytes lines → AreNone numbers → GoesOn lines (drop 18 bytes) numbers
of_old lines bytes numbers over (inl new) none = let short = new.0 in absurd (omega (arith, short, over))
of_old lines bytes numbers over (inr old) none = begins lines bytes numbers old.1 none
