-- What files of headers, records and gates are kept files of.
use Rattle.std.proofs.Common.{◌≡◌, ◌≢◌, ⊎_elim, inl, inr, ℕ, ◌+◌, ◌-◌, ◌<◌, ◌≤◌, List, [], ◌∷◌, ◌++◌, Option, Some}
use Rattle.std.proofs.Common.{None, length, take, drop, refl, sym, ◌∙◌, ap, arith, append_assoc, length-append}
use Rattle.std.proofs.Common.{take-append-drop}
use Rattle.std.specs.List.{slice_get, AllByRecursion}
use Rattle.std.proofs.lemmas.Option.{none-some, same_Some}
use Rattle.std.proofs.lemmas.Bool.{cases_lt}
use Rattle.std.proofs.lemmas.List.{append_cancel_left, take_at}
use Rattle.journal_file.specs.Layout.{header, IsLine, record_of, records_of, front_of, HasLines, Kept, NoRecord}
use Rattle.journal_file.specs.Layout.{IsBroken, BreaksAt, IsDamagedAt}
use Rattle.journal_file.specs.Reading.{HasGateAt}
use Rattle.journal_file.specs.Standing.{HoldsLines}
use Rattle.journal_file.specs.Batches.{piece_of, IsBatch}
use Rattle.journal_file.specs.Stages.{IsEither}
use Rattle.std.proofs.lemmas.Grind.{flat_map-append}
use Rattle.journal_file.proofs.Lines.{same_line, all_append, record_split}

length-header : length header ≡ 18
length-header = refl

pub length-front : (lines : List (List ℕ)) → length (front_of lines) ≡ 18 + length (records_of lines)
length-front lines = length-append header (records_of lines) ∙ omega (arith, length-header)

pub length-record : (line : List ℕ) → length (record_of line) ≡ length line + 2
length-record line = omega (arith, length-append line (10 ∷ []))

no_records : (lines : List (List ℕ)) → length (records_of lines) ≡ 0 → lines ≡ []
no_records [] e = refl
no_records (l ∷ ls) e = absurd (omega (arith, e, length-append (record_of l) (records_of ls), length-record l))

-- a gate behind whole records makes a kept file, also a short one
pub kept_behind : (lines : List (List ℕ)) (gate : ℕ) (rest bytes : List ℕ) → AllByRecursion IsLine lines → gate ≢ 43
    → bytes ≡ front_of lines ++ gate ∷ rest → Kept bytes lines
kept_behind lines gate rest bytes all closed is = ⊎_elim
    (λ (long : 19 < length bytes). inr (
      long,
      record {
        gate = gate;
        rest = rest;
        closed = closed;
        are_lines = all;
        parts = is;
      },
    ))
    (λ (short : length bytes ≤ 19). inl (
      short,
      no_records lines
          (omega (arith, short, ap length is, length-append (front_of lines) (gate ∷ rest), length-front lines)),
    ))
    (cases_lt 19 (length bytes))

-- more records
pub front_more : (lines batch : List (List ℕ)) → 0 < length batch → front_of lines ++ 43 ∷ piece_of batch ≡ front_of
    (lines ++ batch) ++ 45 ∷ []
front_more lines [] some = absurd (omega (arith, some))
front_more lines (l ∷ ls) some =
    append_assoc header (records_of lines) (records_of (l ∷ ls) ++ 45 ∷ [])
    ∙ ap (λ t. header ++ t) (sym (append_assoc (records_of lines) (records_of (l ∷ ls)) (45 ∷ []))
    ∙ ap (λ t. t ++ 45 ∷ []) (sym (flat_map-append record_of lines (l ∷ ls))))
    ∙ sym (append_assoc header (records_of (lines ++ l ∷ ls)) (45 ∷ []))

-- the same before what does not count
pub front_more_before : (lines batch : List (List ℕ)) (rest : List ℕ) → 0 < length batch
    → front_of lines ++ 43 ∷ (piece_of batch ++ rest) ≡ front_of (lines ++ batch) ++ 45 ∷ rest
front_more_before lines batch rest some =
    sym (append_assoc (front_of lines) (43 ∷ piece_of batch) rest)
    ∙ ap (λ t. t ++ rest) (front_more lines batch some)
    ∙ append_assoc (front_of (lines ++ batch)) (45 ∷ []) rest

pub length-front_more : (lines batch : List (List ℕ)) → 0 < length batch → length (front_of (lines ++ batch)) ≡ length
    (front_of lines) + length (piece_of batch)
length-front_more lines batch some =
    let e = ap length (front_more lines batch some) in
    omega (
      arith,
      e,
      length-append (front_of lines) (43 ∷ piece_of batch),
      length-append (front_of (lines ++ batch)) (45 ∷ []),
    )

pub open_gate : ◌≢◌ {A = ℕ} 45 43
open_gate e = omega (arith, e)

-- what an append may leave
pub either_holds : (lines batch : List (List ℕ)) (bytes : List ℕ) → AllByRecursion IsLine lines → IsBatch batch
    → IsEither lines (piece_of batch) bytes → HoldsLines (Some batch) lines bytes
either_holds lines batch bytes all is (inl (gate, rest, closed, e)) =
    inl (kept_behind lines gate rest bytes all closed e)
either_holds lines batch bytes all is (inr (rest, e)) = inr (kept_behind (lines ++ batch) 45 rest bytes
    (all_append IsLine lines batch all is.0) open_gate (e ∙ front_more_before lines batch rest is.1))

-- ---- a file has one list of records

cons_head : (a b : ℕ) (xs ys : List ℕ) → a ∷ xs ≡ b ∷ ys → a ≡ b
cons_head a b xs ys e = ap head e
  where
    head : List ℕ → ℕ
    head [] = 0
    head (z ∷ zs) = z

cons_tail : (a b : ℕ) (xs ys : List ℕ) → a ∷ xs ≡ b ∷ ys → xs ≡ ys
cons_tail a b xs ys e = ap tail e
  where
    tail : List ℕ → List ℕ
    tail [] = []
    tail (z ∷ zs) = zs

-- a record's bytes before what follows
record_first : (l : List ℕ) (ls : List (List ℕ)) (rest : List ℕ) → records_of (l ∷ ls)
    ++ rest ≡ 43 ∷ (l ++ 10 ∷ (records_of ls ++ rest))
record_first l ls rest = append_assoc (record_of l) (records_of ls) rest ∙ record_split l (records_of ls ++ rest)

-- what no record begins, behind whole records, is told apart from them
split_same : (ls ms : List (List ℕ)) (xs ys : List ℕ) → AllByRecursion IsLine ls → AllByRecursion IsLine ms
    → NoRecord xs → NoRecord ys → records_of ls ++ xs ≡ records_of ms ++ ys → (ls ≡ ms) × (xs ≡ ys)
split_same [] [] xs ys al am nx ny e = (refl, e)
split_same [] (m ∷ ms) xs ys al am nx ny e = absurd (nx m (records_of ms ++ ys) am.0
    (e ∙ append_assoc (record_of m) (records_of ms) ys))
split_same (l ∷ ls) [] xs ys al am nx ny e = absurd (ny l (records_of ls ++ xs) al.0
    (sym e ∙ append_assoc (record_of l) (records_of ls) xs))
split_same (l ∷ ls) (m ∷ ms) xs ys al am nx ny e =
    let t = cons_tail 43 43 (l ++ 10 ∷ (records_of ls ++ xs)) (m ++ 10 ∷ (records_of ms ++ ys))
    (sym (record_first l ls xs) ∙ e ∙ record_first m ms ys) in
    let s = same_line l m (records_of ls ++ xs) (records_of ms ++ ys) al.0.one am.0.one t in
    let r = split_same ls ms xs ys al.1 am.1 nx ny s.1 in
    (ap (λ z. z ∷ ls) s.0 ∙ ap (λ z. m ∷ z) r.0, r.1)

closed_no_record : (gate : ℕ) (rest : List ℕ) → gate ≢ 43 → NoRecord (gate ∷ rest)
closed_no_record gate rest closed line after is e = closed (cons_head gate 43 rest (line ++ 10 ∷ after)
    (e ∙ record_split line after))

nil_cons : (a : ℕ) (xs : List ℕ) → ◌≡◌ {A = List ℕ} [] (a ∷ xs) → ⊥
nil_cons a xs e = let n = ap length e in omega (arith, n)

broken_no_record : (rest : List ℕ) → IsBroken rest → NoRecord rest
broken_no_record rest (inl end) line after is e = nil_cons 43 (line ++ 10 ∷ after)
    (sym end ∙ (e ∙ record_split line after))
broken_no_record rest (inr (more, plus, no_more)) line after is e = no_more line after is e

not_closed : (rest : List ℕ) (gate : ℕ) (more : List ℕ) → IsBroken rest → gate ≢ 43 → rest ≡ gate ∷ more → ⊥
not_closed rest gate more (inl end) closed e = nil_cons gate more (sym end ∙ e)
not_closed rest gate more (inr (others, plus, no_more)) closed e = closed (cons_head gate 43 more others (sym e ∙ plus))

behind_header : (bytes : List ℕ) (lines : List (List ℕ)) (xs : List ℕ) → bytes ≡ front_of lines ++ xs → bytes ≡ header
    ++ (records_of lines ++ xs)
behind_header bytes lines xs e = e ∙ append_assoc header (records_of lines) xs

apart : (bytes : List ℕ) (ls ms : List (List ℕ)) (xs ys : List ℕ) → bytes ≡ front_of ls ++ xs → bytes ≡ front_of ms
    ++ ys → records_of ls ++ xs ≡ records_of ms ++ ys
apart bytes ls ms xs ys a b = append_cancel_left header (records_of ls ++ xs) (records_of ms ++ ys)
    (sym (behind_header bytes ls xs a) ∙ behind_header bytes ms ys b)

pub same_lines : (bytes : List ℕ) (ls ms : List (List ℕ)) → HasLines bytes ls → HasLines bytes ms → ls ≡ ms
same_lines bytes ls ms a b =
    (split_same ls ms (a.gate ∷ a.rest) (b.gate ∷ b.rest) a.are_lines b.are_lines
    (closed_no_record a.gate a.rest a.closed) (closed_no_record b.gate b.rest b.closed)
    (apart bytes ls ms (a.gate ∷ a.rest) (b.gate ∷ b.rest) a.parts b.parts)).0

pub same_kept : (bytes : List ℕ) (ls ms : List (List ℕ)) → Kept bytes ls → Kept bytes ms → ls ≡ ms
same_kept bytes ls ms (inl a) (inl b) = a.1 ∙ sym b.1
same_kept bytes ls ms (inl a) (inr b) = absurd (omega (arith, a.0, b.0))
same_kept bytes ls ms (inr a) (inl b) = absurd (omega (arith, a.0, b.0))
same_kept bytes ls ms (inr a) (inr b) = same_lines bytes ls ms a.1 b.1

-- ---- a damaged file has none, and is damaged at one place

header_is : (bytes : List ℕ) (lines : List (List ℕ)) (xs : List ℕ) → bytes ≡ front_of lines ++ xs
    → take 18 bytes ≡ header
header_is bytes lines xs e = ap (take 18) (behind_header bytes lines xs e)
    ∙ take_at header (records_of lines ++ xs) 18 length-header

breaks_not : (bytes : List ℕ) (at : ℕ) (lines : List (List ℕ)) → BreaksAt bytes at → HasLines bytes lines → ⊥
breaks_not bytes at lines b h =
    let s = split_same b.lines lines b.rest (h.gate ∷ h.rest) b.are_lines h.are_lines (broken_no_record b.rest b.broken)
    (closed_no_record h.gate h.rest h.closed) (apart bytes b.lines lines b.rest (h.gate ∷ h.rest) b.parts
    h.parts) in
    not_closed b.rest h.gate h.rest b.broken h.closed s.1

pub damaged_not_kept : (bytes : List ℕ) (at : ℕ) (lines : List (List ℕ)) → IsDamagedAt bytes at → Kept bytes lines → ⊥
damaged_not_kept bytes at lines (long, why) (inl short) = omega (arith, long, short.0)
damaged_not_kept bytes at lines (long, inl wrong) (inr (_, h)) =
    wrong.0 (header_is bytes lines (h.gate ∷ h.rest) h.parts)
damaged_not_kept bytes at lines (long, inr b) (inr (_, h)) = breaks_not bytes at lines b h

pub damaged_once : (bytes : List ℕ) (at again : ℕ) → IsDamagedAt bytes at → IsDamagedAt bytes again → at ≡ again
damaged_once bytes at again (_, inl a) (_, inl b) = a.1 ∙ sym b.1
damaged_once bytes at again (_, inl a) (_, inr b) = absurd (a.0 (header_is bytes b.lines b.rest b.parts))
damaged_once bytes at again (_, inr a) (_, inl b) = absurd (b.0 (header_is bytes a.lines a.rest a.parts))
damaged_once bytes at again (_, inr a) (_, inr b) =
    a.place ∙ (ap (λ ls. length (front_of ls)) (split_same a.lines b.lines a.rest b.rest a.are_lines b.are_lines
    (broken_no_record a.rest a.broken) (broken_no_record b.rest b.broken)
    (apart bytes a.lines b.lines a.rest b.rest a.parts b.parts)).0 ∙ sym b.place)

-- a file has more bytes than records
pub lines_fewer : (lines : List (List ℕ)) → length lines ≤ length (records_of lines)
lines_fewer [] = omega arith
lines_fewer (l ∷ ls) = omega (arith, lines_fewer ls, length-append (record_of l) (records_of ls), length-record l)

-- ---- what was read

pub front_parts : (bytes : List ℕ) (lines : List (List ℕ)) (rest : List ℕ) → take 18 bytes ≡ header
    → drop 18 bytes ≡ records_of lines ++ rest → bytes ≡ front_of lines ++ rest
front_parts bytes lines rest h r =
    sym (take-append-drop 18 bytes) ∙ (ap (λ t. t ++ drop 18 bytes) h
    ∙ (ap (λ t. header ++ t) r ∙ sym (append_assoc header (records_of lines) rest)))

pub read_place : (bytes : List ℕ) (lines : List (List ℕ)) (rest : List ℕ) (at : ℕ) → bytes ≡ front_of lines ++ rest
    → at ≡ length bytes - length rest → at ≡ length (front_of lines)
read_place bytes lines rest at parts is = omega (arith, is, ap length parts, length-append (front_of lines) rest)

-- the first byte of what is left
pub with_first : (rest : List ℕ) (gate : ℕ) → Some gate ≡ slice_get rest 0 → rest ≡ gate ∷ drop 1 rest
with_first [] gate is = absurd (none-some gate (sym is))
with_first (x ∷ xs) gate is = ap (λ y. y ∷ xs) (sym (same_Some gate x is))

pub with_none : (rest : List ℕ) → ◌≡◌ {A = Option ℕ} None (slice_get rest 0) → rest ≡ []
with_none [] is = refl
with_none (x ∷ xs) is = absurd (none-some x is)

pub ends_at_plus : (bytes : List ℕ) (lines : List (List ℕ)) (rest more : List ℕ) (at : ℕ) → 19 < length bytes
    → AllByRecursion IsLine lines → bytes ≡ front_of lines ++ rest → rest ≡ 43 ∷ more → NoRecord rest
    → at ≡ length bytes - length rest → IsDamagedAt bytes at
ends_at_plus bytes lines rest more at long all parts plus no_more is = (
  long,
  inr (record {
    lines = lines;
    rest = rest;
    are_lines = all;
    parts = parts;
    broken = inr (more, plus, no_more);
    place = read_place bytes lines rest at parts is;
  }),
)

pub ends_at_end : (bytes : List ℕ) (lines : List (List ℕ)) (rest : List ℕ) (at : ℕ) → 19 < length bytes
    → AllByRecursion IsLine lines → bytes ≡ front_of lines ++ rest → rest ≡ [] → at ≡ length bytes - length rest
    → IsDamagedAt bytes at
ends_at_end bytes lines rest at long all parts end is = (
  long,
  inr (record {
    lines = lines;
    rest = rest;
    are_lines = all;
    parts = parts;
    broken = inl end;
    place = read_place bytes lines rest at parts is;
  }),
)

pub has_gate : (bytes : List ℕ) (lines : List (List ℕ)) (rest more : List ℕ) (gate at : ℕ) → AllByRecursion IsLine lines
    → bytes ≡ front_of lines ++ rest → rest ≡ gate ∷ more → gate ≢ 43 → at ≡ length bytes - length rest
    → HasGateAt bytes lines at
has_gate bytes lines rest more gate at all parts first closed is = record {
  has = record {
    gate = gate;
    rest = more;
    closed = closed;
    are_lines = all;
    parts = parts
        ∙ ap (λ t. front_of lines ++ t) first;
  };
  place = read_place bytes lines rest at parts is;
}

-- the records that were copied are those that were counted
pub copied_same : (bytes : List ℕ) (lines records : List (List ℕ)) (at : ℕ) (rest : List ℕ) → HasGateAt bytes lines at
    → AllByRecursion IsLine records → drop 18 bytes ≡ records_of records ++ rest → NoRecord rest → lines ≡ records
copied_same bytes lines records at rest g all parts none =
    let h = g.has in
    (split_same lines records (h.gate ∷ h.rest) rest h.are_lines all (closed_no_record h.gate h.rest h.closed) none
    (apart bytes lines records (h.gate ∷ h.rest) rest h.parts (front_parts bytes records rest
    (header_is bytes lines (h.gate ∷ h.rest) h.parts) parts))).0
