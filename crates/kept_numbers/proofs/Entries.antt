-- The numbers of entries, as their lines tell them.
use Rattle.std.proofs.Common.{◌≡◌, ℕ, ◌≤◌, ◌<◌, max, List, [], ◌∷◌, ◌++◌, Bool, true, false, ◌==◌, cond, Option, Some, fold, map, codes, refl, sym, ap, ◌∙◌, subst, arith, append_assoc, append-nil, if◌then◌else◌}
use Rattle.std.specs.Fmt.{decimal}
use Rattle.std.specs.List.{All}
use Rattle.std.proofs.lemmas.Bool.Decides.{nat_tests}
use Rattle.std.proofs.lemmas.List.Elements.{All-head, All-tail, filter-append}
use Rattle.std.proofs.lemmas.List.Sums.{fold-append}
use Rattle.line_words.specs.Blanks.{words_of}
use Rattle.line_words.proofs.DigitLaws.{number_of-decimal}
use Rattle.line_words.proofs.WordLaws.{words_of-word}
use Rattle.line_table.specs.CallTexts.{step_text_of}
use Rattle.line_table.proofs.WrittenParts.{IsWord-decimal}
use Rattle.edit_calls.specs.declared.asks.Call.{Call}
use Rattle.take_back.specs.declared.step.Step.{Step}
use Rattle.room_core.specs.declared.entry.Entry.{Entry}
use Rattle.room_core.specs.History.{NumbersRise, RiseAfter}
use Rattle.room_core.specs.Projection.{of_station}
use Rattle.edit_journal.specs.Turns.{last_of}
use Rattle.journal_text.specs.Journals.{entry_text, HasLine}
use Rattle.journal_text.proofs.EntryTexts.{entry_words}
use Rattle.kept_rooms.specs.Kept.{AreTaken}
use Rattle.kept_numbers.specs.Entries.{NumbersOfTaken, NumbersOfWritten}
use Rattle.kept_numbers.specs.Numbers.{last_or, numbered, numbers_of, own_number}

-- the line of an entry begins with its station and its number
entry_numbered : (e : Entry (Step Call)) → HasLine e → numbered (entry_text e) ≡ Some (e.station, e.number)
entry_numbered e h =
    let words = entry_words e h in
    let station = number_of-decimal e.station (omega (arith, h.station)) in
    let number = number_of-decimal e.number h.number in
    rw (words, station, number) refl

-- ---- the last number of a station, with an entry more

last_step : {C : Type 0} (b : Bool) (m : ℕ) (e : Entry C) → fold (λ m e. max m e.number) m (cond b (e ∷ []) []) ≡ cond b (max m e.number) m
last_step true m e = refl
last_step false m e = refl

last_more : {C : Type 0} (s : ℕ) (entries : List (Entry C)) (e : Entry C) → last_of s (entries ++ e ∷ []) ≡ cond (e.station == s) (max (last_of s entries) e.number) (last_of s entries)
last_more s entries e =
    ap (λ l. fold (λ m e. max m e.number) 0 l) (filter-append (λ e. e.station == s) entries (e ∷ []))
    ∙ (fold-append (λ m e. max m e.number) 0 (of_station s entries) (of_station s (e ∷ [])) ∙ last_step (e.station == s) (last_of s entries) e)

-- it is the entry's own, where that is not below it
top : {C : Type 0} (b : Bool) (s : ℕ) (entries : List (Entry C)) (e : Entry C) → (e.station == s) ≡ b → last_of e.station entries ≤ e.number
    → cond b (max (last_of s entries) e.number) (last_of s entries) ≡ cond b e.number (last_of s entries)
top true s entries e is least =
    let same : e.station ≡ s = Prim.grind (arith, nat_tests, is) in
    let over : last_of s entries ≤ e.number = subst (λ k. last_of k entries ≤ e.number) same least in
    omega (arith, over)
top false s entries e is least = refl

last_next : {C : Type 0} (s : ℕ) (entries : List (Entry C)) (e : Entry C) → last_of e.station entries ≤ e.number
    → last_of s (entries ++ e ∷ []) ≡ cond (e.station == s) e.number (last_of s entries)
last_next s entries e least = last_more s entries e ∙ top (e.station == s) s entries e refl least

-- ---- lines of entries, after those before

-- each line is that of an entry, whose number is not below those of its station before it
abbrev Follow : List (Entry (Step Call)) → List (List ℕ) → List (Entry (Step Call)) → Type 0
Follow before [] [] = Unit {0}
Follow before [] (e ∷ es) = ⊥
Follow before (line ∷ lines) [] = ⊥
Follow before (line ∷ lines) (e ∷ es) =
    (numbered line ≡ Some (e.station, e.number)) × (last_of e.station before ≤ e.number) × Follow (before ++ e ∷ []) lines es

own_last : (b : Bool) (number last : ℕ) (rest : List ℕ) → last_or last ((if b then number ∷ [] else []) ++ rest) ≡ last_or (cond b number last) rest
own_last true number last rest = refl
own_last false number last rest = refl

own_first : (o : Option (ℕ × ℕ)) (station own number last : ℕ) (rest : List ℕ) → o ≡ Some (own, number)
    → last_or last (own_number station o ++ rest) ≡ last_or (cond (own == station) number last) rest
own_first o station own number last rest is = rw is (own_last (own == station) number last rest)

last_told : (s : ℕ) (before : List (Entry (Step Call))) (lines : List (List ℕ)) (entries : List (Entry (Step Call)))
    → Follow before lines entries → last_or (last_of s before) (numbers_of s lines) ≡ last_of s (before ++ entries)
last_told s before [] [] h = ap (last_of s) (sym (append-nil before))
last_told s before [] (e ∷ es) h = absurd h
last_told s before (line ∷ lines) [] h = absurd h
last_told s before (line ∷ lines) (e ∷ es) h =
    own_first (numbered line) s e.station e.number (last_of s before) (numbers_of s lines) h.0
    ∙ (ap (λ last. last_or last (numbers_of s lines)) (sym (last_next s before e h.1))
    ∙ (last_told s (before ++ e ∷ []) lines es h.2 ∙ ap (last_of s) (append_assoc before (e ∷ []) es)))

-- ---- records that are taken

taken_follow : (stations : ℕ) (before : List (Entry (Step Call))) (lines : List (List ℕ)) (entries : List (Entry (Step Call)))
    → AreTaken stations before lines entries → Follow before lines entries
taken_follow stations before [] [] h = tt
taken_follow stations before [] (e ∷ es) h = absurd h
taken_follow stations before (line ∷ lines) [] h = absurd h
taken_follow stations before (line ∷ lines) (e ∷ es) h =
    let rises = h.0.next.rises in
    (ap numbered h.0.text ∙ entry_numbered e h.0.has_line, omega (arith, rises), taken_follow stations (before ++ e ∷ []) lines es h.1)

pub of_taken : NumbersOfTaken
of_taken = λ stations records entries taken station. last_told station [] records entries (taken_follow stations [] records entries taken)

-- ---- the lines of a history

-- no number is below those of its station before
abbrev Above : List (Entry (Step Call)) → List (Entry (Step Call)) → Type 0
Above before [] = Unit {0}
Above before (e ∷ es) = (last_of e.station before ≤ e.number) × Above before es

above_none : (entries : List (Entry (Step Call))) → Above [] entries
above_none [] = tt
above_none (e ∷ es) = (omega arith, above_none es)

above_one : (b : Bool) (last number own own_station station : ℕ) → (station == own_station) ≡ b → last ≤ own → (own_station ≡ station → number < own) → cond b number last ≤ own
above_one true last number own own_station station is least rises =
    let same : own_station ≡ station = Prim.grind (arith, nat_tests, is) in
    let less : number < own = rises same in
    omega (arith, less)
above_one false last number own own_station station is least rises = least

above_more : (before : List (Entry (Step Call))) (e : Entry (Step Call)) (entries : List (Entry (Step Call))) → last_of e.station before ≤ e.number
    → Above before entries → RiseAfter e entries → Above (before ++ e ∷ []) entries
above_more before e [] least h rise = tt
above_more before e (f ∷ fs) least h rise =
    let next = last_next f.station before e least in
    let one = above_one (e.station == f.station) (last_of f.station before) e.number f.number f.station e.station refl h.0 rise.0 in
    (rw next one, above_more before e fs least h.1 rise.1)

written_follow : (before entries : List (Entry (Step Call))) → All HasLine entries → NumbersRise entries → Above before entries
    → Follow before (map entry_text entries) entries
written_follow before [] lines rise above = tt
written_follow before (e ∷ es) lines rise above =
    (entry_numbered e (All-head HasLine e es lines), above.0, written_follow (before ++ e ∷ []) es (All-tail HasLine e es lines) rise.1 (above_more before e es above.0 above.1 rise.0))

pub of_written : NumbersOfWritten
of_written = λ entries text station. last_told station [] (map entry_text entries) entries (written_follow [] entries text.lines text.rise (above_none entries))
