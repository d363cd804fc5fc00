-- The steps of a reader of journals.
use Rattle.std.proofs.Common.{◌≡◌, ◌≢◌, ℕ, ◌+◌, ◌<◌, ◌≤◌, ◌⊎◌, List, [], ◌∷◌, ◌++◌, Bool, true, false, not, ◌&&◌, Option, Some, None, Ok, Err, length, get_or, set, take, drop, inl, inr, refl, sym, ap, ◌∙◌, arith, subst, append_assoc, length-append, codes}
use Rattle.std.specs.Fmt.{decimal}
use Rattle.std.specs.List.{flat_map, position, All}
use Rattle.std.proofs.lemmas.Bool.Decides.{nat_tests}
use Rattle.std.proofs.lemmas.List.{append-nil, take-append-drop, drop_more, take_more, get_or-set_same, get_or-set_other}
use Rattle.std.proofs.lemmas.Bool.{cases_eq}
use Rattle.std.proofs.lemmas.Slice.Eq.{bytes_eq-Decides}
use Rattle.std.specs.Str.{bytes_eq}
use Rattle.std.proofs.lemmas.List.Elements.{All-head, All-tail, All-get_or}
use Rattle.std.proofs.lemmas.Grind.{flat_map-append}
use Rattle.line_words.specs.Blanks.{words_of}
use Rattle.line_words.specs.Digits.{number_of}
use Rattle.line_words.specs.Lines.{is_lf}
use Rattle.line_words.proofs.DigitLaws.{number_of-decimal}
use Rattle.line_words.specs.declared.numbers.NumberFault.{NumberFault}
use Rattle.edit_calls.specs.declared.asks.Call.{Call}
use Rattle.room_core.specs.declared.entry.Entry.{Entry}
use Rattle.take_back.specs.declared.step.Step.{Step}
use Rattle.room_core.specs.History.{NumbersRise, most_entries}
use Rattle.journal_text.specs.declared.journal_fault.JournalCode.TheVariants.{H2}
use Rattle.line_table.specs.CallTexts.{IsSmall}
use Rattle.journal_text.specs.JournalFaults.{HasNoLineFeed, HasNoCount, HasNoEntry, IsNoEntry, AreLines, Begins, IsFaulty, IsFirstLate}
use Rattle.journal_text.specs.Journals.{entry_text, entry_line, count_text, count_line, journal_text_of, HasLine}
use Rattle.journal_text.specs.LooseEntries.{loose_entry}
use Rattle.journal_text.proofs.LateEntries.{IsLeast, is_late, rise_more, least_at, least_other}
use Rattle.line_table.proofs.ListWords.{first_passes}
use Rattle.journal_text.proofs.EntryTexts.{is_plain, entry_plain, count_plain, cut_once, entry_told, line_parts}

-- a word that is read as another number than it should be
pub other_number : (word : List ℕ) (read : ℕ) → number_of word ≡ Ok read → (decimal read ≡ word → ⊥) → (n : ℕ) → IsSmall n → word ≢ decimal n
other_number word read is other n small same =
    let first = ap number_of same in
    let second = number_of-decimal n small in
    let number : read ≡ n = cc in
    other (ap decimal number ∙ sym same)

pub no_number : (word : List ℕ) (fault : NumberFault) → number_of word ≡ Err fault → (n : ℕ) → IsSmall n → word ≢ decimal n
no_number word fault is n small same =
    let first = ap number_of same in
    let second = number_of-decimal n small in
    cc

pub no_digits : (line digits : List ℕ) → line ≡ codes "journal " ++ digits → ((n : ℕ) → IsSmall n → digits ≢ decimal n) → (n : ℕ) → IsSmall n → line ≢ count_text n
no_digits line digits is none n small same =
    let both = sym is ∙ same in
    let digits_same : digits ≡ decimal n = cc in
    none n small digits_same

-- bytes without a line feed
pub plain_from : (bytes : List ℕ) → HasNoLineFeed bytes → is_plain bytes ≡ true
plain_from [] h = refl
plain_from (byte ∷ bytes) h =
    let here = All-head (λ byte. is_lf byte ≡ false) byte bytes h in
    let more = plain_from bytes (All-tail (λ byte. is_lf byte ≡ false) byte bytes h) in
    rw (here, more) refl

line_feed_in : (a b : List ℕ) → is_plain (a ++ 10 ∷ b) ≡ true → ⊥
line_feed_in [] b h = cc
line_feed_in (byte ∷ a) b h = line_feed_in a b (both (not (is_lf byte)) (is_plain (a ++ 10 ∷ b)) h)
  where
    both : (s t : Bool) → (s && t) ≡ true → t ≡ true
    both true t h = h
    both false t h = absurd cc

no_line : (text line rest : List ℕ) → HasNoLineFeed text → text ≢ (line ++ codes "\n") ++ rest
no_line text line rest none same = line_feed_in line rest (rw (same ∙ line_parts line rest) at (plain_from text none))

pub no_line_count : (text : List ℕ) → HasNoLineFeed text → HasNoCount text
no_line_count text none = λ n rest small same. no_line text (count_text n) rest none same

pub no_line_entry : (text : List ℕ) → HasNoLineFeed text → HasNoEntry text
no_line_entry text none = λ e rest line same. no_line text (entry_text e) rest none same

pub no_told_count : (text line rest : List ℕ) → text ≡ line ++ 10 ∷ rest → HasNoLineFeed line → ((n : ℕ) → IsSmall n → line ≢ count_text n) → HasNoCount text
no_told_count text line rest is plain none = λ n more small same.
    none n small (cut_once line (count_text n) rest more (plain_from line plain) (count_plain n small) (sym is ∙ same ∙ line_parts (count_text n) more)).0

pub no_told_entry : (text line rest : List ℕ) → text ≡ line ++ 10 ∷ rest → HasNoLineFeed line → IsNoEntry line → HasNoEntry text
no_told_entry text line rest is plain none = λ e more has same.
    none e has (cut_once line (entry_text e) rest more (plain_from line plain) (entry_plain e has) (sym is ∙ same ∙ line_parts (entry_text e) more)).0

pub told_line : (text line rest told : List ℕ) → text ≡ line ++ 10 ∷ rest → line ≡ told → text ≡ (told ++ codes "\n") ++ rest
told_line text line rest told is same = is ∙ ap (λ l. l ++ 10 ∷ rest) same ∙ sym (line_parts told rest)

-- a line that is no entry however it is spelled, or that is an entry and is not its text
pub none_loose : (place_at : List ℕ → Option ℕ) (line : List ℕ) → None ≡ loose_entry place_at (words_of line) → IsNoEntry line
none_loose place_at line none = λ e has same.
    let told = entry_told place_at e has in
    let read = ap (λ l. loose_entry place_at (words_of l)) same in
    let both : None ≡ Some e = none ∙ read ∙ told in
    absurd cc

pub other_loose : (place_at : List ℕ → Option ℕ) (line : List ℕ) (e : Entry (Step Call)) → Some e ≡ loose_entry place_at (words_of line) → (entry_text e ≡ line → ⊥) → IsNoEntry line
other_loose place_at line e is other = λ f has same.
    let told = entry_told place_at f has in
    let read = ap (λ l. loose_entry place_at (words_of l)) same in
    let both : Some e ≡ Some f = is ∙ read ∙ told in
    let entry : e ≡ f = cc in
    other (ap entry_text entry ∙ sym same)

-- one entry more
pub one_more : (es : List (Entry (Step Call))) (e : Entry (Step Call)) (rest more text : List ℕ) → flat_map entry_line es ++ rest ≡ text → rest ≡ entry_line e ++ more
    → flat_map entry_line (es ++ e ∷ []) ++ more ≡ text
one_more es e rest more text so_far is =
    ap (λ lines. lines ++ more) (flat_map-append entry_line es (e ∷ []))
    ∙ append_assoc (flat_map entry_line es) (flat_map entry_line (e ∷ [])) more
    ∙ ap (λ lines. flat_map entry_line es ++ (lines ++ more)) (append-nil (entry_line e))
    ∙ ap (λ lines. flat_map entry_line es ++ lines) (sym is)
    ∙ so_far

pub shorter : (e : Entry (Step Call)) (rest more : List ℕ) → rest ≡ entry_line e ++ more → length more < length rest
shorter e rest more is =
    let whole = ap length (is ∙ line_parts (entry_text e) more) in
    let parts = length-append (entry_text e) (10 ∷ more) in
    omega (arith, whole, parts)

pub begins_whole : (text rest : List ℕ) (count : ℕ) (es : List (Entry (Step Call))) → IsSmall count → text ≡ count_line count ++ rest → AreLines rest es → Begins text count es []
begins_whole text rest count es small is h = record {
  small = small;
  lines = h.0;
  spelled = is ∙ ap (λ r. count_line count ++ r) (h.1 ∙ sym (append-nil (flat_map entry_line es)));
}

pub wrong_told : (text rest : List ℕ) (count : ℕ) (es : List (Entry (Step Call))) → IsSmall count → text ≡ count_line count ++ rest → AreLines rest es
    → (count ≢ length es) ⊎ (most_entries < count) → IsFaulty text H2 (0 + 1)
wrong_told text rest count es small is h wrong = (count, es, begins_whole text rest count es small is h, wrong, refl)

pub whole_text : (text rest : List ℕ) (count : ℕ) (es : List (Entry (Step Call))) → text ≡ count_line count ++ rest → AreLines rest es → count ≡ length es → text ≡ journal_text_of es
whole_text text rest count es is h same = is ∙ ap (λ n. count_line n ++ rest) same ∙ ap (λ r. count_line (length es) ++ r) h.1

-- the place of an entry in a list
pub at_place : (es : List (Entry (Step Call))) (i : ℕ) (d : Entry (Step Call)) → i < length es → es ≡ take i es ++ get_or es i d ∷ drop (i + 1) es
at_place es i d inside = sym (take-append-drop i es) ∙ ap (λ rest. take i es ++ rest) (drop_more es i d inside)

line_feed_at : (byte : ℕ) → is_lf byte ≡ true → byte ≡ 10
line_feed_at byte h = grind (arith, nat_tests)

-- a text at its first line feed
pub cut_at : (text : List ℕ) (i : ℕ) → position is_lf text ≡ Some i → (text ≡ take i text ++ 10 ∷ drop (i + 1) text) × HasNoLineFeed (take i text)
cut_at text i h =
    let first = first_passes is_lf text i h in
    let here = line_feed_at (get_or text i 0) first.1 in
    (sym (take-append-drop i text) ∙ ap (λ rest. take i text ++ rest) (drop_more text i 0 first.0) ∙ ap (λ byte. take i text ++ byte ∷ drop (i + 1) text) here, first.2)

pub differ : (a b : List ℕ) → bytes_eq a b ≡ false → a ≡ b → ⊥
differ a b h same = let test = (bytes_eq-Decides a b).1 same in absurd cc

-- an entry whose number is below the least for its station, and one whose number is not
module _ (es : List (Entry (Step Call))) (i : ℕ) (d : Entry (Step Call)) (l : List ℕ) (number : ℕ) where
  pub late_found : All HasLine es → i < length es → NumbersRise (take i es) → ((s : ℕ) → s < 16 → IsLeast (take i es) s (get_or l s 0))
      → number ≡ (get_or es i d).number → number < get_or l (get_or es i d).station 0 → IsFirstLate es (take i es)
  late_found lines inside rise least same low =
      let station = (All-get_or HasLine es i d inside lines).station in
      let here = least (get_or es i d).station (omega (arith, station)) in
      record {
        rise = rise;
        late = (get_or es i d, drop (i + 1) es, at_place es i d inside, is_late (take i es) (get_or es i d) _ here (rw same at low));
      }

  pub rise_next : All HasLine es → i < length es → NumbersRise (take i es) → ((s : ℕ) → s < 16 → IsLeast (take i es) s (get_or l s 0))
      → number ≡ (get_or es i d).number → get_or l (get_or es i d).station 0 ≤ number → NumbersRise (take (i + 1) es)
  rise_next lines inside rise least same up =
      let station = (All-get_or HasLine es i d inside lines).station in
      let here = least (get_or es i d).station (omega (arith, station)) in
      rw (take_more es i d inside) (rise_more (take i es) (get_or es i d) _ rise here.below (rw same at up))

  pub least_next : All HasLine es → i < length es → length l ≡ 16 → ((s : ℕ) → s < 16 → IsLeast (take i es) s (get_or l s 0))
      → number ≡ (get_or es i d).number → get_or l (get_or es i d).station 0 ≤ number
      → (s : ℕ) → s < 16 → IsLeast (take (i + 1) es) s (get_or (set l (get_or es i d).station (number + 1)) s 0)
  least_next lines inside slots least same up s small =
      rw (take_more es i d inside) (by (cases_eq (get_or es i d).station s))
    where
      by : ((get_or es i d).station ≡ s) ⊎ ((get_or es i d).station ≡ s → ⊥) → IsLeast (take i es ++ get_or es i d ∷ []) s (get_or (set l (get_or es i d).station (number + 1)) s 0)
      by (inl own) =
          let held = get_or-set_same l s (number + 1) 0 (omega (arith, slots, small)) in
          let here = least s small in
          rw (own, held) (least_at (take i es) (get_or es i d) s (get_or l s 0) (number + 1) own here (rw own at (rw same at up)) (ap (λ n. n + 1) same))
      by (inr other) =
          let held = get_or-set_other l (get_or es i d).station s (number + 1) 0 (λ e. other (sym e)) in
          rw held (least_other (take i es) (get_or es i d) s (get_or l s 0) (least s small) other)

-- the same of an entry that is the one at this place
module _ (es : List (Entry (Step Call))) (i : ℕ) (e : Entry (Step Call)) (l : List ℕ) (number : ℕ) (is : e ≡ get_or es i e) where
  pub late_at : All HasLine es → i < length es → NumbersRise (take i es) → ((s : ℕ) → s < 16 → IsLeast (take i es) s (get_or l s 0))
      → number ≡ e.number → number < get_or l e.station 0 → IsFirstLate es (take i es)
  late_at lines inside rise least same low =
      late_found es i e l number lines inside rise least (same ∙ ap (λ (f : Entry (Step Call)). f.number) is) (subst (λ (f : Entry (Step Call)). number < get_or l f.station 0) is low)

  pub rise_at : All HasLine es → i < length es → NumbersRise (take i es) → ((s : ℕ) → s < 16 → IsLeast (take i es) s (get_or l s 0))
      → number ≡ e.number → get_or l e.station 0 ≤ number → NumbersRise (take (i + 1) es)
  rise_at lines inside rise least same up =
      rise_next es i e l number lines inside rise least (same ∙ ap (λ (f : Entry (Step Call)). f.number) is) (subst (λ (f : Entry (Step Call)). get_or l f.station 0 ≤ number) is up)

  pub least_behind : All HasLine es → i < length es → length l ≡ 16 → ((s : ℕ) → s < 16 → IsLeast (take i es) s (get_or l s 0))
      → number ≡ e.number → get_or l e.station 0 ≤ number
      → (s : ℕ) → s < 16 → IsLeast (take (i + 1) es) s (get_or (set l e.station (number + 1)) s 0)
  least_behind lines inside slots least same up =
      subst (λ (f : Entry (Step Call)). (s : ℕ) → s < 16 → IsLeast (take (i + 1) es) s (get_or (set l f.station (number + 1)) s 0)) (sym is)
      (least_next es i e l number lines inside slots least (same ∙ ap (λ (f : Entry (Step Call)). f.number) is) (subst (λ (f : Entry (Step Call)). get_or l f.station 0 ≤ number) is up))
