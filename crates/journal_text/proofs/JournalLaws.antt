-- A text is that of one journal, or has one fault.
use Rattle.std.proofs.Common.{◌≡◌, ◌≢◌, ℕ, ◌<◌, ◌≤◌, ◌⊎◌, List, [], ◌∷◌, ◌++◌, length, inl, inr, refl, sym, ap, ◌∙◌, arith}
use Rattle.std.specs.List.{flat_map}
use Rattle.std.proofs.lemmas.List.{append-nil}
use Rattle.edit_calls.specs.declared.asks.Call.{Call}
use Rattle.room_core.specs.declared.entry.Entry.{Entry}
use Rattle.take_back.specs.declared.step.Step.{Step}
use Rattle.room_core.specs.History.{RiseAfter, NumbersRise, most_entries}
use Rattle.journal_text.specs.declared.journal_fault.JournalCode.{JournalCode}
use Rattle.journal_text.specs.declared.journal_fault.JournalCode.TheVariants.{H1, H2, H4}
use Rattle.journal_text.specs.JournalFaults.{HasNoCount, HasNoEntry, Begins, StopsBehind, IsLate, IsFirstLate, IsFaulty, AreEntriesOf}
use Rattle.journal_text.specs.Journals.{entry_text, entry_line, count_line}
use Rattle.journal_text.proofs.EntryTexts.{line_parts, count_once, entries_once}

never_empty : (text rest : List ℕ) → [] ≡ text ++ 10 ∷ rest → ⊥
never_empty [] rest h = cc
never_empty (byte ∷ text) rest h = cc

pub none_in_nothing : HasNoEntry []
none_in_nothing = λ e rest h same. never_empty (entry_text e) rest (same ∙ line_parts (entry_text e) rest)

begins_once : (text : List ℕ) (m n : ℕ) (es fs : List (Entry (Step Call))) (x y : List ℕ) → Begins text m es x → Begins text n fs y
    → HasNoEntry x → HasNoEntry y → (m ≡ n) × (es ≡ fs) × (x ≡ y)
begins_once text m n es fs x y h k s t =
    let counts = count_once m n (flat_map entry_line es ++ x) (flat_map entry_line fs ++ y) h.small k.small (sym h.spelled ∙ k.spelled) in
    let lines = entries_once es fs x y h.lines k.lines s t counts.1 in
    (counts.0, lines.0, lines.1)

pub whole_begins : (text : List ℕ) (es : List (Entry (Step Call))) → AreEntriesOf text es → Begins text (length es) es []
whole_begins text es h =
    let within = h.0.within in
    record {
      small = omega (arith, within);
      lines = h.0.lines;
      spelled = h.1 ∙ ap (λ lines. count_line (length es) ++ lines) (sym (append-nil (flat_map entry_line es)));
    }

-- a late entry does not rise
late_falls : (before behind : List (Entry (Step Call))) (e : Entry (Step Call)) → NumbersRise (before ++ e ∷ behind) → IsLate before e → ⊥
late_falls [] behind e rise late = late
late_falls (f ∷ fs) behind e rise (inl here) =
    let above = after fs behind f e rise.0 here.0 in
    let low = here.1 in
    omega (arith, above, low)
  where
    after : (gs behind : List (Entry (Step Call))) (f e : Entry (Step Call)) → RiseAfter f (gs ++ e ∷ behind) → f.station ≡ e.station → f.number < e.number
    after [] behind f e h same = h.0 (sym same)
    after (g ∷ gs) behind f e h same = after gs behind f e h.1 same
late_falls (f ∷ fs) behind e rise (inr more) = late_falls fs behind e rise.1 more

-- two places of a list: one place, or one behind the other
two_places : (a b u v : List (Entry (Step Call))) (x y : Entry (Step Call)) → a ++ x ∷ u ≡ b ++ y ∷ v
    → (length a ≡ length b) ⊎ (((w : List (Entry (Step Call))) × (b ≡ a ++ x ∷ w)) ⊎ ((w : List (Entry (Step Call))) × (a ≡ b ++ y ∷ w)))
two_places [] [] u v x y h = inl refl
two_places [] (f ∷ b) u v x y h = inr (inl (b, cc))
two_places (e ∷ a) [] u v x y h = inr (inr (a, cc))
two_places (e ∷ a) (f ∷ b) u v x y h =
    let head : e ≡ f = cc in
    let tails : a ++ x ∷ u ≡ b ++ y ∷ v = cc in
    further (two_places a b u v x y tails) head
  where
    further : (length a ≡ length b) ⊎ (((w : List (Entry (Step Call))) × (b ≡ a ++ x ∷ w)) ⊎ ((w : List (Entry (Step Call))) × (a ≡ b ++ y ∷ w))) → e ≡ f
        → (length (e ∷ a) ≡ length (f ∷ b)) ⊎ (((w : List (Entry (Step Call))) × (f ∷ b ≡ e ∷ a ++ x ∷ w)) ⊎ ((w : List (Entry (Step Call))) × (e ∷ a ≡ f ∷ b ++ y ∷ w)))
    further (inl same) head = inl (omega (arith, same))
    further (inr (inl (w, later))) head = inr (inl (w, cc))
    further (inr (inr (w, later))) head = inr (inr (w, cc))

late_once : (es before others : List (Entry (Step Call))) → IsFirstLate es before → IsFirstLate es others → length before ≡ length others
late_once es before others h k =
    by (two_places before others h.late.1 k.late.1 h.late.0 k.late.0 (sym h.late.2 ∙ k.late.2))
  where
    by : (length before ≡ length others) ⊎ (((w : List (Entry (Step Call))) × (others ≡ before ++ h.late.0 ∷ w)) ⊎ ((w : List (Entry (Step Call))) × (before ≡ others ++ k.late.0 ∷ w))) → length before ≡ length others
    by (inl same) = same
    by (inr (inl (w, later))) = let rise = rw later at k.rise in absurd (late_falls before w h.late.0 rise h.late.3)
    by (inr (inr (w, later))) = let rise = rw later at h.rise in absurd (late_falls others w k.late.0 rise k.late.3)

pub one_journal : (text : List ℕ) (es fs : List (Entry (Step Call))) → AreEntriesOf text es → AreEntriesOf text fs → es ≡ fs
one_journal text es fs h k =
    (begins_once text (length es) (length fs) es fs [] [] (whole_begins text es h) (whole_begins text fs k) none_in_nothing none_in_nothing).1

-- a text that begins with a count
has_count : (text : List ℕ) (n : ℕ) (es : List (Entry (Step Call))) (x : List ℕ) → HasNoCount text → Begins text n es x → ⊥
has_count text n es x none h = none n (flat_map entry_line es ++ x) h.small h.spelled

-- a text that stops behind entries, and one that does not
stops_whole : (text : List ℕ) (m n : ℕ) (es fs : List (Entry (Step Call))) (x : List ℕ) → StopsBehind text m es x → Begins text n fs [] → ⊥
stops_whole text m n es fs x h k =
    let once = begins_once text m n es fs x [] h.0 k h.2 none_in_nothing in
    let some = h.1 in
    let none = ap length once.2 in
    omega (arith, some, none)

stops_once : (text : List ℕ) (m n : ℕ) (es fs : List (Entry (Step Call))) (x y : List ℕ) → StopsBehind text m es x → StopsBehind text n fs y → length es ≡ length fs
stops_once text m n es fs x y h k = ap length (begins_once text m n es fs x y h.0 k.0 h.2 k.2).1

-- a count that is wrong for these entries, and right
wrong_count : (text : List ℕ) (n : ℕ) (es fs : List (Entry (Step Call))) → Begins text n es [] → (n ≢ length es) ⊎ (most_entries < n)
    → Begins text (length fs) fs [] → length fs ≤ most_entries → ⊥
wrong_count text n es fs h (inl wrong) k within =
    let once = begins_once text n (length fs) es fs [] [] h k none_in_nothing none_in_nothing in
    wrong (once.0 ∙ ap length (sym once.1))
wrong_count text n es fs h (inr many) k within =
    let once = begins_once text n (length fs) es fs [] [] h k none_in_nothing none_in_nothing in
    let same = once.0 in
    omega (arith, many, within, same)

faults_once : (text : List ℕ) (c d : JournalCode) (i j : ℕ) → IsFaulty text c i → IsFaulty text d j → (c ≡ d) × (i ≡ j)
faults_once text H1 H1 i j (inl (none, at)) (inl (none', at')) = (refl, cc)
faults_once text H1 H1 i j (inl (none, at)) (inr (n, fs, y, stops, at')) = absurd (has_count text n fs y none stops.0)
faults_once text H1 H1 i j (inr (m, es, x, stops, at)) (inl (none, at')) = absurd (has_count text m es x none stops.0)
faults_once text H1 H1 i j (inr (m, es, x, stops, at)) (inr (n, fs, y, stops', at')) =
    let same = stops_once text m n es fs x y stops stops' in
    (refl, omega (arith, same, at, at'))
faults_once text H1 H2 i j (inl (none, at)) (n, fs, whole, wrong, at') = absurd (has_count text n fs [] none whole)
faults_once text H1 H2 i j (inr (m, es, x, stops, at)) (n, fs, whole, wrong, at') = absurd (stops_whole text m n es fs x stops whole)
faults_once text H1 H4 i j (inl (none, at)) (fs, before, whole, within, late, at') = absurd (has_count text (length fs) fs [] none whole)
faults_once text H1 H4 i j (inr (m, es, x, stops, at)) (fs, before, whole, within, late, at') = absurd (stops_whole text m (length fs) es fs x stops whole)
faults_once text H2 H1 i j (m, es, whole, wrong, at) (inl (none, at')) = absurd (has_count text m es [] none whole)
faults_once text H2 H1 i j (m, es, whole, wrong, at) (inr (n, fs, y, stops, at')) = absurd (stops_whole text n m fs es y stops whole)
faults_once text H2 H2 i j (m, es, whole, wrong, at) (n, fs, whole', wrong', at') = (refl, cc)
faults_once text H2 H4 i j (m, es, whole, wrong, at) (fs, before, whole', within, late, at') = absurd (wrong_count text m es fs whole wrong whole' within)
faults_once text H4 H1 i j (es, before, whole, within, late, at) (inl (none, at')) = absurd (has_count text (length es) es [] none whole)
faults_once text H4 H1 i j (es, before, whole, within, late, at) (inr (n, fs, y, stops, at')) = absurd (stops_whole text n (length es) fs es y stops whole)
faults_once text H4 H2 i j (es, before, whole, within, late, at) (n, fs, whole', wrong, at') = absurd (wrong_count text n fs es whole' wrong whole within)
faults_once text H4 H4 i j (es, before, whole, within, late, at) (fs, others, whole', within', late', at') =
    let once = begins_once text (length es) (length fs) es fs [] [] whole whole' none_in_nothing none_in_nothing in
    let same = late_once fs before others (rw once.1 at late) late' in
    (refl, omega (arith, same, at, at'))

pub one_fault : (text : List ℕ) (c d : JournalCode) (i j : ℕ) → IsFaulty text c i → IsFaulty text d j → (c ≡ d) × (i ≡ j)
one_fault text c d i j h k = faults_once text c d i j h k

pub no_fault : (text : List ℕ) (es : List (Entry (Step Call))) (c : JournalCode) (i : ℕ) → AreEntriesOf text es → IsFaulty text c i → ⊥
no_fault text es H1 i h (inl (none, at)) = has_count text (length es) es [] none (whole_begins text es h)
no_fault text es H1 i h (inr (n, fs, y, stops, at)) = stops_whole text n (length es) fs es y stops (whole_begins text es h)
no_fault text es H2 i h (n, fs, whole, wrong, at) = wrong_count text n fs es whole wrong (whole_begins text es h) h.0.within
no_fault text es H4 i h (fs, before, whole, within, late, at) =
    let once = begins_once text (length es) (length fs) es fs [] [] (whole_begins text es h) whole none_in_nothing none_in_nothing in
    let same = once.1 ∙ late.late.2 in
    late_falls before late.late.1 late.late.0 (rw same at h.0.rise) late.late.3
