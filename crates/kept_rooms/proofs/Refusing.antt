-- The first record that fails, after records that are taken.
use Rattle.std.proofs.Common.{◌≡◌, ℕ, zero, suc, ◌+◌, ◌<◌, List, [], ◌∷◌, ◌++◌, Err, IsSome, length, take, drop, get_or, refl, sym, ap, subst, ◌∙◌, arith, append_assoc, append-nil, take-append-drop}
use Rattle.std.proofs.lemmas.List.{take_more, drop_more}
use Rattle.edit_calls.specs.declared.asks.Call.{Call}
use Rattle.take_back.specs.declared.step.Step.{Step}
use Rattle.room_core.specs.declared.entry.Entry.{Entry}
use Rattle.room_core.specs.History.{replay}
use Rattle.room_core.specs.Whole.{Meaning, whole}
use Rattle.history_points.specs.Replays.{IsFirstRefused}
use Rattle.kept_rooms.specs.declared.fault.KeptFault.{KeptFault}
use Rattle.kept_rooms.specs.declared.fault.KeptFault.TheVariants as fault
use Rattle.kept_rooms.specs.declared.fault.RecordCode.{RecordCode}
use Rattle.kept_rooms.specs.declared.stop.Stop.{Stop}
use Rattle.kept_rooms.specs.declared.stop.Stop.TheVariants as stop
use Rattle.kept_rooms.specs.Kept.{AreTaken, IsKeptFault, IsTakenAfter, IsRefusedAfter, RefusesEntry}
use Rattle.kept_rooms.specs.Making.{Adds, TakesOne, Tells}
use Rattle.kept_rooms.proofs.Taking.{taken_more}

-- as many entries as records
pub taken_length : (stations : ℕ) (first : List (Entry (Step Call))) (lines : List (List ℕ)) (entries : List (Entry (Step Call))) → AreTaken stations first lines entries → length entries ≡ length lines
taken_length stations first [] [] h = refl
taken_length stations first [] (e ∷ es) h = absurd h
taken_length stations first (l ∷ ls) [] h = absurd h
taken_length stations first (l ∷ ls) (e ∷ es) h = ap suc (taken_length stations (first ++ e ∷ []) ls es h.1)

-- the record of an entry, with those before it
record SplitAt (stations : ℕ) (first : List (Entry (Step Call))) (lines : List (List ℕ)) (entries : List (Entry (Step Call))) (k : ℕ) : Type 0 where
  pub before : List (List ℕ)
  pub line : List ℕ
  pub after : List (List ℕ)
  pub entry : Entry (Step Call)
  pub lines_are : lines ≡ before ++ line ∷ after
  pub front : take (k + 1) entries ≡ take k entries ++ entry ∷ []
  pub long : length (take k entries) ≡ k
  pub taken : AreTaken stations first before (take k entries)
  pub next : IsTakenAfter stations (first ++ take k entries) line entry

split_at : (stations : ℕ) (first : List (Entry (Step Call))) (lines : List (List ℕ)) (entries : List (Entry (Step Call))) (k : ℕ) → AreTaken stations first lines entries → k < length entries
    → SplitAt stations first lines entries k
split_at stations first lines [] k h lt = absurd (omega (arith, lt))
split_at stations first [] (e ∷ es) k h lt = absurd h
split_at stations first (l ∷ ls) (e ∷ es) zero h lt = record {
  before = [];
  line = l;
  after = ls;
  entry = e;
  lines_are = refl;
  front = refl;
  long = refl;
  taken = tt;
  next = subst (λ (k : List (Entry (Step Call))). IsTakenAfter stations k l e) (sym (append-nil first)) h.0;
}
split_at stations first (l ∷ ls) (e ∷ es) (suc k) h lt =
    let s = split_at stations (first ++ e ∷ []) ls es k h.1 (omega (arith, lt)) in
    let next : suc k + 1 ≡ suc (k + 1) = omega arith in
    record {
      before = l ∷ s.before;
      line = s.line;
      after = s.after;
      entry = s.entry;
      lines_are = ap (λ r. l ∷ r) s.lines_are;
      front = ap (λ n. take n (e ∷ es)) next ∙ ap (λ r. e ∷ r) s.front;
      long = ap suc s.long;
      taken = (h.0, s.taken);
      next = subst (λ (x : List (Entry (Step Call))). IsTakenAfter stations x s.line s.entry) (append_assoc first (e ∷ []) (take k es)) s.next;
    }

module _ {P D R : Type 0} (m : Meaning P (Step Call) D R) (opening : List P) (stations : ℕ) (records : List (List ℕ)) where
  -- an entry of those that are taken does not apply
  pub entry_refused : (lines others : List (List ℕ)) (entries : List (Entry (Step Call))) (place : ℕ) → records ≡ lines ++ others → AreTaken stations [] lines entries
      → IsFirstRefused m opening entries (length entries) place → RefusesEntry m opening stations records place
  entry_refused lines others entries place are taken first =
      let s = split_at stations [] lines entries place taken first.within in
      record {
        before = take place entries;
        line = s.line;
        entry = s.entry;
        stands = record {
          lines = s.before;
          others = s.after ++ others;
          records_are = are ∙ (ap (λ l. l ++ others) s.lines_are ∙ append_assoc s.before (s.line ∷ s.after) others);
          taken = s.taken;
          applies = first.before;
        };
        taken = s.next;
        refused = ap (λ l. replay (whole m) opening l) (sym s.front) ∙ first.refused;
        place_is = sym s.long;
      }

  same_code : (c d : RecordCode) → stop.Refused c ≡ stop.Refused d → c ≡ d
  same_code c d h = cc

  -- what is told where the making stops at a record is so
  pub told_so : (why : Stop) (told : KeptFault) (lines : List (List ℕ)) (line : List ℕ) (others : List (List ℕ)) (before after : List (Entry (Step Call)))
      → records ≡ lines ++ line ∷ others → AreTaken stations [] lines before → Adds stations line before after (Err why) → Tells m opening after why told
      → IsKeptFault m opening stations records told
  told_so (stop.Refused c) (fault.Refused d number) lines line others before after are taken adds tells =
      let same : after ≡ before = adds.1 in
      let some : IsSome (replay (whole m) opening before) = subst (λ (l : List (Entry (Step Call))). IsSome (replay (whole m) opening l)) same tells.1 in
      let code = same_code c d tells.0 in
      let why : IsRefusedAfter stations before line d = subst (λ (x : RecordCode). IsRefusedAfter stations before line x) code adds.0 in
      record {
        before = before;
        line = line;
        stands = record { lines = lines; others = others; records_are = are; taken = taken; applies = some };
        refused = why;
        number_is = tells.2 ∙ ap (λ (l : List (Entry (Step Call))). length l + 1) same;
      }
  told_so (stop.Refused c) (fault.NotApplied place) lines line others before after are taken adds tells =
      let first : IsFirstRefused m opening before (length before) place = subst (λ (l : List (Entry (Step Call))). IsFirstRefused m opening l (length l) place) adds.1 tells.1 in
      entry_refused lines (line ∷ others) before place are taken first
  told_so stop.NotApplied (fault.Refused d number) lines line others before after are taken adds tells =
      let no = tells.0 in absurd (grind (arith, no))
  told_so stop.NotApplied (fault.NotApplied place) lines line others before after are taken adds tells =
      let more = taken_more stations [] lines before line adds.entry taken adds.taken in
      let first : IsFirstRefused m opening (before ++ adds.entry ∷ []) (length (before ++ adds.entry ∷ [])) place = subst (λ (l : List (Entry (Step Call))). IsFirstRefused m opening l (length l) place) adds.entries_are tells.1 in
      entry_refused (lines ++ line ∷ []) others (before ++ adds.entry ∷ []) place (are ∙ sym (append_assoc lines (line ∷ []) others)) more first
  told_so stop.Strayed (fault.Refused d number) lines line others before after are taken adds tells =
      let no = tells.0 in absurd (grind (arith, no))
  told_so stop.Memory (fault.Refused d number) lines line others before after are taken adds tells =
      let no = tells.0 in absurd (grind (arith, no))
  told_so stop.Strayed (fault.NotApplied place) lines line others before after are taken adds tells = absurd tells.0
  told_so stop.Memory (fault.NotApplied place) lines line others before after are taken adds tells = absurd tells.0
  told_so why fault.Strayed lines line others before after are taken adds tells = tt
  told_so why fault.Memory lines line others before after are taken adds tells = tt

take_one : {A : Type 0} (xs : List A) (k : ℕ) (x : A) → k < length xs → x ≡ get_or xs k x → take (k + 1) xs ≡ take k xs ++ x ∷ []
take_one xs k x lt is = take_more xs k x lt ∙ ap (λ y. take k xs ++ y ∷ []) (sym is)

split_there : {A : Type 0} (xs : List A) (k : ℕ) (x : A) → k < length xs → x ≡ get_or xs k x → xs ≡ take k xs ++ x ∷ drop (k + 1) xs
split_there xs k x lt is =
    sym (take-append-drop k xs) ∙ ap (λ l. take k xs ++ l) (drop_more xs k x lt ∙ ap (λ y. y ∷ drop (k + 1) xs) (sym is))

-- the record at a place, and its line as it was read
module _ (stations now : ℕ) (records : List (List ℕ)) (k : ℕ) (text line : List ℕ) (before after : List (Entry (Step Call))) (lt : k < length records) (is : text ≡ get_or records k text)
    (same : line ≡ text) (count : now ≡ stations) (taken : AreTaken stations [] (take k records) before) where
  -- it is taken as well
  pub next_taken : TakesOne now line before after → AreTaken stations [] (take (k + 1) records) after
  next_taken one =
      let there : IsTakenAfter stations before text one.entry = subst (λ (n : ℕ). IsTakenAfter n before text one.entry) count (subst (λ (l : List ℕ). IsTakenAfter now before l one.entry) same one.taken) in
      let more = taken_more stations [] (take k records) before text one.entry taken there in
      let all : AreTaken stations [] (take k records ++ text ∷ []) after = subst (λ (es : List (Entry (Step Call))). AreTaken stations [] (take k records ++ text ∷ []) es) (sym one.entries_are) more in
      subst (λ (l : List (List ℕ)). AreTaken stations [] l after) (sym (take_one records k text lt is)) all

  -- the making stops at it
  pub stops_there : {P D R : Type 0} (m : Meaning P (Step Call) D R) (opening : List P) (entries : List (Entry (Step Call))) (why : Stop) (told : KeptFault) → Adds now line before after (Err why)
      → entries ≡ after → Tells m opening entries why told → IsKeptFault m opening stations records told
  stops_there m opening entries why told adds are tells =
      let here : Adds stations text before after (Err why) = subst (λ (n : ℕ). Adds n text before after (Err why)) count (subst (λ (l : List ℕ). Adds now l before after (Err why)) same adds) in
      told_so m opening stations records why told (take k records) text (drop (k + 1) records) before after (split_there records k text lt is) taken here
      (subst (λ (es : List (Entry (Step Call))). Tells m opening es why told) are tells)
