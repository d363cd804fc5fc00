-- Records that are taken one after another, and what stands before one of them.
use Rattle.std.proofs.Common.{◌≡◌, ℕ, List, [], ◌∷◌, ◌++◌, refl, sym, ap, subst, ◌∙◌, arith, append_assoc, append-nil}
use Rattle.journal_text.specs.Journals.{entry_text, HasLine}
use Rattle.journal_text.proofs.EntryTexts.{entry_once}
use Rattle.edit_calls.specs.declared.asks.Call.{Call}
use Rattle.take_back.specs.declared.step.Step.{Step}
use Rattle.edit_journal.specs.Turns.{last_of}
use Rattle.room_core.specs.declared.entry.Entry.{Entry}
use Rattle.kept_rooms.specs.declared.fault.RecordCode.{RecordCode}
use Rattle.kept_rooms.specs.declared.fault.RecordCode.TheVariants.{H1, H4, H6, H7}
use Rattle.kept_rooms.specs.Records.{IsNext, IsNotNext, IsOfNone}
use Rattle.kept_rooms.specs.Kept.{AreTaken, IsRefusedAfter, IsTakenAfter}

-- a line is that of one entry
pub text_once : (e f : Entry (Step Call)) → HasLine e → HasLine f → entry_text e ≡ entry_text f → e ≡ f
text_once e f h k same = (entry_once e f [] [] h k (ap (λ t. (t ++ 10 ∷ []) ++ []) same)).0

-- one record more at the end
pub taken_more : (stations : ℕ) (before : List (Entry (Step Call))) (lines : List (List ℕ)) (entries : List (Entry (Step Call))) (line : List ℕ) (e : Entry (Step Call))
    → AreTaken stations before lines entries → IsTakenAfter stations (before ++ entries) line e
    → AreTaken stations before (lines ++ line ∷ []) (entries ++ e ∷ [])
taken_more stations before [] [] line e h next = (subst (λ (k : List (Entry (Step Call))). IsTakenAfter stations k line e) (append-nil before) next, tt)
taken_more stations before [] (f ∷ fs) line e h next = absurd h
taken_more stations before (l ∷ ls) [] line e h next = absurd h
taken_more stations before (l ∷ ls) (f ∷ fs) line e h next =
    (h.0, taken_more stations (before ++ f ∷ []) ls fs line e h.1 (subst (λ (k : List (Entry (Step Call))). IsTakenAfter stations k line e) (sym (append_assoc before (f ∷ []) fs)) next))

pub taken_once : (stations : ℕ) (before : List (Entry (Step Call))) (lines : List (List ℕ)) (es fs : List (Entry (Step Call)))
    → AreTaken stations before lines es → AreTaken stations before lines fs → es ≡ fs
taken_once stations before [] [] [] h k = refl
taken_once stations before [] (e ∷ es) fs h k = absurd h
taken_once stations before [] [] (f ∷ fs) h k = absurd k
taken_once stations before (l ∷ ls) [] fs h k = absurd h
taken_once stations before (l ∷ ls) (e ∷ es) [] h k = absurd k
taken_once stations before (l ∷ ls) (e ∷ es) (f ∷ fs) h k =
    let one : f ≡ e = text_once f e k.0.has_line h.0.has_line (sym k.0.text ∙ h.0.text) in
    let more : AreTaken stations (before ++ e ∷ []) ls fs = subst (λ (x : Entry (Step Call)). AreTaken stations (before ++ x ∷ []) ls fs) one k.1 in
    let rest = taken_once stations (before ++ e ∷ []) ls es fs h.1 more in
    ap (λ x. x ∷ es) (sym one) ∙ ap (λ r. f ∷ r) rest

-- the entry of a record after those that are taken as these
pub record IsWithin (stations : ℕ) (first before : List (Entry (Step Call))) (line : List ℕ) (entries : List (Entry (Step Call))) : Type 0 where
  pub entry : Entry (Step Call)
  pub rest : List (Entry (Step Call))
  pub entries_are : entries ≡ before ++ entry ∷ rest
  pub taken : IsTakenAfter stations (first ++ before) line entry

pub taken_within : (stations : ℕ) (first : List (Entry (Step Call))) (lines : List (List ℕ)) (line : List ℕ) (others : List (List ℕ)) (before es : List (Entry (Step Call)))
    → AreTaken stations first (lines ++ line ∷ others) es → AreTaken stations first lines before → IsWithin stations first before line es
taken_within stations first [] line others [] [] h k = absurd h
taken_within stations first [] line others [] (e ∷ es) h k =
    record { entry = e; rest = es; entries_are = refl; taken = subst (λ (k : List (Entry (Step Call))). IsTakenAfter stations k line e) (sym (append-nil first)) h.0 }
taken_within stations first [] line others (f ∷ fs) es h k = absurd k
taken_within stations first (l ∷ ls) line others [] es h k = absurd k
taken_within stations first (l ∷ ls) line others (f ∷ fs) [] h k = absurd h
taken_within stations first (l ∷ ls) line others (f ∷ fs) (e ∷ es) h k =
    let one : e ≡ f = text_once e f h.0.has_line k.0.has_line (sym h.0.text ∙ k.0.text) in
    let more : AreTaken stations (first ++ f ∷ []) (ls ++ line ∷ others) es = subst (λ (x : Entry (Step Call)). AreTaken stations (first ++ x ∷ []) (ls ++ line ∷ others) es) one h.1 in
    let there = taken_within stations (first ++ f ∷ []) ls line others fs es more k.1 in
    record {
      entry = there.entry;
      rest = there.rest;
      entries_are = ap (λ x. x ∷ es) one ∙ ap (λ r. f ∷ r) there.entries_are;
      taken = subst (λ (k : List (Entry (Step Call))). IsTakenAfter stations k line there.entry) (append_assoc first (f ∷ []) fs) there.taken;
    }

-- an entry may come next, or there is one reason why not
next_not : (stations last : ℕ) (e : Entry (Step Call)) (code : RecordCode) → IsNext stations last e → IsNotNext stations last e code → ⊥
next_not stations last e H1 h k = k
next_not stations last e H4 h k = let r = h.rises in absurd (omega (arith, r, k))
next_not stations last e H6 h k = let r = h.station in let s = k.1 in absurd (omega (arith, r, s))
next_not stations last e H7 h k = let r = h.number in let s = k.2 in absurd (omega (arith, r, s))

not_next_once : (stations last : ℕ) (e : Entry (Step Call)) (c d : RecordCode) → IsNotNext stations last e c → IsNotNext stations last e d → c ≡ d
not_next_once stations last e H1 d h k = absurd h
not_next_once stations last e H4 H1 h k = absurd k
not_next_once stations last e H4 H4 h k = refl
not_next_once stations last e H4 H6 h k = let r = k.0 in absurd (omega (arith, h, r))
not_next_once stations last e H4 H7 h k = let r = k.0 in absurd (omega (arith, h, r))
not_next_once stations last e H6 H1 h k = absurd k
not_next_once stations last e H6 H4 h k = let r = h.0 in absurd (omega (arith, k, r))
not_next_once stations last e H6 H6 h k = refl
not_next_once stations last e H6 H7 h k = let r = h.1 in let s = k.1 in absurd (omega (arith, r, s))
not_next_once stations last e H7 H1 h k = absurd k
not_next_once stations last e H7 H4 h k = let r = h.0 in absurd (omega (arith, k, r))
not_next_once stations last e H7 H6 h k = let r = k.1 in let s = h.1 in absurd (omega (arith, r, s))
not_next_once stations last e H7 H7 h k = refl

module _ (stations : ℕ) (before : List (Entry (Step Call))) (line : List ℕ) where
  none_next : (e : Entry (Step Call)) (code : RecordCode) → IsTakenAfter stations before line e → IsOfNone stations (λ s. last_of s before) line code → ⊥
  none_next e code h k =
      let one : k.entry ≡ e = text_once k.entry e k.has_line h.has_line (sym k.text ∙ h.text) in
      let not : IsNotNext stations (last_of e.station before) e code = subst (λ (x : Entry (Step Call)). IsNotNext stations (last_of x.station before) x code) one k.not_next in
      next_not stations (last_of e.station before) e code h.next not

  pub taken_or_refused : (e : Entry (Step Call)) (code : RecordCode) → IsTakenAfter stations before line e → IsRefusedAfter stations before line code → ⊥
  taken_or_refused e H1 h k = k e h.has_line h.text
  taken_or_refused e H4 h k = none_next e H4 h k
  taken_or_refused e H6 h k = none_next e H6 h k
  taken_or_refused e H7 h k = none_next e H7 h k

  none_once : (c d : RecordCode) → IsOfNone stations (λ s. last_of s before) line c → IsOfNone stations (λ s. last_of s before) line d → c ≡ d
  none_once c d h k =
      let one : k.entry ≡ h.entry = text_once k.entry h.entry k.has_line h.has_line (sym k.text ∙ h.text) in
      let not : IsNotNext stations (last_of h.entry.station before) h.entry d = subst (λ (x : Entry (Step Call)). IsNotNext stations (last_of x.station before) x d) one k.not_next in
      not_next_once stations (last_of h.entry.station before) h.entry c d h.not_next not

  pub refused_once : (c d : RecordCode) → IsRefusedAfter stations before line c → IsRefusedAfter stations before line d → c ≡ d
  refused_once H1 H1 h k = refl
  refused_once H1 H4 h k = absurd (h k.entry k.has_line k.text)
  refused_once H1 H6 h k = absurd (h k.entry k.has_line k.text)
  refused_once H1 H7 h k = absurd (h k.entry k.has_line k.text)
  refused_once H4 H1 h k = absurd (k h.entry h.has_line h.text)
  refused_once H4 H4 h k = refl
  refused_once H4 H6 h k = none_once H4 H6 h k
  refused_once H4 H7 h k = none_once H4 H7 h k
  refused_once H6 H1 h k = absurd (k h.entry h.has_line h.text)
  refused_once H6 H4 h k = none_once H6 H4 h k
  refused_once H6 H6 h k = refl
  refused_once H6 H7 h k = none_once H6 H7 h k
  refused_once H7 H1 h k = absurd (k h.entry h.has_line h.text)
  refused_once H7 H4 h k = none_once H7 H4 h k
  refused_once H7 H6 h k = none_once H7 H6 h k
  refused_once H7 H7 h k = refl
