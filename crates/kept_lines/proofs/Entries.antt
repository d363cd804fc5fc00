-- The texts of entries of legal histories are lines.
use Rattle.std.proofs.Common.{◌≡◌, ◌≢◌, ℕ, ◌+◌, true, not, List, [], ◌∷◌, ◌++◌, Option, Some, None, Result, Ok, Err, IsSome, fold, length, refl, subst, arith, length-append, codes, IfOk, sym, Vec}
use Rattle.std.specs.Fmt.{decimal}
use Rattle.std.specs.Global.{Global}
use Rattle.std.specs.List.{AllByRecursion}
use Rattle.std.proofs.lemmas.Bool.{and_parts}
use Rattle.std.proofs.lemmas.Bool.Decides.{nat_tests}
use Rattle.std.proofs.lemmas.List.Sums.{fold-append}
use Rattle.line_words.specs.Lines.{is_lf}
use Rattle.journal_file.specs.Layout.{IsLine}
use Rattle.cut_steps.specs.CutSteps.{CutStep, stepping}
use Rattle.room_core.specs.declared.entry.Entry.{Entry}
use Rattle.room_core.specs.History.{after_entry, replay, state_in}
use Rattle.room_core.specs.Whole.{whole}
use Rattle.line_table.specs.CallTexts.{step_text_of}
use Rattle.journal_text.specs.Journals.{entry_text}
use Rattle.journal_text.proofs.EntryTexts.{is_plain, number_plain}
use Rattle.line_table.proofs.WrittenParts.{length-decimal}
use Rattle.kept_lines.specs.Lines.{EnteredLinesFit}
use Rattle.kept_lines.specs.Widths.{IsNarrow}
use Rattle.kept_lines.proofs.Applied.{applied}
use Rattle.kept_lines.proofs.Texts.{deed_fits, joined, DeedFits}

-- ---- an entry of a legal history applies where it stands, for any kind of state

none_stays : {S C D R : Type 0} (apply : S → C → Result (S × D) R) (entries : List (Entry C)) → fold (after_entry apply) None entries ≡ None
none_stays apply [] = refl
none_stays apply (e ∷ es) = none_stays apply es

nothing : {A : Type 0} (o : Option A) → o ≡ None → IsSome o → ⊥
nothing None is h = Prim.grind (arith, h)
nothing (Some x) is h = Prim.grind (arith, is)

goes_on : {S C D R : Type 0} (apply : S → C → Result (S × D) R) (r : Result (S × D) R) (entries : List (Entry C))
    → IsSome (fold (after_entry apply) (state_in r) entries) → (x : S × D) × (r ≡ Ok x)
goes_on apply (Ok x) es h = (x, refl)
goes_on apply (Err why) es h = absurd (nothing (fold (after_entry apply) None es) (none_stays apply es) h)

applies_after : {S C D R : Type 0} (apply : S → C → Result (S × D) R) (o : Option S) (e : Entry C) (after : List (Entry C))
    → IsSome (fold (after_entry apply) o (e ∷ after)) → (s : S) × (x : S × D) × (apply s e.call ≡ Ok x)
applies_after apply None e after h = absurd (nothing (fold (after_entry apply) None after) (none_stays apply after) h)
applies_after apply (Some s) e after h = let p = goes_on apply (apply s e.call) after h in (s, p.0, p.1)

applies : {S C D R : Type 0} (apply : S → C → Result (S × D) R) (s : S) (before after : List (Entry C)) (e : Entry C)
    → IsSome (replay apply s (before ++ e ∷ after)) → (t : S) × (x : S × D) × (apply t e.call ≡ Ok x)
applies apply s before after e h =
    applies_after apply (replay apply s before) e after (subst (λ o. IsSome o) (fold-append (after_entry apply) (Some s) before (e ∷ after)) h)

-- ---- its text

not_ten : (byte : ℕ) → not (is_lf byte) ≡ true → byte ≢ 10
not_ten byte h = λ e. Prim.grind (arith, nat_tests, h, e)

none_ten : (text : List ℕ) → is_plain text ≡ true → AllByRecursion (λ byte. byte ≢ 10) text
none_ten [] h = tt
none_ten (byte ∷ text) h =
    let both = and_parts (not (is_lf byte)) (is_plain text) h in (not_ten byte both.0, none_ten text both.1)

length-all : (s n c : List ℕ) → length (s ++ codes " " ++ n ++ codes " " ++ c) ≡ length s + length n + length c + 2
length-all s n c = simp length-append (omega arith)

entry_plain : (e : Entry CutStep) → IsNarrow e → is_plain (step_text_of e.call) ≡ true → is_plain (entry_text e) ≡ true
entry_plain e w h =
    let station = joined (decimal e.station) (codes " ") (number_plain e.station w.station) refl in
    let number = joined (decimal e.station ++ codes " ") (decimal e.number) station (number_plain e.number w.number) in
    joined (decimal e.station ++ codes " " ++ decimal e.number ++ codes " ") (step_text_of e.call) (joined (decimal e.station ++ codes " " ++ decimal e.number) (codes " ") number refl) h

pub entered_lines_fit : EnteredLinesFit
entered_lines_fit table opening before after e legal w =
    let p = applies (whole (stepping table)) opening before after e legal.applies in
    let fit : DeedFits e.call.act = deed_fits table e.call.act w.deed (applied table p.0 e.call p.1 p.2) in
    let all = length-all (decimal e.station) (decimal e.number) (step_text_of e.call) in
    record {
      some = omega (arith, all);
      most = omega (arith, all, length-decimal e.station w.station, length-decimal e.number w.number, fit.0);
      one = none_ten (entry_text e) (entry_plain e w fit.1);
    }

-- so is one that is there, where it is such a text
pub line_if : {E : Type 0} (text : List ℕ) (result : Result (Vec ℕ Global) E) → IfOk result (λ bytes. bytes.items ≡ text) → IsLine text → IfOk result (λ bytes. IsLine bytes.items)
line_if text (Ok bytes) is line = subst IsLine (sym is) line
line_if text (Err e) is line = tt
