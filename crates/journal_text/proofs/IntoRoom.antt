-- Entries that are put into memory which was taken for any journal: there is memory for each, and for its line feed.
use Rattle.std.proofs.Common.{◌≡◌, ℕ, ◌+◌, ◌*◌, ◌-◌, ◌<◌, ◌≤◌, List, ◌∷◌, ◌++◌, All, get_or, drop, length, ap, ◌∙◌, arith, append_assoc, length-append, codes, refl, subst, sym}
use Rattle.std.specs.List.{flat_map}
use Rattle.std.proofs.lemmas.List.{drop_more}
use Rattle.edit_calls.specs.declared.asks.Call.{Call}
use Rattle.room_core.specs.declared.entry.Entry.{Entry}
use Rattle.take_back.specs.declared.step.Step.{Step}
use Rattle.line_table.specs.CallTexts.{linked_in}
use Rattle.journal_text.specs.Journals.{entry_line, entry_text, HasLine}
use Rattle.line_table.proofs.CallLengths.{linked_in_few}
use Rattle.journal_text.proofs.EntryLengths.{entry_length}

module _ (es : List (Entry (Step Call))) (i : ℕ) (d e : Entry (Step Call)) (is_it : e ≡ get_or es i d) (lines : All HasLine es) (there : i < length es) where
  has_line : HasLine e
  has_line = subst HasLine (sym is_it) (lines i d there)

  pub items_fit : (len cap : ℕ) → len + 480 * (length es - i) ≤ cap → len + 124 + 11 * linked_in e.call ≤ cap
  items_fit len cap room = let few = linked_in_few e.call has_line.call in omega (arith, room, there, few)

  -- with the text of the entry
  line_length : (old : List ℕ) → length ((old ++ entry_text e) ++ codes "\n") ≤ length old + 480
  line_length old =
      let whole = entry_length e has_line in
      let parts = length-append (entry_text e) (codes "\n") in
      let first = length-append old (entry_text e) in
      let all = length-append (old ++ entry_text e) (codes "\n") in
      omega (arith, whole, parts, first, all)

  pub feed_fits : (old new : List ℕ) (len cap longer more : ℕ) → len ≡ length old → longer ≡ length new → new ≡ old ++ entry_text e
      → len + 480 * (length es - i) ≤ cap → cap ≤ more → longer + 1 ≤ more
  feed_fits old new len cap longer more was is put room kept =
      let texts = ap length put in
      let all = length-append (old ++ entry_text e) (codes "\n") in
      omega (arith, was, is, texts, room, kept, there, line_length old, all)

  pub room_left : (old new : List ℕ) (len cap longer more : ℕ) → len ≡ length old → longer ≡ length new → new ≡ old ++ entry_text e
      → len + 480 * (length es - i) ≤ cap → cap ≤ more → (longer + 1) + 480 * (length es - (i + 1)) ≤ more
  room_left old new len cap longer more was is put room kept =
      let texts = ap length put in
      let all = length-append (old ++ entry_text e) (codes "\n") in
      omega (arith, was, is, texts, room, kept, there, line_length old, all)

  pub line_more : (old journal : List ℕ) → old ++ flat_map entry_line (drop i es) ≡ journal
      → ((old ++ entry_text e) ++ codes "\n") ++ flat_map entry_line (drop (i + 1) es) ≡ journal
  line_more old journal so_far =
      regrouped old (entry_text e) (flat_map entry_line (drop (i + 1) es)) ∙ rw (drop_more es i d there ∙ ap (λ (x : Entry (Step Call)). x ∷ drop (i + 1) es) (sym is_it)) at so_far
    where
      regrouped : (a b c : List ℕ) → ((a ++ b) ++ codes "\n") ++ c ≡ a ++ ((b ++ codes "\n") ++ c)
      regrouped a b c = simp append_assoc refl
