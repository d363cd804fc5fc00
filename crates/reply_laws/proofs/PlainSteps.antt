-- No line feed stands in the text of an entry, nor in its news.
use Rattle.std.proofs.Common.{◌≡◌, ℕ, List, [], ◌∷◌, ◌++◌, Bool, Option, Some, None, true, false, refl, codes}
use Rattle.std.specs.Fmt.{decimal, signed_decimal}
use Rattle.composables.specs.declared.calls.End.{End}
use Rattle.composables.specs.declared.calls.End.TheVariants.{Head, Tail}
use Rattle.composables.specs.declared.calls.FillLength.{FillLength}
use Rattle.composables.specs.declared.calls.FillLength.TheVariants.{Source, Sequence}
use Rattle.composables.specs.TrackSets.{tracks_in}
use Rattle.cut_steps.specs.CutSteps.{CutStep}
use Rattle.edit_calls.specs.declared.asks.Call.{Call}
use Rattle.edit_calls.specs.declared.asks.Call.TheVariants as call
use Rattle.frame_meaning.specs.declared.cells.What.{What}
use Rattle.journal_text.specs.Journals.{entry_text}
use Rattle.journal_text.specs.NewsTexts.{news_text_of}
use Rattle.line_table.specs.CallTexts.{call_text_of, deed_text_of, keep_text, length_text, numbers_after, tracks_text}
use Rattle.line_table.specs.Table.{end_word}
use Rattle.room_core.specs.declared.entry.Entry.{Entry}
use Rattle.take_back.specs.declared.step.Deed.{Deed}
use Rattle.take_back.specs.declared.step.Deed.TheVariants.{Do, Back}
use Rattle.reply_laws.proofs.PlainSights.{thing}
use Rattle.reply_laws.proofs.PlainTexts.{is_plain, both, number, signed, split}

numbers : (lead ns : List ℕ) → is_plain lead ≡ true → is_plain (numbers_after lead ns) ≡ true
numbers lead [] h = refl
numbers lead (n ∷ ns) h = both (lead ++ decimal n) (numbers_after (codes ",") ns) (both lead (decimal n) h (number n)) (numbers (codes ",") ns refl)

items : (ns : List ℕ) → is_plain (numbers_after [] ns) ≡ true
items ns = numbers [] ns refl

tracks : (set : ℕ) → is_plain (tracks_text set) ≡ true
tracks set = items (tracks_in set)

filled : (l : FillLength) → is_plain (length_text l) ≡ true
filled (Source len) = number len
filled Sequence = refl

keep : (k : Bool) → is_plain (keep_text k) ≡ true
keep false = refl
keep true = refl

end : (e : End) → is_plain (end_word e) ≡ true
end Head = refl
end Tail = refl

called : (c : Call) → is_plain (call_text_of c) ≡ true
called (call.Overwrite c) = simp (split, number, thing, keep) refl
called (call.Insert c) = simp (split, tracks, number, thing, keep) refl
called (call.Remove c) = simp (split, number, keep) refl
called (call.Extract c) = simp (split, tracks, number, keep) refl
called (call.Slice c) = simp (split, number, keep) refl
called (call.Dissolve c) = simp (split, number) refl
called (call.Undissolve c) = simp (split, number) refl
called (call.Trim c) = simp (split, number, end, signed) refl
called (call.Slip c) = simp (split, tracks, number, signed) refl
called (call.Roll c) = simp (split, number, signed) refl
called (call.Slide c) = simp (split, tracks, number, signed) refl
called (call.Fill c) = simp (split, number, thing, filled, keep) refl
called (call.Ripple c) = simp (split, tracks, number, end, signed) refl
called (call.Link3 c) = simp (split, tracks, items) refl
called (call.Unlink c) = simp (split, number) refl

deed : (d : Deed Call) → is_plain (deed_text_of d) ≡ true
deed (Do c) = called c
deed (Back set) = tracks set

pub entered : (e : Entry CutStep) → is_plain (entry_text e) ≡ true
entered e = simp (split, number, deed) refl

pub told : (place length : ℕ) (entry : Option (Entry CutStep)) → is_plain (news_text_of place length entry) ≡ true
told place length None = simp (split, number) refl
told place length (Some e) = simp (split, number, deed) refl
