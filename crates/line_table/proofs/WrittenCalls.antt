-- The text of a step is read again as that step of station 0.
use Rattle.std.proofs.Common.{◌≡◌, ℕ, ◌<◌, ◌≤◌, Bool, true, false, List, [], ◌∷◌, ◌++◌, Option, Ok, length, inl, refl, ap, ◌∙◌, arith, append_assoc, codes}
use Rattle.std.specs.Fmt.{decimal, signed_decimal}
use Rattle.std.proofs.lemmas.List.{append-nil}
use Rattle.line_words.specs.Blanks.{words_of, IsWord}
use Rattle.line_words.proofs.DigitLaws.{number_of-decimal, signed_of-signed_decimal}
use Rattle.line_words.proofs.WordLaws.{words_of-word, words_of-last}
use Rattle.composables.specs.declared.calls.FillLength.{FillLength}
use Rattle.composables.specs.declared.calls.FillLength.TheVariants.{Source, Sequence}
use Rattle.edit_calls.specs.declared.asks.Call.{Call}
use Rattle.edit_calls.specs.declared.asks.Call.TheVariants as call
use Rattle.line_table.specs.declared.lines.Line.TheVariants.{Edit}
use Rattle.protocol_parts.specs.Things.{what_text}
use Rattle.line_table.specs.CallTexts.{keep_text, numbers_after, tracks_text, length_text, call_text_of, deed_text_of, step_text_of, IsSmallLength, IsWritten, IsWrittenDeed, IsWrittenStep}
use Rattle.line_table.specs.Reading.{edit, line_of}
use Rattle.line_table.specs.Table.{AreCall, AreDeed, AreLength, end_word, keep_words}
use Rattle.take_back.specs.Steps.{asked_by}
use Rattle.take_back.specs.declared.step.Deed.{Deed}
use Rattle.take_back.specs.declared.step.Deed.TheVariants.{Do, Back}
use Rattle.take_back.specs.declared.step.Step.{Step}
use Rattle.line_table.proofs.CallLengths.{deed_length, low}
use Rattle.line_table.proofs.TableLaws.{line_read}
use Rattle.line_table.proofs.WrittenParts.{IsNumbers-numbers_after, IsWord-numbers_after, some_tracks_in, IsWord-end, IsWord-signed, IsWord-tested, IsWord-decimal, IsWord-what_text, IsThing-what_text, NamesTracks-tracks_text, IsWord-tracks_text}

-- words with one space between
abbrev spaced : List ℕ → List (List ℕ) → List ℕ
spaced u [] = u
spaced u (w ∷ ws) = u ++ 32 ∷ spaced w ws

abbrev AreAllWords : List (List ℕ) → Type 0
AreAllWords [] = Unit {0}
AreAllWords (w ∷ ws) = IsWord w × AreAllWords ws

words_of-spaced : (u : List ℕ) (ws : List (List ℕ)) → IsWord u → AreAllWords ws → words_of (spaced u ws) ≡ u ∷ ws
words_of-spaced u [] first h = words_of-last u first
words_of-spaced u (w ∷ ws) first h = words_of-word u 32 (spaced w ws) first refl ∙ ap (λ words. u ∷ words) (words_of-spaced w ws h.0 h.1)

-- a written step of these words is a line
module _ (place_at : List ℕ → Option ℕ) (a : Deed Call) (u : List ℕ) (ws : List (List ℕ)) where
  is_asked : deed_text_of a ≡ spaced u ws → IsWord u → AreAllWords ws → length (deed_text_of a) ≤ 1024 → AreDeed place_at (u ∷ ws) a
      → line_of place_at (deed_text_of a) ≡ Ok (Edit (record { by = 0; act = a }))
  is_asked same first words short deed =
      let split = ap words_of same ∙ words_of-spaced u ws first words in
      line_read place_at (deed_text_of a) (Edit (record { by = 0; act = a })) (record { short = short; words = rw split (refl, deed) })

is_read : (place_at : List ℕ → Option ℕ) (c : Call) (u : List ℕ) (ws : List (List ℕ)) → call_text_of c ≡ spaced u ws → IsWord u → AreAllWords ws → length (call_text_of c) ≤ 1024
    → AreCall place_at (u ∷ ws) c → line_of place_at (call_text_of c) ≡ Ok (edit c)
is_read place_at c u ws = is_asked place_at (Do c) u ws

short : (c : Call) → IsWritten c → length (call_text_of c) ≤ 1024
short c h = omega (arith, deed_length (Do c) h)

-- whether dissolves are kept, as a word or none
are_keep_words : (keep : Bool) → AreAllWords (keep_words keep)
are_keep_words true = (IsWord-tested (codes "keep") refl, tt)
are_keep_words false = tt

spaced_kept : (u : List ℕ) (ws : List (List ℕ)) (keep : Bool) → spaced u ws ++ keep_text keep ≡ spaced u (ws ++ keep_words keep)
spaced_kept u [] true = refl
spaced_kept u [] false = append-nil u
spaced_kept u (w ∷ ws) keep = append_assoc u (32 ∷ spaced w ws) (keep_text keep) ∙ ap (λ more. u ++ 32 ∷ more) (spaced_kept w ws keep)

-- words with one space between, and whether dissolves are kept behind them
kept : (text u : List ℕ) (ws : List (List ℕ)) (keep : Bool) → text ≡ spaced u ws → text ++ keep_text keep ≡ spaced u (ws ++ keep_words keep)
kept text u ws keep h = ap (λ front. front ++ keep_text keep) h ∙ spaced_kept u ws keep

frames_spaced : (w f n : List ℕ) → w ++ codes " " ++ f ++ codes " " ++ n ≡ spaced w (f ∷ n ∷ [])
frames_spaced w f n = simp append_assoc refl

-- how much is filled, as its words
abbrev length_words : FillLength → List (List ℕ)
length_words (Source n) = codes "source" ∷ decimal n ∷ []
length_words Sequence = codes "sequence" ∷ []

are_length_words : (l : FillLength) (keep : Bool) → IsSmallLength l → AreAllWords (length_words l ++ keep_words keep)
are_length_words (Source n) keep h = (IsWord-tested (codes "source") refl, (IsWord-decimal n h, are_keep_words keep))
are_length_words Sequence keep h = (IsWord-tested (codes "sequence") refl, are_keep_words keep)

AreLength-words : (l : FillLength) (keep : Bool) → IsSmallLength l → AreLength (length_words l ++ keep_words keep) l keep
AreLength-words (Source n) keep h = (decimal n, refl, number_of-decimal n h)
AreLength-words Sequence keep h = refl

length_spaced : (l : FillLength) (t a w f : List ℕ)
    → codes "fill " ++ t ++ codes " " ++ a ++ codes " " ++ w ++ codes " " ++ f ++ codes " " ++ length_text l ≡ spaced (codes "fill") (t ∷ a ∷ w ∷ f ∷ length_words l)
length_spaced (Source n) t a w f = simp append_assoc refl
length_spaced Sequence t a w f = simp append_assoc refl

written_call : (place_at : List ℕ → Option ℕ) (c : Call) → IsWritten c → line_of place_at (call_text_of c) ≡ Ok (edit c)
written_call place_at (call.Overwrite c) (track, at, what, from, len) =
    is_read place_at (call.Overwrite c) (codes "overwrite") (decimal c.track ∷ decimal c.at ∷ what_text c.what ∷ decimal c.from ∷ decimal c.len ∷ keep_words c.keep)
    (kept _ (codes "overwrite") (decimal c.track ∷ decimal c.at ∷ what_text c.what ∷ decimal c.from ∷ decimal c.len ∷ []) c.keep
    (regrouped (decimal c.track) (decimal c.at) (what_text c.what) (decimal c.from) (decimal c.len)))
    (IsWord-tested (codes "overwrite") refl)
    (IsWord-decimal c.track (low c.track track), (IsWord-decimal c.at at, (IsWord-what_text c.what what, (IsWord-decimal c.from from, (IsWord-decimal c.len len, are_keep_words c.keep)))))
    (short (call.Overwrite c) (track, at, what, from, len)) (
      decimal c.track,
      decimal c.at,
      what_text c.what,
      decimal c.from,
      decimal c.len,
      refl,
      (number_of-decimal c.track (low c.track track), track),
      inl (number_of-decimal c.at at),
      IsThing-what_text c.what what,
      number_of-decimal c.from from,
      number_of-decimal c.len len,
    )
  where
    front : (t a x : List ℕ) → codes "overwrite " ++ t ++ codes " " ++ a ++ codes " " ++ x ≡ codes "overwrite" ++ 32 ∷ (t ++ 32 ∷ (a ++ 32 ∷ x))
    front t a x = simp append_assoc refl

    regrouped : (t a w f n : List ℕ) → codes "overwrite " ++ t ++ codes " " ++ a ++ codes " " ++ (w ++ codes " " ++ f ++ codes " " ++ n) ≡ spaced (codes "overwrite") (t ∷ a ∷ w ∷ f ∷ n ∷ [])
    regrouped t a w f n = front t a _ ∙ ap (λ frames. codes "overwrite" ++ 32 ∷ (t ++ 32 ∷ (a ++ 32 ∷ frames))) (frames_spaced w f n)
written_call place_at (call.Insert c) ((some, tracks), track, at, what, from, len) =
    is_read place_at (call.Insert c) (codes "insert") (tracks_text c.tracks ∷ decimal c.track ∷ decimal c.at ∷ what_text c.what ∷ decimal c.from ∷ decimal c.len ∷ keep_words c.keep)
    (kept _ (codes "insert") (tracks_text c.tracks ∷ decimal c.track ∷ decimal c.at ∷ what_text c.what ∷ decimal c.from ∷ decimal c.len ∷ []) c.keep
    (regrouped (tracks_text c.tracks) (decimal c.track) (decimal c.at) (what_text c.what) (decimal c.from) (decimal c.len)))
    (IsWord-tested (codes "insert") refl)
    (IsWord-tracks_text c.tracks some tracks, (IsWord-decimal c.track (low c.track track), (IsWord-decimal c.at at, (IsWord-what_text c.what what, (IsWord-decimal c.from from, (IsWord-decimal c.len len, are_keep_words c.keep))))))
    (short (call.Insert c) ((some, tracks), track, at, what, from, len)) (
      tracks_text c.tracks,
      decimal c.track,
      decimal c.at,
      what_text c.what,
      decimal c.from,
      decimal c.len,
      refl,
      NamesTracks-tracks_text c.tracks some tracks,
      (number_of-decimal c.track (low c.track track), track),
      inl (number_of-decimal c.at at),
      IsThing-what_text c.what what,
      number_of-decimal c.from from,
      number_of-decimal c.len len,
    )
  where
    front : (s t a x : List ℕ) → codes "insert " ++ s ++ codes " " ++ t ++ codes " " ++ a ++ codes " " ++ x ≡ codes "insert" ++ 32 ∷ (s ++ 32 ∷ (t ++ 32 ∷ (a ++ 32 ∷ x)))
    front s t a x = simp append_assoc refl

    regrouped : (s t a w f n : List ℕ) → codes "insert " ++ s ++ codes " " ++ t ++ codes " " ++ a ++ codes " " ++ (w ++ codes " " ++ f ++ codes " " ++ n) ≡ spaced (codes "insert") (s ∷ t ∷ a ∷ w ∷ f ∷ n ∷ [])
    regrouped s t a w f n = front s t a _ ∙ ap (λ frames. codes "insert" ++ 32 ∷ (s ++ 32 ∷ (t ++ 32 ∷ (a ++ 32 ∷ frames)))) (frames_spaced w f n)
written_call place_at (call.Remove c) (track, item) =
    is_read place_at (call.Remove c) (codes "remove") (decimal c.track ∷ decimal c.item ∷ keep_words c.keep)
    (kept _ (codes "remove") (decimal c.track ∷ decimal c.item ∷ []) c.keep (regrouped (decimal c.track) (decimal c.item)))
    (IsWord-tested (codes "remove") refl)
    (IsWord-decimal c.track (low c.track track), (IsWord-decimal c.item item, are_keep_words c.keep))
    (short (call.Remove c) (track, item))
    (decimal c.track, decimal c.item, refl, (number_of-decimal c.track (low c.track track), track), number_of-decimal c.item item)
  where
    regrouped : (t i : List ℕ) → codes "remove " ++ t ++ codes " " ++ i ≡ spaced (codes "remove") (t ∷ i ∷ [])
    regrouped t i = simp append_assoc refl
written_call place_at (call.Extract c) ((some, tracks), track, item) =
    is_read place_at (call.Extract c) (codes "extract") (tracks_text c.tracks ∷ decimal c.track ∷ decimal c.item ∷ keep_words c.keep)
    (kept _ (codes "extract") (tracks_text c.tracks ∷ decimal c.track ∷ decimal c.item ∷ []) c.keep (regrouped (tracks_text c.tracks) (decimal c.track) (decimal c.item)))
    (IsWord-tested (codes "extract") refl)
    (IsWord-tracks_text c.tracks some tracks, (IsWord-decimal c.track (low c.track track), (IsWord-decimal c.item item, are_keep_words c.keep)))
    (short (call.Extract c) ((some, tracks), track, item)) (
      tracks_text c.tracks,
      decimal c.track,
      decimal c.item,
      refl,
      NamesTracks-tracks_text c.tracks some tracks,
      (number_of-decimal c.track (low c.track track), track),
      number_of-decimal c.item item,
    )
  where
    regrouped : (s t i : List ℕ) → codes "extract " ++ s ++ codes " " ++ t ++ codes " " ++ i ≡ spaced (codes "extract") (s ∷ t ∷ i ∷ [])
    regrouped s t i = simp append_assoc refl
written_call place_at (call.Slice c) (track, at) =
    is_read place_at (call.Slice c) (codes "slice") (decimal c.track ∷ decimal c.at ∷ keep_words c.keep)
    (kept _ (codes "slice") (decimal c.track ∷ decimal c.at ∷ []) c.keep (regrouped (decimal c.track) (decimal c.at)))
    (IsWord-tested (codes "slice") refl)
    (IsWord-decimal c.track (low c.track track), (IsWord-decimal c.at at, are_keep_words c.keep))
    (short (call.Slice c) (track, at))
    (decimal c.track, decimal c.at, refl, (number_of-decimal c.track (low c.track track), track), inl (number_of-decimal c.at at))
  where
    regrouped : (t a : List ℕ) → codes "slice " ++ t ++ codes " " ++ a ≡ spaced (codes "slice") (t ∷ a ∷ [])
    regrouped t a = simp append_assoc refl
written_call place_at (call.Dissolve c) (track, at, a, b) =
    is_read place_at (call.Dissolve c) (codes "dissolve") (decimal c.track ∷ decimal c.at ∷ decimal c.a ∷ decimal c.b ∷ [])
    (regrouped (decimal c.track) (decimal c.at) (decimal c.a) (decimal c.b))
    (IsWord-tested (codes "dissolve") refl)
    (IsWord-decimal c.track (low c.track track), (IsWord-decimal c.at at, (IsWord-decimal c.a a, (IsWord-decimal c.b b, tt))))
    (short (call.Dissolve c) (track, at, a, b)) (
      decimal c.track,
      decimal c.at,
      decimal c.a,
      decimal c.b,
      refl,
      (number_of-decimal c.track (low c.track track), track),
      inl (number_of-decimal c.at at),
      number_of-decimal c.a a,
      number_of-decimal c.b b,
    )
  where
    regrouped : (t p x y : List ℕ) → codes "dissolve " ++ t ++ codes " " ++ p ++ codes " " ++ x ++ codes " " ++ y ≡ spaced (codes "dissolve") (t ∷ p ∷ x ∷ y ∷ [])
    regrouped t p x y = simp append_assoc refl
written_call place_at (call.Undissolve c) (track, at) =
    is_read place_at (call.Undissolve c) (codes "undissolve") (decimal c.track ∷ decimal c.at ∷ [])
    (regrouped (decimal c.track) (decimal c.at))
    (IsWord-tested (codes "undissolve") refl)
    (IsWord-decimal c.track (low c.track track), (IsWord-decimal c.at at, tt))
    (short (call.Undissolve c) (track, at))
    (decimal c.track, decimal c.at, refl, (number_of-decimal c.track (low c.track track), track), inl (number_of-decimal c.at at))
  where
    regrouped : (t a : List ℕ) → codes "undissolve " ++ t ++ codes " " ++ a ≡ spaced (codes "undissolve") (t ∷ a ∷ [])
    regrouped t a = simp append_assoc refl
written_call place_at (call.Trim c) (track, item, by) =
    is_read place_at (call.Trim c) (codes "trim") (decimal c.track ∷ decimal c.item ∷ end_word c.end ∷ signed_decimal c.by ∷ [])
    (regrouped (decimal c.track) (decimal c.item) (end_word c.end) (signed_decimal c.by))
    (IsWord-tested (codes "trim") refl)
    (IsWord-decimal c.track (low c.track track), (IsWord-decimal c.item item, (IsWord-end c.end, (IsWord-signed c.by by, tt))))
    (short (call.Trim c) (track, item, by)) (
      decimal c.track,
      decimal c.item,
      signed_decimal c.by,
      refl,
      (number_of-decimal c.track (low c.track track), track),
      number_of-decimal c.item item,
      signed_of-signed_decimal c.by by,
    )
  where
    regrouped : (t i e d : List ℕ) → codes "trim " ++ t ++ codes " " ++ i ++ codes " " ++ e ++ codes " " ++ d ≡ spaced (codes "trim") (t ∷ i ∷ e ∷ d ∷ [])
    regrouped t i e d = simp append_assoc refl
written_call place_at (call.Slip c) ((some, tracks), track, item, by) =
    is_read place_at (call.Slip c) (codes "slip") (tracks_text c.tracks ∷ decimal c.track ∷ decimal c.item ∷ signed_decimal c.by ∷ [])
    (regrouped (tracks_text c.tracks) (decimal c.track) (decimal c.item) (signed_decimal c.by))
    (IsWord-tested (codes "slip") refl)
    (IsWord-tracks_text c.tracks some tracks, (IsWord-decimal c.track (low c.track track), (IsWord-decimal c.item item, (IsWord-signed c.by by, tt))))
    (short (call.Slip c) ((some, tracks), track, item, by)) (
      tracks_text c.tracks,
      decimal c.track,
      decimal c.item,
      signed_decimal c.by,
      refl,
      NamesTracks-tracks_text c.tracks some tracks,
      (number_of-decimal c.track (low c.track track), track),
      number_of-decimal c.item item,
      signed_of-signed_decimal c.by by,
    )
  where
    regrouped : (s t i d : List ℕ) → codes "slip " ++ s ++ codes " " ++ t ++ codes " " ++ i ++ codes " " ++ d ≡ spaced (codes "slip") (s ∷ t ∷ i ∷ d ∷ [])
    regrouped s t i d = simp append_assoc refl
written_call place_at (call.Roll c) (track, at, by) =
    is_read place_at (call.Roll c) (codes "roll") (decimal c.track ∷ decimal c.at ∷ signed_decimal c.by ∷ [])
    (regrouped (decimal c.track) (decimal c.at) (signed_decimal c.by))
    (IsWord-tested (codes "roll") refl)
    (IsWord-decimal c.track (low c.track track), (IsWord-decimal c.at at, (IsWord-signed c.by by, tt)))
    (short (call.Roll c) (track, at, by)) (
      decimal c.track,
      decimal c.at,
      signed_decimal c.by,
      refl,
      (number_of-decimal c.track (low c.track track), track),
      inl (number_of-decimal c.at at),
      signed_of-signed_decimal c.by by,
    )
  where
    regrouped : (t a d : List ℕ) → codes "roll " ++ t ++ codes " " ++ a ++ codes " " ++ d ≡ spaced (codes "roll") (t ∷ a ∷ d ∷ [])
    regrouped t a d = simp append_assoc refl
written_call place_at (call.Slide c) ((some, tracks), track, item, by) =
    is_read place_at (call.Slide c) (codes "slide") (tracks_text c.tracks ∷ decimal c.track ∷ decimal c.item ∷ signed_decimal c.by ∷ [])
    (regrouped (tracks_text c.tracks) (decimal c.track) (decimal c.item) (signed_decimal c.by))
    (IsWord-tested (codes "slide") refl)
    (IsWord-tracks_text c.tracks some tracks, (IsWord-decimal c.track (low c.track track), (IsWord-decimal c.item item, (IsWord-signed c.by by, tt))))
    (short (call.Slide c) ((some, tracks), track, item, by)) (
      tracks_text c.tracks,
      decimal c.track,
      decimal c.item,
      signed_decimal c.by,
      refl,
      NamesTracks-tracks_text c.tracks some tracks,
      (number_of-decimal c.track (low c.track track), track),
      number_of-decimal c.item item,
      signed_of-signed_decimal c.by by,
    )
  where
    regrouped : (s t i d : List ℕ) → codes "slide " ++ s ++ codes " " ++ t ++ codes " " ++ i ++ codes " " ++ d ≡ spaced (codes "slide") (s ∷ t ∷ i ∷ d ∷ [])
    regrouped s t i d = simp append_assoc refl
written_call place_at (call.Fill c) (track, at, what, from, len) =
    is_read place_at (call.Fill c) (codes "fill") (decimal c.track ∷ decimal c.at ∷ what_text c.what ∷ decimal c.from ∷ (length_words c.length ++ keep_words c.keep))
    (kept _ (codes "fill") (decimal c.track ∷ decimal c.at ∷ what_text c.what ∷ decimal c.from ∷ length_words c.length) c.keep
    (length_spaced c.length (decimal c.track) (decimal c.at) (what_text c.what) (decimal c.from)))
    (IsWord-tested (codes "fill") refl)
    (IsWord-decimal c.track (low c.track track), (IsWord-decimal c.at at, (IsWord-what_text c.what what, (IsWord-decimal c.from from, are_length_words c.length c.keep len))))
    (short (call.Fill c) (track, at, what, from, len)) (
      decimal c.track,
      decimal c.at,
      what_text c.what,
      decimal c.from,
      length_words c.length ++ keep_words c.keep,
      refl,
      (number_of-decimal c.track (low c.track track), track),
      inl (number_of-decimal c.at at),
      IsThing-what_text c.what what,
      number_of-decimal c.from from,
      AreLength-words c.length c.keep len,
    )
written_call place_at (call.Ripple c) ((some, tracks), track, item, by) =
    is_read place_at (call.Ripple c) (codes "ripple") (tracks_text c.tracks ∷ decimal c.track ∷ decimal c.item ∷ end_word c.end ∷ signed_decimal c.by ∷ [])
    (regrouped (tracks_text c.tracks) (decimal c.track) (decimal c.item) (end_word c.end) (signed_decimal c.by))
    (IsWord-tested (codes "ripple") refl)
    (IsWord-tracks_text c.tracks some tracks, (IsWord-decimal c.track (low c.track track), (IsWord-decimal c.item item, (IsWord-end c.end, (IsWord-signed c.by by, tt)))))
    (short (call.Ripple c) ((some, tracks), track, item, by)) (
      tracks_text c.tracks,
      decimal c.track,
      decimal c.item,
      signed_decimal c.by,
      refl,
      NamesTracks-tracks_text c.tracks some tracks,
      (number_of-decimal c.track (low c.track track), track),
      number_of-decimal c.item item,
      signed_of-signed_decimal c.by by,
    )
  where
    regrouped : (s t i e d : List ℕ) → codes "ripple " ++ s ++ codes " " ++ t ++ codes " " ++ i ++ codes " " ++ e ++ codes " " ++ d ≡ spaced (codes "ripple") (s ∷ t ∷ i ∷ e ∷ d ∷ [])
    regrouped s t i e d = simp append_assoc refl
written_call place_at (call.Link3 c) ((some, tracks), items, even) =
    is_read place_at (call.Link3 c) (codes "link") (tracks_text c.tracks ∷ numbers_after [] c.items ∷ [])
    (regrouped (tracks_text c.tracks) (numbers_after [] c.items))
    (IsWord-tested (codes "link") refl)
    (IsWord-tracks_text c.tracks some tracks, (IsWord-numbers_after c.items filled items, tt))
    (short (call.Link3 c) ((some, tracks), items, even))
    (tracks_text c.tracks, numbers_after [] c.items, refl, NamesTracks-tracks_text c.tracks some tracks, (IsNumbers-numbers_after c.items filled items, even))
  where
    filled : 0 < length c.items
    filled = let there = some_tracks_in c.tracks some tracks in omega (arith, there, even)

    regrouped : (s i : List ℕ) → codes "link " ++ s ++ codes " " ++ i ≡ spaced (codes "link") (s ∷ i ∷ [])
    regrouped s i = simp append_assoc refl
written_call place_at (call.Unlink c) (track, item) =
    is_read place_at (call.Unlink c) (codes "unlink") (decimal c.track ∷ decimal c.item ∷ [])
    (regrouped (decimal c.track) (decimal c.item))
    (IsWord-tested (codes "unlink") refl)
    (IsWord-decimal c.track (low c.track track), (IsWord-decimal c.item item, tt))
    (short (call.Unlink c) (track, item))
    (decimal c.track, decimal c.item, refl, (number_of-decimal c.track (low c.track track), track), number_of-decimal c.item item)
  where
    regrouped : (t i : List ℕ) → codes "unlink " ++ t ++ codes " " ++ i ≡ spaced (codes "unlink") (t ∷ i ∷ [])
    regrouped t i = simp append_assoc refl

written_deed : (place_at : List ℕ → Option ℕ) (a : Deed Call) → IsWrittenDeed a → line_of place_at (deed_text_of a) ≡ Ok (Edit (record { by = 0; act = a }))
written_deed place_at (Do c) h = written_call place_at c h
written_deed place_at (Back tracks) (some, small) =
    is_asked place_at (Back tracks) (codes "back") (tracks_text tracks ∷ [])
    refl
    (IsWord-tested (codes "back") refl)
    (IsWord-tracks_text tracks some small, tt)
    (omega (arith, deed_length (Back tracks) (some, small)))
    (tracks_text tracks, refl, NamesTracks-tracks_text tracks some small)

pub written_step : (place_at : List ℕ → Option ℕ) (s : Step Call) → IsWrittenStep s → line_of place_at (step_text_of s) ≡ Ok (Edit (asked_by 0 s))
written_step place_at s h = written_deed place_at s.act h
