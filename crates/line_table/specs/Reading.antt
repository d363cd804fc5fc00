-- The table of the lines that a station sends, and the first fault of a line that is none of them: B5
-- more than 1,024 bytes; B2 no word; B1 a first word that is not in the table; B2 not as many words as
-- the row has, nor one more where it may end with `keep`; then, word by word from the left, B3 a word that is not spelled so, B4 a number past its
-- bound, B6 a list of tracks that does not rise, B1 a word that must be another.
use Rattle.std.specs.Prelude.{◌≡◌, ◌⊎◌, ℕ, Bool, false, IsTrue, List, [], ◌∷◌, Option, Some, None, Result, Ok, Err, length, map, nat_eq, nat_le, codes, bytes_eq, if◌then◌else◌}
use Rattle.std.specs.Borrow.{Bor}
use Rattle.line_words.specs.Blanks.{words_of}
use Rattle.line_words.specs.declared.TheConstants.{MAX_LINE}
use Rattle.composables.specs.TrackSets.{tracks_in}
use Rattle.edit_calls.specs.declared.asks.Call.{Call}
use Rattle.edit_calls.specs.declared.asks.Call.TheVariants as call
use Rattle.edit_calls.specs.declared.asks.Ask.TheVariants as ask
use Rattle.line_table.specs.declared.lines.Line.{Line}
use Rattle.line_table.specs.declared.lines.Line.TheVariants.{Edit, Ask, Point, Otio, News}
use Rattle.protocol_parts.specs.declared.line_fault.LineFault.{LineFault}
use Rattle.protocol_parts.specs.declared.line_fault.LineFault.TheVariants.{B1, B2, B5, Memory}
use Rattle.line_table.specs.declared.first_words.FirstWord.{FirstWord}
use Rattle.line_table.specs.declared.first_words.FirstWord.TheVariants as first_word
use Rattle.take_back.specs.declared.step.Deed.TheVariants.{Do, Back}
use Rattle.line_table.specs.Spelling.{Naming, ◌>>=◌, numeral_of, delta_of, end_of, at_most_of, keep_of, filled_of, numbers_of, track_of, tracks_of, place_of, what_of}

-- the bytes of words
abbrev pub texts_of : List (Bor (List ℕ)) → List (List ℕ)
texts_of words = map (λ w. w.now) words

-- the line that asks for an edit: it does not say for which station
abbrev pub edit : Call → Line
edit c = Edit (record { by = 0; act = Do c })

-- overwrite T P WHAT FROM LEN, or with keep behind it
abbrev pub overwrite_of : Naming → List (List ℕ) → Result Line LineFault
overwrite_of place_at (track ∷ at ∷ what ∷ from ∷ len ∷ rest) = do
  few ← at_most_of 1 rest
  track ← track_of track
  at ← place_of place_at at
  what ← what_of what
  from ← numeral_of from
  len ← numeral_of len
  keep ← keep_of rest
  Ok (edit (call.Overwrite (record {
    track = track;
    at = at;
    what = what;
    from = from;
    len = len;
    keep = keep;
  })))
overwrite_of place_at words = Err B2

-- insert TS T P WHAT FROM LEN, or with keep behind it
abbrev pub insert_of : Naming → List (List ℕ) → Result Line LineFault
insert_of place_at (tracks ∷ track ∷ at ∷ what ∷ from ∷ len ∷ rest) = do
  few ← at_most_of 1 rest
  tracks ← tracks_of tracks
  track ← track_of track
  at ← place_of place_at at
  what ← what_of what
  from ← numeral_of from
  len ← numeral_of len
  keep ← keep_of rest
  Ok (edit (call.Insert (record {
    tracks = tracks;
    track = track;
    at = at;
    what = what;
    from = from;
    len = len;
    keep = keep;
  })))
insert_of place_at words = Err B2

-- remove T I, or with keep behind it
abbrev pub remove_of : List (List ℕ) → Result Line LineFault
remove_of (track ∷ item ∷ rest) = do
  few ← at_most_of 1 rest
  track ← track_of track
  item ← numeral_of item
  keep ← keep_of rest
  Ok (edit (call.Remove (record { track = track; item = item; keep = keep })))
remove_of words = Err B2

-- extract TS T I, or with keep behind it
abbrev pub extract_of : List (List ℕ) → Result Line LineFault
extract_of (tracks ∷ track ∷ item ∷ rest) = do
  few ← at_most_of 1 rest
  tracks ← tracks_of tracks
  track ← track_of track
  item ← numeral_of item
  keep ← keep_of rest
  Ok (edit (call.Extract (record {
    tracks = tracks;
    track = track;
    item = item;
    keep = keep;
  })))
extract_of words = Err B2

-- slice T P, or with keep behind it
abbrev pub slice_of : Naming → List (List ℕ) → Result Line LineFault
slice_of place_at (track ∷ at ∷ rest) = do
  few ← at_most_of 1 rest
  track ← track_of track
  at ← place_of place_at at
  keep ← keep_of rest
  Ok (edit (call.Slice (record { track = track; at = at; keep = keep })))
slice_of place_at words = Err B2

-- dissolve T P A B
abbrev pub dissolve_of : Naming → List (List ℕ) → Result Line LineFault
dissolve_of place_at (track ∷ at ∷ a ∷ b ∷ []) = do
  track ← track_of track
  at ← place_of place_at at
  a ← numeral_of a
  b ← numeral_of b
  Ok (edit (call.Dissolve (record { track = track; at = at; a = a; b = b })))
dissolve_of place_at words = Err B2

-- undissolve T P
abbrev pub undissolve_of : Naming → List (List ℕ) → Result Line LineFault
undissolve_of place_at (track ∷ at ∷ []) = do
  track ← track_of track
  at ← place_of place_at at
  Ok (edit (call.Undissolve (record { track = track; at = at })))
undissolve_of place_at words = Err B2

-- trim T I END D
abbrev pub trim_of : List (List ℕ) → Result Line LineFault
trim_of (track ∷ item ∷ end ∷ by ∷ []) = do
  track ← track_of track
  item ← numeral_of item
  end ← end_of end
  by ← delta_of by
  Ok (edit (call.Trim (record { track = track; item = item; end = end; by = by })))
trim_of words = Err B2

-- slip TS T I D
abbrev pub slip_of : List (List ℕ) → Result Line LineFault
slip_of (tracks ∷ track ∷ item ∷ by ∷ []) = do
  tracks ← tracks_of tracks
  track ← track_of track
  item ← numeral_of item
  by ← delta_of by
  Ok (edit (call.Slip (record { tracks = tracks; track = track; item = item; by = by })))
slip_of words = Err B2

-- roll T P D
abbrev pub roll_of : Naming → List (List ℕ) → Result Line LineFault
roll_of place_at (track ∷ at ∷ by ∷ []) = do
  track ← track_of track
  at ← place_of place_at at
  by ← delta_of by
  Ok (edit (call.Roll (record { track = track; at = at; by = by })))
roll_of place_at words = Err B2

-- slide TS T I D
abbrev pub slide_of : List (List ℕ) → Result Line LineFault
slide_of (tracks ∷ track ∷ item ∷ by ∷ []) = do
  tracks ← tracks_of tracks
  track ← track_of track
  item ← numeral_of item
  by ← delta_of by
  Ok (edit (call.Slide (record { tracks = tracks; track = track; item = item; by = by })))
slide_of words = Err B2

-- fill T P WHAT FROM sequence · fill T P WHAT FROM source LEN, or one of these with keep behind it
abbrev pub fill_of : Naming → List (List ℕ) → Result Line LineFault
fill_of place_at (track ∷ at ∷ what ∷ from ∷ how ∷ rest) = do
  few ← at_most_of 2 rest
  track ← track_of track
  at ← place_of place_at at
  what ← what_of what
  from ← numeral_of from
  filled ← filled_of how rest
  Ok (edit (call.Fill (record {
    track = track;
    at = at;
    what = what;
    from = from;
    length = filled.0;
    keep = filled.1;
  })))
fill_of place_at words = Err B2

-- ripple TS T I END D
abbrev pub ripple_of : List (List ℕ) → Result Line LineFault
ripple_of (tracks ∷ track ∷ item ∷ end ∷ by ∷ []) = do
  tracks ← tracks_of tracks
  track ← track_of track
  item ← numeral_of item
  end ← end_of end
  by ← delta_of by
  Ok (edit (call.Ripple (record {
    tracks = tracks;
    track = track;
    item = item;
    end = end;
    by = by;
  })))
ripple_of words = Err B2

-- link TS IS: as many numbers as tracks
abbrev pub link_of : List (List ℕ) → Result Line LineFault
link_of (list ∷ numbers ∷ []) = do
  tracks ← tracks_of list
  items ← numbers_of numbers
  if nat_eq (length items) (length (tracks_in tracks))
      then Ok (edit (call.Link3 (record { tracks = tracks; items = items })))
      else Err B2
link_of words = Err B2

-- unlink T I
abbrev pub unlink_of : List (List ℕ) → Result Line LineFault
unlink_of (track ∷ item ∷ []) = do
  track ← track_of track
  item ← numeral_of item
  Ok (edit (call.Unlink (record { track = track; item = item })))
unlink_of words = Err B2

-- back TS
abbrev pub back_of : List (List ℕ) → Result Line LineFault
back_of (list ∷ []) = do
  tracks ← tracks_of list
  Ok (Edit (record { by = 0; act = Back tracks }))
back_of words = Err B2

-- view T P P
abbrev pub view_of : Naming → List (List ℕ) → Result Line LineFault
view_of place_at (track ∷ from ∷ to ∷ []) = do
  track ← track_of track
  a ← place_of place_at from
  b ← place_of place_at to
  Ok (Ask (ask.View track a b))
view_of place_at words = Err B2

-- items T
abbrev pub items_of : List (List ℕ) → Result Line LineFault
items_of (track ∷ []) = do
  track ← track_of track
  Ok (Ask (ask.Items track))
items_of words = Err B2

-- point
abbrev pub point_of : List (List ℕ) → Result Line LineFault
point_of [] = Ok Point
point_of words = Err B2

-- otio N
abbrev pub otio_of : List (List ℕ) → Result Line LineFault
otio_of (point ∷ []) = do
  point ← numeral_of point
  Ok (Otio point)
otio_of words = Err B2

-- news N
abbrev pub news_of : List (List ℕ) → Result Line LineFault
news_of (place ∷ []) = do
  place ← numeral_of place
  Ok (News place)
news_of words = Err B2

-- the first words of the table
abbrev pub first_word_of : List ℕ → Option FirstWord
first_word_of word =
    if bytes_eq word (codes "overwrite") then Some first_word.Overwrite
    else if bytes_eq word (codes "insert") then Some first_word.Insert
    else if bytes_eq word (codes "remove") then Some first_word.Remove
    else if bytes_eq word (codes "extract") then Some first_word.Extract
    else if bytes_eq word (codes "slice") then Some first_word.Slice
    else if bytes_eq word (codes "dissolve") then Some first_word.Dissolve
    else if bytes_eq word (codes "undissolve") then Some first_word.Undissolve
    else if bytes_eq word (codes "trim") then Some first_word.Trim
    else if bytes_eq word (codes "slip") then Some first_word.Slip
    else if bytes_eq word (codes "roll") then Some first_word.Roll
    else if bytes_eq word (codes "slide") then Some first_word.Slide
    else if bytes_eq word (codes "fill") then Some first_word.Fill
    else if bytes_eq word (codes "ripple") then Some first_word.Ripple
    else if bytes_eq word (codes "link") then Some first_word.Link
    else if bytes_eq word (codes "unlink") then Some first_word.Unlink
    else if bytes_eq word (codes "back") then Some first_word.Back
    else if bytes_eq word (codes "view") then Some first_word.View
    else if bytes_eq word (codes "items") then Some first_word.Items
    else if bytes_eq word (codes "point") then Some first_word.Point
    else if bytes_eq word (codes "otio") then Some first_word.Otio
    else if bytes_eq word (codes "news") then Some first_word.News
    else None

-- the words after the first, by the row of the first
abbrev pub row_of : Naming → FirstWord → List (List ℕ) → Result Line LineFault
row_of place_at first_word.Overwrite words = overwrite_of place_at words
row_of place_at first_word.Insert words = insert_of place_at words
row_of place_at first_word.Remove words = remove_of words
row_of place_at first_word.Extract words = extract_of words
row_of place_at first_word.Slice words = slice_of place_at words
row_of place_at first_word.Dissolve words = dissolve_of place_at words
row_of place_at first_word.Undissolve words = undissolve_of place_at words
row_of place_at first_word.Trim words = trim_of words
row_of place_at first_word.Slip words = slip_of words
row_of place_at first_word.Roll words = roll_of place_at words
row_of place_at first_word.Slide words = slide_of words
row_of place_at first_word.Fill words = fill_of place_at words
row_of place_at first_word.Ripple words = ripple_of words
row_of place_at first_word.Link words = link_of words
row_of place_at first_word.Unlink words = unlink_of words
row_of place_at first_word.Back words = back_of words
row_of place_at first_word.View words = view_of place_at words
row_of place_at first_word.Items words = items_of words
row_of place_at first_word.Point words = point_of words
row_of place_at first_word.Otio words = otio_of words
row_of place_at first_word.News words = news_of words

abbrev pub row_if : Naming → Option FirstWord → List (List ℕ) → Result Line LineFault
row_if place_at None words = Err B1
row_if place_at (Some k) words = row_of place_at k words

abbrev pub line_of_words : Naming → List (List ℕ) → Result Line LineFault
line_of_words place_at [] = Err B2
line_of_words place_at (first ∷ words) = row_if place_at (first_word_of first) words

-- the line that these bytes are, where place_at says which place a label names
abbrev pub line_of : Naming → List ℕ → Result Line LineFault
line_of place_at bytes =
    if nat_le (length bytes) MAX_LINE then line_of_words place_at (words_of bytes) else Err B5

-- the first word is `link`
abbrev pub are_linking : List (List ℕ) → Bool
are_linking [] = false
are_linking (first ∷ words) = bytes_eq first (codes "link")

-- The words behind the first, the words of a line, and a line are read as they say. Of a line whose first word is
-- `link` there may be want of memory in place of that.
abbrev pub IsRowRead : Naming → FirstWord → List (List ℕ) → Result Line LineFault → Type 0
IsRowRead place_at k words result =
    (result ≡ row_of place_at k words) ⊎ ((k ≡ first_word.Link) × (result ≡ Err Memory))

abbrev pub AreRead : Naming → List (List ℕ) → Result Line LineFault → Type 0
AreRead place_at words result =
    (result ≡ line_of_words place_at words)
    ⊎ (IsTrue (are_linking words) × (result ≡ Err Memory))

abbrev pub IsRead : Naming → List ℕ → Result Line LineFault → Type 0
IsRead place_at bytes result =
    (result ≡ line_of place_at bytes)
    ⊎ (IsTrue (are_linking (words_of bytes)) × (result ≡ Err Memory))
