-- Why a line is none of the table. The first of these that holds: it is too long; it has no word; its
-- first word is not in the table; no row of that word has so many words; and then, word by word from the
-- left, a word is not spelled as its part of the row, or a number of it is past its bound, or its list
-- of tracks does not rise, or it must be another; and at last `link` has not as many items as tracks.
use Rattle.std.specs.Prelude.{◌≡◌, ◌≢◌, ℕ, ℤ, ◌+◌, ◌<◌, ◌≤◌, ◌⊎◌, Bool, true, false, List, [], ◌∷◌, ◌++◌, None, Err, length, bytes_eq, codes}
use Rattle.std.specs.List.{slice_split}
use Rattle.line_words.specs.Blanks.{words_of}
use Rattle.line_words.specs.Digits.{number_of, signed_of}
use Rattle.line_words.specs.declared.TheConstants.{MAX_LINE}
use Rattle.line_words.specs.declared.numbers.NumberFault.TheVariants.{NotANumber, TooLarge}
use Rattle.composables.specs.declared.calls.End.{End}
use Rattle.composables.specs.TrackSets.{tracks_in}
use Rattle.frame_meaning.specs.declared.cells.What.{What}
use Rattle.line_table.specs.declared.parts.TheConstants.{LAST_TRACK}
use Rattle.protocol_parts.specs.declared.line_fault.LineFault.{LineFault}
use Rattle.protocol_parts.specs.declared.line_fault.LineFault.TheVariants.{B1, B2, B3, B4, B5, B6}
use Rattle.line_table.specs.declared.first_words.FirstWord.{FirstWord}
use Rattle.line_table.specs.declared.first_words.FirstWord.TheVariants as first_word
use Rattle.line_table.specs.Spelling.{Naming, is_comma}
use Rattle.line_table.specs.Table.{IsDelta, IsNumbers, IsNumeral, NamesTrack, NamesTracks, IsPlace, IsThing, end_word, word_of}

-- what a word of a row is to be: TS, T, P, WHAT, a number (I, FROM, LEN, A, B), IS, END, D, or this word
pub data Part : Type 0 where
  Tracks : Part
  Track : Part
  Place : Part
  Thing : Part
  Number : Part
  Numbers : Part
  Ending : Part
  Delta : Part
  Given : List ℕ → Part

-- a row, and the same with keep behind it
abbrev pub or_keep : List Part → List (List Part)
or_keep row = row ∷ (row ++ Given (codes "keep") ∷ []) ∷ []

-- the fifth word is `sequence`
abbrev pub is_whole : List (List ℕ) → Bool
is_whole (track ∷ at ∷ what ∷ from ∷ how ∷ rest) = bytes_eq how (codes "sequence")
is_whole words = false

-- the rows of fill: of the two with six words that of the fifth
abbrev pub fill_rows : Bool → List (List Part)
fill_rows true =
    (Track ∷ Place ∷ Thing ∷ Number ∷ Given (codes "sequence") ∷ [])
    ∷ (Track ∷ Place ∷ Thing ∷ Number ∷ Given (codes "sequence") ∷ Given (codes "keep") ∷ [])
    ∷ (Track ∷ Place ∷ Thing ∷ Number ∷ Given (codes "source") ∷ Number ∷ Given (codes "keep") ∷ [])
    ∷ []
fill_rows false =
    (Track ∷ Place ∷ Thing ∷ Number ∷ Given (codes "sequence") ∷ [])
    ∷ (Track ∷ Place ∷ Thing ∷ Number ∷ Given (codes "source") ∷ Number ∷ [])
    ∷ (Track ∷ Place ∷ Thing ∷ Number ∷ Given (codes "source") ∷ Number ∷ Given (codes "keep") ∷ [])
    ∷ []

-- the rows that begin with a first word, without it, for the words behind it
abbrev pub rows_of : FirstWord → List (List ℕ) → List (List Part)
rows_of first_word.Overwrite words = or_keep (Track ∷ Place ∷ Thing ∷ Number ∷ Number ∷ [])
rows_of first_word.Insert words = or_keep (Tracks ∷ Track ∷ Place ∷ Thing ∷ Number ∷ Number ∷ [])
rows_of first_word.Remove words = or_keep (Track ∷ Number ∷ [])
rows_of first_word.Extract words = or_keep (Tracks ∷ Track ∷ Number ∷ [])
rows_of first_word.Slice words = or_keep (Track ∷ Place ∷ [])
rows_of first_word.Dissolve words = (Track ∷ Place ∷ Number ∷ Number ∷ []) ∷ []
rows_of first_word.Undissolve words = (Track ∷ Place ∷ []) ∷ []
rows_of first_word.Trim words = (Track ∷ Number ∷ Ending ∷ Delta ∷ []) ∷ []
rows_of first_word.Slip words = (Tracks ∷ Track ∷ Number ∷ Delta ∷ []) ∷ []
rows_of first_word.Roll words = (Track ∷ Place ∷ Delta ∷ []) ∷ []
rows_of first_word.Slide words = (Tracks ∷ Track ∷ Number ∷ Delta ∷ []) ∷ []
rows_of first_word.Fill words = fill_rows (is_whole words)
rows_of first_word.Ripple words = (Tracks ∷ Track ∷ Number ∷ Ending ∷ Delta ∷ []) ∷ []
rows_of first_word.Link words = (Tracks ∷ Numbers ∷ []) ∷ []
rows_of first_word.Unlink words = (Track ∷ Number ∷ []) ∷ []
rows_of first_word.Back words = (Tracks ∷ []) ∷ []
rows_of first_word.View words = (Track ∷ Place ∷ Place ∷ []) ∷ []
rows_of first_word.Items words = (Track ∷ []) ∷ []
rows_of first_word.Point words = [] ∷ []
rows_of first_word.Otio words = (Number ∷ []) ∷ []
rows_of first_word.News words = (Number ∷ []) ∷ []

-- the word is not one or more decimal digits
abbrev pub IsNoNumeral : List ℕ → Type 0
IsNoNumeral word = number_of word ≡ Err NotANumber

-- the word is decimal digits, of a number that 32 bits do not hold
abbrev pub IsTooLarge : List ℕ → Type 0
IsTooLarge word = number_of word ≡ Err TooLarge

-- the word is not one or more decimal digits, with or without one `-` before them
abbrev pub IsNoDelta : List ℕ → Type 0
IsNoDelta word = signed_of word ≡ Err NotANumber

-- the word is a delta that 32 bits do not hold
abbrev pub IsDeltaTooLarge : List ℕ → Type 0
IsDeltaTooLarge word = signed_of word ≡ Err TooLarge

-- the number of a track is past its bound
abbrev pub IsPastTracks : List ℕ → Type 0
IsPastTracks word = IsTooLarge word ⊎ ((n : ℕ) × IsNumeral word n × (LAST_TRACK < n))

abbrev pub IsBadTrack : List ℕ → LineFault → Type 0
IsBadTrack word fault = (IsNoNumeral word × (fault ≡ B3)) ⊎ (IsPastTracks word × (fault ≡ B4))

-- one of these is no track, or is not above the one before, those before it being right
abbrev pub AreBadTracks : ℕ → List (List ℕ) → LineFault → Type 0
AreBadTracks least [] fault = ⊥
AreBadTracks least (word ∷ words) fault =
    IsBadTrack word fault
    ⊎ ((track : ℕ) × NamesTrack word track
    × (((track < least) × (fault ≡ B6)) ⊎ ((least ≤ track) × AreBadTracks (track + 1) words fault)))

abbrev pub IsBadNumeral : List ℕ → LineFault → Type 0
IsBadNumeral word fault = (IsNoNumeral word × (fault ≡ B3)) ⊎ (IsTooLarge word × (fault ≡ B4))

-- one of these is no number, or is past its bound, those before it being right
abbrev pub AreBadNumerals : List (List ℕ) → LineFault → Type 0
AreBadNumerals [] fault = ⊥
AreBadNumerals (word ∷ words) fault =
    IsBadNumeral word fault ⊎ (((n : ℕ) × IsNumeral word n) × AreBadNumerals words fault)

-- the word is `@` or `#` and these digits
abbrev pub HasDigits : List ℕ → List ℕ → Type 0
HasDigits word digits = (word ≡ codes "@" ++ digits) ⊎ (word ≡ codes "#" ++ digits)

-- the word is not spelled as this part, or a number of it is past its bound, or its list does not rise
abbrev pub IsBadPart : Naming → Part → List ℕ → LineFault → Type 0
IsBadPart place_at Number word fault = IsBadNumeral word fault
IsBadPart place_at Numbers word fault = AreBadNumerals (slice_split is_comma word) fault
IsBadPart place_at Track word fault = IsBadTrack word fault
IsBadPart place_at Tracks word fault = AreBadTracks 0 (slice_split is_comma word) fault
IsBadPart place_at Place word fault =
    ((IsNoNumeral word × (place_at word ≡ None)) × (fault ≡ B3)) ⊎ (IsTooLarge word × (fault ≡ B4))
IsBadPart place_at Thing word fault =
    (((digits : List ℕ) → HasDigits word digits → IsNoNumeral digits) × (fault ≡ B3))
    ⊎ (((digits : List ℕ) × HasDigits word digits × IsTooLarge digits) × (fault ≡ B4))
IsBadPart place_at Ending word fault = ((end : End) → word ≢ end_word end) × (fault ≡ B1)
IsBadPart place_at Delta word fault =
    (IsNoDelta word × (fault ≡ B3)) ⊎ (IsDeltaTooLarge word × (fault ≡ B4))
IsBadPart place_at (Given given) word fault = (word ≢ given) × (fault ≡ B1)

-- the word is spelled as this part, within its bounds
abbrev pub IsPart : Naming → Part → List ℕ → Type 0
IsPart place_at Number word = (n : ℕ) × IsNumeral word n
IsPart place_at Numbers word = (ns : List ℕ) × IsNumbers word ns
IsPart place_at Track word = (n : ℕ) × NamesTrack word n
IsPart place_at Tracks word = (set : ℕ) × NamesTracks word set
IsPart place_at Place word = (n : ℕ) × IsPlace place_at word n
IsPart place_at Thing word = (w : What) × IsThing word w
IsPart place_at Ending word = (end : End) × (word ≡ end_word end)
IsPart place_at Delta word = (by : ℤ) × IsDelta word by
IsPart place_at (Given given) word = word ≡ given

-- the first word that is wrong, those before it being right
abbrev pub FirstIsBad : Naming → List Part → List (List ℕ) → LineFault → Type 0
FirstIsBad place_at [] words fault = ⊥
FirstIsBad place_at (part ∷ parts) [] fault = ⊥
FirstIsBad place_at (part ∷ parts) (word ∷ words) fault =
    IsBadPart place_at part word fault
    ⊎ (IsPart place_at part word × FirstIsBad place_at parts words fault)

-- no row has so many words, or a word is wrong for the row that has
abbrev pub AreNoRow : Naming → List (List Part) → List (List ℕ) → LineFault → Type 0
AreNoRow place_at [] words fault = fault ≡ B2
AreNoRow place_at (row ∷ rows) words fault =
    ((length words ≡ length row) × FirstIsBad place_at row words fault)
    ⊎ ((length words ≢ length row) × AreNoRow place_at rows words fault)

-- the words of `link` are right, but there are not as many items as tracks
abbrev pub AreUneven : List (List ℕ) → LineFault → Type 0
AreUneven (list ∷ numbers ∷ []) fault =
    (set : ℕ) × (items : List ℕ) × NamesTracks list set × IsNumbers numbers items
    × (length items ≢ length (tracks_in set)) × (fault ≡ B2)
AreUneven words fault = ⊥

abbrev pub AreBad : Naming → List (List ℕ) → LineFault → Type 0
AreBad place_at [] fault = fault ≡ B2
AreBad place_at (first ∷ words) fault =
    (((k : FirstWord) → first ≢ word_of k) × (fault ≡ B1))
    ⊎ ((k : FirstWord) × (first ≡ word_of k) × AreNoRow place_at (rows_of k words) words fault)
    ⊎ ((first ≡ word_of first_word.Link) × AreUneven words fault)

-- the bytes are no line of the table, and this is why
abbrev pub IsBad : Naming → List ℕ → LineFault → Type 0
IsBad place_at bytes fault =
    ((MAX_LINE < length bytes) × (fault ≡ B5))
    ⊎ ((length bytes ≤ MAX_LINE) × AreBad place_at (words_of bytes) fault)
