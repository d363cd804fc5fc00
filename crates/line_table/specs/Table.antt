-- What the lines of the table are, word by word. place_at says which place a label names.
use Rattle.std.specs.Prelude.{◌≡◌, ℕ, ℤ, ◌^◌, ◌<◌, ◌≤◌, ◌⊎◌, Bool, true, false, List, [], ◌∷◌, ◌++◌, Some, Ok, Err, length, codes}
use Rattle.std.specs.List.{slice_split}
use Rattle.line_words.specs.Blanks.{words_of}
use Rattle.line_words.specs.Digits.{number_of, signed_of}
use Rattle.line_words.specs.declared.TheConstants.{MAX_LINE}
use Rattle.line_words.specs.declared.numbers.NumberFault.TheVariants.{NotANumber}
use Rattle.frame_meaning.specs.declared.cells.What.{What}
use Rattle.frame_meaning.specs.declared.cells.What.TheVariants.{Media, Nest}
use Rattle.composables.specs.declared.calls.End.{End}
use Rattle.composables.specs.declared.calls.End.TheVariants.{Head, Tail}
use Rattle.composables.specs.declared.calls.FillLength.{FillLength}
use Rattle.composables.specs.declared.calls.FillLength.TheVariants.{Source, Sequence}
use Rattle.composables.specs.TrackSets.{tracks_in}
use Rattle.edit_calls.specs.declared.asks.Call.{Call}
use Rattle.edit_calls.specs.declared.asks.Call.TheVariants as call
use Rattle.edit_calls.specs.declared.asks.Ask.TheVariants as ask
use Rattle.line_table.specs.declared.parts.TheConstants.{LAST_TRACK}
use Rattle.line_table.specs.declared.lines.Line.{Line}
use Rattle.line_table.specs.declared.lines.Line.TheVariants.{Edit, Ask, Point, Otio, News}
use Rattle.line_table.specs.declared.first_words.FirstWord.{FirstWord}
use Rattle.line_table.specs.declared.first_words.FirstWord.TheVariants as first_word
use Rattle.take_back.specs.declared.step.Deed.{Deed}
use Rattle.take_back.specs.declared.step.Deed.TheVariants.{Do, Back}
use Rattle.line_table.specs.Spelling.{Naming, is_comma}

-- the word is this number, with leading zeros or without
abbrev pub IsNumeral : List ℕ → ℕ → Type 0
IsNumeral word n = number_of word ≡ Ok n

-- the word is this number, with a `-` before its digits where it is negative
abbrev pub IsDelta : List ℕ → ℤ → Type 0
IsDelta word by = signed_of word ≡ Ok by

-- the word of an end of an item
abbrev pub end_word : End → List ℕ
end_word Head = codes "head"
end_word Tail = codes "tail"

abbrev pub NamesTrack : List ℕ → ℕ → Type 0
NamesTrack word track = IsNumeral word track × (track ≤ LAST_TRACK)

-- each word is the number beside it
abbrev pub AreNumerals : List (List ℕ) → List ℕ → Type 0
AreNumerals [] [] = Unit {0}
AreNumerals [] (n ∷ ns) = ⊥
AreNumerals (word ∷ words) [] = ⊥
AreNumerals (word ∷ words) (n ∷ ns) = IsNumeral word n × AreNumerals words ns

-- the word is the tracks of the set, ascending, parted by commas
abbrev pub NamesTracks : List ℕ → ℕ → Type 0
NamesTracks word set = (set < 2 ^ 32) × AreNumerals (slice_split is_comma word) (tracks_in set)

-- the word is these numbers, parted by commas
abbrev pub IsNumbers : List ℕ → List ℕ → Type 0
IsNumbers word ns = AreNumerals (slice_split is_comma word) ns

-- the word is these numbers, one for each track of the set
abbrev pub AreItems : List ℕ → ℕ → List ℕ → Type 0
AreItems word set items = IsNumbers word items × (length items ≡ length (tracks_in set))

-- the number of the place, or a label that names it
abbrev pub IsPlace : Naming → List ℕ → ℕ → Type 0
IsPlace place_at word place =
    IsNumeral word place ⊎ ((number_of word ≡ Err NotANumber) × (place_at word ≡ Some place))

abbrev pub IsThing : List ℕ → What → Type 0
IsThing word (Media m) = (digits : List ℕ) × (word ≡ codes "@" ++ digits) × IsNumeral digits m
IsThing word (Nest n) = (digits : List ℕ) × (word ≡ codes "#" ++ digits) × IsNumeral digits n

-- the word at the end of a call that keeps dissolves
abbrev pub keep_words : Bool → List (List ℕ)
keep_words false = []
keep_words true = codes "keep" ∷ []

-- the words are how much is filled, so many source frames or the whole gap, and whether dissolves are kept
abbrev pub AreLength : List (List ℕ) → FillLength → Bool → Type 0
AreLength words (Source n) keep =
    (len : List ℕ) × (words ≡ codes "source" ∷ len ∷ keep_words keep) × IsNumeral len n
AreLength words Sequence keep = words ≡ codes "sequence" ∷ keep_words keep

-- the bytes of a first word
abbrev pub word_of : FirstWord → List ℕ
word_of first_word.Overwrite = codes "overwrite"
word_of first_word.Insert = codes "insert"
word_of first_word.Remove = codes "remove"
word_of first_word.Extract = codes "extract"
word_of first_word.Slice = codes "slice"
word_of first_word.Dissolve = codes "dissolve"
word_of first_word.Undissolve = codes "undissolve"
word_of first_word.Trim = codes "trim"
word_of first_word.Slip = codes "slip"
word_of first_word.Roll = codes "roll"
word_of first_word.Slide = codes "slide"
word_of first_word.Fill = codes "fill"
word_of first_word.Ripple = codes "ripple"
word_of first_word.Link = codes "link"
word_of first_word.Unlink = codes "unlink"
word_of first_word.Back = codes "back"
word_of first_word.View = codes "view"
word_of first_word.Items = codes "items"
word_of first_word.Point = codes "point"
word_of first_word.Otio = codes "otio"
word_of first_word.News = codes "news"

-- overwrite T P WHAT FROM LEN · insert TS T P WHAT FROM LEN · remove T I · extract TS T I · slice T P
-- · dissolve T P A B · undissolve T P · trim T I END D · slip TS T I D · roll T P D · slide TS T I D
-- · fill T P WHAT FROM sequence · fill T P WHAT FROM source LEN · ripple TS T I END D
-- · link TS IS · unlink T I
-- and keep behind overwrite, insert, remove, extract, slice and fill, where they keep dissolves
abbrev pub AreCall : Naming → List (List ℕ) → Call → Type 0
AreCall place_at words (call.Overwrite c) =
    (track at what from len : List ℕ)
    × (words ≡ word_of first_word.Overwrite ∷ track ∷ at ∷ what ∷ from ∷ len ∷ keep_words c.keep)
    × NamesTrack track c.track × IsPlace place_at at c.at
    × IsThing what c.what × IsNumeral from c.from × IsNumeral len c.len
AreCall place_at words (call.Insert c) =
    (tracks track at what from len : List ℕ)
    × (words
    ≡ word_of first_word.Insert ∷ tracks ∷ track ∷ at ∷ what ∷ from ∷ len ∷ keep_words c.keep)
    × NamesTracks tracks c.tracks × NamesTrack track c.track × IsPlace place_at at c.at
    × IsThing what c.what × IsNumeral from c.from × IsNumeral len c.len
AreCall place_at words (call.Remove c) =
    (track item : List ℕ) × (words ≡ word_of first_word.Remove ∷ track ∷ item ∷ keep_words c.keep)
    × NamesTrack track c.track × IsNumeral item c.item
AreCall place_at words (call.Extract c) =
    (tracks track item : List ℕ)
    × (words ≡ word_of first_word.Extract ∷ tracks ∷ track ∷ item ∷ keep_words c.keep)
    × NamesTracks tracks c.tracks × NamesTrack track c.track × IsNumeral item c.item
AreCall place_at words (call.Slice c) =
    (track at : List ℕ) × (words ≡ word_of first_word.Slice ∷ track ∷ at ∷ keep_words c.keep)
    × NamesTrack track c.track × IsPlace place_at at c.at
AreCall place_at words (call.Dissolve c) =
    (track at a b : List ℕ) × (words ≡ word_of first_word.Dissolve ∷ track ∷ at ∷ a ∷ b ∷ [])
    × NamesTrack track c.track × IsPlace place_at at c.at × IsNumeral a c.a × IsNumeral b c.b
AreCall place_at words (call.Undissolve c) =
    (track at : List ℕ) × (words ≡ word_of first_word.Undissolve ∷ track ∷ at ∷ [])
    × NamesTrack track c.track × IsPlace place_at at c.at
AreCall place_at words (call.Trim c) =
    (track item by : List ℕ)
    × (words ≡ word_of first_word.Trim ∷ track ∷ item ∷ end_word c.end ∷ by ∷ [])
    × NamesTrack track c.track × IsNumeral item c.item × IsDelta by c.by
AreCall place_at words (call.Slip c) =
    (tracks track item by : List ℕ)
    × (words ≡ word_of first_word.Slip ∷ tracks ∷ track ∷ item ∷ by ∷ [])
    × NamesTracks tracks c.tracks × NamesTrack track c.track × IsNumeral item c.item × IsDelta by c.by
AreCall place_at words (call.Roll c) =
    (track at by : List ℕ) × (words ≡ word_of first_word.Roll ∷ track ∷ at ∷ by ∷ [])
    × NamesTrack track c.track × IsPlace place_at at c.at × IsDelta by c.by
AreCall place_at words (call.Slide c) =
    (tracks track item by : List ℕ)
    × (words ≡ word_of first_word.Slide ∷ tracks ∷ track ∷ item ∷ by ∷ [])
    × NamesTracks tracks c.tracks × NamesTrack track c.track × IsNumeral item c.item × IsDelta by c.by
AreCall place_at words (call.Fill c) =
    (track at what from : List ℕ) × (rest : List (List ℕ))
    × (words ≡ word_of first_word.Fill ∷ track ∷ at ∷ what ∷ from ∷ rest)
    × NamesTrack track c.track × IsPlace place_at at c.at
    × IsThing what c.what × IsNumeral from c.from × AreLength rest c.length c.keep
AreCall place_at words (call.Ripple c) =
    (tracks track item by : List ℕ)
    × (words ≡ word_of first_word.Ripple ∷ tracks ∷ track ∷ item ∷ end_word c.end ∷ by ∷ [])
    × NamesTracks tracks c.tracks × NamesTrack track c.track × IsNumeral item c.item × IsDelta by c.by
AreCall place_at words (call.Link3 c) =
    (tracks items : List ℕ) × (words ≡ word_of first_word.Link ∷ tracks ∷ items ∷ [])
    × NamesTracks tracks c.tracks × AreItems items c.tracks c.items
AreCall place_at words (call.Unlink c) =
    (track item : List ℕ) × (words ≡ word_of first_word.Unlink ∷ track ∷ item ∷ [])
    × NamesTrack track c.track × IsNumeral item c.item

-- a call · back TS
abbrev pub AreDeed : Naming → List (List ℕ) → Deed Call → Type 0
AreDeed place_at words (Do c) = AreCall place_at words c
AreDeed place_at words (Back set) =
    (tracks : List ℕ) × (words ≡ word_of first_word.Back ∷ tracks ∷ []) × NamesTracks tracks set

-- a step, which a line asks for without a station · view T P P · items T · point · otio N · news N
abbrev pub AreWords : Naming → List (List ℕ) → Line → Type 0
AreWords place_at words (Edit s) = (s.by ≡ 0) × AreDeed place_at words s.act
AreWords place_at words (Ask (ask.View track a b)) =
    (named from to : List ℕ) × (words ≡ word_of first_word.View ∷ named ∷ from ∷ to ∷ [])
    × NamesTrack named track × IsPlace place_at from a × IsPlace place_at to b
AreWords place_at words (Ask (ask.Items track)) =
    (named : List ℕ) × (words ≡ word_of first_word.Items ∷ named ∷ []) × NamesTrack named track
AreWords place_at words Point = words ≡ word_of first_word.Point ∷ []
AreWords place_at words (Otio n) =
    (named : List ℕ) × (words ≡ word_of first_word.Otio ∷ named ∷ []) × IsNumeral named n
AreWords place_at words (News n) =
    (named : List ℕ) × (words ≡ word_of first_word.News ∷ named ∷ []) × IsNumeral named n

-- the bytes are this line
pub record IsLine (place_at : Naming) (bytes : List ℕ) (line : Line) : Type 0 where
  pub short : length bytes ≤ MAX_LINE
  pub words : AreWords place_at (words_of bytes) line
