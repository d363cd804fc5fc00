-- What a line of an edit decision list says, after CMX 3600: nothing, a counting, or an event; or the code of what is
-- wrong with it, the first of these: P12 no counting behind `FCM:`, P7 a change of speed, P2 no number, P11 a number over
-- 999, P5 a wipe, P6 a key, P1 another layout, P8 no channel, P3 no timecode of the counting, P4 lengths that differ.
use Rattle.std.specs.Prelude.{ℕ, ◌&&◌, List, [], ◌∷◌, Option, Some, None, Result, Ok, Err, nat_le, bytes_eq, codes, map, if◌then◌else◌}
use Rattle.std.specs.Borrow.{Bor}
use Rattle.line_words.specs.Blanks.{words_of}
use Rattle.line_words.specs.declared.line.LineEnd.{LineEnd}
use Rattle.line_words.specs.declared.line.LineEnd.TheVariants.{Whole, TooLong}
use Rattle.timecode12.specs.Numbers.{Counted}
use Rattle.timecode12.specs.declared.rate.SequenceRate.{SequenceRate}
use Rattle.edl_lines.specs.declared.code.LineCode.{LineCode}
use Rattle.edl_lines.specs.declared.code.LineCode.TheVariants.{P1, P4, P7}
use Rattle.edl_lines.specs.declared.event_line.EventLine.{EventLine}
use Rattle.edl_lines.specs.declared.parts.Span.{Span}
use Rattle.edl_lines.specs.declared.said.Said.{Said}
use Rattle.edl_lines.specs.declared.said.Said.TheVariants.{Skipped, Counts, Tells}
use Rattle.edl_lines.specs.ListLines.{ListLine}
use Rattle.edl_lines.specs.Spelling.{◌>>=◌, is_note, number_of_event, plain_transition, laid_out, dissolve_length, channels_of, span_of, counting_of}

-- the bytes of words
abbrev pub texts_of : List (Bor (List ℕ)) → List (List ℕ)
texts_of words = map (λ w. w.now) words

-- a line with these parts
abbrev pub line_with : ℕ → List ℕ → ℕ → Option ℕ → Span → EventLine
line_with number reel channels frames span = record {
  number = number;
  reel = reel;
  channels = channels;
  frames = frames;
  source = span.source;
  place = span.place;
  len = span.len;
}

-- a dissolve has a frame at least, and no more than its event
abbrev pub within_event : ℕ → List ℕ → ℕ → ℕ → Span → Result EventLine LineCode
within_event number reel channels frames span =
    if nat_le 1 frames && nat_le frames span.len then Ok (line_with number reel channels (Some frames) span) else Err P4

-- a cut: NUMBER REEL CHANNEL C SOURCE-IN SOURCE-OUT RECORD-IN RECORD-OUT
abbrev pub cut_line :
    Counted → LineEnd → ℕ → List ℕ → List ℕ → List ℕ → List ℕ → List ℕ → List ℕ → List ℕ → Result EventLine LineCode
cut_line counting end number reel channel transition source_in source_out record_in record_out = do
  reel ← laid_out end (codes "C") transition reel
  channels ← channels_of channel
  span ← span_of counting source_in source_out record_in record_out
  Ok (line_with number reel channels None span)

-- a dissolve: NUMBER REEL CHANNEL D LENGTH SOURCE-IN SOURCE-OUT RECORD-IN RECORD-OUT
abbrev pub dissolve_line :
    Counted → LineEnd → ℕ → List ℕ → List ℕ → List ℕ → List ℕ → List ℕ → List ℕ → List ℕ → List ℕ
    → Result EventLine LineCode
dissolve_line counting end number reel channel transition length source_in source_out record_in record_out = do
  reel ← laid_out end (codes "D") transition reel
  frames ← dissolve_length length
  channels ← channels_of channel
  span ← span_of counting source_in source_out record_in record_out
  within_event number reel channels frames span

-- eight words are a cut, and nine a dissolve
abbrev pub line_of_words : Counted → LineEnd → ℕ → List (List ℕ) → Result EventLine LineCode
line_of_words counting end number (first ∷ reel ∷ channel ∷ transition ∷ a ∷ b ∷ c ∷ d ∷ []) =
    cut_line counting end number reel channel transition a b c d
line_of_words counting end number (first ∷ reel ∷ channel ∷ transition ∷ length ∷ a ∷ b ∷ c ∷ d ∷ []) =
    dissolve_line counting end number reel channel transition length a b c d
line_of_words counting end number words = Err P1

-- the word that says the transition
abbrev pub fourth : List (List ℕ) → List ℕ
fourth (first ∷ second ∷ third ∷ word ∷ words) = word
fourth words = []

-- the number of a line that is no change of speed
abbrev pub line_number : List ℕ → Result ℕ LineCode
line_number first = if bytes_eq first (codes "M2") then Err P7 else number_of_event first

abbrev pub event_line : Counted → LineEnd → List ℕ → List (List ℕ) → Result EventLine LineCode
event_line counting end first words = do
  number ← line_number first
  plain ← plain_transition (fourth words)
  line_of_words counting end number words

-- the counting that is set, on a line that is not too long
abbrev pub set_counting : LineEnd → Counted → Result Said LineCode
set_counting TooLong counting = Err P1
set_counting Whole counting = Ok (Counts counting)

-- what a line with these words says, in the counting that holds there
abbrev pub words_say : SequenceRate → Counted → LineEnd → List (List ℕ) → Result Said LineCode
words_say rate counting end [] = Ok Skipped
words_say rate counting end (first ∷ words) =
    if is_note first then Ok Skipped
    else if bytes_eq first (codes "FCM:") then (counting_of rate words >>= set_counting end)
    else (event_line counting end first (first ∷ words) >>= (λ line. Ok (Tells line)))

abbrev pub line_says : SequenceRate → Counted → ListLine → Result Said LineCode
line_says rate counting line = words_say rate counting line.end (words_of line.text)
