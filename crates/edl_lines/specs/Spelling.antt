-- How the parts of a line of an edit decision list are spelled, after CMX 3600, each as what its word says, or as the
-- code of what is wrong with it.
use Rattle.std.specs.Prelude.{ℕ, ◌+◌, ◌-◌, Bool, true, false, ◌||◌, ◌&&◌, ◌==◌, List, [], ◌∷◌, Option, Some, None, Result, Ok, Err, length, nat_le, bytes_eq, codes, if◌then◌else◌}
use Rattle.line_words.specs.Digits.{number_of}
use Rattle.line_words.specs.declared.numbers.NumberFault.{NumberFault}
use Rattle.line_words.specs.declared.line.LineEnd.{LineEnd}
use Rattle.line_words.specs.declared.line.LineEnd.TheVariants.{Whole, TooLong}
use Rattle.timecode12.specs.Numbers.{Counted}
use Rattle.timecode12.specs.declared.rate.SequenceRate.{SequenceRate}
use Rattle.timecode12.specs.declared.rate.SequenceRate.TheVariants.{F23976, F24, F25, F2997, F30}
use Rattle.reel_names.specs.Names.{is_reel_name}
use Rattle.edl_events.specs.declared.channel.Channel.TheVariants.{V, A, A2}
use Rattle.edl_events.specs.Channels.{set_of}
use Rattle.edl_lines.specs.declared.code.LineCode.{LineCode}
use Rattle.edl_lines.specs.declared.code.LineCode.TheVariants.{P1, P2, P3, P4, P5, P6, P8, P11, P12}
use Rattle.edl_lines.specs.declared.parts.Span.{Span}
use Rattle.edl_lines.specs.Labels.{frame_named}

-- go on with what was read, or end at the first fault
infixl 10 ◌>>=◌
abbrev pub ◌>>=◌ : {A B E : Type 0} → Result A E → (A → Result B E) → Result B E
(Ok x) >>= f = f x
(Err e) >>= f = Err e

-- a word that begins with this byte
abbrev pub begins_with : ℕ → List ℕ → Bool
begins_with byte [] = false
begins_with byte (first ∷ rest) = first == byte

-- a note (42 is `*`), or a title
abbrev pub is_note : List ℕ → Bool
is_note word = begins_with 42 word || bytes_eq word (codes "TITLE:")

abbrev pub value_if_any : Result ℕ NumberFault → Option ℕ
value_if_any (Ok n) = Some n
value_if_any (Err fault) = None

-- a number of at most so many digits
abbrev pub short_number : ℕ → List ℕ → Option ℕ
short_number most word = if nat_le (length word) most then value_if_any (number_of word) else None

-- the number of an event: one to six digits, and not over 999
abbrev pub within_999 : Option ℕ → Result ℕ LineCode
within_999 None = Err P2
within_999 (Some n) = if nat_le n 999 then Ok n else Err P11

abbrev pub number_of_event : List ℕ → Result ℕ LineCode
number_of_event word = within_999 (short_number 6 word)

-- no wipe (87 is `W`) and no key (75 is `K`)
abbrev pub plain_transition : List ℕ → Result (Unit {0}) LineCode
plain_transition word = if begins_with 87 word then Err P5 else if begins_with 75 word then Err P6 else Ok tt

-- a line that is not too long, whose transition is this one, with the name of a reel
abbrev pub reel_of : List ℕ → Result (List ℕ) LineCode
reel_of word = if is_reel_name word then Ok word else Err P1

abbrev pub laid_out : LineEnd → List ℕ → List ℕ → List ℕ → Result (List ℕ) LineCode
laid_out TooLong given transition reel = Err P1
laid_out Whole given transition reel = if bytes_eq transition given then reel_of reel else Err P1

-- the length of a dissolve: one to three digits
abbrev pub or_layout : Option ℕ → Result ℕ LineCode
or_layout None = Err P1
or_layout (Some n) = Ok n

abbrev pub dissolve_length : List ℕ → Result ℕ LineCode
dissolve_length word = or_layout (short_number 3 word)

-- the channels of an event, as a set
abbrev pub channels_of : List ℕ → Result ℕ LineCode
channels_of word =
    if bytes_eq word (codes "V") then Ok (set_of V)
    else if bytes_eq word (codes "A") then Ok (set_of A)
    else if bytes_eq word (codes "A2") then Ok (set_of A2)
    else if bytes_eq word (codes "B") then Ok (set_of A + set_of V)
    else if bytes_eq word (codes "AA") then Ok (set_of A + set_of A2)
    else if bytes_eq word (codes "A2/V") then Ok (set_of A2 + set_of V)
    else if bytes_eq word (codes "AA/V") then Ok (set_of A + set_of A2 + set_of V)
    else Err P8

-- a timecode: a label of the counting
abbrev pub or_no_label : Option ℕ → Result ℕ LineCode
or_no_label None = Err P3
or_no_label (Some frame) = Ok frame

abbrev pub time_of : Counted → List ℕ → Result ℕ LineCode
time_of counting word = or_no_label (frame_named counting word)

-- source in, source out, record in, record out: no out is before its in, and both lengths are one
abbrev pub span_between : ℕ → ℕ → ℕ → ℕ → Result Span LineCode
span_between source source_out place place_out =
    if (nat_le source source_out && nat_le place place_out) && source_out - source == place_out - place
    then Ok (record { source = source; place = place; len = place_out - place })
    else Err P4

abbrev pub span_of : Counted → List ℕ → List ℕ → List ℕ → List ℕ → Result Span LineCode
span_of counting source_in source_out record_in record_out = do
  source ← time_of counting source_in
  source_end ← time_of counting source_out
  place ← time_of counting record_in
  place_end ← time_of counting record_out
  span_between source source_end place place_end

-- drop-frame counting, where the rate has it
abbrev pub drop_frame_at : SequenceRate → Result Counted LineCode
drop_frame_at F23976 = Err P12
drop_frame_at F24 = Err P12
drop_frame_at F25 = Err P12
drop_frame_at F2997 = Ok (record { rate = F2997; drop_frame = true })
drop_frame_at F30 = Err P12

-- the words behind `FCM:`: `DROP FRAME` or `NON-DROP FRAME`
abbrev pub counting_of : SequenceRate → List (List ℕ) → Result Counted LineCode
counting_of rate (first ∷ second ∷ []) =
    if bytes_eq second (codes "FRAME")
    then (if bytes_eq first (codes "NON-DROP") then Ok (record { rate = rate; drop_frame = false })
    else if bytes_eq first (codes "DROP") then drop_frame_at rate
    else Err P12)
    else Err P12
counting_of rate words = Err P12
