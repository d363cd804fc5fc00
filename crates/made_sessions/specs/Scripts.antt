-- The scripts of a generated session. The script of a station is drawn from a word of 31 bits, which begins at the number
-- of the session and that of the station together. Each of its calls draws three numbers, and puts so many frames of the
-- one reel on the track that has the station's number: the calls at even places overwrite, those at odd places insert.
use Rattle.std.specs.Prelude.{ℕ, zero, suc, ◌+◌, ◌*◌, ◌/◌, ◌%◌, ◌^◌, ◌==◌, Bool, true, false, List, [], ◌∷◌, ◌++◌, codes}
use Rattle.std.specs.List.{flat_map}
use Rattle.frame_meaning.specs.declared.cells.What.TheVariants.{Media}
use Rattle.edit_calls.specs.declared.asks.Call.{Call}
use Rattle.edit_calls.specs.declared.asks.Call.TheVariants.{Overwrite, Insert}
use Rattle.line_table.specs.CallTexts.{call_text_of}

-- how many words there are
abbrev pub words : ℕ
words = 2147483648

-- the word after a draw (the linear congruential generator of ISO C's sample `rand`)
abbrev pub next_word : ℕ → ℕ
next_word word = (word * 1103515245 + 12345) % words

-- the number that a word stands for: its upper bits
abbrev pub drawn : ℕ → ℕ
drawn word = word / 65536

-- the word with which the script of a station begins
abbrev pub first_word : ℕ → ℕ → ℕ
first_word number station = (number + station) % words

-- a call at an even place of a script, and at an odd one
abbrev pub call_with : Bool → ℕ → ℕ → ℕ → ℕ → Call
call_with true track at from len = Overwrite (record { track = track; at = at; what = Media 0; from = from; len = len; keep = false })
call_with false track at from len =
    Insert (record { tracks = 2 ^ track; track = track; at = at; what = Media 0; from = from; len = len; keep = false })

-- the call at a place of a station's script, by the three words drawn
abbrev pub call_drawn : ℕ → ℕ → ℕ → ℕ → ℕ → Call
call_drawn station place first second third = call_with (place % 2 == 0) station (drawn first % 1000) (drawn second) (drawn third % 50 + 1)

-- the call at a place of a station's script, where the word stands so before it
abbrev pub script_call : ℕ → ℕ → ℕ → Call
script_call station place word =
    call_drawn station place (next_word word) (next_word (next_word word)) (next_word (next_word (next_word word)))

-- so many calls of a station's script, from a place and a word on
abbrev pub script_from : ℕ → ℕ → ℕ → ℕ → List Call
script_from station place word zero = []
script_from station place word (suc count) =
    script_call station place word ∷ script_from station (place + 1) (next_word (next_word (next_word word))) count

-- the script of a station
abbrev pub script : ℕ → ℕ → ℕ → List Call
script number count station = script_from station 0 (first_word number station) count

-- the scripts of the first so many stations, one after another
abbrev pub scripts : ℕ → ℕ → ℕ → List Call
scripts number count zero = []
scripts number count (suc station) = scripts number count station ++ script number count station

-- a call as a line that a station sends
abbrev pub sent_line : Call → List ℕ
sent_line call = call_text_of call ++ codes "\n"

abbrev pub sent_lines : List Call → List ℕ
sent_lines calls = flat_map sent_line calls
