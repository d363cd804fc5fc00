-- What a line says to the seat that it comes to.
use Rattle.std.specs.Prelude.{ℕ, List, Result, Ok, Err, take, drop, length, nat_le, bytes_eq, codes, if◌then◌else◌}
use Rattle.line_words.specs.declared.TheConstants.{MAX_LINE}
use Rattle.line_words.specs.declared.numbers.NumberFault.{NumberFault}
use Rattle.line_words.specs.Digits.{number_of}
use Rattle.line_words.specs.Lines.{without_cr}
use Rattle.seat_lines.specs.declared.saying.Saying.{Saying}
use Rattle.seat_lines.specs.declared.saying.Saying.TheVariants.{Leave, Got, Nothing}

abbrev pub got_of : Result ℕ NumberFault → Saying
got_of (Ok number) = Got number
got_of (Err fault) = Nothing

-- `/leave`, or `/got N`; any other line is the room's
abbrev pub short_saying : List ℕ → Saying
short_saying line =
    if bytes_eq line (codes "/leave") then Leave
    else if bytes_eq (take 5 line) (codes "/got ") then got_of (number_of (drop 5 line))
    else Nothing

-- A line that is too long for the room says nothing to the seat either.
abbrev pub saying_of : List ℕ → Saying
saying_of line = if nat_le (length line) MAX_LINE then short_saying (without_cr line) else Nothing
