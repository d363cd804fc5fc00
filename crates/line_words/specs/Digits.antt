-- Numbers in decimal digits.
use Rattle.std.specs.Prelude.{ℕ, ℤ, pos, neg_ℤ, ◌+◌, ◌-◌, ◌*◌, ◌^◌, [], ◌∷◌, List, Bool, ◌&&◌, Result, Ok, Err, length, nat_lt, nat_le, ◌==◌, if◌then◌else◌}
use Rattle.std.specs.Char.{is_ascii_digit}
use Rattle.std.specs.List.{list_all}
use Rattle.line_words.specs.declared.numbers.NumberFault.{NumberFault}
use Rattle.line_words.specs.declared.numbers.NumberFault.TheVariants.{NotANumber, TooLarge}

-- one digit or more
abbrev pub is_number : List ℕ → Bool
is_number word = nat_lt 0 (length word) && list_all is_ascii_digit word

-- each digit counts as often as ten to the number of the digits after it
abbrev pub value_of : List ℕ → ℕ
value_of [] = 0
value_of (byte ∷ bytes) = (byte - 48) * 10 ^ length bytes + value_of bytes

-- a number of 32 bits
abbrev pub number_of : List ℕ → Result ℕ NumberFault
number_of word = if is_number word then (if nat_lt (value_of word) (2 ^ 32) then Ok (value_of word) else Err TooLarge) else Err NotANumber

abbrev pub negative_of : List ℕ → Result ℤ NumberFault
negative_of word = if is_number word then (if nat_le (value_of word) (2 ^ 31) then Ok (neg_ℤ (pos (value_of word))) else Err TooLarge) else Err NotANumber

abbrev pub positive_of : List ℕ → Result ℤ NumberFault
positive_of word = if is_number word then (if nat_lt (value_of word) (2 ^ 31) then Ok (pos (value_of word)) else Err TooLarge) else Err NotANumber

-- a signed number of 32 bits, with or without one `-` before its digits
abbrev pub signed_of : List ℕ → Result ℤ NumberFault
signed_of [] = Err NotANumber
signed_of (byte ∷ bytes) = if byte == 45 then negative_of bytes else positive_of (byte ∷ bytes)
