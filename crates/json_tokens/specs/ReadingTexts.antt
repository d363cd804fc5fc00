-- Reading the characters of a text.
use Rattle.std.specs.Prelude.{ℕ, zero, suc, ◌+◌, ◌-◌, ◌*◌, List, [], ◌∷◌, ◌++◌, Option, Some, None, Result, Ok, Err, nat_lt, nat_le, ◌==◌, ◌||◌, if◌then◌else◌}
use Rattle.std.specs.Char.{encode_utf8}
use Rattle.json_tokens.specs.declared.fault.JsonFault.{JsonFault}
use Rattle.json_tokens.specs.declared.fault.JsonFault.TheVariants.{Syntax, NotUtf8}
use Rattle.json_tokens.specs.declared.characters.Lead.{Lead}
use Rattle.json_tokens.specs.declared.characters.Lead.TheVariants.{Two, Three, Four}
use Rattle.json_tokens.specs.Tables.{hex_value, short_escape}
use Rattle.json_tokens.specs.Reading.{◌>>=◌, Read, byte_at}

-- what the first byte of a raw character of two bytes or more says of the others
abbrev pub lead : ℕ → Option Lead
lead b = if nat_lt b 0xc2 then None
    else (if nat_lt b 0xe0 then Some Two
    else (if b == 0xe0 then Some (Three 0xa0 0xbf)
    else (if b == 0xed then Some (Three 0x80 0x9f)
    else (if nat_lt b 0xf0 then Some (Three 0x80 0xbf)
    else (if b == 0xf0 then Some (Four 0x90 0xbf)
    else (if nat_lt b 0xf4 then Some (Four 0x80 0xbf)
    else (if b == 0xf4 then Some (Four 0x80 0x8f)
    else None)))))))

-- the next byte of the raw character that begins at start
abbrev pub continuation_at : ℕ → ℕ → ℕ → ℕ → List ℕ → Read ℕ
continuation_at start low high at [] = Err (Syntax at)
continuation_at start low high at (b ∷ bs) = if nat_lt b low || nat_lt high b then Err (NotUtf8 start) else Ok (b, at + 1, bs)

unfoldable pub two_at : ℕ → ℕ → ℕ → List ℕ → Read ℕ
two_at start first at bytes = do
  second ← continuation_at start 0x80 0xbf at bytes
  Ok ((first - 0xc0) * 0x40 + (second.0 - 0x80), second.1, second.2)

unfoldable pub three_at : ℕ → ℕ → ℕ → ℕ → ℕ → List ℕ → Read ℕ
three_at start first low high at bytes = do
  second ← continuation_at start low high at bytes
  third ← continuation_at start 0x80 0xbf second.1 second.2
  Ok ((first - 0xe0) * 0x1000 + (second.0 - 0x80) * 0x40 + (third.0 - 0x80), third.1, third.2)

unfoldable pub four_at : ℕ → ℕ → ℕ → ℕ → ℕ → List ℕ → Read ℕ
four_at start first low high at bytes = do
  second ← continuation_at start low high at bytes
  third ← continuation_at start 0x80 0xbf second.1 second.2
  fourth ← continuation_at start 0x80 0xbf third.1 third.2
  Ok ((first - 0xf0) * 0x40000 + (second.0 - 0x80) * 0x1000 + (third.0 - 0x80) * 0x40 + (fourth.0 - 0x80), fourth.1, fourth.2)

abbrev pub with_lead : Option Lead → ℕ → ℕ → ℕ → List ℕ → Read ℕ
with_lead None start first at bytes = Err (NotUtf8 start)
with_lead (Some Two) start first at bytes = two_at start first at bytes
with_lead (Some (Three low high)) start first at bytes = three_at start first low high at bytes
with_lead (Some (Four low high)) start first at bytes = four_at start first low high at bytes

unfoldable pub sequence_at : ℕ → ℕ → ℕ → List ℕ → Read ℕ
sequence_at start first at bytes = with_lead (lead first) start first at bytes

abbrev pub digit_or : JsonFault → Option ℕ → ℕ → List ℕ → Read ℕ
digit_or fault None at bytes = Err fault
digit_or fault (Some value) at bytes = Ok (value, at, bytes)

abbrev pub hex_at : ℕ → List ℕ → Read ℕ
hex_at at [] = Err (Syntax at)
hex_at at (b ∷ bs) = digit_or (Syntax at) (hex_value b) (at + 1) bs

unfoldable pub unit_at : ℕ → List ℕ → Read ℕ
unit_at at bytes = do
  first ← hex_at at bytes
  second ← hex_at first.1 first.2
  third ← hex_at second.1 second.2
  fourth ← hex_at third.1 third.2
  Ok (first.0 * 0x1000 + second.0 * 0x100 + third.0 * 0x10 + fourth.0, fourth.1, fourth.2)

-- a byte and a digit of the second half of a pair whose first half is escaped at start
abbrev pub half_byte_at : ℕ → ℕ → ℕ → List ℕ → Result (ℕ × List ℕ) JsonFault
half_byte_at start wanted at [] = Err (Syntax at)
half_byte_at start wanted at (b ∷ bs) = if b == wanted then Ok (at + 1, bs) else Err (Syntax start)

abbrev pub half_digit_at : ℕ → ℕ → List ℕ → Read ℕ
half_digit_at start at [] = Err (Syntax at)
half_digit_at start at (b ∷ bs) = digit_or (Syntax start) (hex_value b) (at + 1) bs

-- the last two digits
unfoldable pub half_end_at : ℕ → ℕ → ℕ → List ℕ → Read ℕ
half_end_at start second at bytes = do
  third ← half_digit_at start at bytes
  fourth ← half_digit_at start third.1 third.2
  Ok (0xd000 + second * 0x100 + third.0 * 0x10 + fourth.0, fourth.1, fourth.2)

-- the first two digits: the second half lies between 0xdc00 and 0xdfff
unfoldable pub half_digits_at : ℕ → ℕ → List ℕ → Read ℕ
half_digits_at start at bytes = do
  first ← half_digit_at start at bytes
  second ← (if first.0 == 0xd then half_digit_at start first.1 first.2 else Err (Syntax start))
  if nat_lt second.0 0xc then Err (Syntax start) else half_end_at start second.0 second.1 second.2

unfoldable pub second_half_at : ℕ → ℕ → List ℕ → Read ℕ
second_half_at start at bytes = do
  backslash ← half_byte_at start 92 at bytes
  u ← half_byte_at start 117 backslash.0 backslash.1
  half_digits_at start u.0 u.1

-- the escape of four digits whose backslash stands at start, or the pair of them
unfoldable pub pair_at : ℕ → ℕ → ℕ → List ℕ → Read ℕ
pair_at start first at bytes = do
  second ← second_half_at start at bytes
  Ok (0x10000 + (first - 0xd800) * 0x400 + (second.0 - 0xdc00), second.1, second.2)

unfoldable pub unicode_at : ℕ → ℕ → List ℕ → Read ℕ
unicode_at start at bytes = do
  unit ← unit_at at bytes
  if nat_lt unit.0 0xd800 || nat_le 0xe000 unit.0 then Ok (unit.0, unit.1, unit.2) else (if nat_le 0xdc00 unit.0 then Err (Syntax start) else pair_at start unit.0 unit.1 unit.2)

-- the escape whose backslash stands at start
unfoldable pub escape_at : ℕ → ℕ → List ℕ → Read ℕ
escape_at start at [] = Err (Syntax at)
escape_at start at (b ∷ bs) = if b == 117 then unicode_at start (at + 1) bs else digit_or (Syntax at) (short_escape b) (at + 1) bs

-- a character, by its code
unfoldable pub character_at : ℕ → List ℕ → Read ℕ
character_at at [] = Err (Syntax at)
character_at at (b ∷ bs) = if nat_lt b 32 then Err (Syntax at)
    else (if b == 92 then escape_at at (at + 1) bs
    else (if nat_lt b 128 then Ok (b, at + 1, bs)
    else sequence_at at b (at + 1) bs))

-- nothing more behind the quote, if one stands here
abbrev pub unless_closed : Option (ℕ × List ℕ) → Read (List ℕ) → Read (List ℕ)
unless_closed (Some after) more = Ok ([], after.0, after.1)
unless_closed None more = more

abbrev pub with_character : ℕ → Read (List ℕ) → Read (List ℕ)
with_character c others = others >>= λ x. Ok (encode_utf8 c ++ x.0, x.1, x.2)

-- the characters up to the closing quote, in UTF-8; most is as many as there can be
unfoldable pub text_at : ℕ → ℕ → List ℕ → Read (List ℕ)
text_at zero at bytes = Err (Syntax at)
text_at (suc most) at bytes = unless_closed (byte_at 34 at bytes) (character_at at bytes >>= λ c. with_character c.0 (text_at most c.1 c.2))
