-- The grammar of what a JSON text is made of (RFC 8259): which bytes are blanks, which spell a text, and which a number.
use Rattle.std.specs.Prelude.{◌≡◌, ◌≢◌, ℕ, ◌+◌, ◌-◌, ◌*◌, ◌^◌, ◌<◌, ◌≤◌, ◌⊎◌, ℤ, Bool, true, false, List, [], ◌∷◌, ◌++◌, length, Some}
use Rattle.std.specs.List.{AllByRecursion, flat_map}
use Rattle.std.specs.Char.{IsScalar, encode_utf8}
use Rattle.ratio_time.specs.Numerals.{with_sign, HasLeastPlaces}
use Rattle.json_tokens.specs.Tables.{hex_value, short_escape}
use Rattle.json_tokens.specs.Decimal.{Digits, number_of, number_from, raised, lowered}

-- ---- blanks

abbrev pub IsBlank : ℕ → Type 0
IsBlank b = (b ≡ 32) ⊎ ((b ≡ 9) ⊎ ((b ≡ 10) ⊎ (b ≡ 13)))

abbrev pub AreBlanks : List ℕ → Type 0
AreBlanks = AllByRecursion IsBlank

-- ---- texts

-- four hexadecimal digits
pub record IsUnit (digits : List ℕ) (unit : ℕ) : Type 0 where
  pub first : ℕ
  pub second : ℕ
  pub third : ℕ
  pub fourth : ℕ
  pub a : ℕ
  pub b : ℕ
  pub c : ℕ
  pub d : ℕ
  pub digits_are : digits ≡ a ∷ b ∷ c ∷ d ∷ []
  pub a_is : hex_value a ≡ Some first
  pub b_is : hex_value b ≡ Some second
  pub c_is : hex_value c ≡ Some third
  pub d_is : hex_value d ≡ Some fourth
  pub unit_is : unit ≡ first * 0x1000 + second * 0x100 + third * 0x10 + fourth

-- a character as it is, in UTF-8: no control character, no quote and no backslash
pub record IsRaw (spelling : List ℕ) (c : ℕ) : Type 0 where
  pub scalar : IsScalar c
  pub no_control : 32 ≤ c
  pub no_quote : c ≢ 34
  pub no_backslash : c ≢ 92
  pub spelling_is : spelling ≡ encode_utf8 c

pub record IsShort (spelling : List ℕ) (c : ℕ) : Type 0 where
  pub letter : ℕ
  pub stands_for : short_escape letter ≡ Some c
  pub spelling_is : spelling ≡ 92 ∷ letter ∷ []

-- by its code, which is no half of a pair
pub record IsCode (spelling : List ℕ) (c : ℕ) : Type 0 where
  pub digits : List ℕ
  pub code : IsUnit digits c
  pub no_half : (c < 0xd800) ⊎ (0xe000 ≤ c)
  pub spelling_is : spelling ≡ 92 ∷ 117 ∷ digits

-- by the two halves of a pair
pub record IsPair (spelling : List ℕ) (c : ℕ) : Type 0 where
  pub high : ℕ
  pub low : ℕ
  pub high_digits : List ℕ
  pub low_digits : List ℕ
  pub high_code : IsUnit high_digits high
  pub low_code : IsUnit low_digits low
  pub is_high : (0xd800 ≤ high) × (high < 0xdc00)
  pub is_low : (0xdc00 ≤ low) × (low < 0xe000)
  pub spelling_is : spelling ≡ 92 ∷ 117 ∷ high_digits ++ 92 ∷ 117 ∷ low_digits
  pub character : c ≡ 0x10000 + (high - 0xd800) * 0x400 + (low - 0xdc00)

-- the spellings of a character
abbrev pub IsCharacter : List ℕ × ℕ → Type 0
IsCharacter x = IsRaw x.0 x.1 ⊎ (IsShort x.0 x.1 ⊎ (IsCode x.0 x.1 ⊎ IsPair x.0 x.1))

-- characters, each spelled in one of its ways
pub record IsText (body text : List ℕ) : Type 0 where
  pub characters : List (List ℕ × ℕ)
  pub each : AllByRecursion IsCharacter characters
  pub body_is : body ≡ flat_map (λ x. x.0) characters
  pub text_is : text ≡ flat_map (λ x. encode_utf8 x.1) characters

pub record IsQuoted (bytes text : List ℕ) : Type 0 where
  pub body : List ℕ
  pub spelled : IsText body text
  pub bytes_are : bytes ≡ 34 ∷ (body ++ 34 ∷ [])

-- ---- numbers

abbrev pub IsDigit : ℕ → Type 0
IsDigit b = (48 ≤ b) × (b ≤ 57)

abbrev pub SomeDigits : List ℕ → Type 0
SomeDigits ds = (0 < length ds) × AllByRecursion IsDigit ds

abbrev pub IsMinus : List ℕ → Bool → Type 0
IsMinus sign negative = ((sign ≡ []) × (negative ≡ false)) ⊎ ((sign ≡ 45 ∷ []) × (negative ≡ true))

-- a zero alone, or digits that begin with another
abbrev pub IsWhole : List ℕ → Type 0
IsWhole [] = ⊥
IsWhole (d ∷ ds) = ((d ≡ 48) × (ds ≡ [])) ⊎ ((49 ≤ d) × (d ≤ 57) × AllByRecursion IsDigit ds)

abbrev pub IsFraction : List ℕ → List ℕ → Type 0
IsFraction part digits = ((part ≡ []) × (digits ≡ [])) ⊎ ((part ≡ 46 ∷ digits) × SomeDigits digits)

abbrev pub IsSign : List ℕ → Bool → Type 0
IsSign sign lowers = ((sign ≡ 43 ∷ []) × (lowers ≡ false)) ⊎ IsMinus sign lowers

abbrev pub IsPower : List ℕ → Bool → List ℕ → Type 0
IsPower part lowers digits = (mark : ℕ) × (sign : List ℕ) × ((mark ≡ 101) ⊎ (mark ≡ 69)) × IsSign sign lowers × SomeDigits digits × (part ≡ mark ∷ (sign ++ digits))

abbrev pub IsExponent : List ℕ → Bool → List ℕ → Type 0
IsExponent part lowers digits = ((part ≡ []) × (lowers ≡ false) × (digits ≡ [])) ⊎ IsPower part lowers digits

pub record IsNumber (bytes : List ℕ) (d : Digits) : Type 0 where
  pub sign : List ℕ
  pub fraction_part : List ℕ
  pub exponent_part : List ℕ
  pub minus : IsMinus sign d.negative
  pub whole : IsWhole d.whole
  pub fraction : IsFraction fraction_part d.fraction
  pub exponent : IsExponent exponent_part d.lowers d.exponent
  pub bytes_are : bytes ≡ sign ++ (d.whole ++ (fraction_part ++ exponent_part))

-- The number is m/10^p, by cross-multiplied whole numbers, with the least places, and it is kept.
pub record IsKept (d : Digits) (m : ℤ) (p : ℕ) : Type 0 where
  pub size : ℕ
  pub signed : m ≡ with_sign d.negative size
  pub same : number_from (number_of d.whole) d.fraction * 10 ^ (raised d + p) ≡ size * 10 ^ (length d.fraction + lowered d)
  pub small : size < 10 ^ 18
  pub few : p ≤ 18
  pub least : HasLeastPlaces m p
