-- Names of reels in edit decision lists, after CMX 3600.
use Rattle.std.specs.Prelude.{◌≡◌, ℕ, ◌-◌, Bool, ◌||◌, ◌&&◌, not, ◌==◌, List, [], ◌∷◌, ◌++◌, IsTrue, length, take, replicate, nat_le, bytes_eq}
use Rattle.std.specs.List.{list_all}

-- a printable character of ASCII that is no blank
abbrev pub is_printable : ℕ → Bool
is_printable byte = nat_le 33 byte && nat_le byte 126

-- whether these bytes are the name of a reel in a list that is read: 1 to 32 printable characters
abbrev pub is_reel_name : List ℕ → Bool
is_reel_name name = (nat_le 1 (length name) && nat_le (length name) 32) && list_all is_printable name

-- black has the reel BL
abbrev pub black : List ℕ
black = 66 ∷ 76 ∷ []

abbrev pub is_black : List ℕ → Bool
is_black name = bytes_eq name black

-- a capital letter, a digit or an underscore
abbrev pub is_reel_character : ℕ → Bool
is_reel_character byte = (nat_le 65 byte && nat_le byte 90) || ((nat_le 48 byte && nat_le byte 57) || byte == 95)

-- whether a list that is written can have this name: 1 to 8 such characters, and not black's
abbrev pub fits : List ℕ → Bool
fits name = (nat_le 1 (length name) && nat_le (length name) 8) && (list_all is_reel_character name && not (is_black name))

-- the name as 32 bytes: the others are 0
abbrev pub filled : List ℕ → List ℕ
filled name = name ++ replicate (32 - length name) 0

-- that many of these bytes are a name, and the others are 0
pub record IsHeld (len : ℕ) (bytes : List ℕ) : Type 0 where
  pub name : IsTrue (is_reel_name (take len bytes))
  pub count : length (take len bytes) ≡ len
  pub rest : filled (take len bytes) ≡ bytes
