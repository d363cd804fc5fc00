-- The words of a line, between spaces and tabs.
use Rattle.std.specs.Prelude.{◌≡◌, ◌<◌, ◌≤◌, ◌-◌, [], ◌∷◌, ℕ, zero, suc, List, Bool, true, false, ◌||◌, length, drop, slice_index, ◌==◌, filter, if◌then◌else◌}
use Rattle.std.specs.List.{slice_split, All, AllWithin}

-- a space or a tab
abbrev pub is_blank : ℕ → Bool
is_blank byte = byte == 32 || byte == 9

abbrev pub is_filled : List ℕ → Bool
is_filled [] = false
is_filled (byte ∷ bytes) = true

-- what stands between blanks, where it has a byte
abbrev pub words_of : List ℕ → List (List ℕ)
words_of line = filter is_filled (slice_split is_blank line)

-- some bytes, and no blank among them
pub record IsWord (bytes : List ℕ) : Type 0 where
  pub filled : 0 < length bytes
  pub no_blank : All (λ byte. is_blank byte ≡ false) bytes

-- a word of a line begins here: with a byte that is no blank, and behind a blank where it is not the line's first byte
pub record Begins (line : List ℕ) (at : ℕ) : Type 0 where
  pub within : at < length line
  pub filled : is_blank (slice_index line at) ≡ false
  pub parted : 0 < at → is_blank (slice_index line (at - 1)) ≡ true

-- no word begins at any of the places [from, to)
abbrev pub NoneBegins : List ℕ → ℕ → ℕ → Type 0
NoneBegins line from to = (at : ℕ) → from ≤ at → at < to → Begins line at → ⊥

-- the first word that begins at a place of a line or later: it ends before a blank, or with the line
pub record IsNextWord (line : List ℕ) (from start end : ℕ) : Type 0 where
  pub begins : from ≤ start
  pub first : NoneBegins line from start
  pub word : Begins line start
  pub filled : start < end
  pub within : end ≤ length line
  pub no_blank : AllWithin (λ byte. is_blank byte ≡ false) line start end
  pub ends : end < length line → is_blank (slice_index line end) ≡ true

-- without what is left of a word at the front
abbrev pub past_word : List ℕ → List ℕ
past_word [] = []
past_word (byte ∷ bytes) = if is_blank byte then byte ∷ bytes else past_word bytes

-- the words that begin at a place of a line or later
abbrev pub words_from : List ℕ → ℕ → List (List ℕ)
words_from line zero = words_of line
words_from line (suc before) = words_of (past_word (drop before line))
