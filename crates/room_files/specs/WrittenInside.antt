-- What was written, as the code keeps it: all names in a row, all bytes in a row, and how long each is.
use Rattle.std.specs.Prelude.{◌≡◌, ◌≤◌, ◌<◌, ◌+◌, ℕ, List, [], ◌∷◌, length, take, drop, vec_len, vec_capacity}
use Rattle.room_files.specs.declared.written.Written.{Written}
use Rattle.room_files.specs.declared.written.Lengths.{Lengths}

abbrev pub cut : List ℕ → List ℕ → List Lengths → List (List ℕ × List ℕ)
cut names bytes [] = []
cut names bytes (l ∷ ls) = (take l.name names, take l.bytes bytes) ∷ cut (drop l.name names) (drop l.bytes bytes) ls

abbrev pub names_length : List Lengths → ℕ
names_length [] = 0
names_length (l ∷ ls) = l.name + names_length ls

abbrev pub bytes_length : List Lengths → ℕ
bytes_length [] = 0
bytes_length (l ∷ ls) = l.bytes + bytes_length ls

abbrev pub files_of : Written → List (List ℕ × List ℕ)
files_of w = cut w.names.items w.bytes.items w.lengths.items

-- the lengths are those of all that was written, which fits, and there is memory for all that fits
pub record IsKept (room : ℕ) (w : Written) : Type 0 where
  pub names : names_length w.lengths.items ≡ vec_len w.names
  pub bytes : bytes_length w.lengths.items ≡ vec_len w.bytes
  pub few : vec_len w.lengths ≤ 64
  pub short : vec_len w.names ≤ 4096
  pub within : vec_len w.bytes ≤ room
  pub lengths_room : 64 ≤ vec_capacity w.lengths
  pub names_room : 4096 ≤ vec_capacity w.names
  pub bytes_room : room ≤ vec_capacity w.bytes

-- there is room for a write more, of a name and bytes of these lengths
pub record HasRoom (room : ℕ) (w : Written) (name bytes : List ℕ) : Type 0 where
  pub few : vec_len w.lengths < 64
  pub short : vec_len w.names + length name ≤ 4096
  pub within : vec_len w.bytes + length bytes ≤ room
