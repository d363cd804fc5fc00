-- Files over memory as the code keeps them, and files of the system as they are read.
use Rattle.std.specs.Prelude.{ℕ, ◌<◌, List, Option, length}
use Rattle.std.specs.Io.KnownBytes.{Consumes}
use Rattle.std.specs.String.{string_bytes}
use Rattle.room_files.specs.declared.memory_files.NamedFile.{NamedFile}

abbrev pub named : NamedFile → List ℕ × List ℕ
named f = (string_bytes f.name, f.bytes.items)

-- a reader gave more bytes than that
abbrev pub HasMore : Option (List ℕ) → Option (List ℕ) → ℕ → Type 0
HasMore before after limit = (bytes : List ℕ) × Consumes before after bytes × (limit < length bytes)
