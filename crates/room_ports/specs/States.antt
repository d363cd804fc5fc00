-- What contracts see of the objects over memory and of the adapters.
use Rattle.std.specs.Prelude.{◌+◌, ◌++◌, ℕ, List, Option, Some, None, length, nat_le, if◌then◌else◌}
use Rattle.room_ports.specs.Calls.{Calls}

-- a source: what is left of its pieces, and the calls that it has had
pub record SourceState : Type 0 where
  pub pieces : List (List ℕ)
  pub calls : Calls

-- a sink: the bytes that it has taken, or None where it tells nothing any more, and the calls that it has had
pub record SinkState : Type 0 where
  pub bytes : Option (List ℕ)
  pub calls : Calls

-- a sink that keeps at most so many bytes
pub record RoomState : Type 0 where
  pub bytes : Option (List ℕ)
  pub room : ℕ

-- the bytes with a piece more, while they are at most so many; more than that is not told, nor what comes after
abbrev pub kept : ℕ → Option (List ℕ) → List ℕ → Option (List ℕ)
kept room None piece = None
kept room (Some bytes) piece = if nat_le (length bytes + length piece) room then Some (bytes ++ piece) else None

-- an adapter: the reader or the writer, and how often it has failed
pub record AdapterState (R : Type 0) : Type 0 where
  pub inner : R
  pub faults : ℕ
