-- The times of a line.
use Rattle.std.specs.Prelude.{ℕ, ◌+◌, ◌<◌, ◌^◌, List, [], ◌∷◌, IfSome}
use Rattle.edl_write.specs.declared.lines.EventText.{EventText}

-- source in, source out, record in, record out
abbrev pub line_times : ℕ → ℕ → ℕ → List ℕ
line_times source place len = source ∷ (source + len) ∷ place ∷ (place + len) ∷ []

-- a line whose numbers can be written
pub record IsWritable (l : EventText) : Type 0 where
  pub number : l.number < 1000
  pub dissolve : IfSome l.dissolve (λ frames. frames < 1000)
  pub source : l.source + l.len < 2 ^ 32
  pub place : l.place + l.len < 2 ^ 32
