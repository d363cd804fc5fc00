-- The two sides of a line, which is a source and a sink in one, and what each side knows of the other.
use Rattle.std.specs.Prelude.{ℕ, List, Option, None}

-- the two references that a line stands over, by their ghost names; a line that owns what it stands over has none
pub record Lent : Type 0 where
  pub input : ℕ
  pub output : ℕ

abbrev pub owned : Lent
owned = record { input = 0; output = 0 }

-- what is left to read of a line, how often a read of it has failed, and what it stands over
pub record SourceSide : Type 0 where
  pub left : Option (List ℕ)
  pub faults : ℕ
  pub lent : Lent

-- what a line has taken, how often a write to it has failed, and what it stands over
pub record SinkSide : Type 0 where
  pub taken : Option (List ℕ)
  pub faults : ℕ
  pub lent : Lent

-- the side that a sink without a source, or a source without a sink, has not
abbrev pub no_source : SourceSide
no_source = record { left = None; faults = 0; lent = owned }

abbrev pub no_sink : SinkSide
no_sink = record { taken = None; faults = 0; lent = owned }
