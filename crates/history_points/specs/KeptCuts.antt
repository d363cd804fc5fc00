-- Cuts that are kept of a history. A point counts entries, and the cut at a point is what the entries before it come to.
use Rattle.std.specs.Prelude.{◌≡◌, ℕ, ◌≤◌, List, [], Vec, Option, Some, IsSome, length, take}
use Rattle.std.specs.BTreeMap.{is_at}
use Rattle.std.specs.Global.{Global}
use Rattle.std.specs.Map.{lookup}
use Rattle.std.specs.Ordering.{nat_cmp}
use Rattle.room_core.specs.declared.entry.Entry.{Entry}
use Rattle.room_core.specs.History.{replay}
use Rattle.room_core.specs.Parts.{AreGood, numbers}
use Rattle.room_core.specs.Projection.{of_station}
use Rattle.room_core.specs.Whole.{Meaning, whole}
use Rattle.edit_journal.specs.Seats.{Opening}
use Rattle.edit_journal.specs.Turns.{Known}

-- what is kept: what a pass knows of the journal, and the cuts, each with its point, in ascending order
pub record KeptCuts (O P C : Type 0) : Type 0 where
  pub pass : Known O P C
  pub cuts : List (ℕ × Vec P Global)

-- the cut that is kept at a point
abbrev pub kept_at : {P : Type 0} → List (ℕ × Vec P Global) → ℕ → Option (Vec P Global)
kept_at cuts point = lookup (is_at (nat_cmp point)) cuts

-- the most cuts that are kept
abbrev pub most_kept : ℕ
most_kept = 20

-- the first so many entries come to these parts, on the opening that a journal has, and each is good at its number
abbrev pub IsCutOf : {O P C D R : Type 0} → (O → Meaning P C D R) → (O → ℕ → P → Type 0) → (O → ℕ) → Option (Opening O P) → List (Entry C) → ℕ → List P → Type 0
IsCutOf {O} {P} meaning good count opening entries point parts = (o : Opening O P) → opening ≡ Some o
    → (replay (whole (meaning o.0)) o.1 (take point entries) ≡ Some parts)
    × AreGood (good o.0) (numbers 0 (count o.0)) parts

-- The pass has no entry of its own. Each cut is kept at a point of the history that the pass knows, and is what that
-- history comes to there; and there are no more than may be.
pub record AreKept {O P C D R : Type 0} (meaning : O → Meaning P C D R) (good : O → ℕ → P → Type 0) (count : O → ℕ) (opening : Option (Opening O P)) (kept : KeptCuts O P C) : Type 0 where
  pub own : of_station kept.pass.number kept.pass.entries ≡ []
  pub points : (k : ℕ) → IsSome (kept_at kept.cuts k) → k ≤ length kept.pass.entries
  pub cuts : (k : ℕ) (parts : Vec P Global) → kept_at kept.cuts k ≡ Some parts → IsCutOf meaning good count opening kept.pass.entries k parts.items
  pub few : length kept.cuts ≤ most_kept
