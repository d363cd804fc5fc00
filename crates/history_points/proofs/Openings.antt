-- An opening is what no entry comes to.
use Rattle.std.proofs.Common.{◌≤◌, ℕ, List, [], refl, arith}
use Rattle.room_core.specs.History.{most_entries}
use Rattle.room_core.specs.Whole.{Meaning}
use Rattle.history_points.specs.Reached.{IsReached}

pub of_opening : {P C D R : Type 0} (m : Meaning P C D R) (opens : List P → Type 0) (more : ℕ) (parts : List P) → opens parts → more ≤ most_entries
    → IsReached m opens more parts
of_opening m opens more parts can few = record { opening = parts; entries = []; opens_so = can; comes = refl; room = omega (arith, few) }
