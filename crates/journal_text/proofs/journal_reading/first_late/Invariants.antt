use Rattle.std.proofs.Common.{◌≡◌, ◌<◌, ℕ, length, get_or, take}
use Rattle.room_core.specs.History.{NumbersRise}
use Rattle.journal_text.proofs.LateEntries.{IsLeast}
use Rattle.journal_text.proofs.journal_reading.first_late.Given as goal

-- the entries so far rise, and what is least for the next
abbrev pub invariant-loop-at : goal.invariant-loop-at
invariant-loop-at l = record {
  stations : length l.least ≡ 16;
  rise : NumbersRise (take l.at l.entries);
  least : (s : ℕ) → s < 16 → IsLeast (take l.at l.entries) s (get_or l.least s 0);
}
