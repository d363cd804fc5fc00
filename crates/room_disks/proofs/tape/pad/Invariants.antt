use Rattle.std.proofs.Common.{◌≡◌, ◌≤◌, ◌-◌, ◌++◌, length, max, replicate, ℕ}
use Rattle.room_disks.proofs.tape.pad.Given as goal

abbrev pub invariant-loop-count : goal.invariant-loop-count
invariant-loop-count l = record {
  least : length l.fn.bytes.items ≤ l.count;
  most : l.count ≤ max l.len (length l.fn.bytes.items);
  zeros : l.bytes.items ≡ l.fn.bytes.items ++ replicate {A = ℕ} (l.count - length l.fn.bytes.items) 0;
}

abbrev pub decreases-loop-count : goal.decreases-loop-count
decreases-loop-count l = l.len - l.count
