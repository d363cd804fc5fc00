use Rattle.std.proofs.Common.{◌≡◌, ◌+◌, ◌-◌, length, vec_len}
use Rattle.room_disks.specs.Crashes.{Told}
use Rattle.journal_file.specs.Stages.{HasRead}
use Rattle.journal_file.proofs.opening.whole_file.Given as goal

abbrev pub invariant-loop-piece : goal.invariant-loop-piece
invariant-loop-piece g l = record {
  room : length l.piece ≡ 16384;
  so_far : Told (HasRead l.bytes.items) (g.D.Disk.course l.fn.disk) (g.D.Disk.course l.disk);
  quiet : g.D.Disk.faults l.disk ≡ g.D.Disk.faults l.fn.disk;
}

abbrev pub decreases-loop-piece : goal.decreases-loop-piece
decreases-loop-piece g l = 134217728 + 1 - vec_len l.bytes
