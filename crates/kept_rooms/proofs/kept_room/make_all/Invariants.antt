use Rattle.std.proofs.Common.{◌≡◌, [], length, take}
use Rattle.kept_rooms.specs.Kept.{AreTaken}
use Rattle.kept_rooms.specs.Making.{IsMade}
use Rattle.kept_rooms.proofs.kept_room.make_all.Given as goal

abbrev pub invariant-loop-record : goal.invariant-loop-record
invariant-loop-record g l = record {
  made : IsMade l.remaking.entries.items l.remaking.lasts l.remaking.passes.items;
  count : length l.remaking.passes.items ≡ length l.fn.remaking.passes.items;
  taken : AreTaken (length l.fn.remaking.passes.items) [] (take l.record-index l.records) l.remaking.entries.items;
}
