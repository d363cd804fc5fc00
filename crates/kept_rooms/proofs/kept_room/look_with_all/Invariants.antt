use Rattle.std.proofs.Common.{◌≡◌, ◌++◌, ℕ, List, Some, length, slice_get}
use Rattle.std.specs.Vec.Iter.{into_iter_items}
use Rattle.edit_calls.specs.declared.asks.Call.{Call}
use Rattle.take_back.specs.declared.step.Step.{Step}
use Rattle.room_core.specs.declared.entry.Entry.{Entry}
use Rattle.edit_journal.specs.Turns.{Known}
use Rattle.kept_rooms.specs.Making.{HasOwn}
use Rattle.kept_rooms.specs.Rooms.{EachKnowsOwn}
use Rattle.kept_rooms.proofs.kept_room.look_with_all.Given as goal

abbrev pub invariant-loop-pass : goal.invariant-loop-pass
invariant-loop-pass g l = record {
  so_far : l.yielded ++ into_iter_items l.pass-iterator ≡ l.fn.held.items;
  count : length l.passes.items ≡ length l.yielded;
  knows : (entries : List (Entry (Step Call))) → length entries ≡ l.count
      → ((s : ℕ) (p : Known g.row.O.Denot g.row.O-Part.Denot (Step Call)) → slice_get l.fn.held.items s ≡ Some p → HasOwn entries s p)
      → EachKnowsOwn (g.O.PartObject.meaning l.room.object) l.room.parts entries l.passes.items;
}
