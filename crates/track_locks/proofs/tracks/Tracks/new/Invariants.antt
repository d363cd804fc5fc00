use Rattle.std.proofs.Common.{◌≡◌, ◌++◌, drop, length, vec_len}
use Rattle.room_core.specs.Parts.{numbers}
use Rattle.std.specs.Vec.Iter.{into_iter_items}
use Rattle.track_locks.proofs.tracks.Tracks.new.Given as goal

abbrev pub invariant-loop-seat : goal.invariant-loop-seat
invariant-loop-seat g l = record {
  left : into_iter_items l.left ≡ drop (vec_len l.places) l.fn.parts.items;
  numbered : l.places.items ≡ numbers 0 (vec_len l.places);
  given : length l.yielded ≡ vec_len l.places;
  so_far : l.yielded ++ into_iter_items l.seat-iterator ≡ l.fn.seats.items;
}
