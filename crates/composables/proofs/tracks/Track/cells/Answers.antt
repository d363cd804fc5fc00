use Rattle.composables.proofs.Joining.{items_of-tight}
use Rattle.composables.proofs.tracks.Track.cells.Goals as goal

pub cells_in-requires : goal.cells_in-requires
cells_in-requires c =
    let v = c.self.invariant in
    rw (c.deref.ensures.value, c.in_ok-all.ensures) (rw (items_of-tight c.self.inside.items v.filled v.tight) at v.kept.each)
