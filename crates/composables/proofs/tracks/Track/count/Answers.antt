use Rattle.std.proofs.Common.{ap, sym, length, ◌∙◌}
use Rattle.composables.proofs.Joining.{items_of-tight}
use Rattle.composables.proofs.tracks.Track.count.Goals as goal

pub returns : goal.returns
returns c =
    let v = c.self.invariant in
    rw (← c.self.view_is) (c.count.ensures ∙ ap length (sym (items_of-tight c.self.inside.items v.filled v.tight)))
