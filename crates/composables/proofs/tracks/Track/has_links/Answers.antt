use Rattle.composables.proofs.Joining.{items_of-tight}
use Rattle.composables.proofs.tracks.Track.has_links.Goals as goal

pub returns : goal.returns
returns c =
    let v = c.self.invariant in
    record { none = λ h. rw (← c.self.view_is) (rw (items_of-tight c.self.inside.items v.filled v.tight) (v.links h)) }
