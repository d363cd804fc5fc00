use Rattle.std.proofs.Common.{sym, ◌∙◌}
use Rattle.composables.proofs.Frames.{frames_in-sum}
use Rattle.composables.proofs.Joining.{length-cells_of}
use Rattle.composables.proofs.tracks.Track.length.Goals as goal

pub returns-clause-value : goal.returns-clause-value
returns-clause-value c =
    let xs = c.self.inside.items in
    rw (← c.self.view_is) (c.total.ensures.value ∙ (frames_in-sum xs ∙ sym (length-cells_of xs)))
